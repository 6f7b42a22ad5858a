-- What feeding the first bytes of a slice does: all of its bytes are what was given and the bytes from `next` on.
use Rattle.std.specs.Prelude.{ℕ, ◌≤◌, ◌<◌, List, ◌++◌, ◌≡◌, drop, length, take}
use Rattle.replay_scope.specs.declared.State.{State}
use Rattle.replay_scope.specs.declared.Step.{Step}
use Rattle.replay_scope.specs.Output.{output_of, state_after, text_of}

-- a step d over the first `next` bytes of l
pub record Feeds (s : State) (l : List ℕ) (d : Step) (next : ℕ) : Type 0 where
  pub high : next ≤ length l
  pub moves : 0 < length l → 0 < next
  pub says : output_of s l ≡ text_of d.gives ++ output_of d.state (drop next l)
  pub leads : state_after s l ≡ state_after d.state (drop next l)

-- steps to the state t over the first `next` bytes, whose output stands in the first `end` bytes of a buffer of `room`
-- bytes, which is `out` after them
pub record Fills (s : State) (l : List ℕ) (room : ℕ) (out : List ℕ) (t : State) (next end : ℕ) : Type 0 where
  pub high : next ≤ length l
  pub fits : end ≤ length out
  pub same : length out ≡ room
  pub moves : 0 < length l → 84 ≤ room → 0 < next
  pub says : output_of s l ≡ take end out ++ output_of t (drop next l)
  pub leads : state_after s l ≡ state_after t (drop next l)

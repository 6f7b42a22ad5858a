-- What writing promises: a text at a place of a buffer, and nothing else changed. 01, Replay program.
use Rattle.std.specs.Prelude.{ℕ, ◌+◌, ◌≤◌, ◌<◌, List, ◌++◌, ◌≡◌, drop, length, take}
use Rattle.replay_scope.specs.Lines.{line_text}

-- the buffer with the text at a place; its other bytes stay
unfoldable pub put_at : List ℕ → ℕ → List ℕ → List ℕ
put_at out at t = take at out ++ (t ++ drop (at + length t) out)

-- the text stands at a place, and r is where it ends
pub record Put (out : List ℕ) (at : ℕ) (t : List ℕ) (r : ℕ) (later : List ℕ) : Type 0 where
  pub ends : r ≡ at + length t
  pub holds : later ≡ put_at out at t

-- a line's text stands at a place where it has room; elsewhere nothing changes, and r is the place
pub record PutLine (out : List ℕ) (at : ℕ) (key : List ℕ) (v r : ℕ) (later : List ℕ) : Type 0 where
  pub room : at + length key + 17 ≤ length out → Put out at (line_text key v) r later
  pub none : length out < at + length key + 17 → (r ≡ at) × (later ≡ out)

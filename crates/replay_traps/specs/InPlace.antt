-- The state whose record lies in 58 lent words, and a step on it in place.
use Rattle.std.specs.Prelude.{ℕ, List}
use Rattle.in_place_record.specs.View.{view_of}
use Rattle.replay_scope.specs.declared.Gives.{Gives}
use Rattle.replay_scope.specs.declared.Progress.{Progress}
use Rattle.replay_scope.specs.declared.State.{State}
use Rattle.replay_scope.specs.declared.Step.{Step}
use Rattle.replay_traps.specs.declared.Replay.{Replay}

-- the state that 58 words and a progress stand for
unfoldable pub state_in : List ℕ → Progress → State
state_in r p = record { vcpu = view_of r; progress = p }

-- the state that a replay stands for
unfoldable pub state_of : Replay → State
state_of r = state_in r.record r.progress

-- the step that leaves this replay, and gives that
unfoldable pub step_with : Replay → Gives → Step
step_with r g = record { state = state_of r; gives = g }

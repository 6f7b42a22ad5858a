use Rattle.std.specs.Prelude.{length}
use Rattle.replay_traps.specs.InPlace.{state_of}
use Rattle.replay_capture.specs.Laws.{Filling}
use Rattle.replay_capture.proofs.fill.Given as goal

abbrev pub invariant-loop-replay : goal.invariant-loop-replay
invariant-loop-replay l = Filling (state_of l.initial.replay) l.bytes (length l.initial.out) (state_of l.replay) l.rest l.end l.out

abbrev pub decreases-loop-replay : goal.decreases-loop-replay
decreases-loop-replay l = length l.rest

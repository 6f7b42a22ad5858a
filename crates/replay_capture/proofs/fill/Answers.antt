use Rattle.std.proofs.Common.{arith, rules}
use Rattle.replay_traps.specs.InPlace.{step_with}
use Rattle.replay_capture.specs.Laws.{filling_next}
use Rattle.replay_capture.proofs.fill.Goals as goal

pub loop-replay-preserved : goal.loop-replay-preserved
unfolding step_with
loop-replay-preserved c = filling_next _ _ _ c.loop-replay.rest.now _ _ _ _ _ _ _ c.loop-replay.invariant (search rules) c.feed-f.ensures (omega (arith, c.if-out-end.false, c.if-out-lt-TRAP_TEXT.false)) c.put-end.ensures

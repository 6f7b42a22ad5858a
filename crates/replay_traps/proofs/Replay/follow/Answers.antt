use Rattle.std.proofs.Common.{refl}
use Rattle.replay_scope.specs.Output.{followed_by}
use Rattle.replay_traps.proofs.Replay.follow.Goals as goal

pub returns : goal.returns
unfolding followed_by
returns c = (refl, refl)

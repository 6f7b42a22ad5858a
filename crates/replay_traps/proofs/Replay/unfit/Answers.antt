use Rattle.std.proofs.Common.{refl}
use Rattle.replay_traps.specs.InPlace.{state_in, state_of, step_with}
use Rattle.replay_scope.specs.Output.{over_at, unfit_of}
use Rattle.replay_traps.proofs.Replay.unfit.Goals as goal

pub returns : goal.returns
unfolding step_with state_of state_in unfit_of over_at
returns c = record { step = refl; stays = refl }

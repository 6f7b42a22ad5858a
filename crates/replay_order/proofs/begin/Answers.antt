use Rattle.replay_scope.specs.Output.{begun}
use Rattle.replay_traps.specs.InPlace.{state_in, state_of}
use Rattle.replay_order.proofs.begin.Goals as goal

pub returns : goal.returns
unfolding begun state_of state_in
returns c = rw (c.setup.ensures.shows, c.new.ensures.0)

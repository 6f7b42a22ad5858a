use Rattle.replay_scope.specs.Output.{got_of, number_taken, read_to}
use Rattle.replay_traps.specs.InPlace.{state_in, state_of, step_with}
use Rattle.replay_order.proofs.take.Goals as goal

pub returns-in-More : goal.returns-in-More
unfolding got_of read_to step_with state_of state_in
returns-in-More c = rw c.in-More.is

pub returns-in-Whole : goal.returns-in-Whole
unfolding got_of number_taken state_of state_in
returns-in-Whole c = rw c.in-Whole.is c.do_line.ensures

pub returns-in-Unfit : goal.returns-in-Unfit
unfolding got_of
returns-in-Unfit c = rw c.in-Unfit.is c.unfit.ensures.step

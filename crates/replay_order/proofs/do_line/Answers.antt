use Rattle.replay_scope.specs.Output.{keeping, line_does}
use Rattle.replay_traps.specs.InPlace.{state_in, state_of, step_with}
use Rattle.replay_order.proofs.do_line.Goals as goal

pub returns-in-Header : goal.returns-in-Header
unfolding line_does step_with state_of state_in
returns-in-Header c = rw (c.in-Header.is, c.follow.ensures.0, c.follow.ensures.1, c.after_header.ensures, c.head.ensures)

pub returns-in-Scause : goal.returns-in-Scause
unfolding line_does keeping step_with state_of state_in
returns-in-Scause c = rw (c.in-Scause.is, c.follow-in-Scause.ensures.0, c.follow-in-Scause.ensures.1)

pub returns-in-Stval : goal.returns-in-Stval
unfolding line_does keeping step_with state_of state_in
returns-in-Stval c = rw (c.in-Stval.is, c.follow-in-Stval.ensures.0, c.follow-in-Stval.ensures.1)

pub returns-in-Htval : goal.returns-in-Htval
unfolding line_does keeping step_with state_of state_in
returns-in-Htval c = rw (c.in-Htval.is, c.follow-in-Htval.ensures.0, c.follow-in-Htval.ensures.1)

pub returns-in-Word : goal.returns-in-Word
unfolding line_does keeping step_with state_of state_in
returns-in-Word c = rw (c.in-Word.is, c.follow-in-Word.ensures.0, c.follow-in-Word.ensures.1)

pub returns-in-Htinst : goal.returns-in-Htinst
unfolding line_does
returns-in-Htinst c = rw c.in-Htinst.is c.start.ensures

pub returns-in-More : goal.returns-in-More
unfolding line_does
returns-in-More c = rw c.in-More.is c.pair.ensures

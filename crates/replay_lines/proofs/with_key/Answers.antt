use Rattle.std.proofs.Common.{refl}
use Rattle.replay_scope.specs.Lines.{key_of}
use Rattle.replay_lines.proofs.with_key.Goals as goal

pub returns-in-Header : goal.returns-in-Header
unfolding key_of
returns-in-Header g c = rw c.in-Header.is c.with_header_key.ensures

pub returns-in-Scause : goal.returns-in-Scause
unfolding key_of
returns-in-Scause g c = (_, c.f.ensures, rw c.in-Scause.is refl)

pub returns-in-Stval : goal.returns-in-Stval
unfolding key_of
returns-in-Stval g c = (_, c.f-in-Stval.ensures, rw c.in-Stval.is refl)

pub returns-in-Htval : goal.returns-in-Htval
unfolding key_of
returns-in-Htval g c = (_, c.f-in-Htval.ensures, rw c.in-Htval.is refl)

pub returns-in-Htinst : goal.returns-in-Htinst
unfolding key_of
returns-in-Htinst g c = (_, c.f-in-Htinst.ensures, rw c.in-Htinst.is refl)

pub returns-in-Word : goal.returns-in-Word
unfolding key_of
returns-in-Word g c = (_, c.f-in-Word.ensures, rw c.in-Word.is refl)

pub returns-in-More : goal.returns-in-More
unfolding key_of
returns-in-More g c = (_, c.f-in-More.ensures, rw c.in-More.is refl)

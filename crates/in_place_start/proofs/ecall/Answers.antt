use Rattle.in_place_record.proofs.Shown.{made_by}
use Rattle.in_place_start.specs.Laws.{ecall_made}
use Rattle.in_place_start.proofs.ecall.Goals as goal

pub returns : goal.returns
returns c = made_by (ecall_made _ _ c.told-r _ _ (simp (c.of.ensures.eid, c.of.ensures.fid, c.of.ensures.args) at c.decide-d.ensures)) c.do_call.ensures

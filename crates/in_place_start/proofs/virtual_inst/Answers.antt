use Rattle.in_place_record.proofs.Shown.{made_by}
use Rattle.in_place_start.specs.Laws.{virtual_made}
use Rattle.in_place_start.proofs.virtual_inst.Goals as goal

pub returns : goal.returns
returns c = made_by (virtual_made _ _ c.told-r _) (simp (c.decide_stval-d.ensures, c.register-rs1.ensures, c.rs1.ensures) at c.do_csr.ensures)

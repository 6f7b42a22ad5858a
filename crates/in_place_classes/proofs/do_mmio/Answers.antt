use Rattle.in_place_read.specs.Laws.{mmio_made}
use Rattle.in_place_record.proofs.Shown.{made_by}
use Rattle.in_place_classes.proofs.do_mmio.Goals as goal

pub returns : goal.returns
returns c = made_by (mmio_made _ _ c.told-r _ _ _) (simp (c.decide.ensures, c.register-source.ensures, c.store_source.ensures) at c.do_fault.ensures)

use Rattle.isa_registers.proofs.Mask.{cleared_first}
use Rattle.isa_registers.proofs.with_bits_straight.Goals as goal

pub returns : goal.returns
returns c = simp (c.select.ensures, cleared_first _ _ c.ranges.n.fits c.ranges.mask.fits)

use Rattle.isa_extension.proofs.Straight.{extend_straight}
use Rattle.isa_extension.proofs.extend.Goals as goal

pub returns : goal.returns
returns c = simp (c.select-above.ensures, c.select-negative.ensures, c.mask-m.ensures) (extend_straight _ _ _)

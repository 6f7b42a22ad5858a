use Rattle.isa_decoder.specs.Straight.{sp_load_straight, sp_store_straight, sp_neither}
use Rattle.isa_decoder.proofs.quadrant2.Goals as goal

pub returns-then-funct3-eq1 : goal.returns-then-funct3-eq1
returns-then-funct3-eq1 c = simp (c.sp_load.ensures, c.width-w.ensures) (sp_load_straight _ _ _ c.if-funct3-eq1.true)

pub returns-then-funct3-eq3 : goal.returns-then-funct3-eq3
returns-then-funct3-eq3 c = simp c.width-w.ensures (sp_store_straight _ _ _ c.if-funct3-eq3.true)

pub returns : goal.returns
returns c = sp_neither _ _ _ c.if-funct3-eq1.false c.if-funct3-eq3.false

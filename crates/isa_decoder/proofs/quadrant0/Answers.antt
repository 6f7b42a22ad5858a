use Rattle.isa_decoder.specs.Straight.{c_load_straight, c_store_straight, c_neither}
use Rattle.isa_decoder.proofs.quadrant0.Goals as goal

pub returns-then-funct3-eq1 : goal.returns-then-funct3-eq1
returns-then-funct3-eq1 c = simp c.width-w.ensures (c_load_straight _ _ c.if-funct3-eq1.true)

pub returns-then-funct3-eq3 : goal.returns-then-funct3-eq3
returns-then-funct3-eq3 c = simp c.width-w.ensures (c_store_straight _ _ c.if-funct3-eq3.true)

pub returns : goal.returns
returns c = c_neither _ _ c.if-funct3-eq1.false c.if-funct3-eq3.false

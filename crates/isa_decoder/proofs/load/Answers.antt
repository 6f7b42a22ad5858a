use Rattle.isa_decoder.specs.Straight.{load_straight, load_none}
use Rattle.isa_decoder.proofs.load.Goals as goal

pub returns-then-funct3-lt7 : goal.returns-then-funct3-lt7
returns-then-funct3-lt7 c = simp c.width.ensures (load_straight _ _ c.if-funct3-lt7.true)

pub returns : goal.returns
returns c = load_none _ _ c.if-funct3-lt7.false

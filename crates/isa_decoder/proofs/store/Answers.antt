use Rattle.isa_decoder.specs.Straight.{store_straight, store_none}
use Rattle.isa_decoder.proofs.store.Goals as goal

pub returns-then-funct3-lt4 : goal.returns-then-funct3-lt4
returns-then-funct3-lt4 c = simp c.width.ensures (store_straight _ _ c.if-funct3-lt4.true)

pub returns : goal.returns
returns c = store_none _ _ c.if-funct3-lt4.false

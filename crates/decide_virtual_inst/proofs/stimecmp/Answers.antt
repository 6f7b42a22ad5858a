use Rattle.decide_virtual_inst.specs.Straight.{timer_straight, timer_none, timer_beyond}
use Rattle.decide_virtual_inst.proofs.stimecmp.Goals as goal

pub returns-then-funct3-eq0 : goal.returns-then-funct3-eq0
returns-then-funct3-eq0 c = timer_none _ _ _ _ _ c.if-funct3-eq0.true

pub returns-then-funct3-lt8 : goal.returns-then-funct3-lt8
returns-then-funct3-lt8 c = simp c.timer.ensures (timer_straight _ _ _ _ _ c.ranges.old.fits c.if-funct3-lt8.true c.if-funct3-eq0.false)

pub returns : goal.returns
returns c = timer_beyond _ _ _ _ _ c.if-funct3-lt8.false

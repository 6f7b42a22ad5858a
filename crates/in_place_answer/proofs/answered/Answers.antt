use Rattle.in_place_answer.specs.Laws.{ecall_made, ecall_unfit}
use Rattle.in_place_answer.proofs.answered.Goals as goal

pub returns-then-a-number : goal.returns-then-a-number
returns-then-a-number c = λ w f. ecall_made _ _ _ _ c.told-r _ _ _ _ _ _ _ w f c.if-a-number.true c.decide.ensures c.do_answered.ensures

pub returns : goal.returns
returns c = λ w f. ecall_unfit _ _ _ _ _ _ _ w f c.if-a-number.false

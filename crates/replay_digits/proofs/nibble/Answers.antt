use Rattle.std.proofs.Common.{arith, ◌∙◌}
use Rattle.replay_digits.proofs.Laws.{letter_in, none_between, none_high, none_low, number_in}
use Rattle.replay_digits.proofs.nibble.Goals as goal

pub returns-in-48-to-57 : goal.returns-in-48-to-57
returns-in-48-to-57 c = number_in _ _ (omega arith) (omega arith) c.from.ensures

pub returns-in-97-to-102 : goal.returns-in-97-to-102
returns-in-97-to-102 c = letter_in _ _ (omega arith) (omega arith) (c.from-in-97-to-102.ensures ∙ omega arith)

pub returns-in_default : goal.returns-in_default
returns-in_default c = none_low _ (omega arith)

pub returns-in_default-2 : goal.returns-in_default-2
returns-in_default-2 c = none_between _ (omega arith) (omega arith)

pub returns-in_default-3 : goal.returns-in_default-3
returns-in_default-3 c = none_high _ (omega arith)

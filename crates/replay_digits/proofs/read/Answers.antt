use Rattle.replay_digits.proofs.Laws.{hex_short, hex_part}
use native.Mathlib.Omega.{arith}
use mathlib.Core.Path.{◌∙◌}
use Rattle.replay_digits.proofs.read.Goals as goal

pub returns-then-s-at : goal.returns-then-s-at
returns-then-s-at c = hex_short c.args.s.now c.args.at (omega arith)

pub returns-then-s-at-lt16 : goal.returns-then-s-at-lt16
returns-then-s-at-lt16 c = hex_short c.args.s.now c.args.at (omega arith)

pub returns : goal.returns
returns c = c.sixteen.ensures ∙ hex_part c.args.s.now c.args.at

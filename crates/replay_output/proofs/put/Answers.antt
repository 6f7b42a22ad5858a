use Rattle.replay_output.specs.PutLaws.{no_room, has_room}
use native.Mathlib.Omega.{arith}
use borrow.Author.Rules.{rules}
use Rattle.replay_output.proofs.put.Goals as goal

pub returns-then-n-at : goal.returns-then-n-at
returns-then-n-at c = no_room _ _ _ _ (omega (arith, c.if-n-at.true))

pub returns-then-n-at-2 : goal.returns-then-n-at-2
returns-then-n-at-2 c = no_room _ _ _ _ (omega (arith, c.if-n-at-2.true))

pub returns-then-n-at-lt17 : goal.returns-then-n-at-lt17
returns-then-n-at-lt17 c = no_room _ _ _ _ (omega (arith, c.if-n-at-lt17.true))

pub returns : goal.returns
returns c = has_room _ _ _ _ _ _ (search rules) c.put_line.ensures

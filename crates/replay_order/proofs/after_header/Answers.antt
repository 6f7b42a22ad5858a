use borrow.Author.Tests.{lt-ltb, le-ltb}
use Rattle.replay_scope.specs.Output.{after_header}
use Rattle.replay_order.proofs.after_header.Goals as goal

pub returns-then-i-lt32 : goal.returns-then-i-lt32
unfolding after_header
returns-then-i-lt32 c = simp (lt-ltb _ _ c.if-i-lt32.true)

pub returns : goal.returns
unfolding after_header
returns c = simp (le-ltb _ _ c.if-i-lt32.false)

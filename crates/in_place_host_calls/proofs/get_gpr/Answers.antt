use borrow.Author.Tests.{lt-ltb, le-ltb}
use Rattle.in_place_host_calls.specs.GprsLaws.{get_made, get_refused}
use Rattle.in_place_host_calls.proofs.get_gpr.Goals as goal

pub returns-then-index-lt32 : goal.returns-then-index-lt32
returns-then-index-lt32 c = simp c.register.ensures (get_made _ _ _ (lt-ltb _ _ c.if-index-lt32.true))

pub returns : goal.returns
returns c = get_refused _ _ _ (le-ltb _ _ c.if-index-lt32.false)

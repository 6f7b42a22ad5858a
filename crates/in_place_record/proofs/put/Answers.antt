use borrow.Author.Tests.{lt-ltb, le-ltb}
use Rattle.in_place_record.proofs.Laws.{put_straight, put_beyond}
use Rattle.in_place_record.proofs.put.Goals as goal

pub returns-then-i-lt32 : goal.returns-then-i-lt32
returns-then-i-lt32 c = put_straight _ _ _ (lt-ltb _ _ c.if-i-lt32.true)

pub returns-else-i-lt32 : goal.returns-else-i-lt32
returns-else-i-lt32 c = put_beyond _ _ _ (le-ltb _ _ c.if-i-lt32.false)

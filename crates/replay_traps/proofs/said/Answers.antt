use Rattle.std.proofs.Common.{le-ltb, lt-ltb}
use Rattle.replay_traps.specs.Laws.{exit_by}
use Rattle.replay_traps.proofs.said.Goals as goal

pub returns-then-word-lt32 : goal.returns-then-word-lt32
unfolding exit_by
returns-then-word-lt32 c = simp (lt-ltb _ _ c.if-word-lt32.true)

pub returns-then-word-lt256 : goal.returns-then-word-lt256
unfolding exit_by
returns-then-word-lt256 c = simp (lt-ltb _ _ c.if-word-lt256.true, le-ltb _ _ c.if-word-lt32.false)

pub returns : goal.returns
unfolding exit_by
returns c = simp (le-ltb _ _ c.if-word-lt256.false, le-ltb _ _ c.if-word-lt32.false)

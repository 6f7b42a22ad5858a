use Rattle.std.proofs.Common.{rules}
use Rattle.test_lines.proofs.Reading.{read_more}
use Rattle.test_lines.proofs.files.read_front.Goals as goal

pub loop-done-preserved : goal.loop-done-preserved
loop-done-preserved g c = (search rules, read_more _ _ _ c.loop-done.done _ c.in-Ok.n c.loop-done.space c.read.new.buf c.loop-done.invariant.0 c.in-Ok.ensures.bound.0 c.loop-done.invariant.1 c.in-Ok.ensures.bytes.0)

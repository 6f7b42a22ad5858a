use Rattle.std.proofs.Common.{length-take-le, rules, sym}
use Rattle.replay_capture.specs.Laws.{written_end}
use Rattle.replay.proofs.finish.Goals as goal

-- what is written ends in the buffer
pub slice_bounds-out-end : goal.slice_bounds-out-end
slice_bounds-out-end g c = written_end _ _ _ _ _ (search rules) c.write-end.ensures

pub slice_bounds-say-end : goal.slice_bounds-say-end
slice_bounds-say-end g c = sym (length-take-le _ _ (written_end _ _ _ _ _ (search rules) c.write-end.ensures))

use Rattle.std.proofs.Common.{rules, sym, length-take-le}
use Rattle.replay_capture.specs.Laws.{written_end}
use Rattle.test_replays.proofs.Judging.{judged}
use Rattle.test_replays.proofs.judge.Goals as goal

-- what is written ends in the buffer
pub slice_bounds-last-end : goal.slice_bounds-last-end
slice_bounds-last-end c = written_end _ _ _ _ _ (search rules) c.write-k.ensures

pub slice_bounds-agree-end-2 : goal.slice_bounds-agree-end-2
slice_bounds-agree-end-2 c = sym (length-take-le _ _ (written_end _ _ _ _ _ (search rules) c.write-k.ensures))

-- output that agrees with the expected one in all of its bytes is the replay of the capture
pub returns : goal.returns
returns c = judged _ c.args.capture.now c.args.expected.now _ _ _ _ _ _ _ _ _ _ _ c.begin-replay.ensures c.fill-f.ensures c.if-f-capture.false c.agree-n.ensures c.if-n-e.false c.end.ensures (search rules) c.write-k.ensures c.agree-m.ensures c.if-m-k.false (search rules)

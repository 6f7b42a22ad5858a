use Rattle.replay_traps.specs.InPlace.{state_in, state_of, step_with}
use Rattle.replay_capture.specs.Laws.{over_feeds, read_feeds}
use Rattle.replay_capture.proofs.feed.Goals as goal

pub returns-then-replay : goal.returns-then-replay
unfolding step_with state_of state_in
returns-then-replay c = over_feeds (state_of c.args.replay.now) _ c.if-replay.true

pub returns : goal.returns
unfolding state_of state_in
returns c = rw c.take.ensures (read_feeds (state_of c.args.replay.now) _ _ c.if-replay.false c.read-part.ensures)

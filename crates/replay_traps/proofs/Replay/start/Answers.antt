use Rattle.replay_traps.specs.InPlace.{state_of}
use Rattle.replay_traps.specs.Laws.{start_stepped}
use Rattle.replay_traps.proofs.Replay.start.Goals as goal

pub returns : goal.returns
unfolding state_of
returns c = start_stepped c.args.self.now.progress _ _ _ _ _ _ _ _ _ c.start-word.ensures c.settle.ensures

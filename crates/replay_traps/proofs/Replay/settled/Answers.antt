use Rattle.std.proofs.Common.{refl}
use Rattle.replay_scope.specs.Output.{saying}
use Rattle.replay_traps.specs.Laws.{trap_over, word_follows}
use Rattle.replay_traps.proofs.Replay.settled.Goals as goal

pub returns-then-idle : goal.returns-then-idle
unfolding saying
returns-then-idle c = λ i. trap_over (saying c.args.self.now.progress c.args.exit) _ _ _ _ c.told-self c.follow.ensures.1 c.follow.ensures.0 (rw c.follow.ensures.1 refl) c.if-idle.true i

pub returns : goal.returns
unfolding saying
returns c = λ i. word_follows (saying c.args.self.now.progress c.args.exit) _ _ _ _ c.follow-2.ensures.1 c.follow-2.ensures.0 refl c.if-idle.false i

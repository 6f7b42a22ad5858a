use Rattle.scope.specs.Record.{is_idle}
use Rattle.replay_traps.specs.Laws.{settled_by_lem}
use Rattle.std.proofs.Common.{ap, ◌∙◌}
use Rattle.replay_traps.proofs.Replay.settle.Goals as goal

pub returns : goal.returns
returns c = λ o e f. c.settled.ensures (c.is_idle-idle.ensures ∙ ap is_idle c.waiting.ensures) ∙ rw c.said.ensures (settled_by_lem _ _ _ o e f)

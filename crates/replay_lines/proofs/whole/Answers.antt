use Rattle.std.proofs.Common.{refl, rules, sym, ◌∙◌}
use Rattle.replay_lines.specs.Whole.{spelled_read, spelled_some}
use Rattle.replay_lines.proofs.whole.Goals as goal

pub returns : goal.returns
returns c = spelled_read _ _ _ _ _ _ refl refl (spelled_some _ _ _ c.with_key.result _ (search rules) c.with_key.ensures.2 c.in_ok-n.was) c.if-s-n-ne10.false (sym c.read.ensures ∙ c.in_ok-w.was)

use Rattle.std.proofs.Common.{sym, ◌∙◌}
use Rattle.replay_lines.specs.Whole.{begins_starts, spelled_key}
use Rattle.replay_lines.proofs.spell.Goals as goal

pub returns-then-starts_with : goal.returns-then-starts_with
returns-then-starts_with c = spelled_key c.args.key.now c.args.s.now c.if-s-lt17.false c.if-s-n.false (sym (begins_starts c.args.key.now c.args.s.now) ∙ sym c.starts_with.ensures.value ∙ c.if-starts_with.true)

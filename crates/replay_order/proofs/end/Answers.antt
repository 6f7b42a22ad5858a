use Rattle.std.proofs.Common.{eq-eqb, ne_eqb, sym, ◌∙◌}
use Rattle.replay_scope.specs.Output.{end_gives}
use Rattle.replay_traps.specs.InPlace.{state_in, state_of}
use Rattle.replay_order.proofs.end.Goals.{else-may_end-via-then-may_end+else-line-eq0, else-may_end-via-else-may_end}
use Rattle.replay_order.proofs.end.Goals as goal

pub returns-then-progress : goal.returns-then-progress
unfolding end_gives state_of state_in
returns-then-progress c = simp c.if-progress.true

pub returns-then-line-eq0 : goal.returns-then-line-eq0
unfolding end_gives state_of state_in
returns-then-line-eq0 c = simp (sym c.may_end.ensures ∙ c.if-may_end.true, eq-eqb _ _ c.if-line-eq0.true, c.if-progress.false)

pub returns : goal.returns
unfolding end_gives state_of state_in
returns c = elim c.else-may_end.branch [
  | else-may_end-via-then-may_end+else-line-eq0 w ↦ simp (sym c.may_end.ensures ∙ w.if-may_end.true, ne_eqb _ _ w.if-line-eq0.false, c.if-progress.false)
  | else-may_end-via-else-may_end w ↦ simp (sym c.may_end.ensures ∙ w.if-may_end.false, c.if-progress.false)
]

use mathlib.Core.Path.{sym, ◌∙◌}
use Rattle.scope.specs.Calls.{called_of, base_of, effect_of}
use Rattle.scope.specs.Classes.{start_effect}
use Rattle.in_place_start.specs.Laws.{busy_made}
use Rattle.in_place_start.proofs.start.Goals as goal

pub returns-then-is_idle : goal.returns-then-is_idle
unfolding called_of base_of effect_of start_effect
returns-then-is_idle c = rw (simp c.waiting.ensures at (sym c.is_idle.ensures ∙ c.if-is_idle.true)) c.trapped.ensures

pub returns : goal.returns
unfolding called_of base_of effect_of start_effect
returns c = rw (simp c.waiting.ensures at (sym c.is_idle.ensures ∙ c.if-is_idle.false)) (busy_made _ _)

use mathlib.Core.Path.{refl}
use Rattle.scope.specs.Calls.{called_of, base_of, effect_of}
use Rattle.in_place_record.proofs.Laws.{complete_done}
use Rattle.in_place_answer.specs.Laws.{done_by}
use Rattle.in_place_answer.proofs.complete_load.Goals as goal

pub returns : goal.returns
unfolding called_of base_of effect_of
returns c = done_by (complete_done _ c.told-r _ _ refl) (simp c.waiting-w.ensures at c.complete.ensures)

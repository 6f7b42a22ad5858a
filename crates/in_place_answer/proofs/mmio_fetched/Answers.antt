use mathlib.Core.Path.{sym, ◌∙◌}
use Rattle.scope.specs.Answers.{fetch_effect, word_effect}
use Rattle.in_place_answer.specs.Laws.{missed_answer}
use Rattle.in_place_answer.proofs.mmio_fetched.Goals as goal

pub returns-in-Word : goal.returns-in-Word
unfolding fetch_effect word_effect
returns-in-Word c = rw (sym c.fetch_of.ensures ∙ c.in-Word.is) (simp c.from_fetched.ensures at c.do_mmio.ensures)

pub returns-in_default : goal.returns-in_default
returns-in_default c = rw (sym c.fetch_of.ensures) (missed_answer _ _ _ _ _ _ _ c.told-r c.in_default.not-Word (simp (c.decide.ensures, sym c.in_default.f-is) at c.do_missed.ensures))

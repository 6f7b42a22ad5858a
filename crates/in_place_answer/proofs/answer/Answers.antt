use mathlib.Core.Path.{refl, sym, ◌∙◌}
use Rattle.std.proofs.Common.{rules}
use Rattle.in_place_record.specs.View.{view_of}
use Rattle.scope.specs.Record.{waiting_ask}
use Rattle.in_place_answer.specs.Laws.{fetch_made, none_waits, unfit_made}
use Rattle.in_place_answer.proofs.answer.Goals as goal

pub returns-then-a-eq1 : goal.returns-then-a-eq1
unfolding view_of waiting_ask
returns-then-a-eq1 c = fetch_made _ _ _ _ _ _ _ _ _ (sym c.in-FetchCsr.is ∙ c.waiting.ensures) refl c.if-a-eq1.true c.csr_fetched.ensures

pub returns-else-a-eq1 : goal.returns-else-a-eq1
unfolding view_of waiting_ask
returns-else-a-eq1 c = unfit_made _ _ _ 1 _ _ _ (sym c.in-FetchCsr.is ∙ c.waiting.ensures) refl c.if-a-eq1.false

pub returns-then-a-eq1-2 : goal.returns-then-a-eq1-2
unfolding view_of waiting_ask
returns-then-a-eq1-2 c = fetch_made _ _ _ _ _ _ _ _ _ (sym c.in-FetchFault.is ∙ c.waiting.ensures) refl c.if-a-eq1-2.true c.mmio_fetched.ensures

pub returns-else-a-eq1-2 : goal.returns-else-a-eq1-2
unfolding view_of waiting_ask
returns-else-a-eq1-2 c = unfit_made _ _ _ 1 _ _ _ (sym c.in-FetchFault.is ∙ c.waiting.ensures) refl c.if-a-eq1-2.false

pub returns-in-Idle : goal.returns-in-Idle
unfolding waiting_ask
returns-in-Idle c = none_waits _ _ _ _ _ _ c.waiting.ensures (search rules)

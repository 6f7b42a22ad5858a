use borrow.Author.Tests.{eq-eqb, ne_eqb}
use Rattle.in_place_host.specs.Laws.{free_made, asking_made}
use Rattle.in_place_host_calls.proofs.unless_asking.Goals as goal

pub returns-then-ask_of-eq0 : goal.returns-then-ask_of-eq0
returns-then-ask_of-eq0 g c =
    (_, simp (c.csrs-c.ensures, c.waiting-w.ensures) at c.effect-e.ensures, free_made _ _ _ c.told-r _ _ _ c.waiting-w.ensures c.ask_of.ensures (eq-eqb _ _ c.if-ask_of-eq0.true) (c.requires.keeps _ _ _ c.effect-e.ensures) c.host.ensures)

pub returns : goal.returns
returns g c =
    (_, simp (c.csrs-c.ensures, c.waiting-w.ensures) at c.effect-e.ensures, asking_made _ _ _ _ c.waiting-w.ensures c.ask_of.ensures (ne_eqb _ _ c.if-ask_of-eq0.false))

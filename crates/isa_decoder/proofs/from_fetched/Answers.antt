use borrow.Author.Tests.{eq-eqb, ne_eqb}
use Rattle.isa_decoder.specs.Length.{fetched_of}
use Rattle.isa_decoder.proofs.from_fetched.Goals as goal

pub returns-then-w-eq7 : goal.returns-then-w-eq7
unfolding fetched_of
returns-then-w-eq7 c = simp (eq-eqb _ _ c.if-w-eq7.true, eq-eqb _ _ c.if-w-eq3.true)

pub returns-then-w-eq3 : goal.returns-then-w-eq3
unfolding fetched_of
returns-then-w-eq3 c = simp (c.decode.ensures, ne_eqb _ _ c.if-w-eq7.false, eq-eqb _ _ c.if-w-eq3.true)

pub returns : goal.returns
unfolding fetched_of
returns c = simp (c.compressed.ensures, ne_eqb _ _ c.if-w-eq3.false)

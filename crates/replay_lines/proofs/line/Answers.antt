use borrow.Author.Tests.{eq-eqb, ne_eqb, lt-ltb, le-ltb}
use Rattle.replay_scope.specs.Lines.{line_of}
use mathlib.Core.Path.{sym, ◌∙◌}
use Rattle.replay_lines.specs.Whole.{digit_none, digit_some}
use Rattle.replay_lines.proofs.line.Goals as goal

pub returns-then-b-key : goal.returns-then-b-key
unfolding line_of
returns-then-b-key c = simp (eq-eqb _ _ c.if-b-key.true, lt-ltb _ _ c.if-at-key.true)

pub returns-then-at-key : goal.returns-then-at-key
unfolding line_of
returns-then-at-key c = simp (ne_eqb _ _ c.if-b-key.false, lt-ltb _ _ c.if-at-key.true)

pub returns-in-Some : goal.returns-in-Some
unfolding line_of
returns-in-Some c =
    let d = digit_some _ _ (sym c.nibble.ensures ∙ c.in-Some.is) in
    simp (c.push.ensures, d.0, d.1, lt-ltb _ _ c.if-at-key-lt16.true, le-ltb _ _ c.if-at-key.false)

pub returns-in-None : goal.returns-in-None
unfolding line_of
returns-in-None c = simp (digit_none _ (sym c.nibble.ensures ∙ c.in-None.is), lt-ltb _ _ c.if-at-key-lt16.true, le-ltb _ _ c.if-at-key.false)

pub returns-then-b-eq10 : goal.returns-then-b-eq10
unfolding line_of
returns-then-b-eq10 c = simp (eq-eqb _ _ c.if-b-eq10.true, le-ltb _ _ c.if-at-key-lt16.false, le-ltb _ _ c.if-at-key.false)

pub returns : goal.returns
unfolding line_of
returns c = simp (ne_eqb _ _ c.if-b-eq10.false, le-ltb _ _ c.if-at-key-lt16.false, le-ltb _ _ c.if-at-key.false)

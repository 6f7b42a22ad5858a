use Rattle.std.proofs.Common.{arith, sym, ◌∙◌}
use Rattle.replay_lines.specs.Laws.{ended, taken_all, taken_next}
use Rattle.replay_lines.proofs.scan.Goals as goal

pub loop-i-preserved : goal.loop-i-preserved
loop-i-preserved c = c.loop-i.invariant ∙ taken_next _ _ _ _ _ _ c.loop-i-test.true (sym c.line.ensures ∙ c.in-More.is)

pub returns-in_default : goal.returns-in_default
returns-in_default c = record {
  high = omega arith;
  moves = λ h. omega arith;
  reads = c.loop-i.invariant ∙ taken_next _ _ _ _ _ _ c.loop-i-test.true (sym c.line.ensures) ∙ ended _ _ _ c.in_default.not-More;
}

pub returns : goal.returns
returns c = record {
  high = omega arith;
  moves = λ h. h;
  reads = c.loop-i.invariant ∙ taken_all _ _ _ _ _ c.loop-i-test.false;
}

use Rattle.std.proofs.Common.{◌≡◌, ◌≤◌}
use Rattle.test_lines.proofs.lists.compare.Given as goal

abbrev pub invariant-loop-before : goal.invariant-loop-before
invariant-loop-before g l = goal.J-IsAlwaysCallable g l.is_right × goal.T-IsAlwaysCallable g l.tell × (l.tally.0 ≡ l.before) × (l.tally.1.0 ≤ l.tally.0)

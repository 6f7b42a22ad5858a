use Rattle.std.proofs.Common.{drop, ◌≡◌}
use Rattle.replay_lines.specs.Read.{taken_of}
use Rattle.replay_lines.proofs.scan.Given as goal

abbrev pub invariant-loop-i : goal.invariant-loop-i
invariant-loop-i l = taken_of l.key l.fn.start.at l.fn.start.value l.s ≡ taken_of l.key l.at l.value (drop l.i l.s)

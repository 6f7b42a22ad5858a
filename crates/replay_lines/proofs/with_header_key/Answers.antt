use Rattle.std.proofs.Common.{arith, refl}
use borrow.Author.Tests.{ne_eqb}
use Rattle.replay_scope.specs.Lines.{header_key, register_keys}
use Rattle.replay_lines.proofs.with_header_key.Goals as goal

pub returns-in-0 : goal.returns-in-0
unfolding header_key register_keys
returns-in-0 g c = (_, c.f.ensures, rw c.in-0.is refl)

pub returns-in-1 : goal.returns-in-1
unfolding header_key register_keys
returns-in-1 g c = (_, c.f-in-1.ensures, rw c.in-1.is refl)

pub returns-in_default : goal.returns-in_default
unfolding header_key register_keys
returns-in_default g c = (_, c.f-in_default.ensures, simp (ne_eqb c.args.i 0 (omega arith), ne_eqb c.args.i 1 (omega arith)) c.register_key.ensures)

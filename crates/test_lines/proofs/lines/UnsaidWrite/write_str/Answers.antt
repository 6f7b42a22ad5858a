use Rattle.std.proofs.Common.{ℕ, List, ◌++◌, Some, ap, ◌∙◌}
use Rattle.std.proofs.lemmas.Bool.Decides.{Decides-eqb}
use Rattle.std.proofs.lemmas.Slice.Eq.{strip_prefix_is}
use Rattle.test_lines.proofs.lines.UnsaidWrite.write_str.Goals as goal

pub returns : goal.returns
returns c = record { ok = λ _. strip_prefix_is Decides-eqb c.args.self.now.0.now c.as_bytes.result.now (Some c.in-Some.rest) c.in-Some.ensures.cases ∙ ap (λ (l : List ℕ). l ++ c.in-Some.rest.now) c.as_bytes.ensures.value }

use Rattle.std.proofs.Common.{◌≡◌, length, rules, sym, ◌∙◌}
use Rattle.std.proofs.lemmas.List.{nil_from_length}
use Rattle.test_lines.specs.declared.lines.Unsaid.{Unsaid}
use Rattle.test_lines.proofs.Unsaid.{text_said}
use Rattle.test_lines.proofs.lines.says.Goals as goal

-- nothing is left to be printed
pub returns-then-is_ok : goal.returns-then-is_ok
returns-then-is_ok g c empty =
    let none : length c.write.new.self.0.now ≡ 0 = search rules in
    text_said _ (λ (u : Unsaid). u.0.now) (λ _ _ _ t. t) c.write.result _ _ _ c.write.ensures.writes (sym c.is_ok.ensures.value ∙ c.if-is_ok.true) (nil_from_length _ none)

-- What was printed part by part is the front of the line, and what is left its end.
use Rattle.std.proofs.Common.{◌≡◌, ℕ, List, [], ◌∷◌, ◌++◌, true, Option, IfSome, Result, Ok, Err, rules, sym, ap, ◌∙◌, append_assoc, append-nil}
use Rattle.std.proofs.lemmas.Option.{IfSome_then}
use Rattle.std.specs.Result.{OnOk, is_ok}
use Rattle.std.specs.List.{FoldsTo, concat}
use Rattle.std.specs.Fmt.{WritesInCalls, WritesText}

module _ {W : Type 0} (took : W → List ℕ → W → Type 0) (left : W → List ℕ) (takes : (w : W) (l : List ℕ) (v : W) → took w l v → left w ≡ l ++ left v) where
  left_after_calls : (w : W) (parts : List (List ℕ)) (v : W) → FoldsTo took w parts v → left w ≡ concat parts ++ left v
  left_after_calls w [] v p = ap left p
  left_after_calls w (x ∷ xs) v p = takes w x p.0 p.1 ∙ ap (λ (l : List ℕ). x ++ l) (left_after_calls p.0 xs v p.2) ∙ sym (append_assoc x (concat xs) (left v))

  -- nothing is left: all of it was printed
  said : (w : W) (printed : List ℕ) (v : W) → left v ≡ [] → WritesInCalls took w printed v → left w ≡ printed
  said w printed v e p =
      left_after_calls w p.parts v p.calls
      ∙ ap (λ (l : List ℕ). concat p.parts ++ l) e
      ∙ append-nil (concat p.parts)
      ∙ p.whole

  -- the same of a text, if it is known what it prints
  pub text_said : {E : Type 0} (r : Result (Unit {0}) E) (text : Option (List ℕ)) (w v : W) → OnOk r (WritesText took w text v) → is_ok r ≡ true → left v ≡ []
      → IfSome text (λ printed. left w ≡ printed)
  text_said (Ok _) text w v p ok e = IfSome_then text p (λ printed. said w printed v e)
  text_said (Err _) text w v p ok e = search (rules, ok)

-- Two lists whose elements are equal, pair by pair from the first on, begin alike.
use Rattle.std.proofs.Common.{◌≡◌, ℕ, ◌+◌, ◌≤◌, ◌==◌, List, ◌∷◌, [], length, take, rules, arith, sym, ap, ◌∙◌, subst, add-one}
use Rattle.std.proofs.lemmas.Bool.{cond_both, eqb-true}
use Rattle.std.specs.List.{prefix_len, zip}

-- so many elements are in both lists, and alike
abbrev pub Agrees : List ℕ → List ℕ → ℕ → Type 0
Agrees a b n = (n ≤ length a) × (n ≤ length b) × (take n a ≡ take n b)

take_one_more : (k x : ℕ) (l : List ℕ) → take (1 + k) (x ∷ l) ≡ x ∷ take k l
take_one_more k x l =
    let e : 1 + k ≡ k + 1 = omega arith in
    ap (λ (n : ℕ). take n (x ∷ l)) (e ∙ add-one k)

one_more : (x y : ℕ) (a b : List ℕ) (k : ℕ) → Agrees a b k → x ≡ y → Agrees (x ∷ a) (y ∷ b) (1 + k)
one_more x y a b k h e =
    let t : x ∷ take k a ≡ y ∷ take k b = subst (λ (z : ℕ). x ∷ take k a ≡ z ∷ take k b) e (ap (λ (l : List ℕ). x ∷ l) h.2) in
    (omega (arith, h.0), omega (arith, h.1), take_one_more k x a ∙ t ∙ sym (take_one_more k y b))

alike_by_pairs : (a b : List ℕ) → Agrees a b (prefix_len (λ (p : ℕ × ℕ). p.0 == p.1) (zip a b))
alike_by_pairs [] b = search rules
alike_by_pairs (x ∷ a) [] = search rules
alike_by_pairs (x ∷ a) (y ∷ b) =
    let k = prefix_len (λ (p : ℕ × ℕ). p.0 == p.1) (zip a b) in
    cond_both (x == y) (1 + k) 0 (Agrees (x ∷ a) (y ∷ b)) (λ e. one_more x y a b k (alike_by_pairs a b) (eqb-true x y e)) (λ _. search rules)

pub alike : (a b : List ℕ) (n : ℕ) → n ≡ prefix_len (λ (p : ℕ × ℕ). p.0 == p.1) (zip a b) → Agrees a b n
alike a b n e = subst (Agrees a b) (sym e) (alike_by_pairs a b)

-- A table of a function's values, from that of 0 on: what is looked up in it is what the function gives.
use Rattle.std.specs.Prelude.{ℕ, zero, suc, ◌<◌, ◌≤◌, Bool, true, false, List, [], ◌∷◌, ◌++◌, ◌≡◌, refl, ltb, get_or, length}
use Rattle.std.proofs.Common.{not-suc-le-zero, add-one, arith, sym, ap, ◌∙◌, length-append, ltb-false, ltb-true}
use Rattle.std.proofs.Math.ListN.{get_or-append}
use Rattle.std.proofs.Math.Seq.{get_or-append_seam}

-- the values of 0 up to n
unfoldable pub tabled : (ℕ → ℕ) → ℕ → List ℕ
tabled f zero = []
tabled f (suc n) = tabled f n ++ (f n ∷ [])

-- there are n of them
pub tabled_length : (f : ℕ → ℕ) (n : ℕ) → length (tabled f n) ≡ n
unfolding tabled
tabled_length f zero = refl
tabled_length f (suc n) = length-append (tabled f n) (f n ∷ []) ∙ rw (tabled_length f n, add-one)

at_last : (f : ℕ → ℕ) (n b : ℕ) → b ≡ n → get_or (tabled f n ++ (f n ∷ [])) b 0 ≡ f b
at_last f n b e =
    ap (λ (k : ℕ). get_or (tabled f n ++ (f n ∷ [])) k 0) (e ∙ sym (tabled_length f n))
    ∙ get_or-append_seam (tabled f n) (f n) [] 0
    ∙ ap f (sym e)

tabled_by : (f : ℕ → ℕ) (n b : ℕ) → b < suc n → (t : Bool) → ltb b n ≡ t → (b < n → get_or (tabled f n) b 0 ≡ f b) → get_or (tabled f n ++ (f n ∷ [])) b 0 ≡ f b
tabled_by f n b h true e on =
    let k : b < n = ltb-true b n e in
    let l : length (tabled f n) ≡ n = tabled_length f n in
    let m : b < length (tabled f n) = omega arith in
    get_or-append (tabled f n) (f n ∷ []) 0 b m ∙ on k
tabled_by f n b h false e on = at_last f n b (let k : n ≤ b = ltb-false b n e in omega arith)

-- and what is looked up is the value
pub tabled_at : (f : ℕ → ℕ) (n b : ℕ) → b < n → get_or (tabled f n) b 0 ≡ f b
unfolding tabled
tabled_at f zero b h = absurd (not-suc-le-zero h)
tabled_at f (suc n) b h = tabled_by f n b h (ltb b n) refl (tabled_at f n b)

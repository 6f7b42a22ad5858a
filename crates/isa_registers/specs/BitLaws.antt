-- Bit by bit, what it is to set one and to clear one.
use Rattle.std.specs.Prelude.{ℕ, zero, suc, ◌-◌, ◌/◌, ◌%◌, ◌^◌, ◌<◌, max, min, Bool, true, false, ◌≡◌, refl, eqb}
use Rattle.std.proofs.Common.{suc-le-suc, le_of_suc-le-suc, mod-eq_of_lt, mod-lt, lt_of_le_of_lt, zero-lt-suc, arith, eqb-true, ap, sym, subst, ◌∙◌}
use Rattle.std.proofs.Math.Nat.{max-le, min-le_left, mul-add-mod_self_right}
use Rattle.std.proofs.lemmas.Bool.{eqb-false}
use Rattle.std.proofs.lemmas.Nat.{and_shr, or_shr}
use Rattle.std.specs.Int.Bits.{and_step, bit_and, bit_or, or_step}
use Rattle.isa_types.specs.Pick.{and, pick}
use Rattle.isa_registers.specs.Bits.{with_bits}

-- bit i of a number
unfoldable pub bit_of : ℕ → ℕ → ℕ
bit_of n i = n / 2 ^ i % 2

-- a test of every number below n
abbrev all_below : ℕ → (ℕ → Bool) → Bool
all_below zero p = true
all_below (suc n) p = and (p n) (all_below n p)

never : {A : Type 0} → false ≡ true → A
never h = let z : ◌≡◌ {A = ℕ} 0 1 = cc in absurd (omega arith)

first : (b c : Bool) → and b c ≡ true → b ≡ true
first true c h = refl
first false c h = never h

second : (b c : Bool) → and b c ≡ true → c ≡ true
second true c h = h
second false c h = never h

below_by : (n : ℕ) (p : ℕ → Bool) → p n ≡ true → (i : ℕ) → i < suc n → (i < n → p i ≡ true) → (b : Bool) → eqb i n ≡ b → p i ≡ true
below_by n p h i l rest true e = subst (λ (k : ℕ). p k ≡ true) (sym (eqb-true i n e)) h
below_by n p h i l rest false e = let other = eqb-false i n e in rest (omega arith)

below : (n : ℕ) (p : ℕ → Bool) → all_below n p ≡ true → (i : ℕ) → i < n → p i ≡ true
below zero p h i l = absurd (omega arith)
below (suc n) p h i l =
    below_by n p (first (p n) (all_below n p) h) i l (below n p (second (p n) (all_below n p) h) i) (eqb i n) refl

-- two bits of a word, tried each with each
each_two : (p : ℕ → ℕ → Bool) → all_below 64 (λ k. all_below 64 (p k)) ≡ true → (k i : ℕ) → k < 64 → i < 64 → p k i ≡ true
each_two p h k i hk hi = below 64 (p k) (below 64 (λ k. all_below 64 (p k)) h k hk) i hi

-- a bit of two numbers' AND
pub and_bit : (a b i : ℕ) → bit_of (bit_and a b) i ≡ min (bit_of a i) (bit_of b i)
unfolding bit_of
and_bit a b i =
    ap (λ (n : ℕ). n % 2) (and_shr a b i ∙ and_step (a / 2 ^ i) (b / 2 ^ i))
    ∙ mul-add-mod_self_right _ 2 _
    ∙ mod-eq_of_lt (lt_of_le_of_lt (min-le_left _ _) (mod-lt (a / 2 ^ i) (zero-lt-suc 1)))

-- the bits of the mask that clears bit k: bit k is 0, each other 1
clearing_mask : (k i : ℕ) → k < 64 → i < 64 → eqb (bit_of (2 ^ 64 - 1 - 2 ^ k) i) (pick (eqb i k) 0 1) ≡ true
unfolding bit_of
clearing_mask k i hk hi = each_two (λ k i. eqb (bit_of (2 ^ 64 - 1 - 2 ^ k) i) (pick (eqb i k) 0 1)) refl k i hk hi

min_by : (n : ℕ) (b : Bool) → n < 2 → min n (pick b 0 1) ≡ pick b 0 n
min_by zero true h = refl
min_by zero false h = refl
min_by (suc zero) true h = refl
min_by (suc zero) false h = refl
min_by (suc (suc n)) b h = absurd (omega arith)

-- a bit is 0 or 1
pub bit_lt : (n i : ℕ) → bit_of n i < 2
unfolding bit_of
bit_lt n i = mod-lt (n / 2 ^ i) (zero-lt-suc 1)

-- clearing bit k: bit k is 0, and every other bit is what it was
pub cleared_bit : (n k i : ℕ) → k < 64 → i < 64 → bit_of (with_bits n (2 ^ k) false) i ≡ pick (eqb i k) 0 (bit_of n i)
unfolding with_bits
cleared_bit n k i hk hi =
    and_bit n (2 ^ 64 - 1 - 2 ^ k) i
    ∙ ap (λ (m : ℕ). min (bit_of n i) m) (eqb-true _ _ (clearing_mask k i hk hi))
    ∙ min_by (bit_of n i) (eqb i k) (bit_lt n i)

max_lt : (a b : ℕ) → a < 2 → b < 2 → max a b < 2
max_lt a b h k = suc-le-suc (max-le (le_of_suc-le-suc h) (le_of_suc-le-suc k))

-- a bit of two numbers' OR
pub or_bit : (a b i : ℕ) → bit_of (bit_or a b) i ≡ max (bit_of a i) (bit_of b i)
unfolding bit_of
or_bit a b i =
    ap (λ (n : ℕ). n % 2) (or_shr a b i ∙ or_step (a / 2 ^ i) (b / 2 ^ i))
    ∙ mul-add-mod_self_right _ 2 _
    ∙ mod-eq_of_lt (max_lt _ _ (mod-lt (a / 2 ^ i) (zero-lt-suc 1)) (mod-lt (b / 2 ^ i) (zero-lt-suc 1)))

-- the bits of the mask that sets bit k: bit k is 1, each other 0
setting_mask : (k i : ℕ) → k < 64 → i < 64 → eqb (bit_of (2 ^ k) i) (pick (eqb i k) 1 0) ≡ true
unfolding bit_of
setting_mask k i hk hi = each_two (λ k i. eqb (bit_of (2 ^ k) i) (pick (eqb i k) 1 0)) refl k i hk hi

max_by : (n : ℕ) (b : Bool) → n < 2 → max n (pick b 1 0) ≡ pick b 1 n
max_by zero true h = refl
max_by zero false h = refl
max_by (suc zero) true h = refl
max_by (suc zero) false h = refl
max_by (suc (suc n)) b h = absurd (omega arith)

-- setting bit k: bit k is 1, and every other bit is what it was
pub set_bit : (n k i : ℕ) → k < 64 → i < 64 → bit_of (with_bits n (2 ^ k) true) i ≡ pick (eqb i k) 1 (bit_of n i)
unfolding with_bits
set_bit n k i hk hi =
    or_bit n (2 ^ k) i
    ∙ ap (λ (m : ℕ). max (bit_of n i) m) (eqb-true _ _ (setting_mask k i hk hi))
    ∙ max_by (bit_of n i) (eqb i k) (bit_lt n i)

-- writing a bit m, 0 or 1, to bit k
pub written_bit : (n m k i : ℕ) → m < 2 → k < 64 → i < 64 → bit_of (with_bits n (2 ^ k) (eqb m 1)) i ≡ pick (eqb i k) m (bit_of n i)
written_bit n zero k i hm hk hi = cleared_bit n k i hk hi
written_bit n (suc zero) k i hm hk hi = set_bit n k i hk hi
written_bit n (suc (suc m)) k i hm hk hi = absurd (omega arith)

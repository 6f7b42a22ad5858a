-- The new timer put together of what is kept, cleared and written, and that it is the one by funct3.
use Rattle.std.specs.Prelude.{ℕ, suc, zero, ◌<◌, ◌≤◌, ◌-◌, ◌*◌, ◌/◌, ◌%◌, ◌^◌, Bool, true, false, ◌≡◌, refl, eqb, ltb}
use Rattle.std.proofs.Common.{mod-eq_of_lt, arith, ap, ap₂, sym, ◌∙◌, ne_eqb}
use Rattle.std.proofs.lemmas.Nat.{and_mask}
use Rattle.std.specs.Int.Bits.{bit_and, bit_or, bit_xor, or_zero_r, xor_self, xor_zero_r}
use Rattle.isa_registers.specs.Bits.{with_bits}
use Rattle.isa_types.specs.Pick.{pick}
use Rattle.scope.specs.declared.decided.Stimecmp.TheVariants as csr
use Rattle.scope.specs.VirtualInstruction.{clear_bits, set_bits, stimecmp_by}

-- rs1 for 1 to 3, else the field
abbrev given_by : ℕ → ℕ → ℕ → ℕ
given_by f field rs1 = bit_or (pick (ltb f 4) rs1 0) (f / 4 % 2 * field)

-- what is given, but where the field is 0 only by 1 and 5
abbrev bits_by : ℕ → ℕ → ℕ → ℕ
bits_by f field rs1 = pick (eqb (pick (eqb (f % 4) 1) 1 field) 0) 0 (given_by f field rs1)

-- of the old one what is kept, without the bits that are cleared; and the bits that are not
abbrev new_by : ℕ → ℕ → ℕ → ℕ
new_by kept bits cleared = bit_or (bit_and kept (2 ^ 64 - 1 - cleared)) (bit_xor bits cleared)

unfoldable pub timer_of : ℕ → ℕ → ℕ → ℕ → ℕ
timer_of f field old rs1 =
    new_by (pick (eqb (f / 2 % 2) 0) 0 old) (bits_by f field rs1) (pick (eqb (f % 4) 3) (bits_by f field rs1) 0)

-- a number times 0 or 1 is one of 64 bits
pub times_fits : (b n : ℕ) → b < 2 → n < 2 ^ 64 → b * n < 2 ^ 64
times_fits zero n l h = omega arith
times_fits (suc zero) n l h = omega arith
times_fits (suc (suc b)) n l h = absurd (omega arith)

-- what is given: rs1, and the field
register : (field rs1 : ℕ) → bit_or rs1 (0 * field) ≡ rs1
register field rs1 = let none : 0 * field ≡ 0 = omega arith in ap (bit_or rs1) none ∙ or_zero_r rs1

number : (field : ℕ) → bit_or 0 (1 * field) ≡ field
number field = omega arith

-- by 1 and 5: nothing is kept
alone : (n m : ℕ) → n ≡ m → new_by 0 n 0 ≡ m
alone n m e = xor_zero_r n ∙ e

whole : (n : ℕ) → n < 2 ^ 64 → bit_and n (2 ^ 64 - 1) ≡ n
whole n h = and_mask n 64 ∙ mod-eq_of_lt h

-- by 2 and 6, and by 3 and 7
added : (none : Bool) (old n m : ℕ) → old < 2 ^ 64 → n ≡ m → new_by old (pick none 0 n) 0 ≡ pick none old (bit_or old m)
added true old n m h e = or_zero_r (bit_and old (2 ^ 64 - 1)) ∙ whole old h
added false old n m h e = ap₂ bit_or (whole old h) (xor_zero_r n ∙ e)

taken : (none : Bool) (old n m : ℕ) → old < 2 ^ 64 → n ≡ m → new_by old (pick none 0 n) (pick none 0 n) ≡ pick none old (bit_and old (2 ^ 64 - 1 - m))
taken true old n m h e = or_zero_r (bit_and old (2 ^ 64 - 1)) ∙ whole old h
taken false old n m h e =
    ap (bit_or (bit_and old (2 ^ 64 - 1 - n))) (xor_self n) ∙ or_zero_r (bit_and old (2 ^ 64 - 1 - n)) ∙ ap (λ (k : ℕ). bit_and old (2 ^ 64 - 1 - k)) e

pub timer_straight : (f rd field old rs1 : ℕ) → old < 2 ^ 64 → f < 8 → (f % 4 ≡ 0 → ⊥) → csr.Write rd (timer_of f field old rs1) ≡ stimecmp_by f rd field old rs1
unfolding timer_of stimecmp_by set_bits clear_bits with_bits
timer_straight zero rd field old rs1 o h n = absurd (n refl)
timer_straight (suc zero) rd field old rs1 o h n = ap (csr.Write rd) (alone (bit_or rs1 (0 * field)) rs1 (register field rs1))
timer_straight (suc (suc zero)) rd field old rs1 o h n = ap (csr.Write rd) (added (eqb field 0) old (bit_or rs1 (0 * field)) rs1 o (register field rs1))
timer_straight (suc (suc (suc zero))) rd field old rs1 o h n = ap (csr.Write rd) (taken (eqb field 0) old (bit_or rs1 (0 * field)) rs1 o (register field rs1))
timer_straight (suc (suc (suc (suc zero)))) rd field old rs1 o h n = absurd (n refl)
timer_straight (suc (suc (suc (suc (suc zero))))) rd field old rs1 o h n = ap (csr.Write rd) (alone (bit_or 0 (1 * field)) field (number field))
timer_straight (suc (suc (suc (suc (suc (suc zero)))))) rd field old rs1 o h n = ap (csr.Write rd) (added (eqb field 0) old (bit_or 0 (1 * field)) field o (number field))
timer_straight (suc (suc (suc (suc (suc (suc (suc zero))))))) rd field old rs1 o h n = ap (csr.Write rd) (taken (eqb field 0) old (bit_or 0 (1 * field)) field o (number field))
timer_straight (suc (suc (suc (suc (suc (suc (suc (suc f)))))))) rd field old rs1 o h n = absurd (omega arith)

-- 0 and 4, and what funct3 can't be, are none
none_of : (f : ℕ) (rd field old rs1 : ℕ) → (f ≡ 1 → ⊥) → (f ≡ 2 → ⊥) → (f ≡ 3 → ⊥) → (f ≡ 5 → ⊥) → (f ≡ 6 → ⊥) → (f ≡ 7 → ⊥) → csr.Illegal ≡ stimecmp_by f rd field old rs1
unfolding stimecmp_by
none_of f rd field old rs1 a b c d e g = simp (ne_eqb f 1 a, ne_eqb f 2 b, ne_eqb f 3 c, ne_eqb f 5 d, ne_eqb f 6 e, ne_eqb f 7 g)

-- a number whose remainder is known is none with another
rest : (f k : ℕ) → f % 4 ≡ 0 → (k % 4 ≡ 0 → ⊥) → f ≡ k → ⊥
rest f k h n e = n (ap (λ (m : ℕ). m % 4) (sym e) ∙ h)

pub timer_none : (f rd field old rs1 : ℕ) → f % 4 ≡ 0 → csr.Illegal ≡ stimecmp_by f rd field old rs1
timer_none f rd field old rs1 h =
    none_of f rd field old rs1 (rest f 1 h (λ e. omega arith)) (rest f 2 h (λ e. omega arith)) (rest f 3 h (λ e. omega arith)) (rest f 5 h (λ e. omega arith)) (rest f 6 h (λ e. omega arith)) (rest f 7 h (λ e. omega arith))

pub timer_beyond : (f rd field old rs1 : ℕ) → 8 ≤ f → csr.Illegal ≡ stimecmp_by f rd field old rs1
timer_beyond f rd field old rs1 h =
    none_of f rd field old rs1 (λ e. omega arith) (λ e. omega arith) (λ e. omega arith) (λ e. omega arith) (λ e. omega arith) (λ e. omega arith)

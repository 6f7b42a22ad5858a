-- The number cut, and the bits above it where it stands for a negative one, are the number extended: once for any size.
use Rattle.std.proofs.Common.{◌≡◌, ℕ, ◌+◌, ◌-◌, ◌/◌, ◌%◌, ◌^◌, ◌<◌, ◌≤◌, Bool, true, false, ltb, refl, ap, ◌∙◌, add-zero, mod-lt, mod-eq_of_lt, arith, ltb-false}
use lib.Bits.{and_mask, bit_and}
use Rattle.isa_types.specs.Pick.{pick}
use Rattle.isa_types.specs.declared.Width.{Width}
use Rattle.isa_types.specs.declared.Width.TheVariants as width
use Rattle.isa_extension.specs.Extend.{extend_by, extend_of, signed_by, width_bits}

module _ (size half above low : ℕ) (small : low < size) (whole : size + above ≡ 2 ^ 64) where
  by_half : (b : Bool) → (low + pick b 0 above) % 2 ^ 64 ≡ pick b low (low + above)
  by_half true = ap (λ (k : ℕ). k % 2 ^ 64) (add-zero low) ∙ mod-eq_of_lt (omega arith)
  by_half false = mod-eq_of_lt (omega arith)

  -- no number below the last is negative, and the last is one of 64 bits, above which there are none
  by_last : (b : Bool) → ltb low (2 ^ 64 - 1) ≡ b → (low + pick b 0 above) % 2 ^ 64 ≡ low
  by_last true h = ap (λ (k : ℕ). k % 2 ^ 64) (add-zero low) ∙ mod-eq_of_lt (omega arith)
  by_last false h =
      let last : 2 ^ 64 - 1 ≤ low = ltb-false low (2 ^ 64 - 1) h in
      let none : above ≡ 0 = omega arith in
      ap (λ (k : ℕ). (low + k) % 2 ^ 64) none ∙ ap (λ (k : ℕ). k % 2 ^ 64) (add-zero low) ∙ mod-eq_of_lt (omega arith)

  lifted : (s : Bool) → (low + pick (ltb low (pick s half (2 ^ 64 - 1))) 0 above) % 2 ^ 64 ≡ pick s (pick (ltb low half) low (low + above)) low
  lifted true = by_half (ltb low half)
  lifted false = by_last (ltb low (2 ^ 64 - 1)) refl

-- with the mask that a width has
abbrev high : ℕ → Bool → ℕ → ℕ
high m s low = pick (ltb low (pick s (m / 2 + 1) (2 ^ 64 - 1))) 0 (2 ^ 64 - 1 - m)

pub extend_straight : (w : Width) (s : Bool) (n : ℕ) → let m : ℕ = 2 ^ width_bits w - 1 in
    (bit_and n m + high m s (bit_and n m)) % 2 ^ 64 ≡ extend_of w s n
unfolding extend_of extend_by signed_by width_bits
extend_straight width.Byte s n =
    ap (λ (k : ℕ). (k + high (2 ^ 8 - 1) s k) % 2 ^ 64) (and_mask n 8) ∙ lifted (2 ^ 8) (2 ^ 7) (2 ^ 64 - 2 ^ 8) (n % 2 ^ 8) (mod-lt n (omega arith)) refl s
extend_straight width.Half s n =
    ap (λ (k : ℕ). (k + high (2 ^ 16 - 1) s k) % 2 ^ 64) (and_mask n 16) ∙ lifted (2 ^ 16) (2 ^ 15) (2 ^ 64 - 2 ^ 16) (n % 2 ^ 16) (mod-lt n (omega arith)) refl s
extend_straight width.Word s n =
    ap (λ (k : ℕ). (k + high (2 ^ 32 - 1) s k) % 2 ^ 64) (and_mask n 32) ∙ lifted (2 ^ 32) (2 ^ 31) (2 ^ 64 - 2 ^ 32) (n % 2 ^ 32) (mod-lt n (omega arith)) refl s
extend_straight width.Double s n =
    ap (λ (k : ℕ). (k + high (2 ^ 64 - 1) s k) % 2 ^ 64) (and_mask n 64) ∙ lifted (2 ^ 64) (2 ^ 63) 0 (n % 2 ^ 64) (mod-lt n (omega arith)) refl s

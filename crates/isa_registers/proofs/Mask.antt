-- The bits of a mask cleared first, and then set or left so.
use Prim.Native.Nat.{ℕ, zero, suc, ◌+◌, ◌-◌, ◌*◌, ◌/◌, ◌^◌, ◌<◌}
use native.Mathlib.Nat.{pow-suc}
use native.Mathlib.Omega.{arith}
use mathlib.Core.Bool.{Bool, true, false}
use mathlib.Core.Path.{◌≡◌, refl, ap, ap₂, subst, sym, ◌∙◌}
use lib.Arith.{lt-one}
use lib.Bits.{and_shr, and_step, bit_and, bit_or, or_step, or_zero_r}
use Rattle.isa_types.specs.Pick.{pick}
use Rattle.isa_registers.specs.Bits.{with_bits}

-- bits that are set need not be cleared first
set_over : (k n m others : ℕ) → n < 2 ^ k → m + others + 1 ≡ 2 ^ k → bit_or (bit_and n others) m ≡ bit_or n m
set_over zero n m others h e = subst (λ (x : ℕ). bit_or (bit_and x others) m ≡ bit_or x m) (sym (lt-one h)) refl
set_over (suc k) n m others h e =
    let twice = pow-suc 2 k in
    let digit = and_step n others in
    or_step (bit_and n others) m
    ∙ ap₂ (λ (x y : ℕ). x * 2 + y)
    (ap (λ (x : ℕ). bit_or x (m / 2)) (and_shr n others 1) ∙ set_over k (n / 2) (m / 2) (others / 2) (omega arith) (omega arith))
    (omega arith)
    ∙ sym (or_step n m)

pub cleared_first : (n m : ℕ) → n < 2 ^ 64 → m < 2 ^ 64 → (on : Bool) → bit_or (bit_and n (2 ^ 64 - 1 - m)) (pick on m 0) ≡ with_bits n m on
unfolding with_bits
cleared_first n m hn hm true = set_over 64 n m (2 ^ 64 - 1 - m) hn (omega arith)
cleared_first n m hn hm false = or_zero_r (bit_and n (2 ^ 64 - 1 - m))

-- funct3 and bit 1 as the decoder takes them, with no branch: the same loads, stores and lengths.
use Rattle.std.specs.Prelude.{ℕ, suc, zero, ◌<◌, ◌≤◌, ◌+◌, ◌*◌, ◌/◌, ◌%◌, true, ◌≡◌, refl, eqb, ltb}
use Rattle.std.proofs.Common.{div-add-mod', mod-lt, arith, ap, sym, subst, ◌∙◌, ne_eqb}
use Rattle.std.proofs.Math.Arith.{mod-mul}
use Rattle.isa_types.specs.Pick.{pick}
use Rattle.isa_types.specs.declared.Width.TheVariants as width
use Rattle.isa_types.specs.declared.Width.{Width}
use Rattle.isa_decoder.specs.declared.Decoded.TheVariants as decoded
use Rattle.isa_decoder.specs.declared.Decoded.{Decoded}
use Rattle.isa_decoder.specs.declared.Trapped.TheVariants as trapped
use Rattle.isa_decoder.specs.declared.Trapped.{Trapped}
use Rattle.isa_decoder.specs.Compressed.{quadrant0_of, quadrant2_of, sp_load_of}
use Rattle.isa_decoder.specs.Decode.{load_of, store_of}

-- the four widths in order
unfoldable pub width_at : ℕ → Width
width_at n = pick (eqb n 0) width.Byte (pick (eqb n 1) width.Half (pick (eqb n 2) width.Word width.Double))

seven : (P : ℕ → Type 0) → P 0 → P 1 → P 2 → P 3 → P 4 → P 5 → P 6 → (f : ℕ) → f < 7 → P f
seven P a b c d e g k zero h = a
seven P a b c d e g k (suc zero) h = b
seven P a b c d e g k (suc (suc zero)) h = c
seven P a b c d e g k (suc (suc (suc zero))) h = d
seven P a b c d e g k (suc (suc (suc (suc zero)))) h = e
seven P a b c d e g k (suc (suc (suc (suc (suc zero))))) h = g
seven P a b c d e g k (suc (suc (suc (suc (suc (suc zero)))))) h = k
seven P a b c d e g k (suc (suc (suc (suc (suc (suc (suc n))))))) h = absurd (omega arith)

-- LB, LH, LW, LD and LBU, LHU, LWU are funct3 0 to 6
pub load_straight : (f rd : ℕ) → f < 7 → decoded.Load (width_at (f % 4)) (ltb f 4) rd ≡ load_of f rd
unfolding load_of width_at
load_straight f rd h =
    seven (λ f. decoded.Load (width_at (f % 4)) (ltb f 4) rd ≡ load_of f rd) refl refl refl refl refl refl refl f h

-- SB, SH, SW, SD are 0 to 3
pub store_straight : (f rs2 : ℕ) → f < 4 → decoded.Store (width_at f) rs2 ≡ store_of f rs2
unfolding store_of width_at
store_straight zero rs2 h = refl
store_straight (suc zero) rs2 h = refl
store_straight (suc (suc zero)) rs2 h = refl
store_straight (suc (suc (suc zero))) rs2 h = refl
store_straight (suc (suc (suc (suc n)))) rs2 h = absurd (omega arith)

-- from 7 on there is no load, from 4 on no store
pub load_none : (f rd : ℕ) → 7 ≤ f → decoded.Neither ≡ load_of f rd
unfolding load_of
load_none f rd h =
    simp (ne_eqb f 0 (λ e. omega arith), ne_eqb f 1 (λ e. omega arith), ne_eqb f 2 (λ e. omega arith), ne_eqb f 3 (λ e. omega arith), ne_eqb f 4 (λ e. omega arith), ne_eqb f 5 (λ e. omega arith), ne_eqb f 6 (λ e. omega arith))

pub store_none : (f rs2 : ℕ) → 4 ≤ f → decoded.Neither ≡ store_of f rs2
unfolding store_of
store_none f rs2 h =
    simp (ne_eqb f 0 (λ e. omega arith), ne_eqb f 1 (λ e. omega arith), ne_eqb f 2 (λ e. omega arith), ne_eqb f 3 (λ e. omega arith))

-- the low two bits are bit 1 and bit 0
two_bits : (w : ℕ) → w % 4 ≡ (w / 2 % 2) * 2 + w % 2
two_bits w = mod-mul w {m = 2} {c = 2} (omega arith) (omega arith)

-- the lengths by the low two bits
abbrev by_low : ℕ → Decoded → Trapped
by_low low d = pick (eqb low 1) (trapped.Instruction d 2) (pick (eqb low 3) (trapped.Instruction d 4) trapped.Unfit)

even_by : (q : ℕ) (d : Decoded) → q < 2 → by_low (q * 2 + 0) d ≡ trapped.Unfit
even_by zero d h = refl
even_by (suc zero) d h = refl
even_by (suc (suc q)) d h = absurd (omega arith)

odd_by : (q : ℕ) (d : Decoded) → q < 2 → by_low (q * 2 + 1) d ≡ trapped.Instruction d (2 + q * 2)
odd_by zero d h = refl
odd_by (suc zero) d h = refl
odd_by (suc (suc q)) d h = absurd (omega arith)

pub length_even : (w : ℕ) (d : Decoded) → w % 2 ≡ 0 → trapped.Unfit ≡ by_low (w % 4) d
length_even w d h =
    sym (ap (λ (n : ℕ). by_low n d) (two_bits w ∙ ap (λ (n : ℕ). (w / 2 % 2) * 2 + n) h) ∙ even_by (w / 2 % 2) d (mod-lt (w / 2) (omega arith)))

pub length_odd : (w : ℕ) (d : Decoded) → (w % 2 ≡ 0 → ⊥) → trapped.Instruction d (2 + (w / 2 % 2) * 2) ≡ by_low (w % 4) d
length_odd w d h =
    let small : w % 2 < 2 = mod-lt w (omega arith) in
    let one : w % 2 ≡ 1 = omega (arith, h) in
    sym (ap (λ (n : ℕ). by_low n d) (two_bits w ∙ ap (λ (n : ℕ). (w / 2 % 2) * 2 + n) one) ∙ odd_by (w / 2 % 2) d (mod-lt (w / 2) (omega arith)))

-- a quadrant of the 16-bit words by its loads and stores: funct3 2 and 3, 6 and 7
abbrev by_width : (Width → Decoded) → (Width → Decoded) → ℕ → Decoded
by_width load store f =
    pick (eqb f 2) (load width.Word)
    (pick (eqb f 3) (load width.Double)
    (pick (eqb f 6) (store width.Word)
    (pick (eqb f 7) (store width.Double)
    decoded.Neither)))

-- half a number, and which half
halved : (f q : ℕ) → f / 2 ≡ q → q * 2 + f % 2 ≡ f
halved f q h = ap (λ (n : ℕ). n * 2 + f % 2) (sym h) ∙ div-add-mod' f 2

c_load_by : (load store : Width → Decoded) (r : ℕ) → r < 2 → load (width_at ((1 * 2 + r) % 4)) ≡ by_width load store (1 * 2 + r)
unfolding width_at
c_load_by load store zero h = refl
c_load_by load store (suc zero) h = refl
c_load_by load store (suc (suc r)) h = absurd (omega arith)

c_store_by : (load store : Width → Decoded) (r : ℕ) → r < 2 → store (width_at ((3 * 2 + r) % 4)) ≡ by_width load store (3 * 2 + r)
unfolding width_at
c_store_by load store zero h = refl
c_store_by load store (suc zero) h = refl
c_store_by load store (suc (suc r)) h = absurd (omega arith)

loads_by : (load store : Width → Decoded) (f : ℕ) → f / 2 ≡ 1 → load (width_at (f % 4)) ≡ by_width load store f
loads_by load store f h =
    subst (λ (n : ℕ). load (width_at (n % 4)) ≡ by_width load store n) (halved f 1 h) (c_load_by load store (f % 2) (mod-lt f (omega arith)))

stores_by : (load store : Width → Decoded) (f : ℕ) → f / 2 ≡ 3 → store (width_at (f % 4)) ≡ by_width load store f
stores_by load store f h =
    subst (λ (n : ℕ). store (width_at (n % 4)) ≡ by_width load store n) (halved f 3 h) (c_store_by load store (f % 2) (mod-lt f (omega arith)))

neither_by : (load store : Width → Decoded) (f : ℕ) → (f / 2 ≡ 1 → ⊥) → (f / 2 ≡ 3 → ⊥) → decoded.Neither ≡ by_width load store f
neither_by load store f h k =
    simp (ne_eqb f 2 (λ e. h (ap (λ (n : ℕ). n / 2) e)), ne_eqb f 3 (λ e. h (ap (λ (n : ℕ). n / 2) e)), ne_eqb f 6 (λ e. k (ap (λ (n : ℕ). n / 2) e)), ne_eqb f 7 (λ e. k (ap (λ (n : ℕ). n / 2) e)))

-- C.LW and C.LD, C.SW and C.SD, none of them
pub c_load_straight : (f r : ℕ) → f / 2 ≡ 1 → decoded.Load (width_at (f % 4)) true r ≡ quadrant0_of f r
unfolding quadrant0_of
c_load_straight f r h = loads_by (λ w. decoded.Load w true r) (λ w. decoded.Store w r) f h

pub c_store_straight : (f r : ℕ) → f / 2 ≡ 3 → decoded.Store (width_at (f % 4)) r ≡ quadrant0_of f r
unfolding quadrant0_of
c_store_straight f r h = stores_by (λ w. decoded.Load w true r) (λ w. decoded.Store w r) f h

pub c_neither : (f r : ℕ) → (f / 2 ≡ 1 → ⊥) → (f / 2 ≡ 3 → ⊥) → decoded.Neither ≡ quadrant0_of f r
unfolding quadrant0_of
c_neither f r h k = neither_by (λ w. decoded.Load w true r) (λ w. decoded.Store w r) f h k

-- C.LWSP and C.LDSP, C.SWSP and C.SDSP, none of them
pub sp_load_straight : (f rd rs2 : ℕ) → f / 2 ≡ 1 → sp_load_of (width_at (f % 4)) rd ≡ quadrant2_of f rd rs2
unfolding quadrant2_of
sp_load_straight f rd rs2 h = loads_by (λ w. sp_load_of w rd) (λ w. decoded.Store w rs2) f h

pub sp_store_straight : (f rd rs2 : ℕ) → f / 2 ≡ 3 → decoded.Store (width_at (f % 4)) rs2 ≡ quadrant2_of f rd rs2
unfolding quadrant2_of
sp_store_straight f rd rs2 h = stores_by (λ w. sp_load_of w rd) (λ w. decoded.Store w rs2) f h

pub sp_neither : (f rd rs2 : ℕ) → (f / 2 ≡ 1 → ⊥) → (f / 2 ≡ 3 → ⊥) → decoded.Neither ≡ quadrant2_of f rd rs2
unfolding quadrant2_of
sp_neither f rd rs2 h k = neither_by (λ w. sp_load_of w rd) (λ w. decoded.Store w rs2) f h k

-- A width's place among the four, by its bytes.
use Rattle.std.specs.Prelude.{ℕ, ◌≤◌, ◌<◌, ◌+◌, ◌^◌, Bool, true, false, ◌≡◌, refl, eqb}
use Rattle.std.proofs.Common.{arith}
use Rattle.isa_decoder.specs.Straight.{width_at}
use Rattle.isa_types.specs.Pick.{pick}
use Rattle.isa_types.specs.declared.Width.TheVariants as width
use Rattle.scope.specs.OneTrap.{width_bytes}
use Rattle.scope.specs.Words.{width_of}

-- how many of the first three widths a width is wider than: 1 for each that it is not, up to the one that it is
abbrev wider : Bool → ℕ → ℕ
wider here before = pick here 0 before

wider_low : (here : Bool) (n : ℕ) → n ≤ 1 → wider here n ≤ 1
wider_low true n h = omega arith
wider_low false n h = h

byte_low : (a : Bool) → wider a 1 ≤ 1
byte_low a = wider_low a 1 (omega arith)

half_low : (a b : Bool) → wider b (wider a 1) ≤ 1
half_low a b = wider_low b (wider a 1) (byte_low a)

two_by : (a b : Bool) → wider a 1 + wider b (wider a 1) < 2 ^ 64
two_by a b =
    let x : wider a 1 ≤ 1 = byte_low a in
    let y : wider b (wider a 1) ≤ 1 = half_low a b in
    omega arith

three_by : (a b c : Bool) → wider a 1 + wider b (wider a 1) + wider c (wider b (wider a 1)) < 2 ^ 64
three_by a b c =
    let x : wider a 1 ≤ 1 = byte_low a in
    let y : wider b (wider a 1) ≤ 1 = half_low a b in
    let z : wider c (wider b (wider a 1)) ≤ 1 = wider_low c (wider b (wider a 1)) (half_low a b) in
    omega arith

pub two_fit : (n : ℕ) → wider (eqb n 1) 1 + wider (eqb n 2) (wider (eqb n 1) 1) < 2 ^ 64
two_fit n = two_by (eqb n 1) (eqb n 2)

pub three_fit : (n : ℕ) → wider (eqb n 1) 1 + wider (eqb n 2) (wider (eqb n 1) 1) + wider (eqb n 4) (wider (eqb n 2) (wider (eqb n 1) 1)) < 2 ^ 64
three_fit n = three_by (eqb n 1) (eqb n 2) (eqb n 4)

placed : (a b c : Bool) → width_at (wider a 1 + wider b (wider a 1) + wider c (wider b (wider a 1))) ≡ pick a width.Byte (pick b width.Half (pick c width.Word width.Double))
unfolding width_at
placed true true true = refl
placed true true false = refl
placed true false true = refl
placed true false false = refl
placed false true true = refl
placed false true false = refl
placed false false true = refl
placed false false false = refl

pub width_placed : (n : ℕ) → width_at (wider (eqb n 1) 1 + wider (eqb n 2) (wider (eqb n 1) 1) + wider (eqb n 4) (wider (eqb n 2) (wider (eqb n 1) 1))) ≡ width_of n
unfolding width_of width_bytes
width_placed n = placed (eqb n 1) (eqb n 2) (eqb n 4)

-- The digit reader: sixteen bytes, eight at a time, are what hex_of says of them byte by byte.
use Rattle.std.specs.Prelude.{ℕ, Option, Some, None, suc, ◌+◌, ◌-◌, ◌*◌, ◌/◌, ◌%◌, ◌^◌, ◌≤◌, ◌<◌, Bool, true, false, ◌≡◌, refl, eqb, drop, get_or, length, take}
use Rattle.std.proofs.Math.Numerals.{unary_clauses}
use Rattle.std.proofs.Common.{arith, sym, ap, ◌∙◌, subst, drop-cons, take_all, length-drop, length-take, length-take-le, take-append-drop, eq-eqb, eqb-true, le-ltb, lt-ltb, ne_eqb}
use mathlib.Core.List.{List, [], ◌∷◌, ◌++◌, foldl, foldl-append}
use Rattle.std.proofs.lemmas.Bool.{eqb-false}
use Rattle.std.specs.Int.{from_le_bytes, w64}
use Rattle.std.specs.Simd.{first_chunks}
use Rattle.isa_types.specs.Pick.{pick}
use Rattle.replay_scope.specs.Lines.{nibble_of, push_of}
use Rattle.replay_scope.specs.TableLaws.{tabled, tabled_at}
use Rattle.replay_digits.specs.Hex.{digit_in, digit_of, hex_of}
use Rattle.replay_digits.specs.Words.{glyph_by, glyphs_of, of_bytes, pack_of, value_by, values_of}
use Rattle.replay_digits.proofs.WordLaws.{Bytes, each, eight, eight_bytes, eight_digits, glyphs_each, pack_below, pack_eight, values_each}

-- the digit with a byte's value is that byte, or the byte is no digit
abbrev read_by : ℕ → ℕ
read_by b = pick (eqb (glyph_by (value_by b)) b) (value_by b % 16) 16

-- all 256 bytes
all_read : tabled read_by 256 ≡ tabled nibble_of 256
unfolding tabled nibble_of
all_read = refl

read_by_lem : (b : ℕ) → b < 256 → read_by b ≡ nibble_of b
read_by_lem b h = sym (tabled_at read_by 256 b h) ∙ ap (λ (l : List ℕ). get_or l b 0) all_read ∙ tabled_at nibble_of 256 b h

digit_is : (b : ℕ) → b < 256 → glyph_by (value_by b) ≡ b → nibble_of b ≡ value_by b % 16
digit_is b h e = sym (read_by_lem b h) ∙ ap (λ (t : Bool). pick t (value_by b % 16) 16) (eq-eqb _ _ e)

digit_not : (b : ℕ) → b < 256 → (glyph_by (value_by b) ≡ b → ⊥) → nibble_of b ≡ 16
digit_not b h e = sym (read_by_lem b h) ∙ ap (λ (t : Bool). pick t (value_by b % 16) 16) (ne_eqb _ _ e)

-- after a byte that is no digit, none follows
bad_digits : (l : List ℕ) → foldl digit_of None l ≡ None
unfolding digit_of
bad_digits [] = refl
bad_digits (b ∷ l) = bad_digits l

-- a byte's digit behind a number
abbrev push_by : ℕ → ℕ → ℕ
push_by v b = push_of v (value_by b % 16)

one_digit : (v b : ℕ) → nibble_of b ≡ value_by b % 16 → digit_of (Some v) b ≡ Some (push_by v b)
unfolding digit_of
one_digit v b e = let h : value_by b % 16 < 16 = omega arith in rw e (rw (lt-ltb _ _ h))

no_digit : (v b : ℕ) → nibble_of b ≡ 16 → digit_of (Some v) b ≡ None
unfolding digit_of
no_digit v b e = rw e

-- no byte makes up for another
last_byte : (x y a b : ℕ) → a < 256 → b < 256 → x * 256 + a ≡ y * 256 + b → (a ≡ b) × (x ≡ y)
last_byte x y a b h i e = (omega arith, omega arith)

glyph_byte : (v : ℕ) → glyph_by v < 256
glyph_byte v = omega arith

-- what eight bytes must be: each the digit of its value
abbrev again : List ℕ → ℕ
again l = each (λ b. glyph_by (value_by b)) l

-- every byte is
fold_digits : (l : List ℕ) (v : ℕ) → Bytes l → again l ≡ of_bytes l → foldl digit_of (Some v) l ≡ Some (foldl push_by v l)
unfolding of_bytes
fold_digits [] v h e = refl
fold_digits (b ∷ l) v h e =
    let s : (glyph_by (value_by b) ≡ b) × (again l ≡ of_bytes l) = last_byte _ _ _ b (glyph_byte (value_by b)) h.0 e in
    ap (λ (d : Option ℕ). foldl digit_of d l) (one_digit v b (digit_is b h.0 s.0)) ∙ fold_digits l (push_by v b) h.1 s.1

-- or one is not
bad_by : (b : ℕ) (l : List ℕ) (v : ℕ) → b < 256 → (again (b ∷ l) ≡ of_bytes (b ∷ l) → ⊥) → (t : Bool) → eqb (glyph_by (value_by b)) b ≡ t
    → ((again l ≡ of_bytes l → ⊥) → foldl digit_of (Some (push_by v b)) l ≡ None) → foldl digit_of (Some v) (b ∷ l) ≡ None
unfolding of_bytes
bad_by b l v h n true e on =
    let g : glyph_by (value_by b) ≡ b = eqb-true _ _ e in
    ap (λ (d : Option ℕ). foldl digit_of d l) (one_digit v b (digit_is b h g)) ∙ on (λ r. n (rw (g, r)))
bad_by b l v h n false e on =
    ap (λ (d : Option ℕ). foldl digit_of d l) (no_digit v b (digit_not b h (eqb-false _ _ e))) ∙ bad_digits l

fold_bad : (l : List ℕ) (v : ℕ) → Bytes l → (again l ≡ of_bytes l → ⊥) → foldl digit_of (Some v) l ≡ None
unfolding of_bytes
fold_bad [] v h n = absurd (n refl)
fold_bad (b ∷ l) v h n = bad_by b l v h.0 n (eqb (glyph_by (value_by b)) b) refl (fold_bad l (push_by v b) h.1)

-- one digit more, where nothing is pushed out
push_one : (v d : ℕ) → v < 2 ^ 60 → d < 16 → push_of v d ≡ v * 16 + d
unfolding push_of
push_one v d h i = omega arith

-- four digits more
push_four : (v a b c d : ℕ) → v < 2 ^ 48 → a < 16 → b < 16 → c < 16 → d < 16
    → push_of (push_of (push_of (push_of v a) b) c) d ≡ (((v * 16 + a) * 16 + b) * 16 + c) * 16 + d
push_four v a b c d h i j k l =
    rw (push_one v a (omega arith) i)
    (rw (push_one (v * 16 + a) b (omega arith) j)
    (rw (push_one ((v * 16 + a) * 16 + b) c (omega arith) k) (push_one (((v * 16 + a) * 16 + b) * 16 + c) d (omega arith) l)))

-- eight digits more
push_eight : (v a b c d e f g h : ℕ) → v < 2 ^ 32 → a < 16 → b < 16 → c < 16 → d < 16 → e < 16 → f < 16 → g < 16 → h < 16
    → foldl push_of v (eight a b c d e f g h) ≡ v * 0x100000000 + eight_digits a b c d e f g h
push_eight v a b c d e f g h i j k l m n o p q =
    rw (push_four v a b c d (omega arith) j k l m)
    (push_four ((((v * 16 + a) * 16 + b) * 16 + c) * 16 + d) e f g h (omega arith) n o p q ∙ omega arith)

value_byte : (b : ℕ) → value_by b < 256
value_byte b = omega arith

value_digit : (b : ℕ) → value_by b % 16 < 16
value_digit b = omega arith

module _ (a b c d e f g h : ℕ) (w : Bytes (eight a b c d e f g h)) where
  abbrev all : List ℕ
  all = eight a b c d e f g h

  -- what the code tests, and what it packs
  again_is : glyphs_of (values_of (of_bytes all)) ≡ again all
  again_is = ap glyphs_of (values_each a b c d e f g h w) ∙ glyphs_each a b c d e f g h value_by value_byte

  packed_is : pack_of (values_of (of_bytes all))
      ≡ eight_digits (value_by a % 16) (value_by b % 16) (value_by c % 16) (value_by d % 16) (value_by e % 16) (value_by f % 16) (value_by g % 16) (value_by h % 16)
  packed_is =
      ap pack_of (values_each a b c d e f g h w)
      ∙ pack_eight (value_by a) (value_by b) (value_by c) (value_by d) (value_by e) (value_by f) (value_by g) (value_by h)
      (eight_bytes (value_byte a) (value_byte b) (value_byte c) (value_byte d) (value_byte e) (value_byte f) (value_byte g) (value_byte h))

  eight_number : (v : ℕ) → v < 2 ^ 32 → glyphs_of (values_of (of_bytes all)) ≡ of_bytes all
      → foldl digit_of (Some v) all ≡ Some (v * 0x100000000 + pack_of (values_of (of_bytes all)))
  eight_number v i s =
      fold_digits all v w (sym again_is ∙ s)
      ∙ ap Some
      (push_eight v (value_by a % 16) (value_by b % 16) (value_by c % 16) (value_by d % 16) (value_by e % 16) (value_by f % 16) (value_by g % 16) (value_by h % 16) i
      (value_digit a) (value_digit b) (value_digit c) (value_digit d) (value_digit e) (value_digit f) (value_digit g) (value_digit h)
      ∙ ap (λ (n : ℕ). v * 0x100000000 + n) (sym packed_is))

  eight_bad : (v : ℕ) → (glyphs_of (values_of (of_bytes all)) ≡ of_bytes all → ⊥) → foldl digit_of (Some v) all ≡ None
  eight_bad v n = fold_bad all v w (λ e. n (again_is ∙ e))

-- the eight bytes at a place of a slice
abbrev eight_at : List ℕ → ℕ → List ℕ
eight_at s at =
    eight (get_or s at 0) (get_or s (at + 1) 0) (get_or s (at + 2) 0) (get_or s (at + 3) 0) (get_or s (at + 4) 0) (get_or s (at + 4 + 1) 0) (get_or s (at + 4 + 2) 0) (get_or s (at + 4 + 3) 0)

eight_at_lem : (s : List ℕ) (at : ℕ) → at + 8 ≤ length s → take 8 (drop at s) ≡ eight_at s at
eight_at_lem s at h =
    simp unary_clauses
    (rw (
      drop-cons s at 0 (omega arith),
      drop-cons s (suc at) 0 (omega arith),
      drop-cons s (suc (suc at)) 0 (omega arith),
      drop-cons s (suc (suc (suc at))) 0 (omega arith),
      drop-cons s (suc (suc (suc (suc at)))) 0 (omega arith),
      drop-cons s (suc (suc (suc (suc (suc at))))) 0 (omega arith),
      drop-cons s (suc (suc (suc (suc (suc (suc at)))))) 0 (omega arith),
      drop-cons s (suc (suc (suc (suc (suc (suc (suc at))))))) 0 (omega arith),
    ))

-- eight bytes as the library reads them
pub le_eight : (l : List ℕ) → length l ≡ 8 → from_le_bytes w64 l ≡ of_bytes l
unfolding of_bytes
le_eight l n =
    let e : of_bytes l ≡ of_bytes (eight_at l 0) = ap of_bytes (sym (take_all 8 l (omega arith)) ∙ eight_at_lem l 0 (omega arith)) in
    omega (arith, e)

-- the one eight of sixteen bytes, and the other
module _ (s : List ℕ) (halves : List (List ℕ)) (none : List ℕ) (x : ℕ) (n : length s ≡ 16) (e : halves ≡ first_chunks 8 (length s / 8) s) where
  half_of : (k : ℕ) → (part : List ℕ) → get_or (take 8 s ∷ take 8 (drop 8 s) ∷ []) k none ≡ part → length part ≡ 8
      → x ≡ from_le_bytes w64 (get_or halves k none) → x ≡ of_bytes part
  half_of k part p m f =
      f
      ∙ ap (λ (h : List (List ℕ)). from_le_bytes w64 (get_or h k none)) (e ∙ ap (λ (l : ℕ). first_chunks 8 (l / 8) s) n)
      ∙ ap (from_le_bytes w64) p
      ∙ le_eight part m

  pub half_first : x ≡ from_le_bytes w64 (get_or halves 0 none) → x ≡ of_bytes (take 8 (drop 0 s))
  half_first f = half_of 0 (take 8 s) refl (length-take-le 8 s (omega arith)) f

  pub half_second : x ≡ from_le_bytes w64 (get_or halves 1 none) → x ≡ of_bytes (take 8 (drop 8 s))
  half_second f =
      let d : length (drop 8 s) ≡ length s - 8 = length-drop 8 s in
      half_of 1 (take 8 (drop 8 s)) refl (length-take-le 8 (drop 8 s) (omega arith)) f

-- sixteen bytes, first the one eight of them, then the other
module _ (s : List ℕ) (n : length s ≡ 16) (w : (k : ℕ) → get_or s k 0 < 256) where
  at_bytes : (at : ℕ) → Bytes (eight_at s at)
  at_bytes at = eight_bytes (w at) (w (at + 1)) (w (at + 2)) (w (at + 3)) (w (at + 4)) (w (at + 4 + 1)) (w (at + 4 + 2)) (w (at + 4 + 3))

  both : s ≡ eight_at s 0 ++ eight_at s 8
  both =
      let d : length (drop 8 s) ≡ length s - 8 = length-drop 8 s in
      sym (take-append-drop 8 s)
      ∙ ap (λ (l : List ℕ). l ++ drop 8 s) (eight_at_lem s 0 (omega arith))
      ∙ ap (λ (l : List ℕ). eight_at s 0 ++ l) (sym (take_all 8 (drop 8 s) (omega arith)) ∙ eight_at_lem s 8 (omega arith))

  hex_two : hex_of s ≡ foldl digit_of (foldl digit_of (Some 0) (eight_at s 0)) (eight_at s 8)
  unfolding hex_of
  hex_two =
      simp (eq-eqb _ _ n)
      (ap (foldl digit_of (Some 0)) both ∙ foldl-append digit_of (Some 0) (eight_at s 0) (eight_at s 8))

  -- the digits of eight of them are found as the code finds them: x is their number, v the values of its bytes, g the digits of those
  module _ (at x v g : ℕ) (i : at + 8 ≤ length s) (e : x ≡ of_bytes (take 8 (drop at s))) (f : v ≡ values_of x) (d : g ≡ glyphs_of v) where
    at_is : x ≡ of_bytes (eight_at s at)
    at_is = e ∙ ap of_bytes (eight_at_lem s at i)

    -- x's bytes are the digits, or not, as those of the slice
    at_same : g ≡ x → glyphs_of (values_of (of_bytes (eight_at s at))) ≡ of_bytes (eight_at s at)
    at_same q = subst (λ (z : ℕ). glyphs_of (values_of z) ≡ z) at_is (ap glyphs_of (sym f) ∙ sym d ∙ q)

    at_other : (g ≡ x → ⊥) → glyphs_of (values_of (of_bytes (eight_at s at))) ≡ of_bytes (eight_at s at) → ⊥
    at_other n q = n (d ∙ ap glyphs_of f ∙ subst (λ (z : ℕ). glyphs_of (values_of z) ≡ z) (sym at_is) q)

    at_number : (u : ℕ) → u < 2 ^ 32 → g ≡ x → foldl digit_of (Some u) (eight_at s at) ≡ Some (u * 0x100000000 + pack_of v)
    at_number u h q =
        eight_number _ _ _ _ _ _ _ _ (at_bytes at) u h (at_same q)
        ∙ ap (λ (z : ℕ). Some (u * 0x100000000 + pack_of z)) (ap values_of (sym at_is) ∙ sym f)

    at_bad : (u : ℕ) → (g ≡ x → ⊥) → foldl digit_of (Some u) (eight_at s at) ≡ None
    at_bad u n = eight_bad _ _ _ _ _ _ _ _ (at_bytes at) u (at_other n)

  module _ (x v g : ℕ) (e : x ≡ of_bytes (take 8 (drop 0 s))) (f : v ≡ values_of x) (d : g ≡ glyphs_of v) where
    -- one of the first eight is no digit
    pub hex_first : (g ≡ x → ⊥) → None ≡ hex_of s
    hex_first q =
        sym (hex_two
        ∙ ap (λ (r : Option ℕ). foldl digit_of r (eight_at s 8)) (at_bad 0 x v g (omega arith) e f d 0 q)
        ∙ bad_digits (eight_at s 8))

    first : g ≡ x → hex_of s ≡ foldl digit_of (Some (pack_of v)) (eight_at s 8)
    first q =
        let z : 0 * 0x100000000 + pack_of v ≡ pack_of v = omega arith in
        hex_two
        ∙ ap (λ (r : Option ℕ). foldl digit_of r (eight_at s 8)) (at_number 0 x v g (omega arith) e f d 0 (omega arith) q ∙ ap Some z)

    module _ (y u h : ℕ) (i : y ≡ of_bytes (take 8 (drop 8 s))) (j : u ≡ values_of y) (k : h ≡ glyphs_of u) where
      -- one of the others is none
      pub hex_second : g ≡ x → (h ≡ y → ⊥) → None ≡ hex_of s
      hex_second q r = sym (first q ∙ at_bad 8 y u h (omega arith) i j k (pack_of v) r)

      -- all are digits
      pub hex_number : g ≡ x → h ≡ y → Some (pack_of v * 0x100000000 + pack_of u) ≡ hex_of s
      hex_number q r = sym (first q ∙ at_number 8 y u h (omega arith) i j k (pack_of v) (pack_below v) r)

-- bytes that are fewer than sixteen
pub hex_short : (l : List ℕ) (at : ℕ) → length l < at + 16 → None ≡ hex_of (take 16 (drop at l))
unfolding hex_of
hex_short l at h =
    let n : (length (take 16 (drop at l)) ≡ 16 → ⊥) =
    λ e.
    let m : length (take 16 (drop at l)) ≤ length (drop at l) = simp length-take (omega arith) in
    let k : length (drop at l) ≡ length l - at = length-drop at l in
    omega arith
    in
    rw (ne_eqb _ _ n)

-- the part of a slice from a place to sixteen bytes on
pub hex_part : (l : List ℕ) (at : ℕ) → hex_of (take (at + 16 - at) (drop at l)) ≡ hex_of (take 16 (drop at l))
hex_part l at = let n : at + 16 - at ≡ 16 = omega arith in ap (λ (k : ℕ). hex_of (take k (drop at l))) n

-- a byte as a digit, by the tests of the code
pub number_in : (b n : ℕ) → 48 ≤ b → b < 58 → n ≡ b - 48 → Some n ≡ digit_in b
unfolding digit_in nibble_of
number_in b n h i e =
    let k : b - 48 < 16 = omega arith in
    rw (e, le-ltb b 48 h, lt-ltb b 58 i) (rw (lt-ltb _ _ k))

pub letter_in : (b n : ℕ) → 97 ≤ b → b < 103 → n ≡ b - 87 → Some n ≡ digit_in b
unfolding digit_in nibble_of
letter_in b n h i e =
    let k : b - 87 < 16 = omega arith in
    rw (e, le-ltb b 48 (omega arith), le-ltb b 58 (omega arith), le-ltb b 97 h, lt-ltb b 103 i) (rw (lt-ltb _ _ k))

pub none_low : (b : ℕ) → b < 48 → None ≡ digit_in b
unfolding digit_in nibble_of
none_low b h = rw (lt-ltb b 48 h)

pub none_between : (b : ℕ) → 58 ≤ b → b < 97 → None ≡ digit_in b
unfolding digit_in nibble_of
none_between b h i = rw (le-ltb b 48 (omega arith), le-ltb b 58 h, lt-ltb b 97 i)

pub none_high : (b : ℕ) → 103 ≤ b → None ≡ digit_in b
unfolding digit_in nibble_of
none_high b h = rw (le-ltb b 48 (omega arith), le-ltb b 58 (omega arith), le-ltb b 97 (omega arith), le-ltb b 103 h)

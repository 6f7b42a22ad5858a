-- Laws of eight digits in one number: the bytes of spread_of are a number's last eight digits, and eight and eight are all sixteen.
use Rattle.std.specs.Prelude.{ℕ, ◌+◌, ◌-◌, ◌*◌, ◌/◌, ◌%◌, ◌≤◌, ◌<◌, Bool, true, false, List, [], ◌∷◌, ◌++◌, ◌≡◌, refl, drop, ltb, length, set, take}
use Rattle.std.proofs.Common.{add_assoc, arith, ap, ◌∙◌, subst, drop-drop, length-set}
use Rattle.std.proofs.Math.Nat.{div-div-eq-div-mul}
use Rattle.std.proofs.lemmas.Nat.{and_mask, or_block, or_lt, or_mod}
use Rattle.std.specs.Int.{to_le_bytes, w64}
use Rattle.std.specs.Int.Bits.{and_zero_r, bit_and, bit_or, or_zero_l, or_zero_r}
use borrow.Rule.Slice.PartMut.{put_mid}
use Rattle.replay_scope.specs.Lines.{glyph, last_digits, line_text, sixteen}
use Rattle.replay_digits.specs.Words.{glyphs_of, of_bytes}
use Rattle.replay_digits.proofs.WordLaws.{Bytes, ands, and_bytes, glyphs_eight}
use Rattle.replay_output.specs.Put.{Put, put_at}
use Rattle.replay_output.specs.PutLaws.{line_put, put_length, put_none, put_one, put_put}
use Rattle.replay_output.specs.Eight.{bytes_of, spread_of}

-- the bytes of the number that a list of bytes makes are the list
bytes_back : (l : List ℕ) → Bytes l → bytes_of (length l) (of_bytes l) ≡ l
unfolding bytes_of of_bytes
bytes_back [] h = refl
bytes_back (b ∷ l) h =
    let i : b < 256 = h.0 in
    let r : (of_bytes l * 256 + b) % 256 ≡ b = omega arith in
    let q : (of_bytes l * 256 + b) / 256 ≡ of_bytes l = omega arith in
    rw (r, q, bytes_back l h.1)

-- OR, byte by byte
abbrev ors : List ℕ → List ℕ → List ℕ
ors [] m = m
ors (b ∷ l) [] = b ∷ l
ors (b ∷ l) (c ∷ m) = bit_or b c ∷ ors l m

or_bytes : (l m : List ℕ) → Bytes l → Bytes m → bit_or (of_bytes l) (of_bytes m) ≡ of_bytes (ors l m)
unfolding of_bytes
or_bytes [] m h i = or_zero_l (of_bytes m)
or_bytes (b ∷ l) [] h i = or_zero_r (of_bytes l * 256 + b)
or_bytes (b ∷ l) (c ∷ m) h i =
    or_block 8 (of_bytes l) (of_bytes m) b c h.0 i.0
    ∙ ap (λ (n : ℕ). n * 256 + bit_or b c) (or_bytes l m h.1 i.1)

-- each is a byte again
ors_bytes : (l m : List ℕ) → Bytes l → Bytes m → Bytes (ors l m)
ors_bytes [] m h i = i
ors_bytes (b ∷ l) [] h i = h
ors_bytes (b ∷ l) (c ∷ m) h i = (or_lt 8 b c h.0 i.0, ors_bytes l m h.1 i.1)

-- what a mask leaves of it
mask_bytes : (u v : ℕ) (l m n : List ℕ) → u ≡ of_bytes l → v ≡ of_bytes m → Bytes l → Bytes m → Bytes n → bit_and (bit_or u v) (of_bytes n) ≡ of_bytes (ands (ors l m) n)
mask_bytes u v l m n e f h i j = rw (e, f, or_bytes l m h i) (and_bytes (ors l m) n (ors_bytes l m h i) j)

-- masks that leave a byte, the low digit of two in a byte, and a digit
low_byte : (x : ℕ) → bit_and (x % 256) 255 ≡ x % 256
low_byte x = and_mask (x % 256) 8 ∙ omega arith

low_or : (a b : ℕ) → bit_and (bit_or (a * 16) (b % 256)) 15 ≡ b % 16
low_or a b =
    let z : a * 16 % 16 ≡ 0 = omega arith in
    let m : b % 256 % 16 ≡ b % 16 = omega arith in
    and_mask (bit_or (a * 16) (b % 256)) 4 ∙ or_mod (a * 16) (b % 256) 4 ∙ rw (z, or_zero_l (b % 256 % 16)) m

low_four : (x : ℕ) → bit_and (x % 16) 15 ≡ x % 16
low_four x = and_mask (x % 16) 4 ∙ omega arith

-- two bytes in each four, each brought into its own two
module _ (x y : ℕ) where
  abbrev fours : ℕ
  fours = x % 65536 + y % 65536 * 0x100000000

  pairs_of_lem : bit_and (bit_or (fours / 256) (fours * 65536)) 0x00ff00ff00ff00ff ≡ of_bytes (x / 256 % 256 ∷ 0 ∷ x % 256 ∷ 0 ∷ y / 256 % 256 ∷ 0 ∷ y % 256 ∷ 0 ∷ [])
  unfolding of_bytes
  pairs_of_lem =
      mask_bytes (fours / 256) (fours * 65536)
      (x / 256 % 256 ∷ 0 ∷ 0 ∷ y % 256 ∷ y / 256 % 256 ∷ 0 ∷ 0 ∷ 0 ∷ [])
      (0 ∷ 0 ∷ x % 256 ∷ x / 256 % 256 ∷ 0 ∷ 0 ∷ y % 256 ∷ y / 256 % 256 ∷ [])
      (255 ∷ 0 ∷ 255 ∷ 0 ∷ 255 ∷ 0 ∷ 255 ∷ 0 ∷ [])
      (omega arith) (omega arith) (search arith) (search arith) (search arith)
      ∙ simp (or_zero_l, or_zero_r, and_zero_r, low_byte)

-- a byte by its digits
two_digits : (x : ℕ) → x % 256 ≡ x / 16 % 16 * 16 + x % 16
two_digits x = omega arith

-- each byte of four, which have a byte 0 behind them, as its two digits
module _ (p q r s : ℕ) where
  abbrev pairs : ℕ
  pairs = of_bytes (p % 256 ∷ 0 ∷ q % 256 ∷ 0 ∷ r % 256 ∷ 0 ∷ s % 256 ∷ 0 ∷ [])

  abbrev values : List ℕ
  values = p / 16 % 16 ∷ p % 16 ∷ q / 16 % 16 ∷ q % 16 ∷ r / 16 % 16 ∷ r % 16 ∷ s / 16 % 16 ∷ s % 16 ∷ []

  values_of : bit_and (bit_or (pairs / 16) (pairs * 256)) 0x0f0f0f0f0f0f0f0f ≡ of_bytes values
  unfolding of_bytes
  values_of =
      mask_bytes (pairs / 16) (pairs * 256)
      (p / 16 % 16 ∷ q % 16 * 16 ∷ q / 16 % 16 ∷ r % 16 * 16 ∷ r / 16 % 16 ∷ s % 16 * 16 ∷ s / 16 % 16 ∷ 0 ∷ [])
      (0 ∷ p % 256 ∷ 0 ∷ q % 256 ∷ 0 ∷ r % 256 ∷ 0 ∷ s % 256 ∷ [])
      (15 ∷ 15 ∷ 15 ∷ 15 ∷ 15 ∷ 15 ∷ 15 ∷ 15 ∷ [])
      (omega (arith, two_digits p, two_digits q, two_digits r, two_digits s)) (omega arith) (search arith) (search arith) (search arith)
      ∙ simp (or_zero_r, low_four, low_or, low_or 0 s)

glyph_by_lem : (d : ℕ) → (t : Bool) → ltb (d % 16) 10 ≡ t → glyph (d % 16) < 256
glyph_by_lem d true e = rw e (omega arith)
glyph_by_lem d false e = rw e (omega arith)

-- a digit's text is a byte
glyph_byte : (d : ℕ) → glyph (d % 16) < 256
glyph_byte d = glyph_by_lem d (ltb (d % 16) 10) refl

-- the bytes of the digits of four bytes' values are those bytes' digits
values_bytes : (p q r s : ℕ) → bytes_of 8 (glyphs_of (of_bytes (values p q r s))) ≡ last_digits 2 p ++ (last_digits 2 q ++ (last_digits 2 r ++ last_digits 2 s))
values_bytes p q r s =
    ap (bytes_of 8) (glyphs_eight (p / 16 % 16) (p % 16) (q / 16 % 16) (q % 16) (r / 16 % 16) (r % 16) (s / 16 % 16) (s % 16)
    (omega arith) (omega arith) (omega arith) (omega arith) (omega arith) (omega arith) (omega arith) (omega arith))
    ∙ bytes_back (last_digits 2 p ++ (last_digits 2 q ++ (last_digits 2 r ++ last_digits 2 s)))
    (glyph_byte (p / 16), (glyph_byte p, (glyph_byte (q / 16), (glyph_byte q, (glyph_byte (r / 16), (glyph_byte r, (glyph_byte (s / 16), (glyph_byte s, tt))))))))

-- a number's last eight digits, pair by pair
spread_values : (v : ℕ) → spread_of v ≡ of_bytes (values (v / 65536 / 256) (v / 65536) (v / 256) v)
unfolding spread_of
spread_values v = rw (pairs_of_lem (v / 65536) v) (values_of (v / 65536 / 256) (v / 65536) (v / 256) v)

-- the bytes of the digits of a number's last eight digits' values are these digits
eight_digits_lem : (v : ℕ) → bytes_of 8 (glyphs_of (spread_of v)) ≡ last_digits 8 v
eight_digits_lem v =
    ap (λ (w : ℕ). bytes_of 8 (glyphs_of w)) (spread_values v)
    ∙ values_bytes (v / 65536 / 256) (v / 65536) (v / 256) v
    ∙ simp div-div-eq-div-mul

-- so are those that are written
pub eight_put : (out late : List ℕ) (at v u w : ℕ) → u ≡ spread_of v → w ≡ glyphs_of u → late ≡ put_at out at (bytes_of 8 w) → late ≡ put_at out at (last_digits 8 v)
eight_put out late at v u w e f g = g ∙ ap (put_at out at) (rw (f, e) (eight_digits_lem v))

-- bytes stored one after the other
abbrev stored : List ℕ → ℕ → List ℕ → List ℕ
stored out at [] = out
stored out at (b ∷ l) = stored (set out at b) (at + 1) l

-- they are a text that is written
stored_put : (out : List ℕ) (at : ℕ) (l : List ℕ) → at + length l ≤ length out → stored out at l ≡ put_at out at l
stored_put out at [] h = put_none out at
stored_put out at (b ∷ l) h =
    let n : length (set out at b) ≡ length out = length-set out at b in
    let i : at < length out = omega arith in
    let j : at + 1 ≤ length out = omega arith in
    stored_put (set out at b) (at + 1) l (omega arith) ∙ rw (put_one out at b i) (put_put out at (b ∷ []) l j)

-- four bytes of a number
pub four_put : (out : List ℕ) (at w : ℕ) → at + 4 ≤ length out
    → set (set (set (set out at (w % 256)) (at + 1) (w / 0x100 % 256)) (at + 2) (w / 0x10000 % 256)) (at + 3) (w / 0x1000000 % 256) ≡ put_at out at (bytes_of 4 w)
unfolding bytes_of
four_put out at w h =
    let l : List ℕ = w % 256 ∷ w / 256 % 256 ∷ w / 256 / 256 % 256 ∷ w / 256 / 256 / 256 % 256 ∷ [] in
    simp div-div-eq-div-mul (simp (div-div-eq-div-mul, add_assoc) at (stored_put out at l h))

-- a text that is written in two parts
two_put : (out mid late : List ℕ) (at : ℕ) (t u : List ℕ) → at + length t ≤ length out → mid ≡ put_at out at t → late ≡ put_at mid (at + length t) u → late ≡ put_at out at (t ++ u)
two_put out mid late at t u h f g = g ∙ rw f (put_put out at t u h)

-- eight bytes are four and four
pub bytes_put : (out mid late : List ℕ) (at w : ℕ) → at + 8 ≤ length out → mid ≡ put_at out at (bytes_of 4 w) → late ≡ put_at mid (at + 4) (bytes_of 4 (w / 0x100000000))
    → late ≡ put_at out at (bytes_of 8 w)
unfolding bytes_of
bytes_put out mid late at w h f g = two_put out mid late at (bytes_of 4 w) (bytes_of 4 (w / 0x100000000)) (omega arith) f g ∙ ap (put_at out at) (simp div-div-eq-div-mul)

-- sixteen digits are eight and eight
pub digits_put : (out mid late : List ℕ) (at v : ℕ) → at + 16 ≤ length out → mid ≡ put_at out at (last_digits 8 (v / 0x100000000)) → late ≡ put_at mid (at + 8) (last_digits 8 v)
    → late ≡ put_at out at (sixteen v)
unfolding sixteen
digits_put out mid late at v h f g = two_put out mid late at (last_digits 8 (v / 0x100000000)) (last_digits 8 v) (omega arith) f g ∙ ap (put_at out at) (simp div-div-eq-div-mul)

-- the bytes that the library makes of a number are its eight lowest
le_bytes : (w : ℕ) → to_le_bytes w64 w ≡ bytes_of 8 w
unfolding bytes_of
le_bytes w = simp div-div-eq-div-mul

-- so those of a number's last eight digits are these digits
pub eight_is : (v u w : ℕ) (l : List ℕ) → u ≡ spread_of v → w ≡ glyphs_of u → l ≡ to_le_bytes w64 w → l ≡ last_digits 8 v
eight_is v u w l e f g = g ∙ le_bytes w ∙ rw (f, e) (eight_digits_lem v)

-- a part that is copied is a text that is written
pub part_put : (out : List ℕ) (at e : ℕ) (l t : List ℕ) → l ≡ t → e ≡ at + length t → put_mid at (e - at) out l ≡ put_at out at t
unfolding put_at
part_put out at e l t f n =
    let k : at + (e - at) ≡ at + length t = omega arith in
    ap (put_mid at (e - at) out) f ∙ ap (λ (r : List ℕ). take at out ++ (t ++ r)) (drop-drop (e - at) at out ∙ ap (λ (i : ℕ). drop i out) k)

-- a key, eight digits, eight more and LF are a line
pub parts_put : (out o₁ o₂ o₃ : List ℕ) (at v : ℕ) (key : List ℕ) → at + length key + 17 ≤ length out → o₁ ≡ put_at out at key
    → o₂ ≡ put_at o₁ (at + length key) (last_digits 8 (v / 0x100000000)) → o₃ ≡ put_at o₂ (at + length key + 8) (last_digits 8 v)
    → Put out at (line_text key v) (at + length key + 8 + 8 + 1) (set o₃ (at + length key + 8 + 8) 10)
parts_put out o₁ o₂ o₃ at v key h e f g =
    let m : length o₁ ≡ length out = ap length e ∙ put_length out at key (omega arith) in
    let n : at + length key + 16 ≡ at + length key + 8 + 8 = omega arith in
    subst (λ (i : ℕ). Put out at (line_text key v) (i + 1) (set o₃ i 10)) n
    (line_put out o₁ o₃ at v key h e (digits_put o₁ o₂ o₃ (at + length key) v (omega arith) f g))

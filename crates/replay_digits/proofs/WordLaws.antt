-- Laws of eight bytes in one number: what is done to the number is done to each byte, and no byte touches another.
use Rattle.std.specs.Prelude.{ℕ, ◌+◌, ◌-◌, ◌*◌, ◌/◌, ◌%◌, ◌^◌, ◌<◌, ◌≡◌, get_or}
use Rattle.std.proofs.Math.Nat.{add-mul}
use Rattle.std.proofs.Common.{mul-div_cancel, mul_right_comm, sym, ap, ◌∙◌}
use native.Mathlib.Omega.{arith}
use mathlib.Core.List.{List, [], ◌∷◌, map}
use Rattle.std.proofs.Math.Path.{refl}
use Rattle.std.proofs.lemmas.Nat.{and_block, and_mask}
use Rattle.std.proofs.lemmas.Nat.Bits.{and_high}
use Rattle.std.specs.Int.Bits.{and_zero_l, and_zero_r, bit_and}
use Rattle.replay_scope.specs.Lines.{glyph}
use Rattle.replay_scope.specs.TableLaws.{tabled, tabled_at}
use Rattle.replay_digits.specs.Words.{fours_of, glyph_by, glyphs_of, in_each, letter_gap, letter_lack, of_bytes, pack_of, pairs_of, to_sixteen, value_by, values_of, zero_at}

-- each number of a list is a byte
abbrev pub Bytes : List ℕ → Type 0
Bytes [] = Unit
Bytes (b ∷ l) = (b < 256) × Bytes l

-- AND, byte by byte
abbrev pub ands : List ℕ → List ℕ → List ℕ
ands [] m = []
ands (b ∷ l) [] = []
ands (b ∷ l) (c ∷ m) = bit_and b c ∷ ands l m

pub and_bytes : (l m : List ℕ) → Bytes l → Bytes m → bit_and (of_bytes l) (of_bytes m) ≡ of_bytes (ands l m)
unfolding of_bytes
and_bytes [] m h i = and_zero_l (of_bytes m)
and_bytes (b ∷ l) [] h i = and_zero_r (of_bytes l * 256 + b)
and_bytes (b ∷ l) (c ∷ m) h i =
    and_block 8 (of_bytes l) (of_bytes m) b c h.0 i.0
    ∙ ap (λ (n : ℕ). n * 256 + bit_and b c) (and_bytes l m h.1 i.1)

-- the number whose bytes are those of a list, each by f
abbrev pub each : (ℕ → ℕ) → List ℕ → ℕ
each f l = of_bytes (map f l)

module _ (f g : ℕ → ℕ) where
  each_add : (l : List ℕ) → each f l + each g l ≡ each (λ b. f b + g b) l
  unfolding of_bytes
  each_add [] = refl
  each_add (b ∷ l) = let e : each f l + each g l ≡ each (λ b. f b + g b) l = each_add l in omega arith

  each_same : ((b : ℕ) → f b ≡ g b) → (l : List ℕ) → each f l ≡ each g l
  unfolding of_bytes
  each_same e [] = refl
  each_same e (b ∷ l) = rw (e b, each_same e l)

module _ (f : ℕ → ℕ) (c : ℕ) where
  each_mul : (l : List ℕ) → each f l * c ≡ each (λ b. f b * c) l
  unfolding of_bytes
  each_mul [] = omega arith
  each_mul (b ∷ l) = add-mul (each f l * 256) (f b) c ∙ rw (mul_right_comm (each f l) 256 c, each_mul l)

  each_div : 0 < c → (l : List ℕ) → each (λ b. f b * c) l / c ≡ each f l
  each_div p l = ap (λ (n : ℕ). n / c) (sym (each_mul l)) ∙ mul-div_cancel (each f l) p

each_bytes : (f : ℕ → ℕ) → ((b : ℕ) → f b < 256) → (l : List ℕ) → Bytes (map f l)
each_bytes f h [] = tt
each_bytes f h (b ∷ l) = (h b, each_bytes f h l)

each_ands : (f : ℕ → ℕ) (m : ℕ) (l : List ℕ) → ands (map f l) (map (λ b. m) l) ≡ map (λ b. bit_and (f b) m) l
each_ands f m [] = refl
each_ands f m (b ∷ l) = ap (λ (r : List ℕ). bit_and (f b) m ∷ r) (each_ands f m l)

each_and : (f : ℕ → ℕ) (m : ℕ) → ((b : ℕ) → f b < 256) → m < 256 → (l : List ℕ)
    → bit_and (each f l) (each (λ b. m) l) ≡ each (λ b. bit_and (f b) m) l
each_and f m h i l =
    and_bytes (map f l) (map (λ b. m) l) (each_bytes f h l) (each_bytes (λ b. m) (λ b. i) l)
    ∙ ap of_bytes (each_ands f m l)

-- a list of bytes is each of them as it is
each_byte : (l : List ℕ) → Bytes l → of_bytes l ≡ each (λ b. b % 256) l
unfolding of_bytes
each_byte [] h = refl
each_byte (b ∷ l) h =
    let e : of_bytes l ≡ each (λ b. b % 256) l = each_byte l h.1 in
    let i : b < 256 = h.0 in
    omega arith

-- one bit of each byte, by a mask that has it alone
each_bit : (k m : ℕ) → m ≡ 2 ^ (1 + k) - 2 ^ k → m < 256 → 0 < 2 ^ k → (f : ℕ → ℕ) → ((b : ℕ) → f b < 256) → (l : List ℕ)
    → bit_and (each f l) (each (λ b. m) l) / 2 ^ k ≡ each (λ b. f b / 2 ^ k % 2) l
each_bit k m e i p f h l =
    ap (λ (n : ℕ). n / 2 ^ k) (each_and f m h i l ∙ each_same _ _ (λ b. ap (bit_and (f b)) e ∙ and_high (f b) 1 k) l)
    ∙ each_div (λ b. f b / 2 ^ k % 2) (2 ^ k) p l

-- the low four bits of each
each_low : (f : ℕ → ℕ) → ((b : ℕ) → f b < 256) → (l : List ℕ) → bit_and (each f l) (each (λ b. 15) l) ≡ each (λ b. f b % 16) l
each_low f h l = each_and f 15 h (omega arith) l ∙ each_same _ _ (λ b. and_mask (f b) 4) l

-- eight bytes
abbrev pub eight : ℕ → ℕ → ℕ → ℕ → ℕ → ℕ → ℕ → ℕ → List ℕ
eight a b c d e f g h = a ∷ b ∷ c ∷ d ∷ e ∷ f ∷ g ∷ h ∷ []

-- eight numbers below 256
pub eight_bytes : {a b c d e f g h : ℕ} → a < 256 → b < 256 → c < 256 → d < 256 → e < 256 → f < 256 → g < 256 → h < 256 → Bytes (eight a b c d e f g h)
eight_bytes i j k l m n o p = (i, (j, (k, (l, (m, (n, (o, (p, tt))))))))

module _ (a b c d e f g h : ℕ) where
  abbrev all : List ℕ
  all = eight a b c d e f g h

  -- values_of and glyphs_of, byte by byte
  pub values_each : Bytes all → values_of (of_bytes all) ≡ each value_by all
  unfolding values_of of_bytes
  values_each i =
      let w : of_bytes all ≡ each (λ b. b % 256) all = each_byte all i in
      let k : ((b : ℕ) → b % 256 < 256) = λ b. omega arith in
      let low : bit_and (each (λ b. b % 256) all) (in_each 15) ≡ each (λ b. b % 256 % 16) all = each_low _ k all in
      let bit : bit_and (each (λ b. b % 256) all) (in_each 64) / 64 ≡ each (λ b. b % 256 / 64 % 2) all =
      each_bit 6 64 refl (omega arith) (omega arith) _ k all
      in
      rw (w, low, bit, each_mul (λ b. b % 256 / 64 % 2) letter_lack all, each_add (λ b. b % 256 % 16) (λ b. b % 256 / 64 % 2 * letter_lack) all)

  pub glyphs_each : (t : ℕ → ℕ) → ((b : ℕ) → t b < 256) → glyphs_of (each t all) ≡ each (λ b. glyph_by (t b)) all
  unfolding glyphs_of of_bytes
  glyphs_each t i =
      let k : ((b : ℕ) → t b % 16 + to_sixteen < 256) = λ b. omega arith in
      let low : bit_and (each t all) (in_each 15) ≡ each (λ b. t b % 16) all = each_low t i all in
      let ten : each (λ b. t b % 16) all + in_each to_sixteen ≡ each (λ b. t b % 16 + to_sixteen) all = each_add (λ b. t b % 16) (λ b. to_sixteen) all in
      let zero : each (λ b. t b % 16) all + in_each zero_at ≡ each (λ b. t b % 16 + zero_at) all = each_add (λ b. t b % 16) (λ b. zero_at) all in
      let bit : bit_and (each (λ b. t b % 16 + to_sixteen) all) (in_each 16) / 16 ≡ each (λ b. (t b % 16 + to_sixteen) / 16 % 2) all =
      each_bit 4 16 refl (omega arith) (omega arith) _ k all
      in
      rw (
        low,
        ten,
        zero,
        bit,
        each_mul (λ b. (t b % 16 + to_sixteen) / 16 % 2) letter_gap all,
        each_add (λ b. t b % 16 + zero_at) (λ b. (t b % 16 + to_sixteen) / 16 % 2 * letter_gap) all,
      )

-- the number whose eight digits these are
abbrev pub eight_digits : ℕ → ℕ → ℕ → ℕ → ℕ → ℕ → ℕ → ℕ → ℕ
eight_digits a b c d e f g h = ((((((a * 16 + b) * 16 + c) * 16 + d) * 16 + e) * 16 + f) * 16 + g) * 16 + h

-- the low four bits of eight bytes
lows_of : (a b c d e f g h : ℕ) → Bytes (eight a b c d e f g h)
    → bit_and (of_bytes (eight a b c d e f g h)) (in_each 15) ≡ of_bytes (eight (a % 16) (b % 16) (c % 16) (d % 16) (e % 16) (f % 16) (g % 16) (h % 16))
unfolding of_bytes
lows_of a b c d e f g h i =
    let q : 15 < 256 = omega arith in
    and_bytes (eight a b c d e f g h) (eight 15 15 15 15 15 15 15 15) i (eight_bytes q q q q q q q q)
    ∙ rw (and_mask a 4, and_mask b 4, and_mask c 4, and_mask d 4, and_mask e 4, and_mask f 4, and_mask g 4, and_mask h 4)

-- a mask that leaves a byte
and_byte : (b : ℕ) → b < 256 → bit_and b 255 ≡ b
and_byte b h = and_mask b 8 ∙ omega arith

-- two digits side by side, in each pair of bytes
pairs_of_lem : (a b c d e f g h : ℕ) → a < 16 → b < 16 → c < 16 → d < 16 → e < 16 → f < 16 → g < 16 → h < 16
    → bit_and (of_bytes (eight a b c d e f g h) * 16 + of_bytes (eight a b c d e f g h) / 256) 0x00ff00ff00ff00ff
    ≡ of_bytes (eight (a * 16 + b) 0 (c * 16 + d) 0 (e * 16 + f) 0 (g * 16 + h) 0)
unfolding of_bytes
pairs_of_lem a b c d e f g h i j k l m n o p =
    let s : of_bytes (eight a b c d e f g h) * 16 + of_bytes (eight a b c d e f g h) / 256
    ≡ of_bytes (eight (a * 16 + b) (b * 16 + c) (c * 16 + d) (d * 16 + e) (e * 16 + f) (f * 16 + g) (g * 16 + h) (h * 16)) =
    omega arith
    in
    let z : 0 < 256 = omega arith in
    let q : 255 < 256 = omega arith in
    rw s
    (and_bytes (eight (a * 16 + b) (b * 16 + c) (c * 16 + d) (d * 16 + e) (e * 16 + f) (f * 16 + g) (g * 16 + h) (h * 16)) (eight 255 0 255 0 255 0 255 0)
    (eight_bytes (omega arith) (omega arith) (omega arith) (omega arith) (omega arith) (omega arith) (omega arith) (omega arith))
    (eight_bytes q z q z q z q z)
    ∙ rw (
      and_byte (a * 16 + b) (omega arith),
      and_zero_r (b * 16 + c),
      and_byte (c * 16 + d) (omega arith),
      and_zero_r (d * 16 + e),
      and_byte (e * 16 + f) (omega arith),
      and_zero_r (f * 16 + g),
      and_byte (g * 16 + h) (omega arith),
      and_zero_r (h * 16),
    ))

-- two pairs side by side, in each four bytes
fours_of_lem : (a c e g : ℕ) → a < 256 → c < 256 → e < 256 → g < 256 → fours_of (of_bytes (eight a 0 c 0 e 0 g 0)) ≡ a * 256 + c + (e * 256 + g) * 0x100000000
unfolding of_bytes
fours_of_lem a c e g i j k l =
    let s : of_bytes (eight a 0 c 0 e 0 g 0) * 256 + of_bytes (eight a 0 c 0 e 0 g 0) / 65536 ≡ of_bytes (eight c a e c g e 0 g) = omega arith in
    let z : 0 < 256 = omega arith in
    let q : 255 < 256 = omega arith in
    rw s
    (and_bytes (eight c a e c g e 0 g) (eight 255 255 0 0 255 255 0 0) (eight_bytes j i k j l k z l) (eight_bytes q q z z q q z z)
    ∙ rw (and_byte c j, and_byte a i, and_zero_r e, and_zero_r c, and_byte g l, and_byte e k, and_zero_r g) (omega arith))

-- both fours
fours_packed : (x y n : ℕ) → x < 65536 → y < 65536 → n ≡ x + y * 0x100000000 → (n * 65536 + n / 0x100000000) % 0x100000000 ≡ x * 65536 + y
fours_packed x y n i j e =
    let high : n / 0x100000000 ≡ y = omega arith in
    rw high (omega arith)

-- the number that eight values make
pub pack_eight : (a b c d e f g h : ℕ) → Bytes (eight a b c d e f g h)
    → pack_of (of_bytes (eight a b c d e f g h)) ≡ eight_digits (a % 16) (b % 16) (c % 16) (d % 16) (e % 16) (f % 16) (g % 16) (h % 16)
unfolding pack_of
pack_eight a b c d e f g h i =
    let m : ((x : ℕ) → x % 16 < 16) = λ x. omega arith in
    let p : pairs_of (of_bytes (eight a b c d e f g h))
    ≡ of_bytes (eight (a % 16 * 16 + b % 16) 0 (c % 16 * 16 + d % 16) 0 (e % 16 * 16 + f % 16) 0 (g % 16 * 16 + h % 16) 0) =
    rw (lows_of a b c d e f g h i)
    (pairs_of_lem (a % 16) (b % 16) (c % 16) (d % 16) (e % 16) (f % 16) (g % 16) (h % 16) (m a) (m b) (m c) (m d) (m e) (m f) (m g) (m h))
    in
    rw p
    (fours_packed ((a % 16 * 16 + b % 16) * 256 + (c % 16 * 16 + d % 16)) ((e % 16 * 16 + f % 16) * 256 + (g % 16 * 16 + h % 16)) _ (omega arith) (omega arith)
    (fours_of_lem (a % 16 * 16 + b % 16) (c % 16 * 16 + d % 16) (e % 16 * 16 + f % 16) (g % 16 * 16 + h % 16) (omega arith) (omega arith) (omega arith) (omega arith))
    ∙ omega arith)

-- pack_of is below 2^32, whatever the bytes are
pub pack_below : (v : ℕ) → pack_of v < 0x100000000
unfolding pack_of
pack_below v = omega arith

-- a digit's byte
all_glyphs : tabled (λ d. glyph_by (d % 256)) 16 ≡ tabled glyph 16
unfolding tabled
all_glyphs = refl

glyph_by_lem : (d : ℕ) → d < 16 → glyph_by (d % 256) ≡ glyph d
glyph_by_lem d h = sym (tabled_at (λ d. glyph_by (d % 256)) 16 d h) ∙ ap (λ (l : List ℕ). get_or l d 0) all_glyphs ∙ tabled_at glyph 16 d h

-- eight digits' values give eight digits' bytes
pub glyphs_eight : (a b c d e f g h : ℕ) → a < 16 → b < 16 → c < 16 → d < 16 → e < 16 → f < 16 → g < 16 → h < 16
    → glyphs_of (of_bytes (a ∷ b ∷ c ∷ d ∷ e ∷ f ∷ g ∷ h ∷ []))
    ≡ of_bytes (glyph a ∷ glyph b ∷ glyph c ∷ glyph d ∷ glyph e ∷ glyph f ∷ glyph g ∷ glyph h ∷ [])
glyphs_eight a b c d e f g h i j k l m n o p =
    let w : Bytes (eight a b c d e f g h) =
    eight_bytes (omega arith) (omega arith) (omega arith) (omega arith) (omega arith) (omega arith) (omega arith) (omega arith)
    in
    ap glyphs_of (each_byte (eight a b c d e f g h) w)
    ∙ glyphs_each a b c d e f g h (λ b. b % 256) (λ b. omega arith)
    ∙ rw (glyph_by_lem a i, glyph_by_lem b j, glyph_by_lem c k, glyph_by_lem d l, glyph_by_lem e m, glyph_by_lem f n, glyph_by_lem g o, glyph_by_lem h p)

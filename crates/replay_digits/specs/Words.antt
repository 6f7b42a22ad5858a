-- Eight bytes as one number, and what is done to all of them at once: the inside of the digit reader, and of what writes
-- digits. 02, W3. What values_of and glyphs_of do to one byte stands below them; WordLaws proves that they do it to each, and
-- that no byte touches another.
use Rattle.std.specs.Prelude.{ℕ, ◌+◌, ◌*◌, ◌/◌, ◌%◌, List, [], ◌∷◌}
use Rattle.std.specs.Int.Bits.{bit_and}

-- the number whose bytes are a list's, the first of them the lowest
unfoldable pub of_bytes : List ℕ → ℕ
of_bytes [] = 0
of_bytes (b ∷ l) = of_bytes l * 256 + b

-- a byte in each of eight places
abbrev pub in_each : ℕ → ℕ
in_each b = b * 0x0101010101010101

-- 01, Replay program: 0 to 9 stand from 48 on, a to f from 97 on. The four numbers by which a digit and its byte are told:
-- the byte of 0; how far a stands behind the byte after 9; how much a letter's low four bits lack; what makes ten sixteen
abbrev pub zero_at : ℕ
zero_at = 48

abbrev pub letter_gap : ℕ
letter_gap = 39

abbrev pub letter_lack : ℕ
letter_lack = 9

abbrev pub to_sixteen : ℕ
to_sixteen = 6

-- of each byte its low four bits, and what they lack if bit 6 is set, as it is in a letter's byte and in no digit's from 0 to 9
unfoldable pub values_of : ℕ → ℕ
values_of w = bit_and w (in_each 15) + bit_and w (in_each 64) / 64 * letter_lack

-- the same of one byte; of a number above 255, of its low byte, so that laws need no bound
abbrev pub value_by : ℕ → ℕ
value_by b = b % 256 % 16 + b % 256 / 64 % 2 * letter_lack

-- of each byte the digit of its low four bits: a letter's from ten on, where to_sixteen more sets bit 4
unfoldable pub glyphs_of : ℕ → ℕ
glyphs_of v =
    bit_and v (in_each 15)
    + in_each zero_at
    + bit_and (bit_and v (in_each 15) + in_each to_sixteen) (in_each 16) / 16 * letter_gap

-- the same of one byte
abbrev pub glyph_by : ℕ → ℕ
glyph_by v = v % 16 + zero_at + (v % 16 + to_sixteen) / 16 % 2 * letter_gap

-- eight digits' values, of each its low four bits, side by side: two in each pair of bytes, four in each four bytes, all eight
abbrev pub pairs_of : ℕ → ℕ
pairs_of v = bit_and (bit_and v (in_each 15) * 16 + bit_and v (in_each 15) / 256) 0x00ff00ff00ff00ff

abbrev pub fours_of : ℕ → ℕ
fours_of p = bit_and (p * 256 + p / 65536) 0x0000ffff0000ffff

unfoldable pub pack_of : ℕ → ℕ
pack_of v = (fours_of (pairs_of v) * 65536 + fours_of (pairs_of v) / 0x100000000) % 0x100000000

-- Eight digits as one number, a byte each: the inside of what writes a line. EightLaws says that they are a number's last.
use Rattle.std.specs.Prelude.{ℕ, zero, suc, ◌+◌, ◌*◌, ◌/◌, ◌%◌, List, [], ◌∷◌}
use Rattle.std.specs.Int.Bits.{bit_and, bit_or}

-- a number's last eight digits: the first four in the low half
abbrev pub fours_apart : ℕ → ℕ
fours_apart v = v / 65536 % 65536 + v % 65536 * 0x100000000

-- the first pair of each four in the four's low half
abbrev pub pairs_apart : ℕ → ℕ
pairs_apart v = bit_and (bit_or (fours_apart v / 256) (fours_apart v * 65536)) 0x00ff00ff00ff00ff

-- the first of each pair in the pair's low byte: a byte for each digit's value
unfoldable pub spread_of : ℕ → ℕ
spread_of v = bit_and (bit_or (pairs_apart v / 16) (pairs_apart v * 256)) 0x0f0f0f0f0f0f0f0f

-- the n lowest bytes of a number, the lowest first
unfoldable pub bytes_of : ℕ → ℕ → List ℕ
bytes_of zero w = []
bytes_of (suc n) w = w % 256 ∷ bytes_of n (w / 256)

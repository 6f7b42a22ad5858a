-- The number that hex digits spell, byte by byte, and the bytes that a number has. (The definitions of replay say the same of a capture; what
-- holds the lists has its own.)
use Rattle.std.specs.Prelude.{ℕ, ◌+◌, ◌*◌, ◌-◌, ◌/◌, ◌%◌, Bool, ltb, ◌==◌, ◌&&◌, if◌then◌else◌}

-- 0 to 9 stand from 48 on and a to f from 97 on; of other bytes, some number below 16
abbrev pub spelled_digit : ℕ → ℕ
spelled_digit b = if ltb b 97 then b % 16 else (b - 87) % 16

-- one digit more behind a number, in 64 bits
abbrev pub with_digit : ℕ → ℕ → ℕ
with_digit n b = n % 0x1000000000000000 * 16 + spelled_digit b

-- the byte of a digit
abbrev pub digit_byte : ℕ → ℕ
digit_byte d = if ltb d 10 then 48 + d else 87 + d

-- a number without its last digit, and whether this byte is that digit, as those behind it were
abbrev pub digit_said : ℕ × Bool → ℕ → ℕ × Bool
digit_said s b = (s.0 / 16, s.1 && b == digit_byte (s.0 % 16))

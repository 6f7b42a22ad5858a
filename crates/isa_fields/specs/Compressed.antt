-- The fields of a 16-bit instruction word. ISA, '"C" Standard Extension for Compressed Instructions', 'Compressed Instruction
-- Formats'; 02, W2. The rd of format CI is bits 11..7, as in a 32-bit word: rd_field.
use Rattle.std.specs.Prelude.{ℕ, ◌+◌, ◌/◌, ◌%◌, ◌^◌}

-- bits 1..0, op: the quadrant of the RVC opcode map
unfoldable pub quadrant_field : ℕ → ℕ
quadrant_field w = w % 2 ^ 2

-- bits 15..13, funct3
unfoldable pub c_funct3_field : ℕ → ℕ
c_funct3_field w = w / 2 ^ 13 % 2 ^ 3

-- bits 4..2, rd' of format CL and rs2' of format CS: 000 to 111 are x8 to x15
unfoldable pub prime_field : ℕ → ℕ
prime_field w = 8 + w / 2 ^ 2 % 2 ^ 3

-- bits 6..2, rs2 of format CSS
unfoldable pub c_rs2_field : ℕ → ℕ
c_rs2_field w = w / 2 ^ 2 % 2 ^ 5

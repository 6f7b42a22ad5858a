-- The fields of a 32-bit instruction word. ISA, 'Base Instruction Formats': R, I and S types.
use Rattle.std.specs.Prelude.{ℕ, ◌/◌, ◌%◌, ◌^◌}

-- bits 6..0
unfoldable pub opcode_field : ℕ → ℕ
opcode_field w = w % 2 ^ 7

-- bits 11..7
unfoldable pub rd_field : ℕ → ℕ
rd_field w = w / 2 ^ 7 % 2 ^ 5

-- bits 14..12
unfoldable pub funct3_field : ℕ → ℕ
funct3_field w = w / 2 ^ 12 % 2 ^ 3

-- bits 19..15
unfoldable pub rs1_field : ℕ → ℕ
rs1_field w = w / 2 ^ 15 % 2 ^ 5

-- bits 24..20
unfoldable pub rs2_field : ℕ → ℕ
rs2_field w = w / 2 ^ 20 % 2 ^ 5

-- bits 31..20 of a CSR instruction. ISA, 'Zicsr'
unfoldable pub csr_field : ℕ → ℕ
csr_field w = w / 2 ^ 20 % 2 ^ 12

-- What a load writes and a store moves, for any width. ISA, 'Load and Store Instructions'.
use Rattle.std.specs.Prelude.{ℕ, ◌+◌, ◌-◌, ◌%◌, ◌^◌, Bool, nat_lt}
use Rattle.isa_types.specs.Pick.{pick}
use Rattle.isa_types.specs.declared.Width.{Width}
use Rattle.isa_types.specs.declared.Width.TheVariants as width

-- the bits of a width
unfoldable pub width_bits : Width → ℕ
width_bits width.Byte = 8
width_bits width.Half = 16
width_bits width.Word = 32
width_bits width.Double = 64

-- a number below size, read as two's complement: from half of size on it stands for itself less size,
-- and modulo 2^64 that is itself with `above` added
unfoldable pub signed_by : ℕ → ℕ → ℕ → ℕ
signed_by half above low = pick (nat_lt low half) low (low + above)

-- cut to size; extended by the sign where signed, by zeros where not
unfoldable pub extend_by : ℕ → ℕ → ℕ → Bool → ℕ → ℕ
extend_by size half above s n = pick s (signed_by half above (n % size)) (n % size)

-- the low bits of a width
unfoldable pub cut_of : Width → ℕ → ℕ
cut_of w n = n % 2 ^ width_bits w

-- a load of any width: LB, LH, LW, LD extend the top bit of what they read; LBU, LHU, LWU extend nothing
unfoldable pub extend_of : Width → Bool → ℕ → ℕ
extend_of w s n = extend_by (2 ^ width_bits w) (2 ^ (width_bits w - 1)) (2 ^ 64 - 2 ^ width_bits w) s n

-- Single bits of CSRs. PRIV, 'Hypervisor Extension': hstatus, vsstatus.
use Rattle.std.specs.Prelude.{ℕ, ◌-◌, ◌/◌, ◌%◌, ◌^◌, Bool, eqb}
use Rattle.std.specs.Int.Bits.{bit_and, bit_or}
use Rattle.isa_types.specs.Pick.{pick}

-- hstatus.SPVP, bit 8
unfoldable pub spvp_of : ℕ → Bool
spvp_of hstatus = eqb (hstatus / 2 ^ 8 % 2) 1

-- vsstatus.SIE, bit 1
unfoldable pub sie_of : ℕ → Bool
sie_of vsstatus = eqb (vsstatus / 2 ^ 1 % 2) 1

-- the bits of a mask set, or cleared
unfoldable pub with_bits : ℕ → ℕ → Bool → ℕ
with_bits n mask on = pick on (bit_or n mask) (bit_and n (2 ^ 64 - 1 - mask))

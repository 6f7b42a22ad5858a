-- The 16-bit loads and stores of general registers. ISA, '"C" Standard Extension for Compressed Instructions', 'Load and Store
-- Instructions' and the RVC opcode map of RV64; 02, W2. Each is its decoded form: C.LW is a load of a word that extends the sign, as
-- LW is. What the instruction adds to its base register shows nowhere here: the trap brings the address.
use Rattle.std.specs.Prelude.{ℕ, true, eqb}
use Rattle.isa_types.specs.Pick.{pick}
use Rattle.isa_types.specs.declared.Width.{Width}
use Rattle.isa_types.specs.declared.Width.TheVariants as width
use Rattle.isa_decoder.specs.declared.Decoded.{Decoded}
use Rattle.isa_decoder.specs.declared.Decoded.TheVariants as decoded
use Rattle.isa_fields.specs.Compressed.{quadrant_field, c_funct3_field, prime_field, c_rs2_field}
use Rattle.isa_fields.specs.Fields.{rd_field}

-- quadrant 0 by funct3, with the register rd' or rs2': 2 C.LW, 3 C.LD, 6 C.SW, 7 C.SD. 0 C.ADDI4SPN, 1 C.FLD, 4 (reserved, later
-- C.LBU, C.LHU, C.LH, C.SB, C.SH) and 5 C.FSD are neither
unfoldable pub quadrant0_of : ℕ → ℕ → Decoded
quadrant0_of f r =
    pick (eqb f 2) (decoded.Load width.Word true r)
    (pick (eqb f 3) (decoded.Load width.Double true r)
    (pick (eqb f 6) (decoded.Store width.Word r)
    (pick (eqb f 7) (decoded.Store width.Double r)
    decoded.Neither)))

-- C.LWSP and C.LDSP: "only valid when rd≠x0; the code points with rd=x0 are reserved"
unfoldable pub sp_load_of : Width → ℕ → Decoded
sp_load_of w rd = pick (eqb rd 0) decoded.Neither (decoded.Load w true rd)

-- quadrant 2 by funct3: 2 C.LWSP, 3 C.LDSP, 6 C.SWSP, 7 C.SDSP. 0 C.SLLI, 1 C.FLDSP, 4 (jumps, moves, C.ADD, C.EBREAK) and 5
-- C.FSDSP are neither. A store has no rd: bits 11..7 are of its offset. Its rs2 may be x0
unfoldable pub quadrant2_of : ℕ → ℕ → ℕ → Decoded
quadrant2_of f rd rs2 =
    pick (eqb f 2) (sp_load_of width.Word rd)
    (pick (eqb f 3) (sp_load_of width.Double rd)
    (pick (eqb f 6) (decoded.Store width.Word rs2)
    (pick (eqb f 7) (decoded.Store width.Double rs2)
    decoded.Neither)))

-- quadrant 1 has no load and no store
unfoldable pub compressed_by : ℕ → ℕ → Decoded
compressed_by quadrant w =
    pick (eqb quadrant 0) (quadrant0_of (c_funct3_field w) (prime_field w))
    (pick (eqb quadrant 2) (quadrant2_of (c_funct3_field w) (rd_field w) (c_rs2_field w))
    decoded.Neither)

-- the load or store that the low 16 bits of a word are
unfoldable pub compressed_of : ℕ → Decoded
compressed_of w = compressed_by (quadrant_field w) w

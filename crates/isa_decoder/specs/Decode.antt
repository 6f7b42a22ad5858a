-- The loads and stores of RV64I. ISA, 'Load and Store Instructions' and the opcode map: LOAD is 0x03, STORE 0x23.
use Rattle.std.specs.Prelude.{ℕ, true, false, eqb}
use Rattle.isa_types.specs.Pick.{pick}
use Rattle.isa_types.specs.declared.Width.TheVariants as width
use Rattle.isa_decoder.specs.declared.Decoded.{Decoded}
use Rattle.isa_decoder.specs.declared.Decoded.TheVariants as decoded
use Rattle.isa_fields.specs.Fields.{opcode_field, rd_field, funct3_field, rs2_field}

-- by funct3: LB, LH, LW, LD extend the sign; LBU, LHU, LWU don't; 7 is none
unfoldable pub load_of : ℕ → ℕ → Decoded
load_of f rd =
    pick (eqb f 0) (decoded.Load width.Byte true rd)
    (pick (eqb f 1) (decoded.Load width.Half true rd)
    (pick (eqb f 2) (decoded.Load width.Word true rd)
    (pick (eqb f 3) (decoded.Load width.Double true rd)
    (pick (eqb f 4) (decoded.Load width.Byte false rd)
    (pick (eqb f 5) (decoded.Load width.Half false rd)
    (pick (eqb f 6) (decoded.Load width.Word false rd)
    decoded.Neither))))))

-- by funct3: SB, SH, SW, SD; 4 to 7 are none
unfoldable pub store_of : ℕ → ℕ → Decoded
store_of f rs2 =
    pick (eqb f 0) (decoded.Store width.Byte rs2)
    (pick (eqb f 1) (decoded.Store width.Half rs2)
    (pick (eqb f 2) (decoded.Store width.Word rs2)
    (pick (eqb f 3) (decoded.Store width.Double rs2)
    decoded.Neither)))

-- LOAD and STORE by opcode
unfoldable pub decode_by : ℕ → ℕ → Decoded
decode_by opcode w =
    pick (eqb opcode 0x03) (load_of (funct3_field w) (rd_field w))
    (pick (eqb opcode 0x23) (store_of (funct3_field w) (rs2_field w))
    decoded.Neither)

-- the load or store that the low 32 bits of a word are
unfoldable pub decode_of : ℕ → Decoded
decode_of w = decode_by (opcode_field w) w

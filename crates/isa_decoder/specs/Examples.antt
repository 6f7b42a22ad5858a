-- Words of document 01's marked cases and of 02's W2, decoded.
use Rattle.std.specs.Prelude.{ℕ, true, ◌≡◌, refl}
use Rattle.isa_types.specs.declared.Width.TheVariants as width
use Rattle.isa_decoder.specs.declared.Decoded.TheVariants as decoded
use Rattle.isa_decoder.specs.declared.Trapped.TheVariants as trapped
use Rattle.isa_fields.specs.Fields.{opcode_field, rd_field, funct3_field, rs1_field, rs2_field, csr_field}
use Rattle.isa_decoder.specs.Decode.{load_of, store_of, decode_by, decode_of}
use Rattle.isa_decoder.specs.Compressed.{compressed_by, compressed_of, quadrant0_of, quadrant2_of, sp_load_of}
use Rattle.isa_decoder.specs.Length.{fetched_of, transformed_of, htinst_of}
use Rattle.isa_fields.specs.Compressed.{quadrant_field, c_funct3_field, prime_field, c_rs2_field}
use Rattle.isa_extension.specs.Extend.{width_bits, cut_of}

-- lw x7, 4 bytes long
pub lw_x7 : htinst_of 0x2383 ≡ trapped.Instruction (decoded.Load width.Word true 7) 4
unfolding htinst_of transformed_of decode_of decode_by load_of opcode_field rd_field funct3_field
lw_x7 = refl

-- sw of x7, 4 bytes long
pub sw_x7 : htinst_of 0x702023 ≡ trapped.Instruction (decoded.Store width.Word 7) 4
unfolding htinst_of transformed_of decode_of decode_by store_of opcode_field funct3_field rs2_field
sw_x7 = refl

-- htinst 0 names no instruction
pub absent : htinst_of 0 ≡ trapped.Absent
unfolding htinst_of
absent = refl

-- one name that opens the decoder of fetched words
fetches : ℕ
unfolding fetched_of compressed_of compressed_by quadrant0_of quadrant2_of sp_load_of quadrant_field c_funct3_field prime_field c_rs2_field rd_field
fetches = 0

-- c.lw x9, c.sw of x9, c.lwsp x7 and c.sdsp of x7 as they are fetched, 2 bytes long
pub c_lw_x9 : fetched_of 0x4004 ≡ trapped.Instruction (decoded.Load width.Word true 9) 2
unfolding fetches
c_lw_x9 = refl

pub c_sw_x9 : fetched_of 0xc004 ≡ trapped.Instruction (decoded.Store width.Word 9) 2
unfolding fetches
c_sw_x9 = refl

pub c_lwsp_x7 : fetched_of 0x4382 ≡ trapped.Instruction (decoded.Load width.Word true 7) 2
unfolding fetches
c_lwsp_x7 = refl

pub c_sdsp_x7 : fetched_of 0xe01e ≡ trapped.Instruction (decoded.Store width.Double 7) 2
unfolding fetches
c_sdsp_x7 = refl

pub cut_5 : cut_of width.Word 5 ≡ 5
unfolding cut_of width_bits
cut_5 = refl

pub cut_6 : cut_of width.Word 6 ≡ 6
unfolding cut_of width_bits
cut_6 = refl

pub long_5 : cut_of width.Double 5 ≡ 5
unfolding cut_of width_bits
long_5 = refl

pub long_6 : cut_of width.Double 6 ≡ 6
unfolding cut_of width_bits
long_6 = refl

-- csrrw x5, stimecmp, x5
pub csrrw_opcode : opcode_field 0x14D292F3 ≡ 0x73
unfolding opcode_field
csrrw_opcode = refl

pub csrrw_csr : csr_field 0x14D292F3 ≡ 0x14d
unfolding csr_field
csrrw_csr = refl

pub csrrw_funct3 : funct3_field 0x14D292F3 ≡ 1
unfolding funct3_field
csrrw_funct3 = refl

pub csrrw_rs1 : rs1_field 0x14D292F3 ≡ 5
unfolding rs1_field
csrrw_rs1 = refl

-- a word of zeros is no SYSTEM instruction
pub zero_opcode : opcode_field 0 ≡ 0
unfolding opcode_field
zero_opcode = refl

-- The instruction's length and the word to decode. PRIV, 'Hypervisor Extension', htinst: transformed instructions and
-- pseudoinstructions; ISA, 'Expanded Instruction-Length Encoding'; 01, Guest page fault; 02, W2.
use Rattle.std.specs.Prelude.{ℕ, ◌/◌, ◌%◌, ◌^◌, eqb}
use Rattle.std.specs.Int.Bits.{bit_or}
use Rattle.isa_types.specs.Pick.{pick}
use Rattle.isa_decoder.specs.declared.Decoded.{Decoded}
use Rattle.isa_decoder.specs.declared.Decoded.TheVariants as decoded
use Rattle.isa_decoder.specs.declared.Trapped.{Trapped}
use Rattle.isa_decoder.specs.declared.Trapped.TheVariants as trapped
use Rattle.isa_decoder.specs.Compressed.{compressed_of}
use Rattle.isa_decoder.specs.Decode.{decode_of}

-- the low 32 bits of htinst. 0x3000 and 0x3020: a read or write of the page-table walk, and no instruction. Else low bits 01
-- where the instruction is 2 bytes long, 11 where it is 4; the word to decode ends in 11. Bits 4..2 are not asked here
unfoldable pub transformed_of : ℕ → Trapped
transformed_of w =
    pick (eqb w 0x3000) trapped.Pseudo
    (pick (eqb w 0x3020) trapped.Pseudo
    (pick (eqb (w % 4) 1) (trapped.Instruction (decode_of (bit_or w 2)) 2)
    (pick (eqb (w % 4) 3) (trapped.Instruction (decode_of (bit_or w 2)) 4)
    trapped.Unfit)))

-- htinst 0, the whole number: fetch
unfoldable pub htinst_of : ℕ → Trapped
htinst_of h = pick (eqb h 0) trapped.Absent (transformed_of (h % 2 ^ 32))

-- a fetched word: low two bits not 3 is length 2, a compressed instruction in the low 16 bits (02, W2); bits 4..2 not 7 is length 4
unfoldable pub fetched_of : ℕ → Trapped
fetched_of w =
    pick (eqb (w % 4) 3)
    (pick (eqb (w / 4 % 8) 7) trapped.Unfit (trapped.Instruction (decode_of w) 4))
    (trapped.Instruction (compressed_of w) 2)

-- the register that a decoded store reads: its rs2; 0 stands for none
unfoldable pub op_source : Decoded → ℕ
op_source (decoded.Load w s rd) = 0
op_source (decoded.Store w rs2) = rs2
op_source decoded.Neither = 0

unfoldable pub store_source : Trapped → ℕ
store_source trapped.Absent = 0
store_source trapped.Pseudo = 0
store_source trapped.Unfit = 0
store_source (trapped.Instruction op length) = op_source op

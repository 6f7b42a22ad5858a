-- Laws for those who know the decoder only by its promise.
use Rattle.std.specs.Prelude.{ℕ, ◌≡◌, refl, Bool, false, true, eqb}
use Rattle.isa_types.specs.declared.Width.{Width}
use Rattle.isa_decoder.specs.declared.Decoded.TheVariants as decoded
use Rattle.isa_decoder.specs.declared.Trapped.TheVariants as trapped
use Rattle.isa_decoder.specs.Length.{op_source, store_source}
use Rattle.isa_decoder.specs.declared.Decoded.{Decoded}
use Rattle.isa_decoder.specs.Decode.{decode_by, decode_of, load_of, store_of}
use Rattle.std.proofs.Common.{eqb-true, ne_eqb, arith}
use Rattle.isa_fields.specs.Fields.{funct3_field, opcode_field, rd_field, rs2_field}
use Rattle.isa_types.specs.Pick.{or, pick, and}
use Rattle.isa_types.specs.declared.Width.TheVariants as width

-- a word that has yet to be fetched reads nothing
pub store_source_absent : store_source trapped.Absent ≡ 0
unfolding store_source
store_source_absent = refl

-- an instruction reads what its decoded form does
pub store_source_op : (op : Decoded) (n : ℕ) → store_source (trapped.Instruction op n) ≡ op_source op
unfolding store_source
store_source_op op n = refl

-- a store reads its rs2
pub store_source_store : (w : Width) (rs2 n : ℕ) → store_source (trapped.Instruction (decoded.Store w rs2) n) ≡ rs2
unfolding store_source op_source
store_source_store w rs2 n = refl

-- a load reads no register that the handler is asked for
load_source : (f rd : ℕ) (b₀ b₁ b₂ b₃ b₄ b₅ b₆ : Bool)
    → op_source (pick b₀ (decoded.Load width.Byte true rd) (pick b₁ (decoded.Load width.Half true rd) (pick b₂ (decoded.Load width.Word true rd) (pick b₃ (decoded.Load width.Double true rd) (pick b₄ (decoded.Load width.Byte false rd) (pick b₅ (decoded.Load width.Half false rd) (pick b₆ (decoded.Load width.Word false rd) decoded.Neither))))))) ≡ 0
unfolding op_source
load_source f rd true b₁ b₂ b₃ b₄ b₅ b₆ = refl
load_source f rd false true b₂ b₃ b₄ b₅ b₆ = refl
load_source f rd false false true b₃ b₄ b₅ b₆ = refl
load_source f rd false false false true b₄ b₅ b₆ = refl
load_source f rd false false false false true b₅ b₆ = refl
load_source f rd false false false false false true b₆ = refl
load_source f rd false false false false false false true = refl
load_source f rd false false false false false false false = refl

store_by : (rs2 : ℕ) (b₀ b₁ b₂ b₃ : Bool)
    → op_source (pick b₀ (decoded.Store width.Byte rs2) (pick b₁ (decoded.Store width.Half rs2) (pick b₂ (decoded.Store width.Word rs2) (pick b₃ (decoded.Store width.Double rs2) decoded.Neither)))) ≡ pick (or b₀ (or b₁ (or b₂ b₃))) rs2 0
unfolding op_source
store_by rs2 true b₁ b₂ b₃ = refl
store_by rs2 false true b₂ b₃ = refl
store_by rs2 false false true b₃ = refl
store_by rs2 false false false true = refl
store_by rs2 false false false false = refl

-- ISA, 'Load and Store Instructions': the opcode is STORE, 0x23, and funct3 one of SB, SH, SW, SD
unfoldable pub is_store : ℕ → Bool
is_store w =
    and (eqb (opcode_field w) 0x23)
    (or (eqb (funct3_field w) 0) (or (eqb (funct3_field w) 1) (or (eqb (funct3_field w) 2) (eqb (funct3_field w) 3))))

field_by : (rs2 : ℕ) (l s f : Bool) (p q : Decoded) → op_source p ≡ 0 → op_source q ≡ pick f rs2 0 → (l ≡ true → s ≡ false)
    → op_source (pick l p (pick s q decoded.Neither)) ≡ pick (and s f) rs2 0
unfolding op_source
field_by rs2 true s f p q h k n = rw (n refl) h
field_by rs2 false true f p q h k n = k
field_by rs2 false false f p q h k n = refl

-- the register of a decoded store is bits 24..20 of the word, rs2; any other word has none
pub store_field : (w : ℕ) → op_source (decode_of w) ≡ pick (is_store w) (rs2_field w) 0
unfolding decode_of decode_by load_of store_of is_store
store_field w =
    let f : ℕ = funct3_field w in
    field_by (rs2_field w) (eqb (opcode_field w) 0x03) (eqb (opcode_field w) 0x23)
    (or (eqb f 0) (or (eqb f 1) (or (eqb f 2) (eqb f 3)))) (load_of f (rd_field w)) (store_of f (rs2_field w))
    (load_source f (rd_field w) (eqb f 0) (eqb f 1) (eqb f 2) (eqb f 3) (eqb f 4) (eqb f 5) (eqb f 6))
    (store_by (rs2_field w) (eqb f 0) (eqb f 1) (eqb f 2) (eqb f 3))
    (λ h. ne_eqb (opcode_field w) 0x23 (λ e. omega (arith, eqb-true (opcode_field w) 0x03 h)))

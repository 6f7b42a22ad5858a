-- Laws of a fetched 16-bit word, for those who know the decoder only by its promise. 02, W2.
use Rattle.std.specs.Prelude.{ℕ, ◌+◌, ◌/◌, ◌%◌, ◌^◌, Bool, true, false, ◌≡◌, refl, eqb}
use Rattle.std.proofs.Common.{ap, ◌∙◌, eqb-true}
use Rattle.std.proofs.Math.Pow.{field, mod-mod-pow}
use Rattle.isa_types.specs.Pick.{or, pick, and, never, not}
use Rattle.isa_types.specs.declared.Width.{Width}
use Rattle.isa_types.specs.declared.Width.TheVariants as width
use Rattle.isa_fields.specs.Compressed.{quadrant_field, c_funct3_field, prime_field, c_rs2_field}
use Rattle.isa_fields.specs.Fields.{rd_field}
use Rattle.isa_decoder.specs.declared.Decoded.{Decoded}
use Rattle.isa_decoder.specs.declared.Decoded.TheVariants as decoded
use Rattle.isa_decoder.specs.declared.Trapped.TheVariants as trapped
use Rattle.isa_decoder.specs.Compressed.{compressed_by, compressed_of, quadrant0_of, quadrant2_of, sp_load_of}
use Rattle.isa_decoder.specs.Length.{fetched_of, op_source}

-- a word whose low two bits are not 3 is 2 bytes long, and what it is says compressed_of
pub fetched_short : (w : ℕ) → eqb (quadrant_field w) 3 ≡ false → fetched_of w ≡ trapped.Instruction (compressed_of w) 2
unfolding fetched_of quadrant_field
fetched_short w h = rw h refl

-- a field that ends below the bits that are kept is the same in them
low : (w l j k : ℕ) → w % 2 ^ (l + j + k) / 2 ^ k % 2 ^ j ≡ w / 2 ^ k % 2 ^ j
low w l j k = ap (λ (n : ℕ). n % 2 ^ j) (field w (l + j) k) ∙ mod-mod-pow (w / 2 ^ k) l j

-- the upper 16 bits are not looked at
pub compressed_low : (w : ℕ) → compressed_of (w % 2 ^ 16) ≡ compressed_of w
unfolding compressed_of compressed_by quadrant_field c_funct3_field prime_field c_rs2_field rd_field
compressed_low w = rw (mod-mod-pow w 14 2, low w 0 3 13, low w 11 3 2, low w 4 5 7, low w 9 5 2) refl

-- C.LWSP and C.LDSP have no rs2, with rd 0 too
sp_source : (w : Width) (rd : ℕ) (b : Bool) → op_source (pick b decoded.Neither (decoded.Load w true rd)) ≡ 0
unfolding op_source
sp_source w rd true = refl
sp_source w rd false = refl

quadrant0_by : (r : ℕ) (b₂ b₃ b₆ b₇ : Bool) → (b₂ ≡ true → or b₆ b₇ ≡ false) → (b₃ ≡ true → or b₆ b₇ ≡ false)
    → op_source (pick b₂ (decoded.Load width.Word true r) (pick b₃ (decoded.Load width.Double true r) (pick b₆ (decoded.Store width.Word r) (pick b₇ (decoded.Store width.Double r) decoded.Neither)))) ≡ pick (or b₆ b₇) r 0
unfolding op_source
quadrant0_by r true b₃ b₆ b₇ h k = rw (h refl) refl
quadrant0_by r false true b₆ b₇ h k = rw (k refl) refl
quadrant0_by r false false true b₇ h k = refl
quadrant0_by r false false false true h k = refl
quadrant0_by r false false false false h k = refl

quadrant2_by : (rs2 : ℕ) (p q : Decoded) (b₂ b₃ b₆ b₇ : Bool) → op_source p ≡ 0 → op_source q ≡ 0
    → (b₂ ≡ true → or b₆ b₇ ≡ false) → (b₃ ≡ true → or b₆ b₇ ≡ false)
    → op_source (pick b₂ p (pick b₃ q (pick b₆ (decoded.Store width.Word rs2) (pick b₇ (decoded.Store width.Double rs2) decoded.Neither)))) ≡ pick (or b₆ b₇) rs2 0
unfolding op_source
quadrant2_by rs2 p q true b₃ b₆ b₇ hp hq h k = rw (h refl) hp
quadrant2_by rs2 p q false true b₆ b₇ hp hq h k = rw (k refl) hq
quadrant2_by rs2 p q false false true b₇ hp hq h k = refl
quadrant2_by rs2 p q false false false true hp hq h k = refl
quadrant2_by rs2 p q false false false false hp hq h k = refl

-- C.LW, C.LD in quadrant 0, C.LWSP, C.LDSP in quadrant 2: funct3 is 2 or 3
unfoldable pub c_load_funct3 : ℕ → Bool
c_load_funct3 w = or (eqb (c_funct3_field w) 2) (eqb (c_funct3_field w) 3)

-- C.SW, C.SD in quadrant 0, C.SWSP, C.SDSP in quadrant 2: funct3 is 6 or 7
unfoldable pub c_store_funct3 : ℕ → Bool
c_store_funct3 w = or (eqb (c_funct3_field w) 6) (eqb (c_funct3_field w) 7)

-- a load's funct3 is no store's
apart : (f n : ℕ) → eqb n 6 ≡ false → eqb n 7 ≡ false → eqb f n ≡ true → or (eqb f 6) (eqb f 7) ≡ false
apart f n h k e = rw (eqb-true f n e) (rw (h, k) refl)

quadrants_by : (r rs2 : ℕ) (z t s : Bool) (p q : Decoded) → op_source p ≡ pick s r 0 → op_source q ≡ pick s rs2 0
    → op_source (pick z p (pick t q decoded.Neither)) ≡ pick z (pick s r 0) (pick t (pick s rs2 0) 0)
unfolding op_source
quadrants_by r rs2 true t s p q h k = h
quadrants_by r rs2 false true s p q h k = k
quadrants_by r rs2 false false s p q h k = refl

-- the register of a compressed store: rs2', bits 4..2, in quadrant 0; rs2, bits 6..2, in quadrant 2; any other word has none
pub compressed_field : (w : ℕ)
    → op_source (compressed_of w) ≡ pick (eqb (quadrant_field w) 0) (pick (c_store_funct3 w) (prime_field w) 0) (pick (eqb (quadrant_field w) 2) (pick (c_store_funct3 w) (c_rs2_field w) 0) 0)
unfolding compressed_of compressed_by quadrant0_of quadrant2_of sp_load_of c_store_funct3
compressed_field w =
    let f : ℕ = c_funct3_field w in
    let rd : ℕ = rd_field w in
    quadrants_by (prime_field w) (c_rs2_field w) (eqb (quadrant_field w) 0) (eqb (quadrant_field w) 2) (or (eqb f 6) (eqb f 7))
    (quadrant0_of f (prime_field w)) (quadrant2_of f rd (c_rs2_field w))
    (quadrant0_by (prime_field w) (eqb f 2) (eqb f 3) (eqb f 6) (eqb f 7) (apart f 2 refl refl) (apart f 3 refl refl))
    (quadrant2_by (c_rs2_field w) (sp_load_of width.Word rd) (sp_load_of width.Double rd) (eqb f 2) (eqb f 3) (eqb f 6) (eqb f 7) (sp_source width.Word rd (eqb rd 0)) (sp_source width.Double rd (eqb rd 0)) (apart f 2 refl refl) (apart f 3 refl refl))

-- a word of this quadrant and funct3
pub record Encodes (quadrant funct3 w : ℕ) : Type 0 where
  pub op : quadrant_field w ≡ quadrant
  pub funct : c_funct3_field w ≡ funct3

-- the eight forms, each with its register
pub c_lw : (w : ℕ) → Encodes 0 2 w → compressed_of w ≡ decoded.Load width.Word true (prime_field w)
unfolding compressed_of compressed_by quadrant0_of
c_lw w e = rw (e.op, e.funct) refl

pub c_ld : (w : ℕ) → Encodes 0 3 w → compressed_of w ≡ decoded.Load width.Double true (prime_field w)
unfolding compressed_of compressed_by quadrant0_of
c_ld w e = rw (e.op, e.funct) refl

pub c_sw : (w : ℕ) → Encodes 0 6 w → compressed_of w ≡ decoded.Store width.Word (prime_field w)
unfolding compressed_of compressed_by quadrant0_of
c_sw w e = rw (e.op, e.funct) refl

pub c_sd : (w : ℕ) → Encodes 0 7 w → compressed_of w ≡ decoded.Store width.Double (prime_field w)
unfolding compressed_of compressed_by quadrant0_of
c_sd w e = rw (e.op, e.funct) refl

pub c_lwsp : (w : ℕ) → Encodes 2 2 w → eqb (rd_field w) 0 ≡ false → compressed_of w ≡ decoded.Load width.Word true (rd_field w)
unfolding compressed_of compressed_by quadrant2_of sp_load_of
c_lwsp w e n = rw (e.op, e.funct, n) refl

pub c_ldsp : (w : ℕ) → Encodes 2 3 w → eqb (rd_field w) 0 ≡ false → compressed_of w ≡ decoded.Load width.Double true (rd_field w)
unfolding compressed_of compressed_by quadrant2_of sp_load_of
c_ldsp w e n = rw (e.op, e.funct, n) refl

pub c_swsp : (w : ℕ) → Encodes 2 6 w → compressed_of w ≡ decoded.Store width.Word (c_rs2_field w)
unfolding compressed_of compressed_by quadrant2_of
c_swsp w e = rw (e.op, e.funct) refl

pub c_sdsp : (w : ℕ) → Encodes 2 7 w → compressed_of w ≡ decoded.Store width.Double (c_rs2_field w)
unfolding compressed_of compressed_by quadrant2_of
c_sdsp w e = rw (e.op, e.funct) refl

-- C.LWSP and C.LDSP with rd 0 are reserved
pub c_lwsp_x0 : (w : ℕ) → Encodes 2 2 w → eqb (rd_field w) 0 ≡ true → compressed_of w ≡ decoded.Neither
unfolding compressed_of compressed_by quadrant2_of sp_load_of
c_lwsp_x0 w e z = rw (e.op, e.funct, z) refl

pub c_ldsp_x0 : (w : ℕ) → Encodes 2 3 w → eqb (rd_field w) 0 ≡ true → compressed_of w ≡ decoded.Neither
unfolding compressed_of compressed_by quadrant2_of sp_load_of
c_ldsp_x0 w e z = rw (e.op, e.funct, z) refl

-- the floating forms
pub c_fld : (w : ℕ) → Encodes 0 1 w → compressed_of w ≡ decoded.Neither
unfolding compressed_of compressed_by quadrant0_of
c_fld w e = rw (e.op, e.funct) refl

pub c_fsd : (w : ℕ) → Encodes 0 5 w → compressed_of w ≡ decoded.Neither
unfolding compressed_of compressed_by quadrant0_of
c_fsd w e = rw (e.op, e.funct) refl

pub c_fldsp : (w : ℕ) → Encodes 2 1 w → compressed_of w ≡ decoded.Neither
unfolding compressed_of compressed_by quadrant2_of
c_fldsp w e = rw (e.op, e.funct) refl

pub c_fsdsp : (w : ℕ) → Encodes 2 5 w → compressed_of w ≡ decoded.Neither
unfolding compressed_of compressed_by quadrant2_of
c_fsdsp w e = rw (e.op, e.funct) refl

-- the word is one of the eight forms
unfoldable pub is_form : ℕ → Bool
is_form w =
    or (and (eqb (quadrant_field w) 0) (or (c_load_funct3 w) (c_store_funct3 w)))
    (and (eqb (quadrant_field w) 2) (or (and (c_load_funct3 w) (not (eqb (rd_field w) 0))) (c_store_funct3 w)))

none0_by : (r : ℕ) (b₂ b₃ b₆ b₇ : Bool) → or (or b₂ b₃) (or b₆ b₇) ≡ false
    → pick b₂ (decoded.Load width.Word true r) (pick b₃ (decoded.Load width.Double true r) (pick b₆ (decoded.Store width.Word r) (pick b₇ (decoded.Store width.Double r) decoded.Neither))) ≡ decoded.Neither
none0_by r true b₃ b₆ b₇ h = never h
none0_by r false true b₆ b₇ h = never h
none0_by r false false true b₇ h = never h
none0_by r false false false true h = never h
none0_by r false false false false h = refl

none2_by : (rd rs2 : ℕ) (z b₂ b₃ b₆ b₇ : Bool) → or (and (or b₂ b₃) (not z)) (or b₆ b₇) ≡ false
    → pick b₂ (pick z decoded.Neither (decoded.Load width.Word true rd)) (pick b₃ (pick z decoded.Neither (decoded.Load width.Double true rd)) (pick b₆ (decoded.Store width.Word rs2) (pick b₇ (decoded.Store width.Double rs2) decoded.Neither))) ≡ decoded.Neither
none2_by rd rs2 true true b₃ b₆ b₇ h = refl
none2_by rd rs2 true false true b₆ b₇ h = refl
none2_by rd rs2 true false false true b₇ h = never h
none2_by rd rs2 true false false false true h = never h
none2_by rd rs2 true false false false false h = refl
none2_by rd rs2 false true b₃ b₆ b₇ h = never h
none2_by rd rs2 false false true b₆ b₇ h = never h
none2_by rd rs2 false false false true b₇ h = never h
none2_by rd rs2 false false false false true h = never h
none2_by rd rs2 false false false false false h = refl

none_by : (p q : Decoded) (z t f g : Bool) → (f ≡ false → p ≡ decoded.Neither) → (g ≡ false → q ≡ decoded.Neither)
    → or (and z f) (and t g) ≡ false → pick z p (pick t q decoded.Neither) ≡ decoded.Neither
none_by p q true t true g hp hq h = never h
none_by p q true t false g hp hq h = hp refl
none_by p q false true f true hp hq h = never h
none_by p q false true f false hp hq h = hq refl
none_by p q false false f g hp hq h = refl

-- everything else
pub c_none : (w : ℕ) → is_form w ≡ false → compressed_of w ≡ decoded.Neither
unfolding compressed_of compressed_by quadrant0_of quadrant2_of sp_load_of is_form c_load_funct3 c_store_funct3
c_none w =
    let f : ℕ = c_funct3_field w in
    none_by (quadrant0_of f (prime_field w)) (quadrant2_of f (rd_field w) (c_rs2_field w)) (eqb (quadrant_field w) 0) (eqb (quadrant_field w) 2)
    (or (or (eqb f 2) (eqb f 3)) (or (eqb f 6) (eqb f 7)))
    (or (and (or (eqb f 2) (eqb f 3)) (not (eqb (rd_field w) 0))) (or (eqb f 6) (eqb f 7)))
    (none0_by (prime_field w) (eqb f 2) (eqb f 3) (eqb f 6) (eqb f 7))
    (none2_by (rd_field w) (c_rs2_field w) (eqb (rd_field w) 0) (eqb f 2) (eqb f 3) (eqb f 6) (eqb f 7))

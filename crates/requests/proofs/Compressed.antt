-- 02, W2: the eight compressed loads and stores are decoded where the word is fetched, and sepc moves on by 2. Everything else that is
-- 16 bits long stays NestedPageFault: floating forms, C.LWSP and C.LDSP with rd 0, a load under 23, a store under 21.
use Rattle.std.specs.Prelude.{ℕ, Bool, true, false, List, [], ◌≡◌, refl, eqb}
use Rattle.std.proofs.Common.{ap, sym, subst, ◌∙◌, eqb-true}
use Rattle.demand3_table.specs.Table.{access_names, answer_names, call_names, fetch_names, source_names, store_names, word_names}
use Rattle.isa_decoder.specs.Compressed.{compressed_of}
use Rattle.isa_decoder.specs.CompressedLaws.{Encodes, c_fld, c_fldsp, c_fsd, c_fsdsp, c_ld, c_ldsp, c_ldsp_x0, c_lw, c_lwsp, c_lwsp_x0, c_none, c_sd, c_sdsp, c_sw, c_swsp, c_load_funct3, c_store_funct3, compressed_field, compressed_low, fetched_short, is_form}
use Rattle.isa_consts.specs.Traps.{load_guest_page_fault, store_guest_page_fault}
use Rattle.isa_decoder.specs.Laws.{store_source_op}
use Rattle.isa_decoder.specs.Length.{op_source}
use Rattle.isa_registers.specs.Values.{guest_page_fault_addr}
use Rattle.scope.specs.Classes.{class_of}
use Rattle.scope.specs.Record.{is_idle}
use Rattle.scope.specs.declared.decided.Class.TheVariants as class
use Rattle.scope.specs.declared.traps.Trap.{Trap}
use Rattle.isa_decoder.specs.declared.Decoded.{Decoded}
use Rattle.isa_decoder.specs.declared.Trapped.TheVariants as trapped
use Rattle.isa_decoder.specs.declared.Trapped.{Trapped}
use Rattle.isa_fields.specs.Compressed.{c_funct3_field, quadrant_field}
use Rattle.isa_fields.specs.Fields.{rd_field}
use Rattle.isa_types.specs.Pick.{and, not, or}
use Rattle.isa_types.specs.declared.GuestPhysAddr.{GuestPhysAddr}
use Rattle.scope.specs.Calls.{called_of}
use Rattle.scope.specs.ReplyWords.{out_of, reply_word}
use Rattle.scope.specs.Words.{unpack_of}
use Rattle.scope.specs.declared.hosts.HostCall.TheVariants as host_call
use Rattle.scope.specs.declared.hosts.HostCall.{HostCall}
use Rattle.scope.specs.declared.machine.Record.{Record}
use Rattle.scope.specs.declared.machine.Vcpu.{Vcpu}
use Rattle.scope.specs.declared.machine.Waiting.{Waiting}
use Rattle.scope.specs.declared.traps.Access.TheVariants as access
use Rattle.scope.specs.declared.traps.Access.{Access}
use Rattle.by_value_lent.specs.Lent.{Stored}
use Rattle.by_value_lent.specs.declared.Given.{Given}
use Rattle.words_call.specs.declared.CallWords.{CallWords}
use Rattle.words_call.specs.declared.ReplyWords.{ReplyWords}
use Rattle.words_call.specs.Words.{call_of, reply_words_of}
use Rattle.words_entry.specs.Words.{Exported, exported_of}
use Rattle.in_place_record.specs.View.{Made, view_of}
use Rattle.demands_words.specs.Left.{Sized}
use Rattle.demands_words.proofs.Left.{left_shows}
use Rattle.requests.specs.Meaning.{Asks, Means}
use Rattle.requests.proofs.Meaning.{asks, by_fetch}
use Rattle.requests.specs.Compressed.{Fetched, NoForm, W2}

-- a fetched 16-bit word means what its decoded form means
of : (v : Vcpu) (c : HostCall) (at : GuestPhysAddr) (k : Access) (word : ℕ) (op : Decoded) → Fetched v c at k word → compressed_of word ≡ op
    → Means v (called_of v c) at k op 2
of v c at k word op f e =
    subst (λ (c : HostCall). Means v (called_of v c) at k op 2) (sym f.answers)
    (by_fetch v at k word op 2 f.waits (fetched_short word f.short ∙ ap (λ (p : Decoded). trapped.Instruction p 2) e))

-- the tests of quadrant and funct3, and whether rd is 0: none of the eight pairs holds
none_by : (q₀ q₂ f₂ f₃ f₆ f₇ z : Bool) → (q₀ ≡ true → f₂ ≡ true → ⊥) → (q₀ ≡ true → f₃ ≡ true → ⊥) → (q₀ ≡ true → f₆ ≡ true → ⊥) → (q₀ ≡ true → f₇ ≡ true → ⊥)
    → (q₂ ≡ true → f₂ ≡ true → z ≡ false → ⊥) → (q₂ ≡ true → f₃ ≡ true → z ≡ false → ⊥) → (q₂ ≡ true → f₆ ≡ true → ⊥) → (q₂ ≡ true → f₇ ≡ true → ⊥)
    → or (and q₀ (or (or f₂ f₃) (or f₆ f₇))) (and q₂ (or (and (or f₂ f₃) (not z)) (or f₆ f₇))) ≡ false
none_by true q₂ true f₃ f₆ f₇ z a b c d e f g h = absurd (a refl refl)
none_by true q₂ false true f₆ f₇ z a b c d e f g h = absurd (b refl refl)
none_by true q₂ false false true f₇ z a b c d e f g h = absurd (c refl refl)
none_by true q₂ false false false true z a b c d e f g h = absurd (d refl refl)
none_by true true false false false false z a b c d e f g h = refl
none_by true false false false false false z a b c d e f g h = refl
none_by false false f₂ f₃ f₆ f₇ z a b c d e f g h = refl
none_by false true f₂ f₃ true f₇ z a b c d e f g h = absurd (g refl refl)
none_by false true f₂ f₃ false true z a b c d e f g h = absurd (h refl refl)
none_by false true true f₃ false false false a b c d e f g h = absurd (e refl refl refl)
none_by false true true f₃ false false true a b c d e f g h = refl
none_by false true false true false false false a b c d e f g h = absurd (f refl refl refl)
none_by false true false true false false true a b c d e f g h = refl
none_by false true false false false false z a b c d e f g h = refl

encodes : (q f word : ℕ) → eqb (quadrant_field word) q ≡ true → eqb (c_funct3_field word) f ≡ true → Encodes q f word
encodes q f word h k = record { op = eqb-true (quadrant_field word) q h; funct = eqb-true (c_funct3_field word) f k }

is_none : (word : ℕ) → NoForm word → is_form word ≡ false
unfolding is_form c_load_funct3 c_store_funct3
is_none word n =
    let f : ℕ = c_funct3_field word in
    none_by (eqb (quadrant_field word) 0) (eqb (quadrant_field word) 2) (eqb f 2) (eqb f 3) (eqb f 6) (eqb f 7) (eqb (rd_field word) 0)
    (λ h k. n.not_c_lw (encodes 0 2 word h k))
    (λ h k. n.not_c_ld (encodes 0 3 word h k))
    (λ h k. n.not_c_sw (encodes 0 6 word h k))
    (λ h k. n.not_c_sd (encodes 0 7 word h k))
    (λ h k z. n.not_c_lwsp (encodes 2 2 word h k) z)
    (λ h k z. n.not_c_ldsp (encodes 2 3 word h k) z)
    (λ h k. n.not_c_swsp (encodes 2 6 word h k))
    (λ h k. n.not_c_sdsp (encodes 2 7 word h k))

names : (v : Vcpu) (c : HostCall) (at : GuestPhysAddr) (k : Access) (word : ℕ) → Fetched v c at k word → call_names v c ≡ access_names k (trapped.Instruction (compressed_of word) 2)
unfolding call_names answer_names fetch_names word_names
names v c at k word f =
    ap (call_names v) f.answers
    ∙ ap (λ (n : Waiting). word_names n word) f.waits
    ∙ ap (λ (i : Trapped). access_names k i) (fetched_short word f.short)

store_names_lem : (op : Decoded) → access_names access.Write (trapped.Instruction op 2) ≡ source_names (op_source op)
unfolding access_names store_names
store_names_lem op = ap source_names (store_source_op op 2)

else_names : (k : Access) (i : Trapped) → (k ≡ access.Write → ⊥) → access_names k i ≡ []
unfolding access_names
else_names access.Read i h = refl
else_names access.Write i h = absurd (h refl)
else_names access.Execute i h = refl

started : (v : Vcpu) (c : HostCall) (t : Trap) (n : ℕ) (k : Access) → c ≡ host_call.Start t → is_idle v.waiting ≡ true → class_of n ≡ class.PageFault k → t.scause ≡ n → t.htinst ≡ 0
    → Asks v (called_of v c) (guest_page_fault_addr t.htval t.stval) k
started v c t n k e idle at cause zero =
    subst (λ (c : HostCall). Asks v (called_of v c) (guest_page_fault_addr t.htval t.stval) k) (sym e) (asks v t k idle (ap class_of cause ∙ at) zero)

loads_fault : class_of load_guest_page_fault ≡ class.PageFault access.Read
unfolding class_of
loads_fault = refl

stores_fault : class_of store_guest_page_fault ≡ class.PageFault access.Write
unfolding class_of
stores_fault = refl

-- by value, for every record and call
pub w2 : (v : Vcpu) (c : HostCall) → W2 v (called_of v c) c
w2 v c =
    record {
      asks_21 = λ t e idle cause zero. started v c t load_guest_page_fault access.Read e idle loads_fault cause zero;
      asks_23 = λ t e idle cause zero. started v c t store_guest_page_fault access.Write e idle stores_fault cause zero;
      c_lw = λ at k word f e. of v c at k word _ f (c_lw word e);
      c_ld = λ at k word f e. of v c at k word _ f (c_ld word e);
      c_sw = λ at k word f e. of v c at k word _ f (c_sw word e);
      c_sd = λ at k word f e. of v c at k word _ f (c_sd word e);
      c_lwsp = λ at k word f e n. of v c at k word _ f (c_lwsp word e n);
      c_ldsp = λ at k word f e n. of v c at k word _ f (c_ldsp word e n);
      c_swsp = λ at k word f e. of v c at k word _ f (c_swsp word e);
      c_sdsp = λ at k word f e. of v c at k word _ f (c_sdsp word e);
      c_lwsp_x0 = λ at k word f e z. (of v c at k word _ f (c_lwsp_x0 word e z)).neither refl;
      c_ldsp_x0 = λ at k word f e z. (of v c at k word _ f (c_ldsp_x0 word e z)).neither refl;
      c_fld = λ at k word f e. (of v c at k word _ f (c_fld word e)).neither refl;
      c_fsd = λ at k word f e. (of v c at k word _ f (c_fsd word e)).neither refl;
      c_fldsp = λ at k word f e. (of v c at k word _ f (c_fldsp word e)).neither refl;
      c_fsdsp = λ at k word f e. (of v c at k word _ f (c_fsdsp word e)).neither refl;
      no_form = λ at k word f h. (of v c at k word _ f (c_none word (is_none word h))).neither refl;
      low_half = λ at k word f. of v c at k word _ f (sym (compressed_low word));
      names_write = λ at word f. names v c at access.Write word f ∙ store_names_lem (compressed_of word) ∙ ap source_names (compressed_field word);
      names_else = λ at k word f h. names v c at k word f ∙ else_names k _ h;
    }

-- over a lent record, by its promise: what is left and given are such an outcome
pub w2_lent : (v w : Vcpu) (c : HostCall) (g : Given) → Stored v c w g → W2 v (record { vcpu = w; reply = g.reply; args = g.args }) c
w2_lent v w c g s =
    subst (λ (h : Given). W2 v (record { vcpu = w; reply = h.reply; args = h.args }) c) (sym s.1)
    (subst (λ (u : Vcpu). W2 v (record { vcpu = u; reply = (called_of v c).reply; args = (called_of v c).args }) c) (sym s.0) (w2 v c))

-- over words, by its promise
pub w2_words : (r s : Record) (c : CallWords) (g : ReplyWords) → Sized r → Exported r c s g
    → (W2 (unpack_of r) (called_of (unpack_of r) (call_of c)) (call_of c)) × (unpack_of s ≡ (called_of (unpack_of r) (call_of c)).vcpu) × (g ≡ reply_words_of (called_of (unpack_of r) (call_of c)))
unfolding exported_of
w2_words r s c g z x = (w2 (unpack_of r) (call_of c), ap unpack_of x.0 ∙ left_shows r (call_of c) z, x.1)

-- in place, by its promise
pub w2_place : (r s p : List ℕ) (c : HostCall) (w : ℕ) → Made r c s p w
    → (W2 (view_of r) (called_of (view_of r) c) c) × (view_of s ≡ (called_of (view_of r) c).vcpu) × (w ≡ reply_word (called_of (view_of r) c).reply) × (p ≡ out_of (called_of (view_of r) c).reply (called_of (view_of r) c).args)
w2_place r s p c w m = (w2 (view_of r) c, m.shows, m.says, m.gives)

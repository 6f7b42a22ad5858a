-- 02, W5: a fault that is injected after a failed fetch is taken in supervisor mode. PRIV, 'Hypervisor Extension', trap entry and trap
-- return: a trap into VS mode runs in VS mode.
use Rattle.std.specs.Prelude.{ℕ, ◌^◌, ◌<◌, Bool, true, false, List, ◌≡◌, refl, eqb}
use Rattle.std.proofs.Common.{arith, eqb-true, ap, sym, subst, ◌∙◌}
use Rattle.isa_consts.specs.Traps.{instruction_access_fault, instruction_misaligned, instruction_page_fault}
use Rattle.isa_registers.specs.BitLaws.{bit_lt, bit_of, cleared_bit, set_bit, written_bit}
use Rattle.isa_registers.specs.Bits.{sie_of, spvp_of, with_bits}
use Rattle.isa_types.specs.Pick.{and, never, pick}
use Rattle.isa_types.specs.declared.GuestPhysAddr.{GuestPhysAddr}
use Rattle.isa_types.specs.declared.GuestVirtAddr.{GuestVirtAddr}
use Rattle.scope.specs.Answers.{answer_effect, fetch_effect, fitting_effect}
use Rattle.scope.specs.Calls.{base_of, called_of, effect_of}
use Rattle.scope.specs.OneTrap.{answer_number}
use Rattle.scope.specs.Record.{applied, bumped, counted, event_number, stored, waiting_ask}
use Rattle.scope.specs.Refusals.{failed_of, finished_of, refused_of}
use Rattle.scope.specs.ReplyWords.{out_of, reply_word}
use Rattle.scope.specs.VirtualInstruction.{injected_of, missed_effect, missed_of, trap_status_of}
use Rattle.scope.specs.Words.{unpack_of}
use Rattle.scope.specs.declared.hosts.HostCall.TheVariants as host_call
use Rattle.scope.specs.declared.hosts.HostCall.{HostCall}
use Rattle.scope.specs.declared.machine.Event.TheVariants as event
use Rattle.scope.specs.declared.machine.Outcome.{Outcome}
use Rattle.scope.specs.declared.machine.Record.{Record}
use Rattle.scope.specs.declared.machine.Vcpu.{Vcpu}
use Rattle.scope.specs.declared.machine.Writes.TheVariants as writes
use Rattle.scope.specs.declared.traps.Access.TheVariants as access
use Rattle.scope.specs.declared.traps.Answer.TheVariants as answer
use Rattle.scope.specs.declared.traps.Answer.{Answer}
use Rattle.scope.specs.declared.traps.Error.TheVariants as error
use Rattle.scope.specs.declared.traps.Exit.TheVariants as exit
use Rattle.scope.specs.declared.traps.Fetch.TheVariants as fetch
use Rattle.scope.specs.declared.traps.Fetch.{Fetch}
use Rattle.by_value_lent.specs.Lent.{Stored}
use Rattle.by_value_lent.specs.declared.Given.{Given}
use Rattle.words_call.specs.declared.CallWords.{CallWords}
use Rattle.words_call.specs.declared.ReplyWords.{ReplyWords}
use Rattle.words_call.specs.Words.{call_of, reply_words_of}
use Rattle.words_entry.specs.Words.{Exported, exported_of}
use Rattle.in_place_record.specs.View.{Done, Made, view_of}
use Rattle.demands_words.specs.Left.{Sized}
use Rattle.demands_words.proofs.Left.{left_shows}
use Rattle.requests.specs.Meaning.{Nested}
use Rattle.requests.specs.Mode.{ModeKept, answer_injects, injects, resumes_guest, resumes_in, supervisor_mode, touches_mode, trapped_from}
use Rattle.requests.proofs.Mode.{mode_kept}
use Rattle.requests.specs.Injection.{FetchAnswered, NotFetched, TakenInS, TouchedBy, W5}

-- vsstatus, bit by bit

sie_bit : (n : ℕ) → sie_of n ≡ eqb (bit_of n 1) 1
unfolding sie_of bit_of
sie_bit n = refl

spvp_bit : (n : ℕ) → spvp_of n ≡ eqb (bit_of n 8) 1
unfolding spvp_of bit_of
spvp_bit n = refl

status_bit : (s h i : ℕ) → i < 64 → bit_of (trap_status_of s h) i ≡ pick (eqb i 8) (bit_of h 8) (pick (eqb i 1) 0 (pick (eqb i 5) (bit_of s 1) (bit_of s i)))
unfolding trap_status_of
status_bit s h i l =
    let kept : ℕ = with_bits s (2 ^ 5) (sie_of s) in
    let masked : ℕ = with_bits kept (2 ^ 1) false in
    ap (λ (b : Bool). bit_of (with_bits masked (2 ^ 8) b) i) (spvp_bit h)
    ∙ written_bit masked (bit_of h 8) 8 i (bit_lt h 8) (omega arith) l
    ∙ ap (pick (eqb i 8) (bit_of h 8)) (cleared_bit kept 1 i (omega arith) l)
    ∙ ap (λ (n : ℕ). pick (eqb i 8) (bit_of h 8) (pick (eqb i 1) 0 n))
    (ap (λ (b : Bool). bit_of (with_bits s (2 ^ 5) b) i) (sie_bit s) ∙ written_bit s (bit_of s 1) 5 i (bit_lt s 1) (omega arith) l)

other_bit : {n : ℕ} (a b c : Bool) (p q r : ℕ) → a ≡ false → c ≡ false → b ≡ false → pick a p (pick b q (pick c r n)) ≡ n
other_bit {n} a b c p q r h k l = ap (λ (t : Bool). pick t p (pick b q (pick c r n))) h ∙ ap (λ (t : Bool). pick t q (pick c r n)) l ∙ ap (λ (t : Bool). pick t r n) k

-- an exception injected

taken : (v : Vcpu) (cause : ℕ) (addr : GuestVirtAddr)
    → TakenInS v (applied v (finished_of (injected_of v.csrs cause addr) event.Quiet writes.Keep exit.Nothing)) cause addr
unfolding applied finished_of injected_of stored counted bumped event_number resumes_in resumes_guest trapped_from supervisor_mode
taken v cause addr =
    let s : ℕ = v.csrs.vs.vsstatus in
    let h : ℕ = v.csrs.guest.hstatus in
    record {
      mode = set_bit v.csrs.guest.sstatus 8 8 (omega arith) (omega arith);
      handler = refl;
      in_guest = refl;
      came_from = status_bit s h 8 (omega arith);
      was_at = refl;
      why = refl;
      value = refl;
      interrupts_off = status_bit s h 1 (omega arith);
      interrupts_were = status_bit s h 5 (omega arith);
      sstatus = λ i l. set_bit v.csrs.guest.sstatus 8 i (omega arith) l;
      vsstatus = λ i l a b c. status_bit s h i l ∙ other_bit (eqb i 8) (eqb i 1) (eqb i 5) _ _ _ a b c;
      hstatus = refl;
      vstvec = refl;
      vstimecmp = refl;
      hypervisor = refl;
      registers = refl;
      counts = refl;
      waits = refl;
      says = refl;
      beside = refl;
    }

nested : (v : Vcpu) (a : GuestPhysAddr) → Nested v (applied v (missed_effect v.csrs (missed_of (fetch.GuestPage a)))) a access.Execute
unfolding applied missed_effect missed_of finished_of stored counted bumped event_number
nested v a = record { says = refl; registers = refl; csrs = refl; counts = refl; waits = refl; beside = refl }

not_fetched : (v : Vcpu) → NotFetched v (applied v (missed_effect v.csrs (missed_of fetch.Unhandled)))
unfolding applied missed_effect missed_of failed_of stored counted bumped event_number
not_fetched v = record { csrs = refl; registers = refl; counts = refl; waits = refl; says = refl; beside = refl }

-- the answer to a fetch that waits, whichever of the two classes asked
answered : (v : Vcpu) (c : HostCall) (f : Fetch) → FetchAnswered v c f → called_of v c ≡ applied v (fetch_effect v.x v.csrs v.waiting f)
unfolding called_of base_of effect_of answer_effect fitting_effect answer_number
answered v c f h =
    ap (called_of v) h.answers
    ∙ ap (λ (n : ℕ). applied v (pick (eqb n 1) (fetch_effect v.x v.csrs v.waiting f) (refused_of v.csrs v.waiting error.WrongAnswer))) h.asks

by_answer : (v : Vcpu) (c : HostCall) (f : Fetch) (P : Outcome → Type 0) → FetchAnswered v c f → P (applied v (fetch_effect v.x v.csrs v.waiting f)) → P (called_of v c)
by_answer v c f P h p = subst P (sym (answered v c f h)) p

-- by value, for every record and call
pub w5 : (v : Vcpu) (c : HostCall) → W5 v (called_of v c) c
unfolding fetch_effect missed_effect missed_of
w5 v c =
    record {
      page_fault = λ a h. by_answer v c (fetch.Page a) (λ (o : Outcome). TakenInS v o instruction_page_fault a) h (taken v instruction_page_fault a);
      access_fault = λ a h. by_answer v c (fetch.Access a) (λ (o : Outcome). TakenInS v o instruction_access_fault a) h (taken v instruction_access_fault a);
      misaligned_fault = λ a h. by_answer v c (fetch.Misaligned a) (λ (o : Outcome). TakenInS v o instruction_misaligned a) h (taken v instruction_misaligned a);
      guest_page_fault = λ a h. by_answer v c (fetch.GuestPage a) (λ (o : Outcome). Nested v o a access.Execute) h (nested v a);
      unhandled = λ h. by_answer v c fetch.Unhandled (λ (o : Outcome). NotFetched v o) h (not_fetched v);
      elsewhere = mode_kept v c;
    }

both : (b d : Bool) → and b d ≡ true → (b ≡ true) × (d ≡ true)
both true d h = (refl, h)
both false d h = never (sym h)

module _ (P : Type 0) (v : Vcpu) (c : HostCall) (t : TouchedBy P v c) where
  listed_fault : waiting_ask v.waiting ≡ 1 → (f : Fetch) → c ≡ host_call.Answer (answer.Fetched f) → injects f ≡ true → P
  unfolding injects
  listed_fault w (fetch.Page a) e h = t.page a (record { asks = w; answers = e })
  listed_fault w (fetch.Access a) e h = t.access a (record { asks = w; answers = e })
  listed_fault w (fetch.Misaligned a) e h = t.misaligned a (record { asks = w; answers = e })
  listed_fault w (fetch.GuestPage a) e h = never (sym h)
  listed_fault w fetch.Unhandled e h = never (sym h)
  listed_fault w (fetch.Word k) e h = never (sym h)

  listed_answer : waiting_ask v.waiting ≡ 1 → (a : Answer) → c ≡ host_call.Answer a → answer_injects a ≡ true → P
  unfolding answer_injects
  listed_answer w (answer.Fetched f) e h = listed_fault w f e h
  listed_answer w (answer.MaskCopied count bytes) e h = never (sym h)
  listed_answer w (answer.CopiedIn count) e h = never (sym h)
  listed_answer w (answer.Printed k value) e h = never (sym h)
  listed_answer w (answer.ConsoleRead k value) e h = never (sym h)
  listed_answer w (answer.CopiedOut count) e h = never (sym h)
  listed_answer w answer.Emitted e h = never (sym h)
  listed_answer w (answer.Char number) e h = never (sym h)
  listed_answer w (answer.Forwarded k value) e h = never (sym h)
  listed_answer w answer.Other e h = never (sym h)

  listed_call : (d : HostCall) → c ≡ d → touches_mode v d ≡ true → P
  unfolding touches_mode
  listed_call (host_call.New hart tree) e h = t.new hart tree e
  listed_call host_call.Setup e h = t.setup e
  listed_call (host_call.Answer a) e h =
      let k = both (eqb (waiting_ask v.waiting) 1) (answer_injects a) h in listed_answer (eqb-true _ 1 k.0) a e k.1
  listed_call (host_call.Start s) e h = never (sym h)
  listed_call (host_call.SetEntry at) e h = never (sym h)
  listed_call (host_call.GetGpr index) e h = never (sym h)
  listed_call (host_call.SetGpr index value) e h = never (sym h)
  listed_call (host_call.SetReturnValue value) e h = never (sym h)
  listed_call (host_call.SetNestedPageTable levels mode root) e h = never (sym h)
  listed_call (host_call.SetPending vector level) e h = never (sym h)
  listed_call (host_call.LatchHvip bits) e h = never (sym h)
  listed_call (host_call.CompleteIpi abi completion) e h = never (sym h)
  listed_call (host_call.CompleteLoad n) e h = never (sym h)
  listed_call (host_call.ToPrint length) e h = never (sym h)

  -- follows of every call that `touches_mode` lists: it lists no other
  pub touched_by : touches_mode v c ≡ true → P
  touched_by h = listed_call c refl h

-- over a lent record, by its promise: what is left and given are such an outcome
pub w5_lent : (v w : Vcpu) (c : HostCall) (g : Given) → Stored v c w g → W5 v (record { vcpu = w; reply = g.reply; args = g.args }) c
w5_lent v w c g s =
    subst (λ (h : Given). W5 v (record { vcpu = w; reply = h.reply; args = h.args }) c) (sym s.1)
    (subst (λ (u : Vcpu). W5 v (record { vcpu = u; reply = (called_of v c).reply; args = (called_of v c).args }) c) (sym s.0) (w5 v c))

-- over words, by its promise
pub w5_words : (r s : Record) (c : CallWords) (g : ReplyWords) → Sized r → Exported r c s g
    → (W5 (unpack_of r) (called_of (unpack_of r) (call_of c)) (call_of c)) × (unpack_of s ≡ (called_of (unpack_of r) (call_of c)).vcpu) × (g ≡ reply_words_of (called_of (unpack_of r) (call_of c)))
unfolding exported_of
w5_words r s c g z x = (w5 (unpack_of r) (call_of c), ap unpack_of x.0 ∙ left_shows r (call_of c) z, x.1)

-- in place, by its promise
pub w5_place : (r s p : List ℕ) (c : HostCall) (w : ℕ) → Made r c s p w
    → (W5 (view_of r) (called_of (view_of r) c) c) × (view_of s ≡ (called_of (view_of r) c).vcpu) × (w ≡ reply_word (called_of (view_of r) c).reply) × (p ≡ out_of (called_of (view_of r) c).reply (called_of (view_of r) c).args)
w5_place r s p c w m = (w5 (view_of r) c, m.shows, m.says, m.gives)

-- in place, by the promise of a call that is lent no words for its reply: it leaves the mode alone
pub w5_host : (r s : List ℕ) (c : HostCall) (w : ℕ) → Done r c s w → touches_mode (view_of r) c ≡ false → ModeKept (view_of r) (view_of s)
w5_host r s c w d h = subst (λ (u : Vcpu). ModeKept (view_of r) u) (sym d.shows) (mode_kept (view_of r) c h)

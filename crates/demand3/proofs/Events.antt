-- The event that a call counts is the kind of its trap.
use Prim.Native.Nat.{ℕ, ◌<◌, ◌≤◌, ◌%◌, ◌^◌}
use Rattle.std.proofs.Common.{arith, ap, ◌∙◌, eqb-true, le-ltb}
use Rattle.std.specs.Prelude.{Bool, List, ◌≡◌, get_or, eqb, ltb, leb, None, Option, Some}
use Rattle.std.proofs.Math.Bool.{true, false}
use Rattle.std.proofs.Math.Path.{refl, sym}
use Rattle.std.proofs.lemmas.Bool.{eqb-false}
use Rattle.isa_types.specs.Pick.{pick, or, and}
use Rattle.scope.specs.OneTrap.{answer_number}
use Rattle.scope.specs.declared.traps.IpiRequest.{IpiRequest}
use Rattle.scope.specs.declared.traps.Access.{Access}
use Rattle.scope.specs.declared.traps.Answer.{Answer}
use Rattle.scope.specs.declared.traps.Answer.TheVariants as answers
use Rattle.scope.specs.declared.traps.Args.{Args}
use Rattle.scope.specs.declared.traps.Fetch.{Fetch}
use Rattle.scope.specs.declared.traps.Fetch.TheVariants as fetch
use Rattle.isa_types.specs.declared.GuestPhysAddr.{GuestPhysAddr}
use Rattle.scope.specs.declared.traps.Trap.{Trap}
use Rattle.isa_consts.specs.Csr.{console_room, system_opcode, stimecmp}
use Rattle.isa_consts.specs.Sbi.{legacy_set_timer, legacy_putchar, legacy_getchar, legacy_clear_ipi, legacy_send_ipi, legacy_fence_i, legacy_sfence_vma, legacy_sfence_vma_asid, legacy_shutdown, eid_time, eid_spi, eid_hsm, eid_hvc, eid_srst, eid_dbcn, eid_rfnc}
use Rattle.isa_decoder.specs.declared.Trapped.{Trapped}
use Rattle.isa_fields.specs.Fields.{opcode_field, rd_field, funct3_field, rs1_field, csr_field}
use Rattle.scope.specs.declared.machine.Csrs.{Csrs}
use Rattle.scope.specs.declared.machine.Effect.{Effect}
use Rattle.scope.specs.declared.machine.Vcpu.{Vcpu}
use Rattle.scope.specs.declared.machine.Waiting.{Waiting}
use Rattle.scope.specs.declared.machine.Waiting.TheVariants as waiting
use Rattle.scope.specs.Record.{event_number, is_idle, waiting_ask}
use Rattle.scope.specs.Refusals.{finished_of, asking_of, failed_of, refused_of, done_of, leaves_of, unless_asking}
use Rattle.scope.specs.Ecalls.{lesser_of, returns_of, moves_of, stays_of, asks_of, set_timer_of, clear_ipi_of, hypercall_of, ecall_effect, console_effect, console_read_effect, copied_effect, copied_out_effect, dbcn_effect, ecall_answer, forward_effect, gives_of, hsm_effect, mask_effect, not_supported_effect, rfnc_effect, span_effect, spi_effect, srst_effect, time_effect}
use Rattle.scope.specs.declared.decided.Missed.{Missed}
use Rattle.scope.specs.declared.decided.Missed.TheVariants as missed
use Rattle.scope.specs.VirtualInstruction.{ask_fetch_of, missed_effect, virtual_effect, clear_bits, set_bits, stimecmp_by, stimecmp_effect, stimecmp_stval, stimecmp_word}
use Rattle.scope.specs.declared.decided.Stimecmp.{Stimecmp}
use Rattle.scope.specs.declared.decided.Stimecmp.TheVariants as csr
use Rattle.scope.specs.declared.decided.Fault.{Fault}
use Rattle.scope.specs.declared.decided.Fault.TheVariants as fault
use Rattle.scope.specs.GuestPageFault.{fault_effect, completed_of, mmio_of, page_fault_of}
use Rattle.scope.specs.Host.{hvip_bit_of, write_effect, paging_by, paging_effect, pending_effect}
use Rattle.scope.specs.Classes.{arguments_of, start_effect, class_of, class_effect}
use Rattle.demand3_table.specs.Table.{a6, a7}
use Rattle.demand3.specs.Kinds.{fence_kind, ecall_kind, csr_funct3, on_stimecmp, word_kind, stval_kind, waiting_kind, fetch_kind, answer_kind, call_kind, class_kind}
use Rattle.scope.specs.declared.decided.Class.{Class}
use Rattle.scope.specs.declared.machine.EcallAsk.{EcallAsk}
use Rattle.scope.specs.declared.hosts.HostCall.{HostCall}
use Rattle.scope.specs.Answers.{answer_effect, fetch_effect, fitting_effect, numbers_effect, values_effect, word_effect}
use Rattle.scope.specs.declared.machine.EcallAsk.TheVariants as asked
use Rattle.scope.specs.declared.decided.Class.TheVariants as class
use Rattle.scope.specs.Calls.{effect_of}
use Rattle.scope.specs.declared.hosts.HostCall.TheVariants as host_call

-- both ways of a test give the same number
both : {A : Type 0} (t : Bool) {p q : A} (g : A → ℕ) {n : ℕ} → g p ≡ n → g q ≡ n → g (pick t p q) ≡ n
both true g h k = h
both false g h k = k

-- each way gives its own
each : {A : Type 0} (t : Bool) {p q : A} (g : A → ℕ) {n m : ℕ} → g p ≡ n → g q ≡ m → g (pick t p q) ≡ pick t n m
each true g h k = h
each false g h k = k

-- a test for a number gives that number's kind
module _ {A : Type 0} (e n : ℕ) {p q : A} (g : A → ℕ) (kind : ℕ → ℕ) (taken : g p ≡ kind n) (other : eqb e n ≡ false → g q ≡ kind e) where
  told_by : (t : Bool) → eqb e n ≡ t → g (pick t p q) ≡ kind e
  told_by true k = taken ∙ ap kind (sym (eqb-true e n k))
  told_by false k = other k

  told : g (pick (eqb e n) p q) ≡ kind e
  told = told_by (eqb e n) refl

abbrev counts : Effect → ℕ
counts e = event_number e.event

above : (e n : ℕ) → n ≤ e → eqb e n ≡ false → n < e
above e n h k = omega (arith, eqb-false e n k)

module _ (c : Csrs) (eid fid : ℕ) (a : Args) where
  fence_event : counts (rfnc_effect c eid fid a) ≡ fence_kind fid
  unfolding rfnc_effect fence_kind forward_effect asking_of event_number
  fence_event =
      told fid 0 counts fence_kind refl
      (λ n0. told fid 1 counts fence_kind refl
      (λ n1. told fid 2 counts fence_kind refl
      (λ n2. told fid 3 counts fence_kind refl
      (λ n3. told fid 4 counts fence_kind refl
      (λ n4. told fid 5 counts fence_kind refl
      (λ n5. told fid 6 counts fence_kind refl
      (λ n6. sym (rw (le-ltb fid 7 (above fid 6 (above fid 5 (above fid 4 (above fid 3 (above fid 2 (above fid 1 (above fid 0 (omega arith) n0) n1) n2) n3) n4) n5) n6))))))))))

  span_event : (write : Bool) (at : GuestPhysAddr) (n : ℕ) → counts (span_effect c write at n) ≡ 0
  unfolding span_effect returns_of asks_of finished_of asking_of event_number
  span_event write at n = both (eqb n 0) counts refl (both write counts refl refl)

  console_event : (write : Bool) (room : ℕ) → counts (console_effect c write a room) ≡ 0
  unfolding console_effect returns_of finished_of event_number
  console_event write room =
      both (eqb a.a0 0) counts refl
      (both (eqb a.a2 0) counts (span_event write (record { 0 = a.a1 }) (lesser_of a.a0 room)) refl)

  dbcn_event : (room : ℕ) → counts (dbcn_effect c fid a room) ≡ 0
  unfolding dbcn_effect not_supported_effect returns_of asks_of finished_of asking_of event_number
  dbcn_event room =
      both (eqb fid 0) counts (console_event true room)
      (both (eqb fid 1) counts (console_event false room) (both (eqb fid 2) counts refl refl))

  ecall_event : (room : ℕ) → counts (ecall_effect c eid fid a room) ≡ ecall_kind eid fid
  unfolding ecall_effect ecall_kind time_effect spi_effect hsm_effect srst_effect forward_effect not_supported_effect returns_of moves_of stays_of asks_of set_timer_of clear_ipi_of hypercall_of finished_of asking_of event_number
  ecall_event room =
      told eid legacy_set_timer counts kind refl
      (λ n0. told eid legacy_putchar counts kind refl
      (λ n1. told eid legacy_getchar counts kind refl
      (λ n2. told eid legacy_clear_ipi counts kind refl
      (λ n3. told eid legacy_send_ipi counts kind refl
      (λ n4. told eid legacy_fence_i counts kind refl
      (λ n5. told eid legacy_sfence_vma counts kind refl
      (λ n6. told eid legacy_sfence_vma_asid counts kind refl
      (λ n7. told eid legacy_shutdown counts kind refl
      (λ n8. told eid eid_time counts kind (each (eqb fid 0) counts refl refl)
      (λ time. told eid eid_spi counts kind (both (eqb fid 0) counts refl refl)
      (λ spi. told eid eid_hsm counts kind (both (eqb fid 0) counts refl (both (eqb fid 1) counts refl (both (eqb fid 3) counts refl refl)))
      (λ hsm. told eid eid_hvc counts kind refl
      (λ hvc. told eid eid_srst counts kind (both (eqb fid 0) counts (both (eqb a.a0 0) counts refl refl) refl)
      (λ srst. told eid eid_dbcn counts kind (dbcn_event (lesser_of room console_room))
      (λ dbcn. told eid eid_rfnc counts kind fence_event
      (λ rfnc. sym (rw (n0, time, rfnc))))))))))))))))))
    where
      kind : ℕ → ℕ
      kind e = ecall_kind e fid

-- a CSR instruction: the six on stimecmp count nothing, all others are illegal
module _ (c : Csrs) where
  abbrev csrs : Stimecmp → ℕ
  csrs k = counts (stimecmp_effect c k)

  funct3_event : (f rd field old rs1 : ℕ) → csrs (stimecmp_by f rd field old rs1) ≡ pick (csr_funct3 f) 0 2
  unfolding stimecmp_by stimecmp_effect csr_funct3 finished_of failed_of event_number
  funct3_event f rd field old rs1 = by (eqb f 1) (eqb f 2) (eqb f 3) (eqb f 5) (eqb f 6) (eqb f 7)
    where
      timer : ℕ → Stimecmp
      timer n = csr.Write rd n

      by : (f1 f2 f3 f5 f6 f7 : Bool) → csrs (pick f1 (timer rs1) (pick f2 (timer (set_bits field old rs1)) (pick f3 (timer (clear_bits field old rs1)) (pick f5 (timer field) (pick f6 (timer (set_bits field old field)) (pick f7 (timer (clear_bits field old field)) csr.Illegal)))))) ≡ pick (or f1 (or f2 (or f3 (or f5 (or f6 f7))))) 0 2
      by true f2 f3 f5 f6 f7 = refl
      by false true f3 f5 f6 f7 = refl
      by false false true f5 f6 f7 = refl
      by false false false true f6 f7 = refl
      by false false false false true f7 = refl
      by false false false false false true = refl
      by false false false false false false = refl

  word_event : (w old rs1 : ℕ) → csrs (stimecmp_word w old rs1) ≡ word_kind w
  unfolding stimecmp_word stimecmp_effect word_kind on_stimecmp failed_of event_number
  word_event w old rs1 = by (eqb (opcode_field w) system_opcode) (eqb (csr_field w) stimecmp)
    where
      by : (s t : Bool) → csrs (pick s (pick t (stimecmp_by (funct3_field w) (rd_field w) (rs1_field w) old rs1) csr.Illegal) csr.Illegal) ≡ pick (and s (and t (csr_funct3 (funct3_field w)))) 0 2
      by true true = funct3_event (funct3_field w) (rd_field w) (rs1_field w) old rs1
      by true false = refl
      by false t = refl

  stval_event : (stval rs1 : ℕ) → counts (virtual_effect c stval rs1) ≡ stval_kind (stval % 2 ^ 32)
  unfolding virtual_effect stimecmp_stval stimecmp_effect stval_kind ask_fetch_of asking_of event_number
  stval_event stval rs1 =
      each (eqb (opcode_field (stval % 2 ^ 32)) system_opcode) csrs (word_event (stval % 2 ^ 32) c.vs.vstimecmp rs1) refl

  -- no other trap counts
  fault_event : (at : GuestPhysAddr) (k : Access) (i : Fault) → counts (fault_effect c at k i) ≡ 0
  unfolding fault_effect ask_fetch_of finished_of asking_of failed_of event_number
  fault_event at k fault.Fetch = refl
  fault_event at k fault.Walk = refl
  fault_event at k fault.Unfit = refl
  fault_event at k fault.Nested = refl
  fault_event at k (fault.Load w s rd n) = refl
  fault_event at k (fault.Store w d n) = refl

  mmio_event : (x : List ℕ) (at : GuestPhysAddr) (k : Access) (i : Trapped) → counts (mmio_of x c at k i) ≡ 0
  unfolding mmio_of
  mmio_event x at k i = fault_event at k _

  missed_event : (k : Missed) → counts (missed_effect c k) ≡ 0
  unfolding missed_effect finished_of failed_of event_number
  missed_event (missed.Inject cause addr) = refl
  missed_event (missed.Nested addr) = refl
  missed_event missed.Unhandled = refl

  mask_event : (q : Option IpiRequest) → counts (mask_effect c q) ≡ 0
  unfolding mask_effect moves_of returns_of finished_of event_number
  mask_event (Some r) = refl
  mask_event None = refl

  asked_event : (a : EcallAsk) (word more : ℕ) → counts (ecall_answer c a word more) ≡ 0
  unfolding ecall_answer copied_effect console_read_effect copied_out_effect returns_of moves_of gives_of asks_of finished_of asking_of event_number
  asked_event asked.CopyMask word more = mask_event _
  asked_event (asked.CopyIn n) word more = both (eqb word n) counts refl refl
  asked_event (asked.Print n) word more = refl
  asked_event (asked.ReadConsole n at) word more =
      both (eqb word 0) counts (both (eqb more 0) counts refl (both (leb more n) counts refl refl)) refl
  asked_event (asked.CopyOut v) word more = both (eqb word v) counts refl refl
  asked_event asked.PutChar word more = refl
  asked_event asked.PutByte word more = refl
  asked_event asked.GetChar word more = refl
  asked_event asked.Forward word more = refl

  numbers_event : (n : Waiting) (word more : ℕ) → counts (numbers_effect c n word more) ≡ 0
  unfolding numbers_effect refused_of leaves_of event_number
  numbers_event waiting.Idle word more = refl
  numbers_event (waiting.Load rd w s) word more = refl
  numbers_event waiting.FetchCsr word more = refl
  numbers_event (waiting.FetchFault at k) word more = refl
  numbers_event (waiting.Ecall a) word more = asked_event a word more

  completed_event : (w : Waiting) (n : ℕ) → counts (completed_of c w n) ≡ 0
  unfolding completed_of refused_of leaves_of done_of event_number
  completed_event waiting.Idle n = refl
  completed_event (waiting.Load rd w s) n = refl
  completed_event waiting.FetchCsr n = refl
  completed_event (waiting.FetchFault at k) n = refl
  completed_event (waiting.Ecall a) n = refl

  class_event : (k : Class) (x : List ℕ) (t : Trap) → counts (class_effect k x c t) ≡ class_kind k x t
  unfolding class_effect class_kind page_fault_of finished_of failed_of event_number
  class_event class.Ecall x t = ecall_event c (get_or x a7 0) (get_or x a6 0) (arguments_of x) t.room
  class_event class.VirtualInstruction x t = stval_event t.stval _
  class_event (class.PageFault k) x t = mmio_event x _ k _
  class_event class.Interrupt x t = refl
  class_event class.NotHandled x t = refl
  class_event class.Unknown x t = refl

  -- a host's call counts nothing
  paging_event : (w : Waiting) (wanted mode root : ℕ) → counts (paging_by c w wanted mode root) ≡ 0
  unfolding paging_by done_of refused_of leaves_of event_number
  paging_event w wanted mode root = both (eqb mode wanted) counts (both (eqb (root % 2 ^ 14) 0) counts refl refl) refl

  levels_event : (w : Waiting) (levels mode root : ℕ) → counts (paging_effect c w levels mode root) ≡ 0
  unfolding paging_effect refused_of leaves_of event_number
  levels_event w levels mode root =
      both (eqb levels 3) counts (paging_event w 8 mode root) (both (eqb levels 4) counts (paging_event w 9 mode root) refl)

  pending_event : (w : Waiting) (vector : ℕ) (on : Bool) → counts (pending_effect c w vector on) ≡ 0
  unfolding pending_effect done_of refused_of leaves_of event_number
  pending_event w vector on =
      both (eqb (hvip_bit_of vector) 0) counts refl refl

  write_event : (w : Waiting) (index value : ℕ) → counts (write_effect c w index value) ≡ 0
  unfolding write_effect done_of refused_of leaves_of event_number
  write_event w index value = both (ltb index 32) counts refl refl

-- answers
module _ (x : List ℕ) (c : Csrs) where
  waiting_event : (n : Waiting) (w : ℕ) → counts (word_effect x c n w) ≡ waiting_kind n w
  unfolding word_effect waiting_kind refused_of leaves_of event_number
  waiting_event waiting.FetchCsr w = word_event c w c.vs.vstimecmp _
  waiting_event (waiting.FetchFault at k) w = mmio_event c x at k _
  waiting_event waiting.Idle w = refl
  waiting_event (waiting.Load rd width s) w = refl
  waiting_event (waiting.Ecall a) w = refl

  fetch_event : (n : Waiting) (f : Fetch) → counts (fetch_effect x c n f) ≡ fetch_kind n f
  unfolding fetch_effect fetch_kind
  fetch_event n (fetch.Word w) = waiting_event n w
  fetch_event n (fetch.Page a) = missed_event c _
  fetch_event n (fetch.Access a) = missed_event c _
  fetch_event n (fetch.Misaligned a) = missed_event c _
  fetch_event n (fetch.GuestPage a) = missed_event c _
  fetch_event n fetch.Unhandled = missed_event c _

  answer_event : (n : Waiting) (a : Answer) → counts (fitting_effect x c n a) ≡ answer_kind n a
  unfolding fitting_effect values_effect answer_kind refused_of leaves_of event_number
  answer_event n (answers.Fetched f) = fetch_event n f
  answer_event n (answers.MaskCopied count bytes) = numbers_event c n _ _
  answer_event n (answers.CopiedIn count) = numbers_event c n _ _
  answer_event n (answers.Printed error value) = numbers_event c n _ _
  answer_event n (answers.ConsoleRead error value) = numbers_event c n _ _
  answer_event n (answers.CopiedOut count) = numbers_event c n _ _
  answer_event n answers.Emitted = numbers_event c n _ _
  answer_event n (answers.Char number) = numbers_event c n _ _
  answer_event n (answers.Forwarded error value) = numbers_event c n _ _
  answer_event n answers.Other = refl

guarded_event : (v : Vcpu) (e : Effect) → counts e ≡ 0 → counts (unless_asking v e) ≡ 0
unfolding unless_asking refused_of leaves_of event_number
guarded_event v e h = both (eqb (waiting_ask v.waiting) 0) counts h refl

-- one call
pub event_kind : (v : Vcpu) (c : HostCall) → event_number (effect_of v c).event ≡ call_kind v c
unfolding effect_of call_kind done_of refused_of leaves_of start_effect answer_effect event_number
event_kind v host_call.Setup = guarded_event v _ refl
event_kind v (host_call.SetEntry at) = guarded_event v _ refl
event_kind v (host_call.GetGpr index) = refl
event_kind v (host_call.SetGpr index value) = guarded_event v _ (write_event v.csrs v.waiting index value)
event_kind v (host_call.SetReturnValue value) = guarded_event v _ refl
event_kind v (host_call.SetNestedPageTable levels mode root) =
    guarded_event v _ (levels_event v.csrs v.waiting levels mode root)
event_kind v (host_call.SetPending vector level) = guarded_event v _ (pending_event v.csrs v.waiting vector level)
event_kind v (host_call.LatchHvip bits) = guarded_event v _ refl
event_kind v (host_call.CompleteIpi abi completion) = guarded_event v _ refl
event_kind v (host_call.Start t) =
    each (is_idle v.waiting) counts (class_event v.csrs (class_of t.scause) v.x t) refl
event_kind v (host_call.Answer a) =
    each (eqb (waiting_ask v.waiting) (answer_number a)) counts (answer_event v.x v.csrs v.waiting a) refl
event_kind v (host_call.CompleteLoad n) = completed_event v.csrs v.waiting n
event_kind v (host_call.ToPrint length) = refl
event_kind v (host_call.New hart tree) = refl

-- A call has the same effect on two records alike but in r, where it neither names r nor reads it out.
use Rattle.std.specs.Prelude.{ℕ, ◌<◌, ◌≤◌, ◌%◌, ◌^◌, Bool, List, ◌∷◌, ◌≡◌, get_or, ltb}
use Rattle.std.proofs.Common.{arith, subst, ◌∙◌}
use Rattle.std.proofs.Math.Bool.{true, false}
use Rattle.std.proofs.Math.Path.{refl, ap, ap₂}
use Rattle.std.proofs.Math.Dec.{eqb, leb}
use borrow.Author.Tests.{eqb-true, eqb-false, lt-leb}
use Rattle.isa_types.specs.Pick.{pick}
use Rattle.scope.specs.declared.traps.Access.{Access}
use Rattle.scope.specs.declared.traps.Access.TheVariants as access
use Rattle.scope.specs.declared.traps.Answer.{Answer}
use Rattle.scope.specs.declared.traps.Answer.TheVariants as answers
use Rattle.scope.specs.declared.traps.Args.{Args}
use Rattle.scope.specs.declared.traps.Fetch.{Fetch}
use Rattle.scope.specs.declared.traps.Fetch.TheVariants as fetch
use Rattle.isa_types.specs.declared.GuestPhysAddr.{GuestPhysAddr}
use Rattle.scope.specs.declared.traps.Trap.{Trap}
use Rattle.isa_types.specs.declared.Width.{Width}
use Rattle.isa_consts.specs.Csr.{console_room, system_opcode, stimecmp}
use Rattle.isa_consts.specs.Sbi.{legacy_set_timer, legacy_putchar, legacy_getchar, legacy_clear_ipi, legacy_send_ipi, legacy_fence_i, legacy_sfence_vma, legacy_sfence_vma_asid, legacy_shutdown, eid_time, eid_spi, eid_hsm, eid_hvc, eid_srst, eid_dbcn, eid_rfnc}
use Rattle.isa_decoder.specs.declared.Decoded.TheVariants as decoded
use Rattle.isa_decoder.specs.declared.Trapped.{Trapped}
use Rattle.isa_decoder.specs.declared.Trapped.TheVariants as trapped
use Rattle.isa_fields.specs.Fields.{opcode_field, rd_field, funct3_field, rs1_field, csr_field}
use Rattle.isa_decoder.specs.Length.{htinst_of, fetched_of, store_source}
use Rattle.scope.specs.declared.machine.Csrs.{Csrs}
use Rattle.scope.specs.declared.machine.Effect.{Effect}
use Rattle.scope.specs.declared.machine.Event.TheVariants as event
use Rattle.scope.specs.declared.machine.Vcpu.{Vcpu}
use Rattle.scope.specs.declared.machine.Waiting.{Waiting}
use Rattle.scope.specs.declared.machine.Waiting.TheVariants as waiting
use Rattle.scope.specs.Record.{value_of, is_idle}
use Rattle.scope.specs.Ecalls.{lesser_of, ecall_effect, asks_of, console_effect, dbcn_effect, forward_effect, hsm_effect, hypercall_of, rfnc_effect, set_timer_of, spi_effect, srst_effect, time_effect}
use Rattle.scope.specs.GuestPageFault.{store_under, fault_of, fault_effect, mmio_of, page_fault_of}
use Rattle.scope.specs.Classes.{arguments_of, start_effect, class_of, class_effect}
use Rattle.scope.specs.VirtualInstruction.{virtual_effect, stimecmp_by, stimecmp_stval, stimecmp_word}
use Rattle.scope.specs.Calls.{effect_of, gpr_reply}
use Rattle.demand3_table.specs.Table.{a0, a1, a2, a3, a4, a5, a6, a7, source_names, forward_names, time_names, srst_names, spi_names, hsm_names, console_names, byte_names, dbcn_names, eid_names, ecall_names, funct3_names, stimecmp_names, store_names, class_names, access_names, word_names, fetch_names, answer_names, call_names, call_reads}
use Rattle.demand3_table.specs.Runs.{among, Apart}
use Rattle.demand3_table.specs.Alike.{Files, Alike}
use Rattle.demand3_table.proofs.Stored.{neither}
use Rattle.scope.specs.declared.hosts.HostCall.{HostCall}
use Rattle.scope.specs.Answers.{answer_effect, fetch_effect, fitting_effect, word_effect}
use Rattle.scope.specs.declared.traps.Ask.TheVariants as ask
use Rattle.scope.specs.declared.machine.EcallAsk.TheVariants as asked
use Rattle.scope.specs.declared.decided.Class.TheVariants as class
use Rattle.scope.specs.declared.hosts.HostCall.TheVariants as host_call
use Rattle.scope.specs.Refusals.{unless_asking}
use Rattle.scope.specs.declared.machine.Writes.TheVariants as writes
use Rattle.scope.specs.declared.decided.Class.{Class}

-- a register that a list names is not r where r is apart from the list
pub out : {r : ℕ} {l : List ℕ} (k : ℕ) → Apart r l → among k l ≡ true → k ≡ r → ⊥
out {r} {l} k h m e =
    let both : among k l ≡ among r l = ap (λ n. among n l) e in
    let never : ◌≡◌ {A = ℕ} 0 1 = cc h.free in
    omega arith

-- r is not the first of a list that it is apart from
pub first : {r k : ℕ} {l : List ℕ} → Apart r (k ∷ l) → k ≡ r → ⊥
first {r} {k} {l} h = eqb-false k r (neither (eqb k r) _ h.free).0

-- nor one of those that follow
pub rest : {r k : ℕ} {l : List ℕ} → Apart r (k ∷ l) → Apart r l
rest {r} {k} {l} h = record { free = (neither (eqb k r) _ h.free).1 }

-- where a test parts both the table and the decision
pub parted : {A B : Type 0} {r : ℕ} (t : Bool) {l m : List ℕ} {p q p' q' : A} (g g' : A → B) → Apart r (pick t l m) → (Apart r l → g p ≡ g' p') → (Apart r m → g q ≡ g' q') → g (pick t p q) ≡ g' (pick t p' q')
parted true g g' h taken other = taken h
parted false g g' h taken other = other h

-- where a decision tests for a number, and the table's row is the one of that number
module _ {A B : Type 0} {r : ℕ} (e n : ℕ) (names : ℕ → List ℕ) {p q p' q' : A} (g g' : A → B) (h : Apart r (names e)) (taken : Apart r (names n) → g p ≡ g' p') (other : eqb e n ≡ false → g q ≡ g' q') where
  rowed_by : (t : Bool) → eqb e n ≡ t → g (pick t p q) ≡ g' (pick t p' q')
  rowed_by true k = taken (subst (λ (z : ℕ). Apart r (names z)) (eqb-true e n k) h)
  rowed_by false k = other k

  rowed : g (pick (eqb e n) p q) ≡ g' (pick (eqb e n) p' q')
  rowed = rowed_by (eqb e n) refl

-- one number more is ruled out
next : (e n : ℕ) → n ≤ e → eqb e n ≡ false → n < e
next e n h k = omega (arith, eqb-false e n k)

-- a row that is the same as those below it
either : (t : Bool) (l : List ℕ) → pick t l l ≡ l
either true l = refl
either false l = refl

module _ {r : ℕ} {x y : List ℕ} (f : Files r x y) where
  -- rs1 or rs2, unless it is x0
  value_alike : (i : ℕ) → Apart r (source_names i) → value_of x i ≡ value_of y i
  unfolding value_of source_names
  value_alike i h = parted (eqb i 0) (λ n. n) (λ n. n) h (λ h. refl) (λ h. ap (λ n. pick (ltb i 32) n 0) (f.agree i (first h)))

  -- a register that the table names has the same content in both
  named : {l : List ℕ} (k : ℕ) → Apart r l → among k l ≡ true → get_or x k 0 ≡ get_or y k 0
  named k h m = f.agree k (out k h m)

  arguments_alike : Apart r forward_names → arguments_of x ≡ arguments_of y
  unfolding arguments_of forward_names
  arguments_alike h = rw (named a0 h refl, named a1 h refl, named a2 h refl, named a3 h refl, named a4 h refl, named a5 h refl)

  -- SBI calls with eid e
  module _ (c : Csrs) (e : ℕ) where
    abbrev same : Effect → Effect
    same k = k

    time_row : (fid : ℕ) → Apart r (time_names fid) → time_effect c fid (arguments_of x) ≡ time_effect c fid (arguments_of y)
    unfolding time_effect time_names arguments_of
    time_row fid h = parted (eqb fid 0) same same h (λ h. rw (named a0 h refl)) (λ h. refl)

    srst_row : (fid : ℕ) → Apart r (srst_names fid) → srst_effect c fid (arguments_of x) ≡ srst_effect c fid (arguments_of y)
    unfolding srst_effect srst_names arguments_of
    srst_row fid h = parted (eqb fid 0) same same h (λ h. rw (named a0 h refl)) (λ h. refl)

    spi_row : (fid : ℕ) → Apart r (spi_names fid) → spi_effect c fid (arguments_of x) ≡ spi_effect c fid (arguments_of y)
    unfolding spi_effect spi_names arguments_of
    spi_row fid h = parted (eqb fid 0) same same h (λ h. rw (named a0 h refl, named a1 h refl)) (λ h. refl)

    hsm_row : (fid : ℕ) → Apart r (hsm_names fid) → hsm_effect c fid (arguments_of x) ≡ hsm_effect c fid (arguments_of y)
    unfolding hsm_effect hsm_names arguments_of
    hsm_row fid h =
        parted (eqb fid 0) same same h (λ h. rw (named a0 h refl, named a1 h refl, named a2 h refl)) (λ h. refl)

    console_row : (write : Bool) (room : ℕ) → Apart r console_names → console_effect c write (arguments_of x) room ≡ console_effect c write (arguments_of y) room
    unfolding console_effect console_names arguments_of
    console_row write room h = rw (named a0 h refl, named a1 h refl, named a2 h refl)

    dbcn_row : (room fid : ℕ) → Apart r (dbcn_names fid) → dbcn_effect c fid (arguments_of x) room ≡ dbcn_effect c fid (arguments_of y) room
    unfolding dbcn_effect dbcn_names byte_names arguments_of
    dbcn_row room fid h =
        parted (eqb fid 0) same same h (console_row true room)
        (λ h. parted (eqb fid 1) same same h (console_row false room)
        (λ h. parted (eqb fid 2) same same h (λ h. rw (named a0 h refl))
        (λ h. refl)))

    -- others with fids: a6
    fid_row : (k : ℕ → Args → Effect) (rows : ℕ → List ℕ) → ((fid : ℕ) → Apart r (rows fid) → k fid (arguments_of x) ≡ k fid (arguments_of y)) → Apart r (a6 ∷ rows (get_or x a6 0)) → k (get_or x a6 0) (arguments_of x) ≡ k (get_or y a6 0) (arguments_of y)
    fid_row k rows row h = row (get_or x a6 0) (rest h) ∙ ap (λ fid. k fid (arguments_of y)) (named a6 h refl)

    -- HVC, PMU, RFNC, forwarded: a6, a0 to a5
    forward_row : (k : ℕ → Args → Effect) → Apart r forward_names → k (get_or x a6 0) (arguments_of x) ≡ k (get_or y a6 0) (arguments_of y)
    unfolding forward_names
    forward_row k h = ap₂ k (named a6 h refl) (arguments_alike h)

    -- legacy 0, 1, 4: a0
    a0_row : {l : List ℕ} (k : ℕ → Effect) → Apart r l → among a0 l ≡ true → k (arguments_of x).a0 ≡ k (arguments_of y).a0
    unfolding arguments_of
    a0_row k h m = ap k (named a0 h m)

    abbrev names : ℕ → List ℕ
    names n = eid_names n (get_or x a6 0)

    eid_alike : (room : ℕ) → Apart r (eid_names e (get_or x a6 0)) → ecall_effect c e (get_or x a6 0) (arguments_of x) room ≡ ecall_effect c e (get_or y a6 0) (arguments_of y) room
    unfolding ecall_effect eid_names
    eid_alike room h =
        rowed e legacy_set_timer names same same h (λ h. a0_row (λ n. set_timer_of c n (writes.One 10 0)) h refl)
        (λ n0. rowed e legacy_putchar names same same h (λ h. a0_row (λ n. asks_of c asked.PutChar (ask.Emit n)) h refl)
        (λ n1. rowed e legacy_getchar names same same h (λ h. refl)
        (λ n2. rowed e legacy_clear_ipi names same same h (λ h. refl)
        (λ n3. rowed e legacy_send_ipi names same same h (λ h. a0_row (λ n. asks_of c asked.CopyMask (ask.CopyMask (record { 0 = n }))) h refl)
        (λ n4. rowed e legacy_fence_i names same same h (λ h. refl)
        (λ n5. rowed e legacy_sfence_vma names same same h (λ h. refl)
        (λ n6. rowed e legacy_sfence_vma_asid names same same h (λ h. refl)
        (λ n7. rowed e legacy_shutdown names same same h (λ h. refl)
        (λ n8. rowed e eid_time names same same h (fid_row (time_effect c) time_names time_row)
        (λ time. rowed e eid_spi names same same h (fid_row (spi_effect c) spi_names spi_row)
        (λ spi. rowed e eid_hsm names same same h (fid_row (hsm_effect c) hsm_names hsm_row)
        (λ hsm. rowed e eid_hvc names same same h (forward_row (hypercall_of c))
        (λ hvc. rowed e eid_srst names same same h (fid_row (srst_effect c) srst_names srst_row)
        (λ srst. rowed e eid_dbcn names same same h (fid_row (λ fid a. dbcn_effect c fid a (lesser_of room console_room)) dbcn_names (dbcn_row (lesser_of room console_room)))
        (λ dbcn. rowed e eid_rfnc names same same h (forward_row (rfnc_effect c e))
        (λ rfnc. forward_row (forward_effect c event.Quiet e) (forwarded n0 n1 n2 n3 n4 n5 n6 n7 n8 time spi hsm hvc srst dbcn rfnc)))))))))))))))))
      where
        forwarded : eqb e 0 ≡ false → eqb e 1 ≡ false → eqb e 2 ≡ false → eqb e 3 ≡ false → eqb e 4 ≡ false → eqb e 5 ≡ false → eqb e 6 ≡ false → eqb e 7 ≡ false → eqb e 8 ≡ false → eqb e eid_time ≡ false → eqb e eid_spi ≡ false → eqb e eid_hsm ≡ false → eqb e eid_hvc ≡ false → eqb e eid_srst ≡ false → eqb e eid_dbcn ≡ false → eqb e eid_rfnc ≡ false → Apart r forward_names
        forwarded n0 n1 n2 n3 n4 n5 n6 n7 n8 time spi hsm hvc srst dbcn rfnc =
            let above : leb e 8 ≡ false = lt-leb e 8 (next e 8 (next e 7 (next e 6 (next e 5 (next e 4 (next e 3 (next e 2 (next e 1 (next e 0 (omega arith) n0) n1) n2) n3) n4) n5) n6) n7) n8) in
            simp (n0, n1, n4, above, hvc, rfnc, time, srst, spi, hsm, dbcn, either) at h

  ecall_alike : (c : Csrs) (room : ℕ) → Apart r (ecall_names x) → ecall_effect c (get_or x a7 0) (get_or x a6 0) (arguments_of x) room ≡ ecall_effect c (get_or y a7 0) (get_or y a6 0) (arguments_of y) room
  unfolding ecall_names
  ecall_alike c room h =
      eid_alike c (get_or x a7 0) room (rest h) ∙ ap (λ e. ecall_effect c e (get_or y a6 0) (arguments_of y) room) (named a7 h refl)

  -- stimecmp: rs1 for funct3 1, 2, 3
  funct3_row : (funct3 rd s old : ℕ) → Apart r (funct3_names funct3 s) → stimecmp_by funct3 rd s old (value_of x s) ≡ stimecmp_by funct3 rd s old (value_of y s)
  unfolding stimecmp_by funct3_names
  funct3_row funct3 rd s old h =
      parted (eqb funct3 1) (λ k. k) (λ k. k) h (λ (h : Apart r (source_names s)). rw (value_alike s h))
      (λ h. parted (eqb funct3 2) (λ k. k) (λ k. k) h (λ (h : Apart r (source_names s)). rw (value_alike s h))
      (λ h. parted (eqb funct3 3) (λ k. k) (λ k. k) h (λ (h : Apart r (source_names s)). rw (value_alike s h))
      (λ h. refl)))

  csr_alike : (w old : ℕ) → Apart r (stimecmp_names w) → stimecmp_word w old (value_of x (rs1_field w)) ≡ stimecmp_word w old (value_of y (rs1_field w))
  unfolding stimecmp_word stimecmp_names
  csr_alike w old h =
      parted (eqb (opcode_field w) system_opcode) (λ k. k) (λ k. k) h
      (λ h. parted (eqb (csr_field w) stimecmp) (λ k. k) (λ k. k) h (funct3_row (funct3_field w) (rd_field w) (rs1_field w) old) (λ h. refl))
      (λ h. refl)

  virtual_alike : (c : Csrs) (stval : ℕ) → Apart r (stimecmp_names (stval % 2 ^ 32)) → virtual_effect c stval (value_of x (rs1_field (stval % 2 ^ 32))) ≡ virtual_effect c stval (value_of y (rs1_field (stval % 2 ^ 32)))
  unfolding virtual_effect stimecmp_stval
  virtual_alike c stval h = rw (csr_alike (stval % 2 ^ 32) c.vs.vstimecmp h)

  -- decoded store under 23: rs2
  store_alike : (c : Csrs) (at : GuestPhysAddr) (i : Trapped) → Apart r (store_names i) → mmio_of x c at access.Write i ≡ mmio_of y c at access.Write i
  unfolding mmio_of store_names
  store_alike c at i h = rw (value_alike (store_source i) h)

-- no other access reads a register
reads_none : (k : Access) (i : Trapped) (n m : ℕ) → ((w : Width) (n m l : ℕ) → store_under k w n l ≡ store_under k w m l) → fault_of k i n ≡ fault_of k i m
unfolding fault_of
reads_none k trapped.Absent n m h = refl
reads_none k trapped.Pseudo n m h = refl
reads_none k trapped.Unfit n m h = refl
reads_none k (trapped.Instruction (decoded.Load w s rd) l) n m h = refl
reads_none k (trapped.Instruction (decoded.Store w rs2) l) n m h = h w n m l
reads_none k (trapped.Instruction decoded.Neither l) n m h = refl

read_alike : (x y : List ℕ) (c : Csrs) (at : GuestPhysAddr) (i : Trapped) → mmio_of x c at access.Read i ≡ mmio_of y c at access.Read i
unfolding mmio_of store_under
read_alike x y c at i = ap (fault_effect c at access.Read) (reads_none access.Read i _ _ (λ w n m l. refl))

execute_alike : (x y : List ℕ) (c : Csrs) (at : GuestPhysAddr) (i : Trapped) → mmio_of x c at access.Execute i ≡ mmio_of y c at access.Execute i
unfolding mmio_of store_under
execute_alike x y c at i = ap (fault_effect c at access.Execute) (reads_none access.Execute i _ _ (λ w n m l. refl))

module _ {r : ℕ} {x y : List ℕ} (f : Files r x y) where
  access_alike : (k : Access) (c : Csrs) (at : GuestPhysAddr) (i : Trapped) → Apart r (access_names k i) → mmio_of x c at k i ≡ mmio_of y c at k i
  unfolding access_names
  access_alike access.Read c at i h = read_alike x y c at i
  access_alike access.Write c at i h = store_alike f c at i h
  access_alike access.Execute c at i h = execute_alike x y c at i

  class_alike : (k : Class) (c : Csrs) (t : Trap) → Apart r (class_names k x t) → class_effect k x c t ≡ class_effect k y c t
  unfolding class_effect class_names page_fault_of
  class_alike class.Ecall c t h = ecall_alike f c t.room h
  class_alike class.VirtualInstruction c t h = virtual_alike f c t.stval h
  class_alike (class.PageFault k) c t h = access_alike k c _ (htinst_of t.htinst) h
  class_alike class.Interrupt c t h = refl
  class_alike class.NotHandled c t h = refl
  class_alike class.Unknown c t h = refl

  word_alike : (n : Waiting) (c : Csrs) (w : ℕ) → Apart r (word_names n w) → word_effect x c n w ≡ word_effect y c n w
  unfolding word_effect word_names
  word_alike waiting.Idle c w h = refl
  word_alike (waiting.Load rd width s) c w h = refl
  word_alike waiting.FetchCsr c w h = rw (csr_alike f w c.vs.vstimecmp h)
  word_alike (waiting.FetchFault at k) c w h = access_alike k c at (fetched_of w) h
  word_alike (waiting.Ecall a) c w h = refl

  fetch_alike : (n : Waiting) (c : Csrs) (a : Fetch) → Apart r (fetch_names n a) → fetch_effect x c n a ≡ fetch_effect y c n a
  unfolding fetch_effect fetch_names
  fetch_alike n c (fetch.Word w) h = word_alike n c w h
  fetch_alike n c (fetch.Page a) h = refl
  fetch_alike n c (fetch.Access a) h = refl
  fetch_alike n c (fetch.Misaligned a) h = refl
  fetch_alike n c (fetch.GuestPage a) h = refl
  fetch_alike n c fetch.Unhandled h = refl

  answer_alike : (n : Waiting) (c : Csrs) (a : Answer) → Apart r (answer_names n a) → fitting_effect x c n a ≡ fitting_effect y c n a
  unfolding fitting_effect answer_names
  answer_alike n c (answers.Fetched f) h = fetch_alike n c f h
  answer_alike n c (answers.MaskCopied count bytes) h = refl
  answer_alike n c (answers.CopiedIn count) h = refl
  answer_alike n c (answers.Printed error value) h = refl
  answer_alike n c (answers.ConsoleRead error value) h = refl
  answer_alike n c (answers.CopiedOut count) h = refl
  answer_alike n c answers.Emitted h = refl
  answer_alike n c (answers.Char number) h = refl
  answer_alike n c (answers.Forwarded error value) h = refl
  answer_alike n c answers.Other h = refl

-- one call, on two records that are alike
pub effect_alike : (r : ℕ) (v w : Vcpu) (c : HostCall) → Alike r v w → Apart r (call_names v c) → Apart r (call_reads c) → effect_of v c ≡ effect_of w c
unfolding effect_of call_names call_reads unless_asking start_effect gpr_reply answer_effect
effect_alike r v w host_call.Setup a h k = rw (a.csrs, a.waiting)
effect_alike r v w (host_call.SetEntry at) a h k = rw (a.csrs, a.waiting)
effect_alike r v w (host_call.GetGpr index) a h k = rw (a.csrs, a.waiting, value_alike a.files index k)
effect_alike r v w (host_call.SetGpr index value) a h k = rw (a.csrs, a.waiting)
effect_alike r v w (host_call.SetReturnValue value) a h k = rw (a.csrs, a.waiting)
effect_alike r v w (host_call.SetNestedPageTable levels mode root) a h k = rw (a.csrs, a.waiting)
effect_alike r v w (host_call.SetPending vector level) a h k = rw (a.csrs, a.waiting)
effect_alike r v w (host_call.LatchHvip bits) a h k = rw (a.csrs, a.waiting)
effect_alike r v w (host_call.CompleteIpi abi completion) a h k = rw (a.csrs, a.waiting)
effect_alike r v w (host_call.Start t) a h k =
    rw (← a.csrs, ← a.waiting)
    (parted (is_idle v.waiting) (λ e. e) (λ e. e) h (class_alike a.files (class_of t.scause) v.csrs t) (λ h. refl))
effect_alike r v w (host_call.Answer n) a h k =
    rw (← a.csrs, ← a.waiting, answer_alike a.files v.waiting v.csrs n h)
effect_alike r v w (host_call.CompleteLoad n) a h k = rw (a.csrs, a.waiting)
effect_alike r v w (host_call.ToPrint length) a h k = rw (a.csrs, a.waiting)
effect_alike r v w (host_call.New hart tree) a h k = refl

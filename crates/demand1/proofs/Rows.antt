-- Every row of 01's ecalls, and every answer, is what one of the decisions does: a law about decisions holds of the rows.
use Rattle.std.specs.Prelude.{ℕ, Bool, List, ◌≡◌, leb, None, Option, Some}
use Rattle.std.proofs.Math.Bool.{true, false}
use Rattle.std.proofs.Math.Path.{refl}
use Rattle.std.proofs.Common.{ap, sym, ◌∙◌}
use Rattle.std.proofs.Math.Dec.{eqb}
use Rattle.scope.specs.declared.decided.Answered.{Answered}
use Rattle.scope.specs.declared.traps.IpiRequest.{IpiRequest}
use Rattle.scope.specs.declared.traps.Args.{Args}
use Rattle.scope.specs.declared.machine.Csrs.{Csrs}
use Rattle.scope.specs.declared.machine.EcallAsk.{EcallAsk}
use Rattle.scope.specs.declared.machine.Effect.{Effect}
use Rattle.scope.specs.declared.machine.Event.{Event}
use Rattle.isa_types.specs.declared.GuestPhysAddr.{GuestPhysAddr}
use Rattle.scope.specs.declared.decided.SbiCall.{SbiCall}
use Rattle.scope.specs.declared.decided.Answered.TheVariants as answered
use Rattle.scope.specs.Decided.{answered_effect, call_effect}
use Rattle.scope.specs.declared.machine.EcallAsk.TheVariants as asked
use Rattle.scope.specs.declared.decided.SbiCall.TheVariants as call
use Rattle.scope.specs.Ecalls.{console_effect, console_read_effect, copied_effect, copied_out_effect, dbcn_effect, ecall_answer, ecall_effect, forward_effect, hsm_effect, lesser_of, mask_effect, not_supported_effect, rfnc_effect, span_effect, spi_effect, srst_effect, time_effect}
use Rattle.isa_consts.specs.Csr.{console_room}
use Rattle.isa_consts.specs.Sbi.{eid_dbcn, eid_hsm, eid_hvc, eid_rfnc, eid_spi, eid_srst, eid_time, invalid_param, legacy_clear_ipi, legacy_fence_i, legacy_getchar, legacy_putchar, legacy_send_ipi, legacy_set_timer, legacy_sfence_vma, legacy_sfence_vma_asid, legacy_shutdown, not_supported, failed, success}
use Rattle.scope.specs.declared.machine.Event.TheVariants as event
use Rattle.isa_types.specs.Pick.{pick}
use Rattle.scope.specs.Answers.{answer_effect, fetch_effect, fitting_effect, numbers_effect, values_effect, word_effect}
use Rattle.scope.specs.GuestPageFault.{mmio_of}
use Rattle.scope.specs.OneTrap.{answer_number}
use Rattle.scope.specs.Record.{waiting_ask}
use Rattle.scope.specs.Refusals.{refused_of}
use Rattle.scope.specs.VirtualInstruction.{missed_effect, missed_of}
use Rattle.scope.specs.declared.machine.Waiting.TheVariants as waiting
use Rattle.scope.specs.declared.machine.Waiting.{Waiting}
use Rattle.scope.specs.declared.traps.Answer.TheVariants as answer
use Rattle.scope.specs.declared.traps.Answer.{Answer}
use Rattle.scope.specs.declared.traps.Error.TheVariants as error
use Rattle.scope.specs.declared.traps.Fetch.TheVariants as fetch
use Rattle.scope.specs.declared.traps.Fetch.{Fetch}
use Rattle.demand1.specs.Rows.{OfDecisions}

module _ (P : Effect → Type 0) where
  -- one of two by a test
  pub one_of : (b : Bool) {e f : Effect} → P e → P f → P (pick b e f)
  one_of true s t = s
  one_of false s t = t

  -- an ecall
  module _ (c : Csrs) (eid fid : ℕ) (a : Args) (done : (k : SbiCall) → P (call_effect c eid fid a k)) where
    unsupported : P (not_supported_effect c)
    unfolding not_supported_effect call_effect
    unsupported = done (call.Returns not_supported 0)

    forwarded : (e : Event) → P (forward_effect c e eid fid a)
    unfolding call_effect
    forwarded e = done (call.Forward e)

    span : (write : Bool) (at : GuestPhysAddr) (n : ℕ) → P (span_effect c write at n)
    unfolding span_effect call_effect
    span write at n =
        one_of (eqb n 0) (done (call.Returns success 0))
        (one_of write (done (call.CopyIn at n)) (done (call.ReadConsole at n)))

    console : (write : Bool) (room : ℕ) → P (console_effect c write a room)
    unfolding console_effect call_effect
    console write room =
        one_of (eqb a.a0 0) (done (call.Returns success 0))
        (one_of (eqb a.a2 0) (span write _ _) (done (call.Returns invalid_param 0)))

    time : P (time_effect c fid a)
    unfolding time_effect call_effect
    time = one_of (eqb fid 0) (done (call.SetTimer a.a0)) unsupported

    spi : P (spi_effect c fid a)
    unfolding spi_effect call_effect
    spi = one_of (eqb fid 0) (done (call.SendIpi _)) unsupported

    hsm : P (hsm_effect c fid a)
    unfolding hsm_effect call_effect
    hsm =
        one_of (eqb fid 0) (done (call.CpuUp a.a0 _ a.a2))
        (one_of (eqb fid 1) (done call.CpuDown) (one_of (eqb fid 3) (done call.Halt) unsupported))

    srst : P (srst_effect c fid a)
    unfolding srst_effect call_effect
    srst = one_of (eqb fid 0) (one_of (eqb a.a0 0) (done call.SystemDown) unsupported) unsupported

    dbcn : (room : ℕ) → P (dbcn_effect c fid a room)
    unfolding dbcn_effect call_effect
    dbcn room =
        one_of (eqb fid 0) (console true room)
        (one_of (eqb fid 1) (console false room) (one_of (eqb fid 2) (done (call.PutByte _)) unsupported))

    rfnc : P (rfnc_effect c eid fid a)
    unfolding rfnc_effect
    rfnc =
        one_of (eqb fid 0) (forwarded event.FenceI)
        (one_of (eqb fid 1) (forwarded event.SfenceVma)
        (one_of (eqb fid 2) (forwarded event.SfenceVmaAsid)
        (one_of (eqb fid 3) (forwarded event.HfenceGvmaVmid)
        (one_of (eqb fid 4) (forwarded event.HfenceGvma)
        (one_of (eqb fid 5) (forwarded event.HfenceVvmaAsid)
        (one_of (eqb fid 6) (forwarded event.HfenceVvma) (forwarded event.Quiet)))))))

    pub ecall_row : (room : ℕ) → P (ecall_effect c eid fid a room)
    unfolding ecall_effect call_effect
    ecall_row room =
        one_of (eqb eid legacy_set_timer) (done (call.LegacyTimer a.a0))
        (one_of (eqb eid legacy_putchar) (done (call.PutChar a.a0))
        (one_of (eqb eid legacy_getchar) (done call.GetChar)
        (one_of (eqb eid legacy_clear_ipi) (done call.ClearIpi)
        (one_of (eqb eid legacy_send_ipi) (done (call.CopyMask _))
        (one_of (eqb eid legacy_fence_i) (done call.Moves)
        (one_of (eqb eid legacy_sfence_vma) (done call.Moves)
        (one_of (eqb eid legacy_sfence_vma_asid) (done call.Moves)
        (one_of (eqb eid legacy_shutdown) (done call.SystemDown)
        (one_of (eqb eid eid_time) time
        (one_of (eqb eid eid_spi) spi
        (one_of (eqb eid eid_hsm) hsm
        (one_of (eqb eid eid_hvc) (done call.Hypercall)
        (one_of (eqb eid eid_srst) srst
        (one_of (eqb eid eid_dbcn) (dbcn (lesser_of room console_room))
        (one_of (eqb eid eid_rfnc) rfnc (forwarded event.Quiet))))))))))))))))

  -- an answer to an ecall
  module _ (c : Csrs) (done : (d : Answered) → P (answered_effect c d)) where
    mask : (q : Option IpiRequest) → P (mask_effect c q)
    unfolding mask_effect answered_effect
    mask (Some r) = done (answered.SendIpi r)
    mask None = done (answered.Returns failed 0)

    pub answer_row : (a : EcallAsk) (word more : ℕ) → P (ecall_answer c a word more)
    unfolding ecall_answer copied_effect console_read_effect copied_out_effect answered_effect
    answer_row asked.CopyMask word more = mask _
    answer_row (asked.CopyIn n) word more =
        one_of (eqb word n) (done (answered.Print n)) (done (answered.Returns failed 0))
    answer_row (asked.Print n) word more = done (answered.Returns word more)
    answer_row (asked.ReadConsole n at) word more =
        one_of (eqb word 0)
        (one_of (eqb more 0) (done (answered.Returns word more))
        (one_of (leb more n) (done (answered.CopyOut at more)) (done (answered.Returns word more))))
        (done (answered.Returns word more))
    answer_row (asked.CopyOut v) word more =
        one_of (eqb word v) (done (answered.Returns success v)) (done (answered.Returns failed 0))
    answer_row asked.PutChar word more = done answered.Moves
    answer_row asked.PutByte word more = done (answered.Returns success 0)
    answer_row asked.GetChar word more = done (answered.Gives word)
    answer_row asked.Forward word more = done (answered.Returns word more)

-- holds of every answer
module _ (P : Waiting → Effect → Type 0) (x : List ℕ) (c : Csrs) (d : OfDecisions P c) where
  numbers : (n : Waiting) (word more : ℕ) → P n (numbers_effect c n word more)
  unfolding numbers_effect
  numbers (waiting.Ecall a) word more = answer_row (P (waiting.Ecall a)) c (d.answers (waiting.Ecall a)) a word more
  numbers waiting.Idle word more = d.wrong waiting.Idle
  numbers (waiting.Load rd w s) word more = d.wrong (waiting.Load rd w s)
  numbers waiting.FetchCsr word more = d.wrong waiting.FetchCsr
  numbers (waiting.FetchFault at k) word more = d.wrong (waiting.FetchFault at k)

  instruction : (n : Waiting) (w : ℕ) → P n (word_effect x c n w)
  unfolding word_effect mmio_of
  instruction waiting.FetchCsr w = d.csrs waiting.FetchCsr _
  instruction (waiting.FetchFault at k) w = d.faults (waiting.FetchFault at k) at k _
  instruction waiting.Idle w = d.wrong waiting.Idle
  instruction (waiting.Load rd l s) w = d.wrong (waiting.Load rd l s)
  instruction (waiting.Ecall a) w = d.wrong (waiting.Ecall a)

  fetched : (n : Waiting) (f : Fetch) → P n (missed_effect c (missed_of f)) → P n (fetch_effect x c n f)
  unfolding fetch_effect
  fetched n (fetch.Word w) m = instruction n w
  fetched n (fetch.Page a) m = m
  fetched n (fetch.Access a) m = m
  fetched n (fetch.Misaligned a) m = m
  fetched n (fetch.GuestPage a) m = m
  fetched n fetch.Unhandled m = m

  fits : (n : Waiting) (a : Answer) → ((f : Fetch) → a ≡ answer.Fetched f → P n (missed_effect c (missed_of f))) → P n (fitting_effect x c n a)
  unfolding fitting_effect values_effect
  fits n (answer.Fetched f) m = fetched n f (m f refl)
  fits n (answer.MaskCopied count bytes) m = numbers n _ _
  fits n (answer.CopiedIn count) m = numbers n _ _
  fits n (answer.Printed e value) m = numbers n _ _
  fits n (answer.ConsoleRead e value) m = numbers n _ _
  fits n (answer.CopiedOut count) m = numbers n _ _
  fits n answer.Emitted m = numbers n _ _
  fits n (answer.Char number) m = numbers n _ _
  fits n (answer.Forwarded e value) m = numbers n _ _
  fits n answer.Other m = d.wrong n

  by_number : (n : Waiting) (a : Answer) (b : Bool) → eqb (waiting_ask n) (answer_number a) ≡ b
      → ((f : Fetch) → a ≡ answer.Fetched f → eqb (waiting_ask n) 1 ≡ true → P n (missed_effect c (missed_of f))) → P n (pick b (fitting_effect x c n a) (refused_of c n error.WrongAnswer))
  unfolding answer_number
  by_number n a true e m = fits n a (λ f h. m f h (ap (λ (k : Answer). eqb (waiting_ask n) (answer_number k)) (sym h) ∙ e))
  by_number n a false e m = d.wrong n

  -- a fetch that failed is left to the caller, where one waits
  pub any_answer : (n : Waiting) (a : Answer)
      → ((f : Fetch) → a ≡ answer.Fetched f → eqb (waiting_ask n) 1 ≡ true → P n (missed_effect c (missed_of f))) → P n (answer_effect x c n a)
  unfolding answer_effect
  any_answer n a m = by_number n a (eqb (waiting_ask n) (answer_number a)) refl m

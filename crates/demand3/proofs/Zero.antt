-- Slot 0 is never named, never read out and never written: two records that differ there alone agree in all else for ever.
use Rattle.std.specs.Prelude.{ℕ, ◌%◌, ◌^◌, Bool, true, false, List, [], ◌∷◌, ◌++◌, ◌≡◌, refl, get_or, eqb, leb, ltb}
use Rattle.std.proofs.Common.{sym, ne_eqb}
use Rattle.std.proofs.lemmas.Bool.{eqb-false}
use Rattle.demand3_table.specs.Turns.{Turn, call, print, post}
use Rattle.isa_types.specs.Pick.{pick}
use Rattle.scope.specs.declared.traps.Access.{Access}
use Rattle.scope.specs.declared.traps.Access.TheVariants as access
use Rattle.scope.specs.declared.traps.Answer.{Answer}
use Rattle.scope.specs.declared.traps.Answer.TheVariants as answers
use Rattle.scope.specs.declared.traps.Fetch.{Fetch}
use Rattle.scope.specs.declared.traps.Fetch.TheVariants as fetch
use Rattle.scope.specs.declared.traps.Trap.{Trap}
use Rattle.isa_consts.specs.Csr.{system_opcode, stimecmp}
use Rattle.isa_consts.specs.Sbi.{legacy_set_timer, legacy_putchar, legacy_send_ipi, legacy_shutdown, eid_time, eid_spi, eid_hsm, eid_hvc, eid_srst, eid_dbcn, eid_rfnc, eid_pmu}
use Rattle.isa_fields.specs.Fields.{opcode_field, funct3_field, rs1_field, csr_field}
use Rattle.isa_decoder.specs.Length.{htinst_of, fetched_of, store_source}
use Rattle.scope.specs.declared.machine.Vcpu.{Vcpu}
use Rattle.scope.specs.declared.machine.Waiting.{Waiting}
use Rattle.scope.specs.declared.machine.Waiting.TheVariants as waiting
use Rattle.scope.specs.declared.machine.Writes.{Writes}
use Rattle.scope.specs.declared.machine.Writes.TheVariants as writes
use Rattle.scope.specs.Record.{is_idle}
use Rattle.demand3_table.specs.Table.{a0, a1, a2, a6, a7, source_names, forward_names, time_names, srst_names, spi_names, hsm_names, console_names, byte_names, dbcn_names, eid_names, ecall_names, funct3_names, stimecmp_names, store_names, access_names, word_names, fetch_names, answer_names, names_of, reads_of, call_names, call_reads, class_names}
use Rattle.scope.specs.Calls.{effect_of}
use Rattle.demand3_table.specs.Runs.{Apart, Lasting, Untouched, step_of, turn_renews, written, wrote, wrote_by}
use Rattle.demand3_table.specs.Alike.{Alike}
use Rattle.demand3.specs.Third.{Third}
use Rattle.demand3.proofs.Third.{third}
use Rattle.scope.specs.declared.decided.Class.{Class}
use Rattle.scope.specs.declared.hosts.HostCall.{HostCall}
use Rattle.isa_decoder.specs.declared.Trapped.{Trapped}
use Rattle.scope.specs.declared.decided.Class.TheVariants as class
use Rattle.scope.specs.Classes.{class_of}
use Rattle.scope.specs.declared.hosts.HostCall.TheVariants as host_call

none : Apart 0 []
none = record { free = refl }

picked : (t : Bool) {l m : List ℕ} → Apart 0 l → Apart 0 m → Apart 0 (pick t l m)
picked true h k = h
picked false h k = k

zero_source : (i : ℕ) → Apart 0 (source_names i)
unfolding source_names
zero_source i = by (eqb i 0) refl
  where
    by : (t : Bool) → eqb i 0 ≡ t → Apart 0 (pick t [] (i ∷ []))
    by true e = none
    by false e = record { free = simp e }

-- a0 to a7 are not x0

ten : Apart 0 (a0 ∷ [])
ten = record { free = refl }

zero_forward : Apart 0 forward_names
unfolding forward_names
zero_forward = record { free = refl }

zero_time : (fid : ℕ) → Apart 0 (time_names fid)
unfolding time_names
zero_time fid = picked (eqb fid 0) ten none

zero_srst : (fid : ℕ) → Apart 0 (srst_names fid)
unfolding srst_names
zero_srst fid = picked (eqb fid 0) ten none

zero_spi : (fid : ℕ) → Apart 0 (spi_names fid)
unfolding spi_names
zero_spi fid = picked (eqb fid 0) {l = a0 ∷ a1 ∷ []} (record { free = refl }) none

zero_hsm : (fid : ℕ) → Apart 0 (hsm_names fid)
unfolding hsm_names
zero_hsm fid = picked (eqb fid 0) {l = a0 ∷ a1 ∷ a2 ∷ []} (record { free = refl }) none

zero_console : Apart 0 console_names
unfolding console_names
zero_console = record { free = refl }

zero_dbcn : (fid : ℕ) → Apart 0 (dbcn_names fid)
unfolding dbcn_names byte_names
zero_dbcn fid = picked (eqb fid 0) zero_console (picked (eqb fid 1) zero_console (picked (eqb fid 2) ten none))

a6_and : {l : List ℕ} → Apart 0 l → Apart 0 (a6 ∷ l)
a6_and h = record { free = h.free }

zero_eid : (e fid : ℕ) → Apart 0 (eid_names e fid)
unfolding eid_names
zero_eid e fid =
    picked (eqb e legacy_set_timer) ten
    (picked (eqb e legacy_putchar) ten
    (picked (eqb e legacy_send_ipi) ten
    (picked (leb e legacy_shutdown) none
    (picked (eqb e eid_hvc) zero_forward
    (picked (eqb e eid_pmu) zero_forward
    (picked (eqb e eid_rfnc) zero_forward
    (picked (eqb e eid_time) (a6_and (zero_time fid))
    (picked (eqb e eid_srst) (a6_and (zero_srst fid))
    (picked (eqb e eid_spi) (a6_and (zero_spi fid))
    (picked (eqb e eid_hsm) (a6_and (zero_hsm fid))
    (picked (eqb e eid_dbcn) (a6_and (zero_dbcn fid))
    zero_forward)))))))))))

zero_funct3 : (f s : ℕ) → Apart 0 (funct3_names f s)
unfolding funct3_names
zero_funct3 f s = picked (eqb f 1) (zero_source s) (picked (eqb f 2) (zero_source s) (picked (eqb f 3) (zero_source s) none))

zero_stimecmp : (w : ℕ) → Apart 0 (stimecmp_names w)
unfolding stimecmp_names
zero_stimecmp w =
    picked (eqb (opcode_field w) system_opcode) (picked (eqb (csr_field w) stimecmp) (zero_funct3 (funct3_field w) (rs1_field w)) none) none

zero_access : (k : Access) (i : Trapped) → Apart 0 (access_names k i)
unfolding access_names store_names
zero_access access.Read i = none
zero_access access.Write i = zero_source (store_source i)
zero_access access.Execute i = none

zero_class : (k : Class) (x : List ℕ) (t : Trap) → Apart 0 (class_names k x t)
unfolding class_names ecall_names
zero_class class.Ecall x t = record { free = (zero_eid (get_or x a7 0) (get_or x a6 0)).free }
zero_class class.VirtualInstruction x t = zero_stimecmp (t.stval % 2 ^ 32)
zero_class (class.PageFault k) x t = zero_access k (htinst_of t.htinst)
zero_class class.Interrupt x t = none
zero_class class.NotHandled x t = none
zero_class class.Unknown x t = none

zero_word : (n : Waiting) (w : ℕ) → Apart 0 (word_names n w)
unfolding word_names
zero_word waiting.Idle w = none
zero_word (waiting.Load rd width s) w = none
zero_word waiting.FetchCsr w = zero_stimecmp w
zero_word (waiting.FetchFault at k) w = zero_access k (fetched_of w)
zero_word (waiting.Ecall a) w = none

zero_fetch : (n : Waiting) (f : Fetch) → Apart 0 (fetch_names n f)
unfolding fetch_names
zero_fetch n (fetch.Word w) = zero_word n w
zero_fetch n (fetch.Page a) = none
zero_fetch n (fetch.Access a) = none
zero_fetch n (fetch.Misaligned a) = none
zero_fetch n (fetch.GuestPage a) = none
zero_fetch n fetch.Unhandled = none

zero_answer : (n : Waiting) (a : Answer) → Apart 0 (answer_names n a)
unfolding answer_names
zero_answer n (answers.Fetched f) = zero_fetch n f
zero_answer n (answers.MaskCopied count bytes) = none
zero_answer n (answers.CopiedIn count) = none
zero_answer n (answers.Printed error value) = none
zero_answer n (answers.ConsoleRead error value) = none
zero_answer n (answers.CopiedOut count) = none
zero_answer n answers.Emitted = none
zero_answer n (answers.Char number) = none
zero_answer n (answers.Forwarded error value) = none
zero_answer n answers.Other = none

zero_call_names : (v : Vcpu) (c : HostCall) → Apart 0 (call_names v c)
unfolding call_names
zero_call_names v (host_call.Start t) = picked (is_idle v.waiting) (zero_class (class_of t.scause) v.x t) none
zero_call_names v (host_call.Answer a) = zero_answer v.waiting a
zero_call_names v host_call.Setup = none
zero_call_names v (host_call.SetEntry entry) = none
zero_call_names v (host_call.GetGpr index) = none
zero_call_names v (host_call.SetGpr index value) = none
zero_call_names v (host_call.SetReturnValue value) = none
zero_call_names v (host_call.SetNestedPageTable levels mode root) = none
zero_call_names v (host_call.SetPending vector on) = none
zero_call_names v (host_call.LatchHvip bits) = none
zero_call_names v (host_call.CompleteIpi abi completion) = none
zero_call_names v (host_call.CompleteLoad n) = none
zero_call_names v (host_call.ToPrint length) = none
zero_call_names v (host_call.New hart tree) = none

zero_call_reads : (c : HostCall) → Apart 0 (call_reads c)
unfolding call_reads
zero_call_reads (host_call.GetGpr index) = zero_source index
zero_call_reads host_call.Setup = none
zero_call_reads (host_call.SetEntry entry) = none
zero_call_reads (host_call.SetGpr index value) = none
zero_call_reads (host_call.SetReturnValue value) = none
zero_call_reads (host_call.SetNestedPageTable levels mode root) = none
zero_call_reads (host_call.SetPending vector on) = none
zero_call_reads (host_call.LatchHvip bits) = none
zero_call_reads (host_call.CompleteIpi abi completion) = none
zero_call_reads (host_call.Start t) = none
zero_call_reads (host_call.Answer a) = none
zero_call_reads (host_call.CompleteLoad n) = none
zero_call_reads (host_call.ToPrint length) = none
zero_call_reads (host_call.New hart tree) = none

zero_named : (v : Vcpu) (c : Turn) → Apart 0 (names_of v c)
unfolding names_of
zero_named v (call c) = zero_call_names v c
zero_named v (print buffer) = none
zero_named v (post ps) = none

zero_read : (c : Turn) → Apart 0 (reads_of c)
unfolding reads_of
zero_read (call c) = zero_call_reads c
zero_read (print buffer) = none
zero_read (post ps) = none

pub zero_untouched : (v : Vcpu) (cs : List Turn) → Untouched 0 v cs
unfolding Untouched
zero_untouched v [] = tt
zero_untouched v (c ∷ cs) = (zero_named v c, zero_read c, zero_untouched (step_of v c) cs)

zero_wrote : (w : Writes) → wrote 0 w ≡ false
unfolding wrote
zero_wrote writes.Keep = refl
zero_wrote (writes.One i n) = by (eqb i 0) (ltb i 32) refl
  where
    by : (s t : Bool) → eqb i 0 ≡ s → pick s false (pick t (eqb 0 i) false) ≡ false
    by true t e = refl
    by false true e = ne_eqb 0 i (λ k. eqb-false i 0 e (sym k))
    by false false e = refl
zero_wrote (writes.Pair e v) = refl

zero_turn : (v : Vcpu) (c : Turn) → turn_renews c ≡ false → wrote_by 0 v c ≡ false
unfolding wrote_by turn_renews
zero_turn v (call c) h = rw (h, zero_wrote (effect_of v c).writes)
zero_turn v (print buffer) h = refl
zero_turn v (post ps) h = refl

-- but where a new record is made
pub zero_unwritten : (v : Vcpu) (cs : List Turn) → Lasting cs → written 0 v cs ≡ false
unfolding written Lasting
zero_unwritten v [] l = refl
zero_unwritten v (c ∷ cs) l = rw (zero_turn v c l.0, zero_unwritten (step_of v c) cs l.1)

-- demand 3 with r = 0 has no premise but that the records are alike
pub third_zero : (v w : Vcpu) (cs : List Turn) → Alike 0 v w → Third 0 v w cs
third_zero v w cs a = third 0 v w cs [] a (zero_untouched v (cs ++ []))

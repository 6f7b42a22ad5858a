-- Each number of the table is given exactly when the table says, by every call.
use Rattle.std.specs.Prelude.{ℕ, ◌%◌, ◌^◌, Bool, true, false, List, ◌≡◌, refl, eqb, ltb}
use Rattle.std.proofs.Common.{ap₂, ◌∙◌}
use Rattle.isa_types.specs.Pick.{pick, or, and, not}
use Rattle.scope.specs.declared.hosts.HostCall.TheVariants as host_call
use Rattle.scope.specs.Decided.{call_effect, answered_effect}
use Rattle.scope.specs.OneTrap.{answer_number, answer_values}
use Rattle.scope.specs.Refusals.{asking_of, done_of, failed_of, finished_of, refused_of, unless_asking, leaves_of}
use Rattle.scope.specs.declared.traps.Access.{Access}
use Rattle.scope.specs.declared.traps.Access.TheVariants as access
use Rattle.scope.specs.declared.traps.Answer.{Answer}
use Rattle.scope.specs.declared.traps.Answer.TheVariants as answer
use Rattle.scope.specs.declared.traps.Args.{Args}
use Rattle.scope.specs.declared.traps.Error.{Error}
use Rattle.scope.specs.declared.traps.Error.TheVariants as error
use Rattle.scope.specs.declared.traps.Fetch.{Fetch}
use Rattle.scope.specs.declared.traps.Fetch.TheVariants as fetch
use Rattle.isa_types.specs.declared.GuestPhysAddr.{GuestPhysAddr}
use Rattle.scope.specs.declared.traps.Reply.TheVariants as reply
use Rattle.scope.specs.declared.traps.Trap.{Trap}
use Rattle.isa_consts.specs.Csr.{system_opcode, stimecmp}
use Rattle.isa_consts.specs.Csr.{vseip, vssip, vstip}
use Rattle.isa_consts.specs.Traps.{supervisor_soft, supervisor_timer, supervisor_external}
use Rattle.isa_decoder.specs.declared.Decoded.TheVariants as decoded
use Rattle.isa_decoder.specs.declared.Trapped.{Trapped}
use Rattle.isa_decoder.specs.declared.Trapped.TheVariants as trapped
use Rattle.isa_fields.specs.Fields.{opcode_field, funct3_field, csr_field}
use Rattle.isa_decoder.specs.Errors.{is_pseudo, is_unfit, long_word, htinst_pseudo, htinst_unfit, fetched_unfit, fetched_real}
use Rattle.scope.specs.declared.machine.Csrs.{Csrs}
use Rattle.scope.specs.declared.machine.Effect.{Effect}
use Rattle.scope.specs.declared.machine.Vcpu.{Vcpu}
use Rattle.scope.specs.declared.machine.Waiting.{Waiting}
use Rattle.scope.specs.declared.machine.Waiting.TheVariants as waiting
use Rattle.scope.specs.declared.machine.Writes.{Writes}
use Rattle.scope.specs.Record.{is_idle, waiting_ask, applied, ecall_ask_number}
use Rattle.scope.specs.declared.decided.SbiCall.{SbiCall}
use Rattle.scope.specs.declared.decided.SbiCall.TheVariants as call
use Rattle.scope.specs.Ecalls.{asks_of, clear_ipi_of, hypercall_of, moves_of, returns_of, set_timer_of, stays_of, forward_effect, gives_of}
use Rattle.scope.specs.VirtualInstruction.{ask_fetch_of, missed_effect, missed_of, virtual_effect, stimecmp_by, stimecmp_effect, stimecmp_stval, stimecmp_word}
use Rattle.scope.specs.declared.decided.Stimecmp.{Stimecmp}
use Rattle.scope.specs.declared.decided.Stimecmp.TheVariants as csr
use Rattle.scope.specs.GuestPageFault.{fault_effect, fault_of, load_under, store_under, completed_of, mmio_of, page_fault_of}
use Rattle.scope.specs.declared.decided.Answered.TheVariants as answered
use Rattle.scope.specs.Host.{hvip_bit_of, paging_by, paging_effect, pending_effect, write_effect}
use Rattle.scope.specs.Classes.{start_effect, class_of, class_effect}
use Rattle.scope.specs.Answers.{answer_effect, fetch_effect, fitting_effect, numbers_effect, values_effect, word_effect}
use Rattle.scope.specs.Calls.{called_of, effect_of, gpr_reply}
use Rattle.demand3.specs.Kinds.{csr_funct3, on_stimecmp}
use Rattle.scope.specs.declared.decided.Answered.{Answered}
use Rattle.scope.specs.declared.decided.Class.{Class}
use Rattle.scope.specs.declared.hosts.HostCall.{HostCall}
use Rattle.demand1.proofs.Rows.{answer_row, ecall_row}
use Rattle.demand1.specs.When.{answer_when, call_when, changing_when, class_when, fetch_when, fitting_when, index_allowed, load_waits, load_when, other_stval, other_word, paging_allowed, start_when, vector_allowed, word_when, gives, is}
use Rattle.scope.specs.declared.decided.Class.TheVariants as class
use Rattle.isa_decoder.specs.Length.{fetched_of, htinst_of}

-- the same test on both sides
split : {A B : Type 0} (f : A → B) (b : Bool) {x y : A} {p q : B} → f x ≡ p → f y ≡ q → f (pick b x y) ≡ pick b p q
split f true h k = h
split f false h k = k

abbrev gives_in : Error → Effect → Bool
gives_in e x = gives e x.reply

-- an SBI call's start ends in no error
call_gives : (e : Error) (c : Csrs) (eid fid : ℕ) (a : Args) (k : SbiCall) → gives_in e (call_effect c eid fid a k) ≡ false
unfolding call_effect forward_effect returns_of moves_of stays_of asks_of set_timer_of clear_ipi_of hypercall_of finished_of asking_of gives
call_gives e c eid fid a (call.Returns y v) = refl
call_gives e c eid fid a call.Moves = refl
call_gives e c eid fid a (call.LegacyTimer d) = refl
call_gives e c eid fid a (call.SetTimer d) = refl
call_gives e c eid fid a call.ClearIpi = refl
call_gives e c eid fid a (call.PutChar k) = refl
call_gives e c eid fid a call.GetChar = refl
call_gives e c eid fid a (call.CopyMask at) = refl
call_gives e c eid fid a (call.SendIpi r) = refl
call_gives e c eid fid a (call.CpuUp t y k) = refl
call_gives e c eid fid a call.CpuDown = refl
call_gives e c eid fid a call.Halt = refl
call_gives e c eid fid a call.SystemDown = refl
call_gives e c eid fid a call.Hypercall = refl
call_gives e c eid fid a (call.CopyIn at k) = refl
call_gives e c eid fid a (call.ReadConsole at k) = refl
call_gives e c eid fid a (call.PutByte k) = refl
call_gives e c eid fid a (call.Forward y) = refl

csr_by : (e : Error) (c : Csrs) (a b f1 f2 f3 f5 f6 f7 : Bool) (w1 w2 w3 w5 w6 w7 : ℕ) (rd : ℕ)
    → gives_in e (stimecmp_effect c
    (pick a
    (pick b
    (pick f1 (csr.Write rd w1)
    (pick f2 (csr.Write rd w2)
    (pick f3 (csr.Write rd w3)
    (pick f5 (csr.Write rd w5)
    (pick f6 (csr.Write rd w6)
    (pick f7 (csr.Write rd w7) csr.Illegal))))))
    csr.Illegal)
    csr.Illegal))
    ≡ and (not (and a (and b (or f1 (or f2 (or f3 (or f5 (or f6 f7)))))))) (is e error.Unsupported)
unfolding stimecmp_effect finished_of failed_of gives
csr_by e c false b f1 f2 f3 f5 f6 f7 w1 w2 w3 w5 w6 w7 rd = refl
csr_by e c true false f1 f2 f3 f5 f6 f7 w1 w2 w3 w5 w6 w7 rd = refl
csr_by e c true true true f2 f3 f5 f6 f7 w1 w2 w3 w5 w6 w7 rd = refl
csr_by e c true true false true f3 f5 f6 f7 w1 w2 w3 w5 w6 w7 rd = refl
csr_by e c true true false false true f5 f6 f7 w1 w2 w3 w5 w6 w7 rd = refl
csr_by e c true true false false false true f6 f7 w1 w2 w3 w5 w6 w7 rd = refl
csr_by e c true true false false false false true f7 w1 w2 w3 w5 w6 w7 rd = refl
csr_by e c true true false false false false false true w1 w2 w3 w5 w6 w7 rd = refl
csr_by e c true true false false false false false false w1 w2 w3 w5 w6 w7 rd = refl

word_gives : (e : Error) (c : Csrs) (w old rs1 : ℕ) → gives_in e (stimecmp_effect c (stimecmp_word w old rs1)) ≡ and (other_word w) (is e error.Unsupported)
unfolding stimecmp_word stimecmp_by other_word on_stimecmp csr_funct3
word_gives e c w old rs1 =
    csr_by e c (eqb (opcode_field w) system_opcode) (eqb (csr_field w) stimecmp) (eqb (funct3_field w) 1) (eqb (funct3_field w) 2)
    (eqb (funct3_field w) 3) (eqb (funct3_field w) 5) (eqb (funct3_field w) 6) (eqb (funct3_field w) 7) _ _ _ _ _ _ _

stval_by : (e : Error) (c : Csrs) (a : Bool) (k : Stimecmp) (o : Bool) → gives_in e (stimecmp_effect c k) ≡ and o (is e error.Unsupported)
    → gives_in e (stimecmp_effect c (pick a k csr.Fetch)) ≡ and (and a o) (is e error.Unsupported)
unfolding stimecmp_effect ask_fetch_of asking_of gives
stval_by e c true k o h = h
stval_by e c false k o h = refl

stval_gives : (e : Error) (c : Csrs) (stval rs1 : ℕ) → gives_in e (virtual_effect c stval rs1) ≡ and (other_stval stval) (is e error.Unsupported)
unfolding virtual_effect stimecmp_stval other_stval
stval_gives e c stval rs1 = stval_by e c (eqb (opcode_field (stval % 2 ^ 32)) system_opcode) _ (other_word (stval % 2 ^ 32)) (word_gives e c _ _ rs1)

-- a guest page fault, by what the decoder found
fault_gives : (e : Error) (c : Csrs) (at : GuestPhysAddr) (k : Access) (i : Trapped) (source : ℕ)
    → gives_in e (fault_effect c at k (fault_of k i source)) ≡ pick (is_pseudo i) (is e error.Unsupported) (and (is_unfit i) (is e error.DecodeFailed))
unfolding fault_effect fault_of load_under store_under ask_fetch_of asking_of finished_of failed_of gives is_pseudo is_unfit
fault_gives e c at k trapped.Absent source = refl
fault_gives e c at k trapped.Pseudo source = refl
fault_gives e c at k trapped.Unfit source = refl
fault_gives e c at access.Read (trapped.Instruction (decoded.Load w s rd) n) source = refl
fault_gives e c at access.Write (trapped.Instruction (decoded.Load w s rd) n) source = refl
fault_gives e c at access.Execute (trapped.Instruction (decoded.Load w s rd) n) source = refl
fault_gives e c at access.Read (trapped.Instruction (decoded.Store w r) n) source = refl
fault_gives e c at access.Write (trapped.Instruction (decoded.Store w r) n) source = refl
fault_gives e c at access.Execute (trapped.Instruction (decoded.Store w r) n) source = refl
fault_gives e c at k (trapped.Instruction decoded.Neither n) source = refl

page_gives : (e : Error) (x : List ℕ) (c : Csrs) (t : Trap) (k : Access) → gives_in e (page_fault_of x c t k) ≡ class_when (class.PageFault k) t e
unfolding page_fault_of mmio_of class_when
page_gives e x c t k =
    fault_gives e c _ k (htinst_of t.htinst) _
    ∙ ap₂ (λ (p u : Bool). pick p (is e error.Unsupported) (and u (is e error.DecodeFailed))) (htinst_pseudo t.htinst) (htinst_unfit t.htinst)

class_gives : (e : Error) (k : Class) (x : List ℕ) (c : Csrs) (t : Trap) → gives_in e (class_effect k x c t) ≡ class_when k t e
unfolding class_effect class_when finished_of failed_of gives
class_gives e class.Ecall x c t = ecall_row (λ k. gives_in e k ≡ false) c _ _ _ (call_gives e c _ _ _) t.room
class_gives e class.VirtualInstruction x c t = stval_gives e c t.stval _
class_gives e (class.PageFault k) x c t = page_gives e x c t k
class_gives e class.Interrupt x c t = refl
class_gives e class.NotHandled x c t = refl
class_gives e class.Unknown x c t = refl

refused_gives : (e y : Error) (c : Csrs) (n : Waiting) → gives_in e (refused_of c n y) ≡ is e y
unfolding refused_of leaves_of gives
refused_gives e y c n = refl

-- a start
start_gives : (e : Error) (v : Vcpu) (t : Trap) → gives e (called_of v (host_call.Start t)).reply ≡ start_when v t e
unfolding called_of effect_of applied start_effect start_when
start_gives e v t =
    split (gives_in e) (is_idle v.waiting) (class_gives e (class_of t.scause) v.x v.csrs t) (refused_gives e error.BadState v.csrs v.waiting)

fetched_fault_gives : (e : Error) (x : List ℕ) (c : Csrs) (at : GuestPhysAddr) (k : Access) (w : ℕ)
    → gives_in e (mmio_of x c at k (fetched_of w)) ≡ and (long_word w) (is e error.DecodeFailed)
unfolding mmio_of
fetched_fault_gives e x c at k w =
    fault_gives e c at k (fetched_of w) _
    ∙ ap₂ (λ (p u : Bool). pick p (is e error.Unsupported) (and u (is e error.DecodeFailed))) (fetched_real w) (fetched_unfit w)

resumed_gives : (e : Error) (x : List ℕ) (c : Csrs) (n : Waiting) (w : ℕ) → gives_in e (word_effect x c n w) ≡ word_when n w e
unfolding word_effect word_when
resumed_gives e x c waiting.FetchCsr w = word_gives e c w _ _
resumed_gives e x c (waiting.FetchFault at k) w = fetched_fault_gives e x c at k w
resumed_gives e x c waiting.Idle w = refused_gives e error.WrongAnswer c waiting.Idle
resumed_gives e x c (waiting.Load rd l s) w = refused_gives e error.WrongAnswer c (waiting.Load rd l s)
resumed_gives e x c (waiting.Ecall a) w = refused_gives e error.WrongAnswer c (waiting.Ecall a)

fetched_gives : (e : Error) (x : List ℕ) (c : Csrs) (n : Waiting) (f : Fetch) → gives_in e (fetch_effect x c n f) ≡ fetch_when n f e
unfolding fetch_effect fetch_when missed_of missed_effect finished_of failed_of gives
fetched_gives e x c n (fetch.Word w) = resumed_gives e x c n w
fetched_gives e x c n (fetch.Page a) = refl
fetched_gives e x c n (fetch.Access a) = refl
fetched_gives e x c n (fetch.Misaligned a) = refl
fetched_gives e x c n (fetch.GuestPage a) = refl
fetched_gives e x c n fetch.Unhandled = refl

-- an answer of the right kind to an ecall ends in no error

answered_gives : (e : Error) (c : Csrs) (d : Answered) → gives_in e (answered_effect c d) ≡ false
unfolding answered_effect moves_of gives_of returns_of asks_of finished_of asking_of gives
answered_gives e c answered.Moves = refl
answered_gives e c (answered.Gives v) = refl
answered_gives e c (answered.Returns y v) = refl
answered_gives e c (answered.SendIpi r) = refl
answered_gives e c (answered.Print k) = refl
answered_gives e c (answered.CopyOut at k) = refl

numbers_gives : (e : Error) (c : Csrs) (n : Waiting) (word more k : ℕ) → eqb 0 k ≡ false → eqb 1 k ≡ false
    → gives_in e (pick (eqb (waiting_ask n) k) (numbers_effect c n word more) (refused_of c n error.WrongAnswer))
    ≡ pick (eqb (waiting_ask n) k) false (is e error.WrongAnswer)
unfolding waiting_ask numbers_effect
numbers_gives e c waiting.Idle word more k h g = rw h (refused_gives e error.WrongAnswer c waiting.Idle)
numbers_gives e c (waiting.Load rd l s) word more k h g = rw h (refused_gives e error.WrongAnswer c (waiting.Load rd l s))
numbers_gives e c waiting.FetchCsr word more k h g = rw g (refused_gives e error.WrongAnswer c waiting.FetchCsr)
numbers_gives e c (waiting.FetchFault at j) word more k h g = rw g (refused_gives e error.WrongAnswer c (waiting.FetchFault at j))
numbers_gives e c (waiting.Ecall a) word more k h g =
    split (gives_in e) (eqb (ecall_ask_number a) k) (answer_row (λ x. gives_in e x ≡ false) c (answered_gives e c) a word more)
    (refused_gives e error.WrongAnswer c (waiting.Ecall a))

-- an answer
answer_gives : (e : Error) (v : Vcpu) (a : Answer) → gives e (called_of v (host_call.Answer a)).reply ≡ answer_when v a e
unfolding called_of effect_of applied answer_effect fitting_effect values_effect answer_values answer_when fitting_when answer_number
answer_gives e v (answer.Fetched f) =
    split (gives_in e) (eqb (waiting_ask v.waiting) 1) (fetched_gives e v.x v.csrs v.waiting f) (refused_gives e error.WrongAnswer v.csrs v.waiting)
answer_gives e v (answer.MaskCopied n b) = numbers_gives e v.csrs v.waiting n b 2 refl refl
answer_gives e v (answer.CopiedIn n) = numbers_gives e v.csrs v.waiting n 0 3 refl refl
answer_gives e v (answer.Printed y u) = numbers_gives e v.csrs v.waiting y u 4 refl refl
answer_gives e v (answer.ConsoleRead y u) = numbers_gives e v.csrs v.waiting y u 5 refl refl
answer_gives e v (answer.CopiedOut n) = numbers_gives e v.csrs v.waiting n 0 6 refl refl
answer_gives e v answer.Emitted = numbers_gives e v.csrs v.waiting 0 0 7 refl refl
answer_gives e v (answer.Char n) = numbers_gives e v.csrs v.waiting n 0 8 refl refl
answer_gives e v (answer.Forwarded y u) = numbers_gives e v.csrs v.waiting y u 9 refl refl
answer_gives e v answer.Other =
    split (gives_in e) (eqb (waiting_ask v.waiting) 10) (refused_gives e error.WrongAnswer v.csrs v.waiting) (refused_gives e error.WrongAnswer v.csrs v.waiting)

-- a load's completion
completed_gives : (e : Error) (c : Csrs) (n : Waiting) (k : ℕ) → gives_in e (completed_of c n k) ≡ pick (load_waits n) false (is e error.BadState)
unfolding completed_of load_waits done_of refused_of leaves_of gives
completed_gives e c waiting.FetchCsr k = refl
completed_gives e c (waiting.FetchFault at j) k = refl
completed_gives e c waiting.Idle k = refl
completed_gives e c (waiting.Load rd l s) k = refl
completed_gives e c (waiting.Ecall a) k = refl

load_gives : (e : Error) (v : Vcpu) (n : ℕ) → gives e (called_of v (host_call.CompleteLoad n)).reply ≡ load_when v e
unfolding called_of effect_of applied load_when
load_gives e v n = completed_gives e v.csrs v.waiting n

-- the host's own calls: 2 while an ask waits, and else 1 where the argument is not allowed

changing_gives : (e : Error) (v : Vcpu) (x : Effect) (allowed : Bool) → gives_in e x ≡ and (not allowed) (is e error.InvalidInput)
    → gives e (unless_asking v x).reply ≡ changing_when v allowed e
unfolding unless_asking changing_when
changing_gives e v x allowed h = split (gives_in e) (eqb (waiting_ask v.waiting) 0) h (refused_gives e error.BadState v.csrs v.waiting)

done_gives : (e : Error) (c : Csrs) (w : Writes) (n : Waiting) → gives_in e (done_of c w n) ≡ false
unfolding done_of gives
done_gives e c w n = refl

-- done where allowed, refused with 1 where not
allowed_by : (e : Error) (b : Bool) (c d : Csrs) (w : Writes) (n : Waiting)
    → gives_in e (pick b (done_of d w n) (refused_of c n error.InvalidInput)) ≡ and (not b) (is e error.InvalidInput)
unfolding done_of refused_of leaves_of gives
allowed_by e true c d w n = refl
allowed_by e false c d w n = refl

paging_by_lem : (e : Error) (l3 m8 l4 m9 r : Bool) (c d : Csrs) (w : Writes) (n : Waiting)
    → gives_in e
    (pick l3
    (pick m8 (pick r (done_of d w n) (refused_of c n error.InvalidInput)) (refused_of c n error.InvalidInput))
    (pick l4 (pick m9 (pick r (done_of d w n) (refused_of c n error.InvalidInput)) (refused_of c n error.InvalidInput)) (refused_of c n error.InvalidInput)))
    ≡ and (not (and (pick l3 m8 (and l4 m9)) r)) (is e error.InvalidInput)
unfolding done_of refused_of leaves_of gives
paging_by_lem e true true l4 m9 true c d w n = refl
paging_by_lem e true true l4 m9 false c d w n = refl
paging_by_lem e true false l4 m9 r c d w n = refl
paging_by_lem e false m8 true true true c d w n = refl
paging_by_lem e false m8 true true false c d w n = refl
paging_by_lem e false m8 true false r c d w n = refl
paging_by_lem e false m8 false m9 r c d w n = refl

-- a vector that stands for no bit is one that is not allowed
pending_by : (e : Error) (s t x : Bool) (c d : Csrs) (w : Writes) (n : Waiting)
    → gives_in e (pick (eqb (pick s vssip (pick t vstip (pick x vseip 0))) 0) (refused_of c n error.InvalidInput) (done_of d w n)) ≡ and (not (or s (or t x))) (is e error.InvalidInput)
unfolding done_of refused_of leaves_of gives
pending_by e true t x c d w n = refl
pending_by e false true x c d w n = refl
pending_by e false false true c d w n = refl
pending_by e false false false c d w n = refl

-- a register read: 1 for an index above 31, and never 2
read_index : (e : Error) (b : Bool) (n : ℕ) → gives e (pick b (reply.Value n) (reply.Error error.InvalidInput)) ≡ and (not b) (is e error.InvalidInput)
unfolding gives
read_index e true n = refl
read_index e false n = refl

-- every call
pub call_when_lem : (e : Error) (v : Vcpu) (c : HostCall) → gives e (called_of v c).reply ≡ call_when v c e
unfolding called_of effect_of applied leaves_of gives gpr_reply write_effect paging_effect paging_by pending_effect hvip_bit_of index_allowed paging_allowed vector_allowed call_when
call_when_lem e v host_call.Setup = changing_gives e v _ true (done_gives e _ _ _)
call_when_lem e v (host_call.SetEntry at) = changing_gives e v _ true (done_gives e _ _ _)
call_when_lem e v (host_call.GetGpr i) = read_index e (ltb i 32) _
call_when_lem e v (host_call.SetGpr i n) =
    changing_gives e v _ (ltb i 32) (allowed_by e (ltb i 32) v.csrs _ _ v.waiting)
call_when_lem e v (host_call.SetReturnValue n) = changing_gives e v _ true (done_gives e _ _ _)
call_when_lem e v (host_call.SetNestedPageTable levels mode root) =
    changing_gives e v _ (and (pick (eqb levels 3) (eqb mode 8) (and (eqb levels 4) (eqb mode 9))) (eqb (root % 2 ^ 14) 0))
    (paging_by_lem e (eqb levels 3) (eqb mode 8) (eqb levels 4) (eqb mode 9) (eqb (root % 2 ^ 14) 0) v.csrs _ _ v.waiting)
call_when_lem e v (host_call.SetPending k on) =
    changing_gives e v _ (or (eqb k supervisor_soft) (or (eqb k supervisor_timer) (supervisor_external k)))
    (pending_by e (eqb k supervisor_soft) (eqb k supervisor_timer) (supervisor_external k) v.csrs _ _ v.waiting)
call_when_lem e v (host_call.LatchHvip n) = changing_gives e v _ true (done_gives e _ _ _)
call_when_lem e v (host_call.CompleteIpi a k) = changing_gives e v _ true (done_gives e _ _ _)
call_when_lem e v (host_call.Start t) = start_gives e v t
call_when_lem e v (host_call.Answer a) = answer_gives e v a
call_when_lem e v (host_call.CompleteLoad n) = load_gives e v n
call_when_lem e v (host_call.ToPrint n) = refl
call_when_lem e v (host_call.New hart tree) = done_gives e _ _ _

-- When each number of 01's table 'Refusals and errors by number' is given, from that table and 01's Classes.
-- For each call: whether it gives error e, for every e. So a number is given exactly where its name stands here.
use Rattle.std.specs.Prelude.{ℕ, ◌+◌, ◌%◌, ◌^◌, Bool, true, false, List, [], ◌∷◌, eqb, ltb}
use Rattle.isa_types.specs.Pick.{pick, or, and, not}
use Rattle.scope.specs.OneTrap.{answer_number}
use Rattle.scope.specs.Refusals.{error_number}
use Rattle.scope.specs.declared.traps.Answer.{Answer}
use Rattle.scope.specs.declared.traps.Answer.TheVariants as answer
use Rattle.scope.specs.declared.traps.Error.{Error}
use Rattle.scope.specs.declared.traps.Error.TheVariants as error
use Rattle.scope.specs.declared.traps.Fetch.{Fetch}
use Rattle.scope.specs.declared.traps.Fetch.TheVariants as fetch
use Rattle.scope.specs.declared.traps.Reply.{Reply}
use Rattle.scope.specs.declared.traps.Reply.TheVariants as reply
use Rattle.scope.specs.declared.traps.Trap.{Trap}
use Rattle.isa_consts.specs.Csr.{system_opcode}
use Rattle.isa_consts.specs.Traps.{supervisor_soft, supervisor_timer, supervisor_external}
use Rattle.isa_fields.specs.Fields.{opcode_field}
use Rattle.isa_decoder.specs.Errors.{long_word, pseudo_word, unfit_word}
use Rattle.scope.specs.declared.machine.Vcpu.{Vcpu}
use Rattle.scope.specs.declared.machine.Waiting.{Waiting}
use Rattle.scope.specs.declared.machine.Waiting.TheVariants as waiting
use Rattle.scope.specs.Record.{is_idle, waiting_ask}
use Rattle.demand3.specs.Kinds.{on_stimecmp}
use Rattle.scope.specs.declared.decided.Class.{Class}
use Rattle.scope.specs.declared.hosts.HostCall.{HostCall}
use Rattle.scope.specs.declared.hosts.Post.{Post}
use Rattle.scope.specs.declared.decided.Class.TheVariants as class
use Rattle.scope.specs.Classes.{class_of}
use Rattle.scope.specs.declared.hosts.HostCall.TheVariants as host_call

-- the two are one error: their numbers are equal
unfoldable pub is : Error → Error → Bool
is e y = eqb (error_number e) (error_number y)

-- the reply is error e
unfoldable pub gives : Error → Reply → Bool
gives e (reply.Exit x) = false
gives e (reply.Ask a) = false
gives e reply.Done = false
gives e (reply.Value n) = false
gives e (reply.Error y) = is e y

-- a word that is no CSR instruction on stimecmp
unfoldable pub other_word : ℕ → Bool
other_word w = not (on_stimecmp w)

-- stval has an instruction, and it is another one
unfoldable pub other_stval : ℕ → Bool
other_stval stval = and (eqb (opcode_field (stval % 2 ^ 32)) system_opcode) (other_word (stval % 2 ^ 32))

-- a start, by class: 3 for another virtual instruction, a pseudo htinst, or a known code not handled; 5 by the length
-- rule; 4 for an unknown scause
unfoldable pub class_when : Class → Trap → Error → Bool
class_when class.Ecall t e = false
class_when class.VirtualInstruction t e = and (other_stval t.stval) (is e error.Unsupported)
class_when (class.PageFault k) t e =
    pick (pseudo_word t.htinst) (is e error.Unsupported) (and (unfit_word t.htinst) (is e error.DecodeFailed))
class_when class.Interrupt t e = false
class_when class.NotHandled t e = is e error.Unsupported
class_when class.Unknown t e = is e error.InvalidTrap

-- a start while an ask or a load waits: 2
unfoldable pub start_when : Vcpu → Trap → Error → Bool
start_when v t e = pick (is_idle v.waiting) (class_when (class_of t.scause) t e) (is e error.BadState)

-- the word of a fetch's answer: 3 for another virtual instruction, 5 by the length rule
unfoldable pub word_when : Waiting → ℕ → Error → Bool
word_when waiting.FetchCsr w e = and (other_word w) (is e error.Unsupported)
word_when (waiting.FetchFault at k) w e = and (long_word w) (is e error.DecodeFailed)
word_when waiting.Idle w e = is e error.WrongAnswer
word_when (waiting.Load rd l s) w e = is e error.WrongAnswer
word_when (waiting.Ecall a) w e = is e error.WrongAnswer

-- a fetch's answer: 6 for an unhandled fault
unfoldable pub fetch_when : Waiting → Fetch → Error → Bool
fetch_when n (fetch.Word w) e = word_when n w e
fetch_when n (fetch.Page a) e = false
fetch_when n (fetch.Access a) e = false
fetch_when n (fetch.Misaligned a) e = false
fetch_when n (fetch.GuestPage a) e = false
fetch_when n fetch.Unhandled e = is e error.GuestMemoryFault

-- an answer of the right kind: only a fetch can end in an error. (Other is of no ask's kind.)
unfoldable pub fitting_when : Waiting → Answer → Error → Bool
fitting_when n (answer.Fetched f) e = fetch_when n f e
fitting_when n (answer.MaskCopied k b) e = false
fitting_when n (answer.CopiedIn k) e = false
fitting_when n (answer.Printed x v) e = false
fitting_when n (answer.ConsoleRead x v) e = false
fitting_when n (answer.CopiedOut k) e = false
fitting_when n answer.Emitted e = false
fitting_when n (answer.Char k) e = false
fitting_when n (answer.Forwarded x v) e = false
fitting_when n answer.Other e = is e error.WrongAnswer

-- an answer to no ask, or of another ask's kind: 7
unfoldable pub answer_when : Vcpu → Answer → Error → Bool
answer_when v a e =
    pick (eqb (waiting_ask v.waiting) (answer_number a)) (fitting_when v.waiting a e) (is e error.WrongAnswer)

-- a load completion with none waiting: 2
unfoldable pub load_waits : Waiting → Bool
load_waits (waiting.Load rd w s) = true
load_waits waiting.Idle = false
load_waits waiting.FetchCsr = false
load_waits (waiting.FetchFault at k) = false
load_waits (waiting.Ecall a) = false

unfoldable pub load_when : Vcpu → Error → Bool
load_when v e = pick (load_waits v.waiting) false (is e error.BadState)

-- any other changing call while an ask waits: 2, and that before 1 for an argument that is not allowed
unfoldable pub changing_when : Vcpu → Bool → Error → Bool
changing_when v allowed e =
    pick (eqb (waiting_ask v.waiting) 0) (and (not allowed) (is e error.InvalidInput)) (is e error.BadState)

-- a register index up to 31
unfoldable pub index_allowed : ℕ → Bool
index_allowed i = ltb i 32

-- levels 3 with mode 8, levels 4 with mode 9, and root & 0x3fff = 0
unfoldable pub paging_allowed : ℕ → ℕ → ℕ → Bool
paging_allowed levels mode root =
    and (pick (eqb levels 3) (eqb mode 8) (and (eqb levels 4) (eqb mode 9))) (eqb (root % 2 ^ 14) 0)

-- vectors 2^63+1, 2^63+5, 9 and 2^63+9
unfoldable pub vector_allowed : ℕ → Bool
vector_allowed v = or (eqb v supervisor_soft) (or (eqb v supervisor_timer) (supervisor_external v))

-- every call: whether it gives error e
unfoldable pub call_when : Vcpu → HostCall → Error → Bool
call_when v host_call.Setup e = changing_when v true e
call_when v (host_call.SetEntry at) e = changing_when v true e
-- a register read: 1 for an index above 31, and never 2
call_when v (host_call.GetGpr i) e = and (not (index_allowed i)) (is e error.InvalidInput)
call_when v (host_call.SetGpr i n) e = changing_when v (index_allowed i) e
call_when v (host_call.SetReturnValue n) e = changing_when v true e
call_when v (host_call.SetNestedPageTable levels mode root) e = changing_when v (paging_allowed levels mode root) e
call_when v (host_call.SetPending k on) e = changing_when v (vector_allowed k) e
call_when v (host_call.LatchHvip n) e = changing_when v true e
call_when v (host_call.CompleteIpi a k) e = changing_when v true e
call_when v (host_call.Start t) e = start_when v t e
call_when v (host_call.Answer a) e = answer_when v a e
call_when v (host_call.CompleteLoad n) e = load_when v e
-- neither has a row in 01's table
call_when v (host_call.ToPrint n) e = false
call_when v (host_call.New hart tree) e = false

-- a row of posts: every vector is allowed
unfoldable pub row_allowed : List Post → Bool
row_allowed [] = true
row_allowed (p ∷ ps) = and (vector_allowed p.vector) (row_allowed ps)

-- whether a row gives error e: 2 while an ask waits, for an empty row too; then 1 for a vector not allowed. 02, W4
unfoldable pub row_when : Vcpu → List Post → Error → Bool
row_when v ps e = changing_when v (row_allowed ps) e

-- how many posts stand before the first whose vector is not allowed
unfoldable pub leading : List Post → ℕ
leading [] = 0
leading (p ∷ ps) = pick (vector_allowed p.vector) (1 + leading ps) 0

-- how many are applied: none while an ask waits
unfoldable pub row_applies : Vcpu → List Post → ℕ
row_applies v ps = pick (eqb (waiting_ask v.waiting) 0) (leading ps) 0

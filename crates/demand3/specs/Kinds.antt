-- The nine kinds of traps that are counted, told from the trap and the record. 01, Ecalls and Virtual instruction.
use Rattle.std.specs.Prelude.{ℕ, ◌+◌, ◌%◌, ◌^◌, Bool, List, [], ◌∷◌, get_or, eqb, ltb}
use Rattle.demand3_table.specs.Turns.{Turn, call, print, post}
use Rattle.isa_types.specs.Pick.{pick, or, and}
use Rattle.scope.specs.OneTrap.{answer_number}
use Rattle.scope.specs.declared.traps.Answer.{Answer}
use Rattle.scope.specs.declared.traps.Answer.TheVariants as answers
use Rattle.scope.specs.declared.traps.Fetch.{Fetch}
use Rattle.scope.specs.declared.traps.Fetch.TheVariants as fetch
use Rattle.scope.specs.declared.traps.Trap.{Trap}
use Rattle.isa_consts.specs.Csr.{system_opcode, stimecmp}
use Rattle.isa_consts.specs.Sbi.{legacy_set_timer, eid_time, eid_rfnc}
use Rattle.isa_fields.specs.Fields.{opcode_field, funct3_field, csr_field}
use Rattle.scope.specs.declared.machine.Vcpu.{Vcpu}
use Rattle.scope.specs.declared.machine.Waiting.{Waiting}
use Rattle.scope.specs.declared.machine.Waiting.TheVariants as waiting
use Rattle.scope.specs.Record.{is_idle, waiting_ask}
use Rattle.demand3_table.specs.Table.{a6, a7}
use Rattle.demand3_table.specs.Runs.{step_of}
use Rattle.scope.specs.declared.decided.Class.{Class}
use Rattle.scope.specs.declared.hosts.HostCall.{HostCall}
use Rattle.scope.specs.declared.decided.Class.TheVariants as class
use Rattle.scope.specs.Classes.{class_of}
use Rattle.scope.specs.declared.hosts.HostCall.TheVariants as host_call

-- SBI, 'RFENCE Extension': fids 0 to 6 are kinds 3 to 9 in order; any other fid is of no kind, 0
unfoldable pub fence_kind : ℕ → ℕ
fence_kind fid = pick (ltb fid 7) (3 + fid) 0

-- kind 1: legacy 0 and TIME fid 0
unfoldable pub ecall_kind : ℕ → ℕ → ℕ
ecall_kind eid fid =
    pick (eqb eid legacy_set_timer) 1
    (pick (eqb eid eid_time) (pick (eqb fid 0) 1 0)
    (pick (eqb eid eid_rfnc) (fence_kind fid)
    0))

-- ISA, 'Zicsr': funct3 of the six CSR instructions
unfoldable pub csr_funct3 : ℕ → Bool
csr_funct3 f = or (eqb f 1) (or (eqb f 2) (or (eqb f 3) (or (eqb f 5) (or (eqb f 6) (eqb f 7)))))

-- the word is a CSR instruction on stimecmp
unfoldable pub on_stimecmp : ℕ → Bool
on_stimecmp w =
    and (eqb (opcode_field w) system_opcode) (and (eqb (csr_field w) stimecmp) (csr_funct3 (funct3_field w)))

-- kind 2: any other word under 22
unfoldable pub word_kind : ℕ → ℕ
word_kind w = pick (on_stimecmp w) 0 2

-- a word of stval that does not end in 0x73 is fetched, and counts with its answer
unfoldable pub stval_kind : ℕ → ℕ
stval_kind w = pick (eqb (opcode_field w) system_opcode) (word_kind w) 0

-- a trap at its start, by class
unfoldable pub class_kind : Class → List ℕ → Trap → ℕ
class_kind class.Ecall x t = ecall_kind (get_or x a7 0) (get_or x a6 0)
class_kind class.VirtualInstruction x t = stval_kind (t.stval % 2 ^ 32)
class_kind (class.PageFault k) x t = 0
class_kind class.Interrupt x t = 0
class_kind class.NotHandled x t = 0
class_kind class.Unknown x t = 0

-- a word fetched under 22
unfoldable pub waiting_kind : Waiting → ℕ → ℕ
waiting_kind waiting.FetchCsr w = word_kind w
waiting_kind waiting.Idle w = 0
waiting_kind (waiting.Load rd width s) w = 0
waiting_kind (waiting.FetchFault at k) w = 0
waiting_kind (waiting.Ecall a) w = 0

-- a fetch that fails is of no kind
unfoldable pub fetch_kind : Waiting → Fetch → ℕ
fetch_kind n (fetch.Word w) = waiting_kind n w
fetch_kind n (fetch.Page a) = 0
fetch_kind n (fetch.Access a) = 0
fetch_kind n (fetch.Misaligned a) = 0
fetch_kind n (fetch.GuestPage a) = 0
fetch_kind n fetch.Unhandled = 0

-- nor is any other answer
unfoldable pub answer_kind : Waiting → Answer → ℕ
answer_kind n (answers.Fetched f) = fetch_kind n f
answer_kind n (answers.MaskCopied count bytes) = 0
answer_kind n (answers.CopiedIn count) = 0
answer_kind n (answers.Printed error value) = 0
answer_kind n (answers.ConsoleRead error value) = 0
answer_kind n (answers.CopiedOut count) = 0
answer_kind n answers.Emitted = 0
answer_kind n (answers.Char number) = 0
answer_kind n (answers.Forwarded error value) = 0
answer_kind n answers.Other = 0

-- the kind of trap that a call starts or carries on; a refused call is of none
unfoldable pub call_kind : Vcpu → HostCall → ℕ
call_kind v (host_call.Start t) = pick (is_idle v.waiting) (class_kind (class_of t.scause) v.x t) 0
call_kind v (host_call.Answer a) = pick (eqb (waiting_ask v.waiting) (answer_number a)) (answer_kind v.waiting a) 0
call_kind v host_call.Setup = 0
call_kind v (host_call.SetEntry at) = 0
call_kind v (host_call.GetGpr index) = 0
call_kind v (host_call.SetGpr index value) = 0
call_kind v (host_call.SetReturnValue value) = 0
call_kind v (host_call.SetNestedPageTable levels mode root) = 0
call_kind v (host_call.SetPending vector level) = 0
call_kind v (host_call.LatchHvip bits) = 0
call_kind v (host_call.CompleteIpi abi completion) = 0
call_kind v (host_call.CompleteLoad n) = 0
call_kind v (host_call.ToPrint length) = 0
call_kind v (host_call.New hart tree) = 0

unfoldable pub kind_of : Vcpu → Turn → ℕ
kind_of v (call c) = call_kind v c
kind_of v (print buffer) = 0
kind_of v (post ps) = 0

-- how many traps of a kind a sequence has
unfoldable pub traps : ℕ → Vcpu → List Turn → ℕ
traps kind v [] = 0
traps kind v (c ∷ cs) = pick (eqb (kind_of v c) kind) 1 0 + traps kind (step_of v c) cs

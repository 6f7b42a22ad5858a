-- Document 01's reading table: the general registers that a call on a record names. The rows are in 01's order and words;
-- they cite no definition of what the handler does but a trap's
-- class (class_of), what waits, and the decoder's reading of a word.
use Rattle.std.specs.Prelude.{ℕ, ◌%◌, ◌^◌, List, [], ◌∷◌, get_or, eqb, leb}
use Rattle.demand3_table.specs.Turns.{Turn, call, print, post}
use Rattle.isa_types.specs.Pick.{pick}
use Rattle.scope.specs.declared.traps.Access.{Access}
use Rattle.scope.specs.declared.traps.Access.TheVariants as access
use Rattle.scope.specs.declared.traps.Answer.{Answer}
use Rattle.scope.specs.declared.traps.Answer.TheVariants as answers
use Rattle.scope.specs.declared.traps.Fetch.{Fetch}
use Rattle.scope.specs.declared.traps.Fetch.TheVariants as fetch
use Rattle.scope.specs.declared.traps.Trap.{Trap}
use Rattle.isa_consts.specs.Csr.{system_opcode, stimecmp}
use Rattle.isa_consts.specs.Sbi.{legacy_set_timer, legacy_putchar, legacy_send_ipi, legacy_shutdown, eid_time, eid_spi, eid_hsm, eid_hvc, eid_srst, eid_dbcn, eid_rfnc, eid_pmu}
use Rattle.isa_decoder.specs.declared.Trapped.{Trapped}
use Rattle.isa_fields.specs.Fields.{opcode_field, funct3_field, rs1_field, csr_field}
use Rattle.isa_decoder.specs.Length.{htinst_of, fetched_of, store_source}
use Rattle.scope.specs.declared.machine.Vcpu.{Vcpu}
use Rattle.scope.specs.declared.machine.Waiting.{Waiting}
use Rattle.scope.specs.declared.machine.Waiting.TheVariants as waiting
use Rattle.scope.specs.Record.{is_idle}
use Rattle.scope.specs.declared.hosts.HostCall.{HostCall}
use Rattle.scope.specs.declared.decided.Class.TheVariants as class
use Rattle.scope.specs.declared.hosts.HostCall.TheVariants as host_call
use Rattle.scope.specs.declared.decided.Class.{Class}
use Rattle.scope.specs.Classes.{class_of}

-- SBI, 'Binary Encoding': a0 to a7 are x10 to x17
abbrev pub a0 : ℕ
a0 = 10

abbrev pub a1 : ℕ
a1 = 11

abbrev pub a2 : ℕ
a2 = 12

abbrev pub a3 : ℕ
a3 = 13

abbrev pub a4 : ℕ
a4 = 14

abbrev pub a5 : ℕ
a5 = 15

abbrev pub a6 : ℕ
a6 = 16

abbrev pub a7 : ℕ
a7 = 17

-- "x0 never"
unfoldable pub source_names : ℕ → List ℕ
source_names i = pick (eqb i 0) [] (i ∷ [])

-- "a6, a0 to a5"
unfoldable pub forward_names : List ℕ
forward_names = a6 ∷ a0 ∷ a1 ∷ a2 ∷ a3 ∷ a4 ∷ a5 ∷ []

-- TIME 0: a0
unfoldable pub time_names : ℕ → List ℕ
time_names fid = pick (eqb fid 0) (a0 ∷ []) []

-- SRST 0: a0
unfoldable pub srst_names : ℕ → List ℕ
srst_names fid = pick (eqb fid 0) (a0 ∷ []) []

-- sPI 0: a0, a1
unfoldable pub spi_names : ℕ → List ℕ
spi_names fid = pick (eqb fid 0) (a0 ∷ a1 ∷ []) []

-- HSM 0: a0, a1, a2
unfoldable pub hsm_names : ℕ → List ℕ
hsm_names fid = pick (eqb fid 0) (a0 ∷ a1 ∷ a2 ∷ []) []

-- DBCN 0 and 1: a0, a1, a2
unfoldable pub console_names : List ℕ
console_names = a0 ∷ a1 ∷ a2 ∷ []

-- DBCN 2: a0
unfoldable pub byte_names : List ℕ
byte_names = a0 ∷ []

-- DBCN by fid
unfoldable pub dbcn_names : ℕ → List ℕ
dbcn_names fid =
    pick (eqb fid 0) console_names
    (pick (eqb fid 1) console_names
    (pick (eqb fid 2) byte_names
    []))

-- "Legacy 0, 1, 4: a0. HVC, PMU, RFNC, forwarded: a6, a0 to a5. Others with fids: a6, and" the rows above. The other legacy
-- calls, up to 8, name nothing more; every eid that has no row is forwarded
unfoldable pub eid_names : ℕ → ℕ → List ℕ
eid_names eid fid =
    pick (eqb eid legacy_set_timer) (a0 ∷ [])
    (pick (eqb eid legacy_putchar) (a0 ∷ [])
    (pick (eqb eid legacy_send_ipi) (a0 ∷ [])
    (pick (leb eid legacy_shutdown) []
    (pick (eqb eid eid_hvc) forward_names
    (pick (eqb eid eid_pmu) forward_names
    (pick (eqb eid eid_rfnc) forward_names
    (pick (eqb eid eid_time) (a6 ∷ time_names fid)
    (pick (eqb eid eid_srst) (a6 ∷ srst_names fid)
    (pick (eqb eid eid_spi) (a6 ∷ spi_names fid)
    (pick (eqb eid eid_hsm) (a6 ∷ hsm_names fid)
    (pick (eqb eid eid_dbcn) (a6 ∷ dbcn_names fid)
    forward_names)))))))))))

-- "Ecall: a7"
unfoldable pub ecall_names : List ℕ → List ℕ
ecall_names x = a7 ∷ eid_names (get_or x a7 0) (get_or x a6 0)

-- "rs1 for funct3 1, 2, 3"
unfoldable pub funct3_names : ℕ → ℕ → List ℕ
funct3_names funct3 rs1 =
    pick (eqb funct3 1) (source_names rs1)
    (pick (eqb funct3 2) (source_names rs1)
    (pick (eqb funct3 3) (source_names rs1)
    []))

-- stimecmp: the word ends in 0x73 and its CSR field is 0x14d
unfoldable pub stimecmp_names : ℕ → List ℕ
stimecmp_names w =
    pick (eqb (opcode_field w) system_opcode)
    (pick (eqb (csr_field w) stimecmp) (funct3_names (funct3_field w) (rs1_field w)) [])
    []

-- "Decoded store": rs2. store_source is op_source of the word that was decoded (isa_decoder/specs/Length.antt). That op_source of
-- a decoded 32-bit word is its bits 24..20 where it is a store, and 0 where not, is store_field in isa_decoder/specs/Laws.antt; of a
-- 16-bit one (02, W2) 8 plus its bits 4..2 in quadrant 0 and its bits 6..2 in quadrant 2, compressed_field in CompressedLaws.antt
unfoldable pub store_names : Trapped → List ℕ
store_names i = source_names (store_source i)

-- a store "under 23"
unfoldable pub access_names : Access → Trapped → List ℕ
access_names access.Read i = []
access_names access.Write i = store_names i
access_names access.Execute i = []

-- by class: ecall, virtual instruction, store. "Nothing else"
unfoldable pub class_names : Class → List ℕ → Trap → List ℕ
class_names class.Ecall x t = ecall_names x
class_names class.VirtualInstruction x t = stimecmp_names (t.stval % 2 ^ 32)
class_names (class.PageFault k) x t = access_names k (htinst_of t.htinst)
class_names class.Interrupt x t = []
class_names class.NotHandled x t = []
class_names class.Unknown x t = []

-- "A trap already waiting when a sequence starts counts as in it": a fetch names what the word answered can still read, an
-- ecall nothing
unfoldable pub word_names : Waiting → ℕ → List ℕ
word_names waiting.Idle w = []
word_names (waiting.Load rd width s) w = []
word_names waiting.FetchCsr w = stimecmp_names w
word_names (waiting.FetchFault at k) w = access_names k (fetched_of w)
word_names (waiting.Ecall a) w = []

-- a fault in place of the word names nothing
unfoldable pub fetch_names : Waiting → Fetch → List ℕ
fetch_names n (fetch.Word w) = word_names n w
fetch_names n (fetch.Page a) = []
fetch_names n (fetch.Access a) = []
fetch_names n (fetch.Misaligned a) = []
fetch_names n (fetch.GuestPage a) = []
fetch_names n fetch.Unhandled = []

-- the answers to an ecall's asks read no register
unfoldable pub answer_names : Waiting → Answer → List ℕ
answer_names n (answers.Fetched f) = fetch_names n f
answer_names n (answers.MaskCopied count bytes) = []
answer_names n (answers.CopiedIn count) = []
answer_names n (answers.Printed error value) = []
answer_names n (answers.ConsoleRead error value) = []
answer_names n (answers.CopiedOut count) = []
answer_names n answers.Emitted = []
answer_names n (answers.Char number) = []
answer_names n (answers.Forwarded error value) = []
answer_names n answers.Other = []

-- the registers that a call's trap names; a refused start names none
unfoldable pub call_names : Vcpu → HostCall → List ℕ
call_names v (host_call.Start t) = pick (is_idle v.waiting) (class_names (class_of t.scause) v.x t) []
call_names v (host_call.Answer a) = answer_names v.waiting a
call_names v host_call.Setup = []
call_names v (host_call.SetEntry at) = []
call_names v (host_call.GetGpr index) = []
call_names v (host_call.SetGpr index value) = []
call_names v (host_call.SetReturnValue value) = []
call_names v (host_call.SetNestedPageTable levels mode root) = []
call_names v (host_call.SetPending vector level) = []
call_names v (host_call.LatchHvip bits) = []
call_names v (host_call.CompleteIpi abi completion) = []
call_names v (host_call.CompleteLoad n) = []
call_names v (host_call.ToPrint length) = []
call_names v (host_call.New hart tree) = []

unfoldable pub names_of : Vcpu → Turn → List ℕ
names_of v (call c) = call_names v c
names_of v (print buffer) = []
names_of v (post ps) = []

-- the registers that a call reads out to the host; x0 reads 0, whatever its slot holds
unfoldable pub call_reads : HostCall → List ℕ
call_reads (host_call.GetGpr index) = source_names index
call_reads host_call.Setup = []
call_reads (host_call.SetEntry at) = []
call_reads (host_call.SetGpr index value) = []
call_reads (host_call.SetReturnValue value) = []
call_reads (host_call.SetNestedPageTable levels mode root) = []
call_reads (host_call.SetPending vector level) = []
call_reads (host_call.LatchHvip bits) = []
call_reads (host_call.CompleteIpi abi completion) = []
call_reads (host_call.Start t) = []
call_reads (host_call.Answer a) = []
call_reads (host_call.CompleteLoad n) = []
call_reads (host_call.ToPrint length) = []
call_reads (host_call.New hart tree) = []

unfoldable pub reads_of : Turn → List ℕ
reads_of (call c) = call_reads c
reads_of (print buffer) = []
reads_of (post ps) = []

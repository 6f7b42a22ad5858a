-- What each class of trap does to the 58 words and to the words of the reply, row by row. proofs/Laws.antt shows that through
-- the view these are the effects of the same decisions.
use Rattle.std.specs.Prelude.{ℕ, ◌+◌, false, List, ◌≡◌, get_or, set, eqb, ltb}
use Rattle.isa_types.specs.Pick.{pick, wrapped}
use Rattle.scope.specs.OneTrap.{abi_number, access_number, flag_of, width_bytes}
use Rattle.scope.specs.declared.traps.Access.{Access}
use Rattle.isa_types.specs.declared.GuestPhysAddr.{GuestPhysAddr}
use Rattle.isa_consts.specs.Csr.{vssip, vstip}
use Rattle.isa_registers.specs.Bits.{spvp_of, with_bits}
use Rattle.scope.specs.declared.machine.Csrs.{Csrs}
use Rattle.scope.specs.Record.{event_number}
use Rattle.scope.specs.declared.decided.SbiCall.{SbiCall}
use Rattle.scope.specs.declared.decided.SbiCall.TheVariants as call
use Rattle.scope.specs.VirtualInstruction.{injected_of}
use Rattle.scope.specs.declared.decided.Missed.{Missed}
use Rattle.scope.specs.declared.decided.Missed.TheVariants as missed
use Rattle.scope.specs.declared.decided.Stimecmp.{Stimecmp}
use Rattle.scope.specs.declared.decided.Stimecmp.TheVariants as csr
use Rattle.scope.specs.declared.decided.Fault.{Fault}
use Rattle.scope.specs.declared.decided.Fault.TheVariants as fault
use Rattle.scope.specs.declared.decided.Answered.{Answered}
use Rattle.scope.specs.declared.decided.Answered.TheVariants as answered
use Rattle.isa_extension.specs.Extend.{extend_of}
use Rattle.scope.specs.declared.machine.Waiting.{Waiting}
use Rattle.scope.specs.declared.machine.Waiting.TheVariants as waiting
use Rattle.in_place_record.specs.View.{view_of}

-- the words of the record, the words of the reply, and the word returned
pub record Left : Type 0 where
  pub rec : List ℕ
  pub out : List ℕ
  pub word : ℕ

abbrev pub left : List ℕ → List ℕ → ℕ → Left
left r o w = record { rec = r; out = o; word = w }

-- a function that leaves these words
pub record Leaves (l : Left) (r o : List ℕ) (w : ℕ) : Type 0 where
  pub rec : r ≡ l.rec
  pub out : o ≡ l.out
  pub word : w ≡ l.word

-- register i written; x0 never is
unfoldable pub put_word : List ℕ → ℕ → ℕ → List ℕ
put_word r i n = pick (eqb i 0) r (pick (ltb i 32) (set r i n) r)

-- sepc moves on
unfoldable pub moved_words : List ℕ → ℕ → List ℕ
moved_words r n = set r 32 (wrapped (get_or r 32 0 + n))

-- a trap finished: nothing waits, a0 and a1 are written, sepc moves on by 4
unfoldable pub pair_words : List ℕ → ℕ → ℕ → List ℕ
pair_words r e v = moved_words (set (set (set r 54 0) 10 e) 11 v) 4

-- likewise with a0 alone
unfoldable pub give_words : List ℕ → ℕ → List ℕ
give_words r n = moved_words (set (set r 54 0) 10 n) 4

-- likewise with no register
unfoldable pub step_words : List ℕ → ℕ → List ℕ
step_words r n = moved_words (set r 54 0) n

-- one more in the count of event number n; 0 is none
unfoldable pub bump_words : List ℕ → ℕ → List ℕ
bump_words r n = pick (eqb n 0) r (pick (ltb n 10) (set r (n + 44) (wrapped (get_or r (n + 44) 0 + 1))) r)

-- 01, Ecalls; 02, W1: the timer's pending bit is cleared, the timer set, and event 1 counted
unfoldable pub timer_words : List ℕ → ℕ → List ℕ
timer_words r d = bump_words (set (set r 42 (with_bits (get_or r 42 0) vstip false)) 40 d) 1

-- up to three words of the reply
abbrev pub one : List ℕ → ℕ → List ℕ
one o a = set o 0 a

abbrev pub two : List ℕ → ℕ → ℕ → List ℕ
two o a b = set (set o 0 a) 1 b

abbrev pub three : List ℕ → ℕ → ℕ → ℕ → List ℕ
three o a b c = set (set (set o 0 a) 1 b) 2 c

-- a0 to a5 in words 2 to 7
unfoldable pub six_words : List ℕ → List ℕ → List ℕ
six_words r o =
    set (set (set (set (set (set o 2 (get_or r 10 0)) 3 (get_or r 11 0)) 4 (get_or r 12 0)) 5 (get_or r 13 0)) 6 (get_or r 14 0)) 7
    (get_or r 15 0)

-- ask 1 at sepc
unfoldable pub fetch_out : List ℕ → List ℕ → List ℕ
fetch_out r o = two o (get_or r 32 0) (flag_of (spvp_of (get_or r 34 0)))

-- an SBI call
unfoldable pub call_left : List ℕ → List ℕ → SbiCall → Left
call_left r o (call.Returns e v) = left (pair_words r e v) o 0
call_left r o call.Moves = left (step_words r 4) o 0
call_left r o (call.LegacyTimer d) = left (give_words (timer_words r d) 0) o 0
call_left r o (call.SetTimer d) = left (pair_words (timer_words r d) 0 0) o 0
call_left r o call.ClearIpi = left (give_words (set r 42 (with_bits (get_or r 42 0) vssip false)) 0) o 0
call_left r o (call.PutChar n) = left (set r 54 9) (one o n) 0x27
call_left r o call.GetChar = left (set r 54 11) o 0x28
call_left r o (call.CopyMask at) = left (set r 54 4) (one o at.0) 0x22
call_left r o (call.SendIpi q) = left (step_words r 4) (three o q.mask q.base (abi_number q.abi)) 2
call_left r o (call.CpuUp target entry arg) = left (step_words r 4) (three o target entry.0 arg) 3
call_left r o call.CpuDown = left (set r 54 0) (one o 0) 4
call_left r o call.Halt = left (set r 54 0) o 5
call_left r o call.SystemDown = left (set r 54 0) o 7
call_left r o call.Hypercall = left (step_words r 4) (six_words r (one o (get_or r 16 0))) 6
call_left r o (call.CopyIn at n) = left (set (set r 54 5) 55 n) (two o at.0 n) 0x23
call_left r o (call.ReadConsole at n) = left (set (set (set r 54 7) 55 n) 56 at.0) (one o n) 0x25
call_left r o (call.PutByte n) = left (set r 54 10) (one o n) 0x27
call_left r o (call.Forward e) =
    left (set (bump_words r (event_number e)) 54 12) (six_words r (two o (get_or r 17 0) (get_or r 16 0))) 0x29

-- a virtual instruction
unfoldable pub csr_left : List ℕ → List ℕ → Stimecmp → Left
csr_left r o csr.Illegal = left (set (bump_words r 2) 54 0) o 0x103
csr_left r o csr.Fetch = left (set r 54 2) (fetch_out r o) 0x21
csr_left r o (csr.Write rd timer) = left (put_word (step_words (set r 40 timer) 4) rd (get_or r 40 0)) o 0

-- a guest page fault
unfoldable pub fault_left : List ℕ → List ℕ → GuestPhysAddr → Access → Fault → Left
fault_left r o at k fault.Fetch = left (set (set (set r 54 3) 55 at.0) 56 (access_number k)) (fetch_out r o) 0x21
fault_left r o at k fault.Walk = left (set r 54 0) o 0x103
fault_left r o at k fault.Unfit = left (set r 54 0) o 0x105
fault_left r o at k fault.Nested = left (set r 54 0) (two o at.0 (access_number k)) 8
fault_left r o at k (fault.Load w s rd n) =
    left (moved_words (set (set (set (set r 54 1) 55 rd) 56 (width_bytes w)) 57 (flag_of s)) n) (two o at.0 (width_bytes w)) 9
fault_left r o at k (fault.Store w d n) = left (step_words r n) (three o at.0 (width_bytes w) d) 10

-- the CSRs after an injected exception, of which six differ
unfoldable pub inject_words : List ℕ → Csrs → List ℕ
inject_words r c =
    set (set (set (set (set (set (set r 54 0) 35 c.vs.vsstatus) 37 c.vs.vsepc) 38 c.vs.vscause) 39 c.vs.vstval) 32
    c.guest.sepc) 33 c.guest.sstatus

-- a failed fetch
unfoldable pub missed_left : List ℕ → List ℕ → Missed → Left
missed_left r o (missed.Inject cause addr) = left (inject_words r (injected_of (view_of r).csrs cause addr)) o 0
missed_left r o (missed.Nested addr) = left (set r 54 0) (two o addr.0 4) 8
missed_left r o missed.Unhandled = left (set r 54 0) o 0x106

-- the answer to an ecall's ask
unfoldable pub answered_left : List ℕ → List ℕ → Answered → Left
answered_left r o answered.Moves = left (step_words r 4) o 0
answered_left r o (answered.Gives v) = left (give_words r v) o 0
answered_left r o (answered.Returns e v) = left (pair_words r e v) o 0
answered_left r o (answered.SendIpi q) = left (step_words r 4) (three o q.mask q.base (abi_number q.abi)) 2
answered_left r o (answered.Print n) = left (set (set r 54 6) 55 n) (one o n) 0x24
answered_left r o (answered.CopyOut at n) = left (set (set r 54 8) 55 n) (two o at.0 n) 0x26

-- a load's completion: rd is written and nothing waits; else all stays
unfoldable pub complete_words : List ℕ → Waiting → ℕ → List ℕ
complete_words r (waiting.Load rd w s) n = put_word (set r 54 0) rd (extend_of w s n)
complete_words r waiting.Idle n = r
complete_words r waiting.FetchCsr n = r
complete_words r (waiting.FetchFault at a) n = r
complete_words r (waiting.Ecall a) n = r

unfoldable pub complete_word : Waiting → ℕ
complete_word (waiting.Load rd w s) = 0x40
complete_word waiting.Idle = 0x102
complete_word waiting.FetchCsr = 0x102
complete_word (waiting.FetchFault at a) = 0x102
complete_word (waiting.Ecall a) = 0x102

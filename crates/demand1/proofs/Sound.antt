-- Every call leaves what its reply says.
use Rattle.std.specs.Prelude.{ℕ, ◌%◌, ◌^◌, Bool, true, false, List, refl, eqb, ltb}
use Rattle.isa_types.specs.Pick.{pick}
use Rattle.scope.specs.Decided.{call_effect, answered_effect}
use Rattle.scope.specs.declared.traps.Access.{Access}
use Rattle.scope.specs.declared.traps.Answer.{Answer}
use Rattle.scope.specs.declared.traps.Args.{Args}
use Rattle.scope.specs.declared.traps.Error.TheVariants as error
use Rattle.isa_types.specs.declared.GuestPhysAddr.{GuestPhysAddr}
use Rattle.scope.specs.declared.traps.Trap.{Trap}
use Rattle.isa_decoder.specs.declared.Trapped.{Trapped}
use Rattle.scope.specs.declared.machine.Csrs.{Csrs}
use Rattle.scope.specs.declared.machine.Effect.{Effect}
use Rattle.scope.specs.declared.machine.Waiting.{Waiting}
use Rattle.scope.specs.declared.machine.Waiting.TheVariants as waiting
use Rattle.scope.specs.declared.machine.Writes.{Writes}
use Rattle.scope.specs.Record.{is_idle, waiting_ask}
use Rattle.scope.specs.Refusals.{asking_of, done_of, failed_of, finished_of, refused_of, leaves_of, unless_asking}
use Rattle.scope.specs.declared.decided.SbiCall.{SbiCall}
use Rattle.scope.specs.declared.decided.SbiCall.TheVariants as call
use Rattle.scope.specs.Ecalls.{asks_of, clear_ipi_of, hypercall_of, moves_of, returns_of, set_timer_of, stays_of, forward_effect, gives_of}
use Rattle.scope.specs.declared.decided.Missed.{Missed}
use Rattle.scope.specs.declared.decided.Missed.TheVariants as missed
use Rattle.scope.specs.VirtualInstruction.{ask_fetch_of, missed_effect, stimecmp_effect, virtual_effect}
use Rattle.scope.specs.declared.decided.Stimecmp.{Stimecmp}
use Rattle.scope.specs.declared.decided.Stimecmp.TheVariants as csr
use Rattle.scope.specs.declared.decided.Fault.{Fault}
use Rattle.scope.specs.declared.decided.Fault.TheVariants as fault
use Rattle.scope.specs.GuestPageFault.{fault_effect, completed_of, mmio_of, page_fault_of}
use Rattle.scope.specs.declared.decided.Answered.{Answered}
use Rattle.scope.specs.declared.decided.Answered.TheVariants as answered
use Rattle.scope.specs.Host.{hvip_bit_of, paging_by, paging_effect, pending_effect, write_effect}
use Rattle.scope.specs.Classes.{start_effect, class_of, class_effect}
use Rattle.scope.specs.Answers.{answer_effect}
use Rattle.demand1.specs.Leaves.{Sound, Says, ExitLeaves, Failed, copy_in, copy_mask, copy_out, fetch_csr, fetch_fault, get_char, put_byte, put_char, read_console, forward, illegal, print, quiet, load}
use Rattle.scope.specs.declared.decided.Class.{Class}
use Rattle.scope.specs.declared.hosts.HostCall.{HostCall}
use Rattle.scope.specs.declared.machine.Vcpu.{Vcpu}
use Rattle.scope.specs.declared.decided.Class.TheVariants as class
use Rattle.demand1.proofs.Rows.{any_answer, ecall_row, one_of}
use Rattle.scope.specs.Calls.{effect_of, gpr_reply}
use Rattle.scope.specs.declared.hosts.HostCall.TheVariants as host_call
use Rattle.scope.specs.declared.traps.Reply.TheVariants as reply

-- one of two by a test
picked : {c : Csrs} {n : Waiting} (b : Bool) {e f : Effect} → Sound c n e → Sound c n f → Sound c n (pick b e f)
picked {c} {n} b s t = one_of (Sound c n) b s t

done_sound : (c d : Csrs) (m n : Waiting) (w : Writes) → Sound c n (done_of d w m)
unfolding done_of Says
done_sound c d m n w = record { says = tt }

-- an SBI call
pub call_sound : (c : Csrs) (n : Waiting) (eid fid : ℕ) (a : Args) (k : SbiCall) → Sound c n (call_effect c eid fid a k)
unfolding call_effect forward_effect returns_of moves_of stays_of asks_of set_timer_of clear_ipi_of hypercall_of finished_of asking_of Says ExitLeaves
call_sound c n eid fid a (call.Returns e v) = record { says = refl }
call_sound c n eid fid a call.Moves = record { says = refl }
call_sound c n eid fid a (call.LegacyTimer d) = record { says = refl }
call_sound c n eid fid a (call.SetTimer d) = record { says = refl }
call_sound c n eid fid a call.ClearIpi = record { says = refl }
call_sound c n eid fid a (call.PutChar k) = record { says = record { csrs = refl; writes = refl; waits = put_char k } }
call_sound c n eid fid a call.GetChar = record { says = record { csrs = refl; writes = refl; waits = get_char } }
call_sound c n eid fid a (call.CopyMask at) = record { says = record { csrs = refl; writes = refl; waits = copy_mask at } }
call_sound c n eid fid a (call.SendIpi r) = record { says = refl }
call_sound c n eid fid a (call.CpuUp t e k) = record { says = refl }
call_sound c n eid fid a call.CpuDown = record { says = refl }
call_sound c n eid fid a call.Halt = record { says = refl }
call_sound c n eid fid a call.SystemDown = record { says = refl }
call_sound c n eid fid a call.Hypercall = record { says = refl }
call_sound c n eid fid a (call.CopyIn at k) = record { says = record { csrs = refl; writes = refl; waits = copy_in at k } }
call_sound c n eid fid a (call.ReadConsole at k) = record { says = record { csrs = refl; writes = refl; waits = read_console k at } }
call_sound c n eid fid a (call.PutByte k) = record { says = record { csrs = refl; writes = refl; waits = put_byte k } }
call_sound c n eid fid a (call.Forward e) = record { says = record { csrs = refl; writes = refl; waits = forward eid fid a } }

-- a virtual instruction
pub csr_sound : (c : Csrs) (n : Waiting) (d : Stimecmp) → Sound c n (stimecmp_effect c d)
unfolding stimecmp_effect ask_fetch_of finished_of asking_of failed_of Says ExitLeaves Failed
csr_sound c n csr.Illegal = record { says = (record { csrs = refl; writes = refl; waiting = refl }, illegal) }
csr_sound c n csr.Fetch = record { says = record { csrs = refl; writes = refl; waits = fetch_csr _ _ } }
csr_sound c n (csr.Write rd t) = record { says = refl }

-- a guest page fault
pub fault_sound : (c : Csrs) (n : Waiting) (at : GuestPhysAddr) (k : Access) (d : Fault) → Sound c n (fault_effect c at k d)
unfolding fault_effect ask_fetch_of finished_of asking_of failed_of Says ExitLeaves Failed
fault_sound c n at k fault.Fetch = record { says = record { csrs = refl; writes = refl; waits = fetch_fault _ _ at k } }
fault_sound c n at k fault.Walk = record { says = (record { csrs = refl; writes = refl; waiting = refl }, quiet) }
fault_sound c n at k fault.Unfit = record { says = (record { csrs = refl; writes = refl; waiting = refl }, refl) }
fault_sound c n at k fault.Nested = record { says = refl }
fault_sound c n at k (fault.Load w s rd l) = record { says = load rd w s }
fault_sound c n at k (fault.Store w d l) = record { says = refl }

-- a fetch fault
pub missed_sound : (c : Csrs) (n : Waiting) (m : Missed) → Sound c n (missed_effect c m)
unfolding missed_effect finished_of failed_of Says ExitLeaves Failed
missed_sound c n (missed.Inject cause a) = record { says = refl }
missed_sound c n (missed.Nested a) = record { says = refl }
missed_sound c n missed.Unhandled = record { says = (record { csrs = refl; writes = refl; waiting = refl }, refl) }

-- an answer to an ecall
answered_sound : (c : Csrs) (n : Waiting) (d : Answered) → Sound c n (answered_effect c d)
unfolding answered_effect moves_of gives_of returns_of asks_of finished_of asking_of Says ExitLeaves
answered_sound c n answered.Moves = record { says = refl }
answered_sound c n (answered.Gives v) = record { says = refl }
answered_sound c n (answered.Returns e v) = record { says = refl }
answered_sound c n (answered.SendIpi r) = record { says = refl }
answered_sound c n (answered.Print k) = record { says = record { csrs = refl; writes = refl; waits = print k } }
answered_sound c n (answered.CopyOut at k) = record { says = record { csrs = refl; writes = refl; waits = copy_out at k } }

wrong_sound : (c : Csrs) (n : Waiting) → Sound c n (refused_of c n error.WrongAnswer)
unfolding refused_of leaves_of Says Failed
wrong_sound c n = record { says = record { csrs = refl; event = refl; writes = refl; waiting = refl } }

state_sound : (c : Csrs) (n : Waiting) → Sound c n (refused_of c n error.BadState)
unfolding refused_of leaves_of Says Failed
state_sound c n = record { says = record { csrs = refl; event = refl; writes = refl; waiting = refl } }

input_sound : (c : Csrs) (n : Waiting) → Sound c n (refused_of c n error.InvalidInput)
unfolding refused_of leaves_of Says Failed
input_sound c n = record { says = record { csrs = refl; event = refl; writes = refl; waiting = refl } }

mmio_sound : (x : List ℕ) (c : Csrs) (n : Waiting) (at : GuestPhysAddr) (k : Access) (i : Trapped) → Sound c n (mmio_of x c at k i)
unfolding mmio_of
mmio_sound x c n at k i = fault_sound c n at k _

class_sound : (k : Class) (x : List ℕ) (c : Csrs) (n : Waiting) (t : Trap) → Sound c n (class_effect k x c t)
unfolding class_effect virtual_effect page_fault_of finished_of failed_of Says ExitLeaves Failed
class_sound class.Ecall x c n t = ecall_row (Sound c n) c _ _ _ (call_sound c n _ _ _) t.room
class_sound class.VirtualInstruction x c n t = csr_sound c n _
class_sound (class.PageFault k) x c n t = mmio_sound x c n _ k _
class_sound class.Interrupt x c n t = record { says = refl }
class_sound class.NotHandled x c n t = record { says = (record { csrs = refl; writes = refl; waiting = refl }, quiet) }
class_sound class.Unknown x c n t = record { says = (record { csrs = refl; writes = refl; waiting = refl }, refl) }

-- a start
pub start_sound : (x : List ℕ) (c : Csrs) (n : Waiting) (t : Trap) → Sound c n (start_effect x c n t)
unfolding start_effect
start_sound x c n t = picked (is_idle n) (class_sound (class_of t.scause) x c n t) (state_sound c n)

-- an answer
pub answer_sound : (x : List ℕ) (c : Csrs) (n : Waiting) (a : Answer) → Sound c n (answer_effect x c n a)
answer_sound x c n a =
    any_answer (Sound c) x c (record { csrs = csr_sound c; faults = fault_sound c; answers = answered_sound c; wrong = wrong_sound c }) n a
    (λ f h k. missed_sound c n _)

-- a load's completion
pub completed_sound : (c : Csrs) (n : Waiting) (k : ℕ) → Sound c n (completed_of c n k)
unfolding completed_of
completed_sound c waiting.Idle k = state_sound c waiting.Idle
completed_sound c (waiting.Load rd w s) k = done_sound c c waiting.Idle (waiting.Load rd w s) _
completed_sound c waiting.FetchCsr k = state_sound c waiting.FetchCsr
completed_sound c (waiting.FetchFault at a) k = state_sound c (waiting.FetchFault at a)
completed_sound c (waiting.Ecall a) k = state_sound c (waiting.Ecall a)

-- the host's own calls: done, or refused
pub write_sound : (c : Csrs) (n : Waiting) (i v : ℕ) → Sound c n (write_effect c n i v)
unfolding write_effect
write_sound c n i v = picked (ltb i 32) (done_sound c c n n _) (input_sound c n)

by_sound : (c : Csrs) (n : Waiting) (wanted mode root : ℕ) → Sound c n (paging_by c n wanted mode root)
unfolding paging_by
by_sound c n wanted mode root =
    picked (eqb mode wanted) (picked (eqb (root % 2 ^ 14) 0) (done_sound c _ n n _) (input_sound c n)) (input_sound c n)

pub paging_sound : (c : Csrs) (n : Waiting) (levels mode root : ℕ) → Sound c n (paging_effect c n levels mode root)
unfolding paging_effect
paging_sound c n levels mode root =
    picked (eqb levels 3) (by_sound c n 8 mode root) (picked (eqb levels 4) (by_sound c n 9 mode root) (input_sound c n))

pub pending_sound : (c : Csrs) (n : Waiting) (v : ℕ) (on : Bool) → Sound c n (pending_effect c n v on)
unfolding pending_effect
pending_sound c n v on =
    picked (eqb (hvip_bit_of v) 0) (input_sound c n) (done_sound c _ n n _)

-- and so with the guard of refusal 2 before them
unless_sound : (v : Vcpu) (e : Effect) → Sound v.csrs v.waiting e → Sound v.csrs v.waiting (unless_asking v e)
unfolding unless_asking
unless_sound v e s = picked (eqb (waiting_ask v.waiting) 0) s (state_sound v.csrs v.waiting)

-- a register read
read_sound : (v : Vcpu) (i : ℕ) (b : Bool) (n : ℕ)
    → Sound v.csrs v.waiting (leaves_of v.csrs v.waiting (pick b (reply.Value n) (reply.Error error.InvalidInput)))
unfolding leaves_of Says Failed
read_sound v i true n = record { says = tt }
read_sound v i false n = record { says = record { csrs = refl; event = refl; writes = refl; waiting = refl } }

value_sound : (v : Vcpu) (n : ℕ) → Sound v.csrs v.waiting (leaves_of v.csrs v.waiting (reply.Value n))
unfolding leaves_of Says
value_sound v n = record { says = tt }

-- every call
pub effect_sound : (v : Vcpu) (c : HostCall) → Sound v.csrs v.waiting (effect_of v c)
unfolding effect_of gpr_reply
effect_sound v host_call.Setup = unless_sound v _ (done_sound v.csrs _ v.waiting v.waiting _)
effect_sound v (host_call.SetEntry at) = unless_sound v _ (done_sound v.csrs _ v.waiting v.waiting _)
effect_sound v (host_call.GetGpr i) = read_sound v i (ltb i 32) _
effect_sound v (host_call.SetGpr i n) = unless_sound v _ (write_sound v.csrs v.waiting i n)
effect_sound v (host_call.SetReturnValue n) = unless_sound v _ (done_sound v.csrs _ v.waiting v.waiting _)
effect_sound v (host_call.SetNestedPageTable levels mode root) =
    unless_sound v _ (paging_sound v.csrs v.waiting levels mode root)
effect_sound v (host_call.SetPending k on) = unless_sound v _ (pending_sound v.csrs v.waiting k on)
effect_sound v (host_call.LatchHvip n) = unless_sound v _ (done_sound v.csrs _ v.waiting v.waiting _)
effect_sound v (host_call.CompleteIpi a k) = unless_sound v _ (done_sound v.csrs _ v.waiting v.waiting _)
effect_sound v (host_call.Start t) = start_sound v.x v.csrs v.waiting t
effect_sound v (host_call.Answer a) = answer_sound v.x v.csrs v.waiting a
effect_sound v (host_call.CompleteLoad n) = completed_sound v.csrs v.waiting n
effect_sound v (host_call.ToPrint n) = value_sound v _
effect_sound v (host_call.New hart tree) = done_sound v.csrs _ _ v.waiting _

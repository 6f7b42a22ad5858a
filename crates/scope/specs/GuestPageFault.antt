-- Guest page faults, and a load's completion. 01, Guest page fault.
use Rattle.std.specs.Prelude.{ℕ, Bool, List}
use Rattle.isa_decoder.specs.declared.Decoded.TheVariants as decoded
use Rattle.isa_decoder.specs.declared.Trapped.TheVariants as trapped
use Rattle.isa_decoder.specs.declared.Trapped.{Trapped}
use Rattle.isa_types.specs.declared.GuestPhysAddr.{GuestPhysAddr}
use Rattle.isa_types.specs.declared.Width.{Width}
use Rattle.isa_decoder.specs.Length.{store_source, htinst_of}
use Rattle.isa_extension.specs.Extend.{cut_of, extend_of}
use Rattle.isa_registers.specs.Values.{guest_page_fault_addr}
use Rattle.scope.specs.declared.decided.Fault.TheVariants as fault
use Rattle.scope.specs.declared.decided.Fault.{Fault}
use Rattle.scope.specs.declared.machine.Csrs.{Csrs}
use Rattle.scope.specs.declared.machine.Effect.{Effect}
use Rattle.scope.specs.declared.machine.Event.TheVariants as event
use Rattle.scope.specs.declared.machine.Waiting.TheVariants as waiting
use Rattle.scope.specs.declared.machine.Waiting.{Waiting}
use Rattle.scope.specs.declared.machine.Writes.TheVariants as writes
use Rattle.scope.specs.declared.traps.Access.TheVariants as access
use Rattle.scope.specs.declared.traps.Access.{Access}
use Rattle.scope.specs.declared.traps.Error.TheVariants as error
use Rattle.scope.specs.declared.traps.Exit.TheVariants as exit
use Rattle.scope.specs.declared.traps.Reply.TheVariants as reply
use Rattle.scope.specs.declared.traps.Trap.{Trap}
use Rattle.scope.specs.VirtualInstruction.{ask_fetch_of}
use Rattle.scope.specs.Record.{moved, no_args, value_of}
use Rattle.scope.specs.Refusals.{finished_of, failed_of, refused_of, done_of}

-- loads under 21
unfoldable pub load_under : Access → Width → Bool → ℕ → ℕ → Fault
load_under access.Read w s rd n = fault.Load w s rd n
load_under access.Write w s rd n = fault.Nested
load_under access.Execute w s rd n = fault.Nested

-- stores under 23; the data is cut to the width
unfoldable pub store_under : Access → Width → ℕ → ℕ → Fault
store_under access.Read w source n = fault.Nested
store_under access.Write w source n = fault.Store w (cut_of w source) n
store_under access.Execute w source n = fault.Nested

-- htinst 0: fetch; pseudo: error 3; no length: error 5; a load under 21 and a store under 23; all else NestedPageFault
unfoldable pub fault_of : Access → Trapped → ℕ → Fault
fault_of k trapped.Absent source = fault.Fetch
fault_of k trapped.Pseudo source = fault.Walk
fault_of k trapped.Unfit source = fault.Unfit
fault_of k (trapped.Instruction (decoded.Load w s rd) n) source = load_under k w s rd n
fault_of k (trapped.Instruction (decoded.Store w rs2) n) source = store_under k w source n
fault_of k (trapped.Instruction decoded.Neither n) source = fault.Nested

-- a load waits, and its exit carries the address and the width; sepc moves on by the instruction's length
unfoldable pub fault_effect : Csrs → GuestPhysAddr → Access → Fault → Effect
fault_effect c at k fault.Fetch = ask_fetch_of c (waiting.FetchFault at k)
fault_effect c at k fault.Walk = failed_of c event.Quiet error.Unsupported
fault_effect c at k fault.Unfit = failed_of c event.Quiet error.DecodeFailed
fault_effect c at k fault.Nested = finished_of c event.Quiet writes.Keep (exit.NestedPageFault at k)
fault_effect c at k (fault.Load w s rd n) =
    record {
      csrs = moved c n;
      event = event.Quiet;
      writes = writes.Keep;
      waiting = waiting.Load rd w s;
      reply = reply.Exit (exit.MmioRead at w);
      args = no_args;
    }
fault_effect c at k (fault.Store w d n) = finished_of (moved c n) event.Quiet writes.Keep (exit.MmioWrite at w d)

-- what the instruction does, if there is one, with the content of a store's rs2
unfoldable pub mmio_of : List ℕ → Csrs → GuestPhysAddr → Access → Trapped → Effect
mmio_of x c at k i = fault_effect c at k (fault_of k i (value_of x (store_source i)))

-- a guest page fault: the address, and the instruction from htinst
unfoldable pub page_fault_of : List ℕ → Csrs → Trap → Access → Effect
page_fault_of x c t k = mmio_of x c (guest_page_fault_addr t.htval t.stval) k (htinst_of t.htinst)

-- a load's completion: the number cut to the width, extended, written to rd; with no load waiting refusal 2
unfoldable pub completed_of : Csrs → Waiting → ℕ → Effect
completed_of c waiting.Idle n = refused_of c waiting.Idle error.BadState
completed_of c (waiting.Load rd w s) n = done_of c (writes.One rd (extend_of w s n)) waiting.Idle
completed_of c waiting.FetchCsr n = refused_of c waiting.FetchCsr error.BadState
completed_of c (waiting.FetchFault at k) n = refused_of c (waiting.FetchFault at k) error.BadState
completed_of c (waiting.Ecall a) n = refused_of c (waiting.Ecall a) error.BadState

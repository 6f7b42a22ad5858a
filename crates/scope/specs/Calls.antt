-- Every call on a record, as one definition. 01, One trap and The record. new, SetEntry and
-- SetReturnValue are calls of the Rust that 01 doesn't name: docs/DECISIONS.md.
use Rattle.std.specs.Prelude.{ℕ, List, ltb, leb, replicate, set, length, take}
use Rattle.std.specs.Int.Bits.{bit_or}
use Rattle.isa_types.specs.Pick.{pick}
use Rattle.scope.specs.declared.hosts.HostCall.TheVariants as host_call
use Rattle.scope.specs.declared.hosts.HostCall.{HostCall}
use Rattle.scope.specs.declared.machine.EcallAsk.TheVariants as asked
use Rattle.scope.specs.declared.machine.EcallAsk.{EcallAsk}
use Rattle.scope.specs.declared.machine.Effect.{Effect}
use Rattle.scope.specs.declared.machine.Outcome.{Outcome}
use Rattle.scope.specs.declared.machine.Vcpu.{Vcpu}
use Rattle.scope.specs.declared.machine.Waiting.TheVariants as waiting
use Rattle.scope.specs.declared.machine.Waiting.{Waiting}
use Rattle.scope.specs.declared.machine.Writes.TheVariants as writes
use Rattle.scope.specs.declared.traps.Error.TheVariants as error
use Rattle.scope.specs.declared.traps.Reply.TheVariants as reply
use Rattle.scope.specs.declared.traps.Reply.{Reply}
use Rattle.scope.specs.Classes.{start_effect}
use Rattle.scope.specs.Ecalls.{completion_number}
use Rattle.scope.specs.GuestPageFault.{completed_of}
use Rattle.scope.specs.Host.{setup_csrs, entry_csrs, write_effect, paging_effect, pending_effect, ipi_writes}
use Rattle.scope.specs.Record.{value_of, pended, applied}
use Rattle.scope.specs.Refusals.{done_of, leaves_of, unless_asking}
use Rattle.scope.specs.Answers.{answer_effect}

-- zeros; a0 the hart, a1 the device tree
unfoldable pub new_of : ℕ → ℕ → Vcpu
new_of hart tree =
    record {
      x = set (set (replicate 32 0) 10 hart) 11 tree;
      csrs =
          record {
            guest = record { sepc = 0; sstatus = 0; hstatus = 0 };
            vs = record { vsstatus = 0; vstvec = 0; vsepc = 0; vscause = 0; vstval = 0; vstimecmp = 0 };
            hs = record { hie = 0; hvip = 0; hgeie = 0; hgatp = 0 };
          };
      counts = replicate 9 0;
      waiting = waiting.Idle;
    }

-- register read: never refusal 2; an index above 31 is refusal 1
unfoldable pub gpr_reply : Vcpu → ℕ → Reply
gpr_reply v index = pick (ltb index 32) (reply.Value (value_of v.x index)) (reply.Error error.InvalidInput)

-- the n of ask 4
unfoldable pub asked_count : EcallAsk → ℕ
asked_count (asked.Print n) = n
asked_count asked.CopyMask = 0
asked_count (asked.CopyIn n) = 0
asked_count (asked.ReadConsole n a) = 0
asked_count (asked.CopyOut n) = 0
asked_count asked.PutChar = 0
asked_count asked.PutByte = 0
asked_count asked.GetChar = 0
asked_count asked.Forward = 0

-- the n of ask 4, where it waits
unfoldable pub print_count : Waiting → ℕ
print_count waiting.Idle = 0
print_count (waiting.Load r w s) = 0
print_count waiting.FetchCsr = 0
print_count (waiting.FetchFault a k) = 0
print_count (waiting.Ecall a) = asked_count a

-- n, where there are n; else 0
unfoldable pub fitted : ℕ → ℕ → ℕ
fitted n length = pick (leb n length) n 0

-- how many bytes of a lent buffer of this length are printed: n under ask 4, if it has n; else none
unfoldable pub printable : Waiting → ℕ → ℕ
printable w length = fitted (print_count w) length

-- the bytes to print are the buffer's first
unfoldable pub printed_of : Vcpu → List ℕ → List ℕ
printed_of v buffer = take (printable v.waiting (length buffer)) buffer

-- what each call does
unfoldable pub effect_of : Vcpu → HostCall → Effect
effect_of v (host_call.New hart tree) = done_of (new_of hart tree).csrs writes.Keep (new_of hart tree).waiting
effect_of v host_call.Setup = unless_asking v (done_of (setup_csrs v.csrs) writes.Keep v.waiting)
effect_of v (host_call.SetEntry at) = unless_asking v (done_of (entry_csrs v.csrs at) writes.Keep v.waiting)
effect_of v (host_call.GetGpr index) = leaves_of v.csrs v.waiting (gpr_reply v index)
effect_of v (host_call.SetGpr index value) = unless_asking v (write_effect v.csrs v.waiting index value)
-- a0 is the value
effect_of v (host_call.SetReturnValue value) = unless_asking v (done_of v.csrs (writes.One 10 value) v.waiting)
effect_of v (host_call.SetNestedPageTable levels mode root) =
    unless_asking v (paging_effect v.csrs v.waiting levels mode root)
effect_of v (host_call.SetPending vector level) = unless_asking v (pending_effect v.csrs v.waiting vector level)
-- latching ORs a number into hvip
effect_of v (host_call.LatchHvip bits) =
    unless_asking v (done_of (pended v.csrs (bit_or v.csrs.hs.hvip bits)) writes.Keep v.waiting)
-- IPI completion; sepc stays
effect_of v (host_call.CompleteIpi abi completion) =
    unless_asking v (done_of v.csrs (ipi_writes abi (completion_number completion)) v.waiting)
effect_of v (host_call.Start t) = start_effect v.x v.csrs v.waiting t
effect_of v (host_call.Answer a) = answer_effect v.x v.csrs v.waiting a
effect_of v (host_call.CompleteLoad n) = completed_of v.csrs v.waiting n
-- like a register read it changes nothing
effect_of v (host_call.ToPrint length) = leaves_of v.csrs v.waiting (reply.Value (printable v.waiting length))

-- the record that a call works on: a new one, or the one that is there
unfoldable pub base_of : Vcpu → HostCall → Vcpu
base_of v (host_call.New hart tree) = new_of hart tree
base_of v host_call.Setup = v
base_of v (host_call.SetEntry at) = v
base_of v (host_call.GetGpr index) = v
base_of v (host_call.SetGpr index value) = v
base_of v (host_call.SetReturnValue value) = v
base_of v (host_call.SetNestedPageTable levels mode root) = v
base_of v (host_call.SetPending vector level) = v
base_of v (host_call.LatchHvip bits) = v
base_of v (host_call.CompleteIpi abi completion) = v
base_of v (host_call.Start t) = v
base_of v (host_call.Answer a) = v
base_of v (host_call.CompleteLoad n) = v
base_of v (host_call.ToPrint length) = v

-- the whole outcome of each call: the later record, the reply, and the array beside it
unfoldable pub called_of : Vcpu → HostCall → Outcome
called_of v c = applied (base_of v c) (effect_of v c)

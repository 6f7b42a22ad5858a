-- What a load or store of a device means, once, over its decoded form: whatever its encoding, and whether htinst brought it or a
-- fetch. 01, Guest page fault; 02, W2. An encoding shows in nothing but the length, by which sepc moves on.
use Rattle.std.specs.Prelude.{ℕ, Bool, ◌≡◌}
use Rattle.isa_decoder.specs.declared.Decoded.TheVariants as decoded
use Rattle.isa_decoder.specs.declared.Decoded.{Decoded}
use Rattle.isa_decoder.specs.declared.Trapped.TheVariants as trapped
use Rattle.isa_extension.specs.Extend.{cut_of, extend_of}
use Rattle.isa_registers.specs.Bits.{spvp_of}
use Rattle.isa_types.specs.declared.GuestPhysAddr.{GuestPhysAddr}
use Rattle.isa_types.specs.declared.Width.{Width}
use Rattle.scope.specs.Calls.{called_of}
use Rattle.scope.specs.GuestPageFault.{mmio_of}
use Rattle.scope.specs.Record.{applied, listed, moved, no_args, stored, value_of}
use Rattle.scope.specs.declared.hosts.HostCall.TheVariants as host_call
use Rattle.scope.specs.declared.machine.Outcome.{Outcome}
use Rattle.scope.specs.declared.machine.Vcpu.{Vcpu}
use Rattle.scope.specs.declared.machine.Waiting.TheVariants as waiting
use Rattle.scope.specs.declared.machine.Writes.TheVariants as writes
use Rattle.scope.specs.declared.traps.Access.TheVariants as access
use Rattle.scope.specs.declared.traps.Access.{Access}
use Rattle.scope.specs.declared.traps.Ask.TheVariants as ask
use Rattle.scope.specs.declared.traps.Exit.TheVariants as exit
use Rattle.scope.specs.declared.traps.Reply.TheVariants as reply

-- from record v, a load of width w at an address, by an instruction n bytes long: the exit asks for the number, sepc has moved on,
-- the load waits, and all else is as it was. Whatever number the host then gives, rd gets it cut and extended, and nothing else moves
pub record Loads (v : Vcpu) (o : Outcome) (at : GuestPhysAddr) (w : Width) (signed : Bool) (rd n : ℕ) : Type 0 where
  pub says : o.reply ≡ reply.Exit (exit.MmioRead at w)
  pub registers : o.vcpu.x ≡ v.x
  pub csrs : o.vcpu.csrs ≡ moved v.csrs n
  pub counts : o.vcpu.counts ≡ v.counts
  pub waits : o.vcpu.waiting ≡ waiting.Load rd w signed
  pub beside : o.args ≡ listed no_args
  pub completes : (m : ℕ) → called_of o.vcpu (host_call.CompleteLoad m)
      ≡ record {
        vcpu = record { x = stored v.x (writes.One rd (extend_of w signed m)); csrs = moved v.csrs n; counts = v.counts; waiting = waiting.Idle };
        reply = reply.Done;
        args = listed no_args;
      }

-- a store of width w from register rs2: the exit has its content cut to the width (x0 reads 0), sepc has moved on, nothing waits,
-- and all else is as it was
pub record Stores (v : Vcpu) (o : Outcome) (at : GuestPhysAddr) (w : Width) (rs2 n : ℕ) : Type 0 where
  pub says : o.reply ≡ reply.Exit (exit.MmioWrite at w (cut_of w (value_of v.x rs2)))
  pub registers : o.vcpu.x ≡ v.x
  pub csrs : o.vcpu.csrs ≡ moved v.csrs n
  pub counts : o.vcpu.counts ≡ v.counts
  pub waits : o.vcpu.waiting ≡ waiting.Idle
  pub beside : o.args ≡ listed no_args

-- the host has to map the page: the record is as it was and nothing waits
pub record Nested (v : Vcpu) (o : Outcome) (at : GuestPhysAddr) (k : Access) : Type 0 where
  pub says : o.reply ≡ reply.Exit (exit.NestedPageFault at k)
  pub registers : o.vcpu.x ≡ v.x
  pub csrs : o.vcpu.csrs ≡ v.csrs
  pub counts : o.vcpu.counts ≡ v.counts
  pub waits : o.vcpu.waiting ≡ waiting.Idle
  pub beside : o.args ≡ listed no_args

-- an access k at an address by an instruction of this decoded form and length. A load is taken under a read alone, a store under a write
-- alone
pub record Means (v : Vcpu) (o : Outcome) (at : GuestPhysAddr) (k : Access) (op : Decoded) (n : ℕ) : Type 0 where
  pub load : (w : Width) (s : Bool) (rd : ℕ) → k ≡ access.Read → op ≡ decoded.Load w s rd → Loads v o at w s rd n
  pub store : (w : Width) (rs2 : ℕ) → k ≡ access.Write → op ≡ decoded.Store w rs2 → Stores v o at w rs2 n
  pub load_elsewhere : (w : Width) (s : Bool) (rd : ℕ) → (k ≡ access.Read → ⊥) → op ≡ decoded.Load w s rd → Nested v o at k
  pub store_elsewhere : (w : Width) (rs2 : ℕ) → (k ≡ access.Write → ⊥) → op ≡ decoded.Store w rs2 → Nested v o at k
  pub neither : op ≡ decoded.Neither → Nested v o at k

abbrev pub decided : Vcpu → GuestPhysAddr → Access → Decoded → ℕ → Outcome
decided v at k op n = applied v (mmio_of v.x v.csrs at k (trapped.Instruction op n))

-- htinst 0: the word is asked for at sepc, and the fault waits for it
pub record Asks (v : Vcpu) (o : Outcome) (at : GuestPhysAddr) (k : Access) : Type 0 where
  pub says : o.reply ≡ reply.Ask (ask.Fetch (record { 0 = v.csrs.guest.sepc }) (spvp_of v.csrs.guest.hstatus))
  pub registers : o.vcpu.x ≡ v.x
  pub csrs : o.vcpu.csrs ≡ v.csrs
  pub counts : o.vcpu.counts ≡ v.counts
  pub waits : o.vcpu.waiting ≡ waiting.FetchFault at k
  pub beside : o.args ≡ listed no_args

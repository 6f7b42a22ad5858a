-- 02, W5: a fault that is injected after a failed fetch is taken in supervisor mode. PRIV, 'Hypervisor Extension', trap entry and trap
-- return: a trap into VS mode runs in VS mode.
use Rattle.std.specs.Prelude.{ℕ, ◌*◌, ◌/◌, ◌<◌, false, ◌≡◌, eqb}
use Rattle.isa_consts.specs.Traps.{instruction_access_fault, instruction_misaligned, instruction_page_fault}
use Rattle.isa_registers.specs.BitLaws.{bit_of}
use Rattle.isa_types.specs.Pick.{pick}
use Rattle.isa_types.specs.declared.GuestPhysAddr.{GuestPhysAddr}
use Rattle.isa_types.specs.declared.GuestVirtAddr.{GuestVirtAddr}
use Rattle.scope.specs.Record.{listed, no_args, waiting_ask}
use Rattle.scope.specs.declared.hosts.HostCall.TheVariants as host_call
use Rattle.scope.specs.declared.hosts.HostCall.{HostCall}
use Rattle.scope.specs.declared.machine.Outcome.{Outcome}
use Rattle.scope.specs.declared.machine.Vcpu.{Vcpu}
use Rattle.scope.specs.declared.machine.Waiting.TheVariants as waiting
use Rattle.scope.specs.declared.traps.Access.TheVariants as access
use Rattle.scope.specs.declared.traps.Answer.TheVariants as answer
use Rattle.scope.specs.declared.traps.Error.TheVariants as error
use Rattle.scope.specs.declared.traps.Exit.TheVariants as exit
use Rattle.scope.specs.declared.traps.Fetch.TheVariants as fetch
use Rattle.scope.specs.declared.traps.Fetch.{Fetch}
use Rattle.scope.specs.declared.traps.Reply.TheVariants as reply
use Rattle.requests.specs.Meaning.{Nested}
use Rattle.requests.specs.Mode.{ModeKept, resumes_guest, resumes_in, supervisor_mode, touches_mode, trapped_from}

-- from record v, the guest takes an exception with this cause at this address
pub record TakenInS (v : Vcpu) (o : Outcome) (cause : ℕ) (addr : GuestVirtAddr) : Type 0 where
  -- it resumes in supervisor mode at its handler, vstvec with low two bits 0; sret enters the guest if it did before (hstatus.SPV)
  pub mode : resumes_in o.vcpu.csrs.guest ≡ supervisor_mode
  pub handler : o.vcpu.csrs.guest.sepc ≡ v.csrs.vs.vstvec / 4 * 4
  pub in_guest : resumes_guest o.vcpu.csrs.guest ≡ resumes_guest v.csrs.guest
  -- the mode that it came from is in vsstatus.SPP, bit 8; where it was in vsepc; why in vscause and vstval
  pub came_from : bit_of o.vcpu.csrs.vs.vsstatus 8 ≡ trapped_from v.csrs.guest
  pub was_at : o.vcpu.csrs.vs.vsepc ≡ v.csrs.guest.sepc
  pub why : o.vcpu.csrs.vs.vscause ≡ cause
  pub value : o.vcpu.csrs.vs.vstval ≡ addr.0
  -- its interrupts are off: SIE, bit 1, is 0, and SPIE, bit 5, is what SIE was
  pub interrupts_off : bit_of o.vcpu.csrs.vs.vsstatus 1 ≡ 0
  pub interrupts_were : bit_of o.vcpu.csrs.vs.vsstatus 5 ≡ bit_of v.csrs.vs.vsstatus 1
  -- of sstatus nothing but bit 8 is touched, of vsstatus nothing but these three bits, of hstatus nothing
  pub sstatus : (i : ℕ) → i < 64 → bit_of o.vcpu.csrs.guest.sstatus i ≡ pick (eqb i 8) 1 (bit_of v.csrs.guest.sstatus i)
  pub vsstatus : (i : ℕ) → i < 64 → eqb i 8 ≡ false → eqb i 5 ≡ false → eqb i 1 ≡ false → bit_of o.vcpu.csrs.vs.vsstatus i ≡ bit_of v.csrs.vs.vsstatus i
  pub hstatus : o.vcpu.csrs.guest.hstatus ≡ v.csrs.guest.hstatus
  -- all else is as it was, nothing waits, and the exit is Nothing
  pub vstvec : o.vcpu.csrs.vs.vstvec ≡ v.csrs.vs.vstvec
  pub vstimecmp : o.vcpu.csrs.vs.vstimecmp ≡ v.csrs.vs.vstimecmp
  pub hypervisor : o.vcpu.csrs.hs ≡ v.csrs.hs
  pub registers : o.vcpu.x ≡ v.x
  pub counts : o.vcpu.counts ≡ v.counts
  pub waits : o.vcpu.waiting ≡ waiting.Idle
  pub says : o.reply ≡ reply.Exit exit.Nothing
  pub beside : o.args ≡ listed no_args

-- a trap that ends in error 6: registers, CSRs and counts as they were, and nothing waits
pub record NotFetched (v : Vcpu) (o : Outcome) : Type 0 where
  pub csrs : o.vcpu.csrs ≡ v.csrs
  pub registers : o.vcpu.x ≡ v.x
  pub counts : o.vcpu.counts ≡ v.counts
  pub waits : o.vcpu.waiting ≡ waiting.Idle
  pub says : o.reply ≡ reply.Error error.GuestMemoryFault
  pub beside : o.args ≡ listed no_args

-- a fetch waits, of a virtual instruction or of a guest page fault, and c is the answer to it
pub record FetchAnswered (v : Vcpu) (c : HostCall) (f : Fetch) : Type 0 where
  pub asks : waiting_ask v.waiting ≡ 1
  pub answers : c ≡ host_call.Answer (answer.Fetched f)

-- the request, of call c on record v with this outcome: the three faults that are injected; the two that are not; and every other call
-- leaves the mode alone, but those that `touches_mode` lists
pub record W5 (v : Vcpu) (o : Outcome) (c : HostCall) : Type 0 where
  pub page_fault : (a : GuestVirtAddr) → FetchAnswered v c (fetch.Page a) → TakenInS v o instruction_page_fault a
  pub access_fault : (a : GuestVirtAddr) → FetchAnswered v c (fetch.Access a) → TakenInS v o instruction_access_fault a
  pub misaligned_fault : (a : GuestVirtAddr) → FetchAnswered v c (fetch.Misaligned a) → TakenInS v o instruction_misaligned a
  pub guest_page_fault : (a : GuestPhysAddr) → FetchAnswered v c (fetch.GuestPage a) → Nested v o a access.Execute
  pub unhandled : FetchAnswered v c fetch.Unhandled → NotFetched v o
  pub elsewhere : touches_mode v c ≡ false → ModeKept v o.vcpu

-- what follows of each of these: new, setup, the answer to a fetch that waits by one of the three faults
pub record TouchedBy (P : Type 0) (v : Vcpu) (c : HostCall) : Type 0 where
  pub new : (hart tree : ℕ) → c ≡ host_call.New hart tree → P
  pub setup : c ≡ host_call.Setup → P
  pub page : (a : GuestVirtAddr) → FetchAnswered v c (fetch.Page a) → P
  pub access : (a : GuestVirtAddr) → FetchAnswered v c (fetch.Access a) → P
  pub misaligned : (a : GuestVirtAddr) → FetchAnswered v c (fetch.Misaligned a) → P

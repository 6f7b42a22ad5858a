-- The mode that the guest is resumed in, and which calls touch it: every other case of HostCall leaves sstatus and hstatus. (A row of
-- posts touches hvip alone: Posts.antt.) PRIV, 'Supervisor-Level ISA', sstatus; 'Hypervisor Extension', hstatus and trap return. 02, W5.
use Rattle.std.specs.Prelude.{ℕ, Bool, true, false, ◌≡◌, eqb}
use Rattle.isa_registers.specs.BitLaws.{bit_of}
use Rattle.isa_types.specs.Pick.{and}
use Rattle.scope.specs.Record.{waiting_ask}
use Rattle.scope.specs.declared.hosts.HostCall.TheVariants as host_call
use Rattle.scope.specs.declared.hosts.HostCall.{HostCall}
use Rattle.scope.specs.declared.machine.GuestCsrs.{GuestCsrs}
use Rattle.scope.specs.declared.machine.Vcpu.{Vcpu}
use Rattle.scope.specs.declared.traps.Answer.TheVariants as answer
use Rattle.scope.specs.declared.traps.Answer.{Answer}
use Rattle.scope.specs.declared.traps.Fetch.TheVariants as fetch
use Rattle.scope.specs.declared.traps.Fetch.{Fetch}

-- supervisor mode by PRIV's number; user mode is 0
unfoldable pub supervisor_mode : ℕ
supervisor_mode = 1

-- the mode that sret enters: sstatus.SPP, bit 8
unfoldable pub resumes_in : GuestCsrs → ℕ
resumes_in g = bit_of g.sstatus 8

-- 1 where sret enters the guest, and not the host itself: hstatus.SPV, bit 7
unfoldable pub resumes_guest : GuestCsrs → ℕ
resumes_guest g = bit_of g.hstatus 7

-- the mode that the guest trapped from: hstatus.SPVP, bit 8
unfoldable pub trapped_from : GuestCsrs → ℕ
trapped_from g = bit_of g.hstatus 8

-- setup's guest is entered in supervisor mode, and its asks are those of supervisor code. 01, The record: setup
pub record Entered (g : GuestCsrs) : Type 0 where
  pub guest : resumes_guest g ≡ 1
  pub mode : resumes_in g ≡ supervisor_mode
  pub from : trapped_from g ≡ supervisor_mode

-- sstatus and hstatus are what they were, and with them the three numbers above
pub record ModeKept (v u : Vcpu) : Type 0 where
  pub sstatus : u.csrs.guest.sstatus ≡ v.csrs.guest.sstatus
  pub hstatus : u.csrs.guest.hstatus ≡ v.csrs.guest.hstatus

-- a fetch that failed by a fault that the guest takes itself
unfoldable pub injects : Fetch → Bool
injects (fetch.Page a) = true
injects (fetch.Access a) = true
injects (fetch.Misaligned a) = true
injects (fetch.GuestPage a) = false
injects fetch.Unhandled = false
injects (fetch.Word w) = false

-- an answer that says so
unfoldable pub answer_injects : Answer → Bool
answer_injects (answer.Fetched f) = injects f
answer_injects (answer.MaskCopied count bytes) = false
answer_injects (answer.CopiedIn count) = false
answer_injects (answer.Printed e value) = false
answer_injects (answer.ConsoleRead e value) = false
answer_injects (answer.CopiedOut count) = false
answer_injects answer.Emitted = false
answer_injects (answer.Char number) = false
answer_injects (answer.Forwarded e value) = false
answer_injects answer.Other = false

-- a new record and setup; such a fault for an answer, where a fetch waits. (Setup while an ask waits is refused and touches nothing.)
unfoldable pub touches_mode : Vcpu → HostCall → Bool
touches_mode v (host_call.New hart tree) = true
touches_mode v host_call.Setup = true
touches_mode v (host_call.Answer a) = and (eqb (waiting_ask v.waiting) 1) (answer_injects a)
touches_mode v (host_call.Start t) = false
touches_mode v (host_call.SetEntry at) = false
touches_mode v (host_call.GetGpr index) = false
touches_mode v (host_call.SetGpr index value) = false
touches_mode v (host_call.SetReturnValue value) = false
touches_mode v (host_call.SetNestedPageTable levels mode root) = false
touches_mode v (host_call.SetPending vector level) = false
touches_mode v (host_call.LatchHvip bits) = false
touches_mode v (host_call.CompleteIpi abi completion) = false
touches_mode v (host_call.CompleteLoad n) = false
touches_mode v (host_call.ToPrint length) = false

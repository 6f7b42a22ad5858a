-- The mode that the guest is resumed in, and which calls touch it: every other case of HostCall leaves sstatus and hstatus. (A row of
-- posts touches hvip alone: Posts.antt.) PRIV, 'Supervisor-Level ISA', sstatus; 'Hypervisor Extension', hstatus and trap return. 02, W5.
use Rattle.std.specs.Prelude.{ℕ, ◌^◌, Bool, true, false, List, ◌≡◌, eqb}
use Rattle.std.proofs.Math.Path.{refl, sym}
use Rattle.std.proofs.Common.{ap₂, ◌∙◌}
use Rattle.isa_registers.specs.BitLaws.{bit_of}
use Rattle.isa_types.specs.Pick.{and, never}
use Rattle.scope.specs.Calls.{called_of, effect_of}
use Rattle.scope.specs.Classes.{class_effect, class_of, start_effect}
use Rattle.scope.specs.Decided.{call_effect}
use Rattle.scope.specs.Ecalls.{asks_of, clear_ipi_of, forward_effect, hypercall_of, moves_of, returns_of, set_timer_of, stays_of}
use Rattle.scope.specs.GuestPageFault.{mmio_of, page_fault_of}
use Rattle.scope.specs.Host.{entry_csrs, hvip_bit_of, pending_effect, setup_csrs, table_csrs}
use Rattle.scope.specs.Record.{applied, is_idle, moved, pended, timed, waiting_ask}
use Rattle.scope.specs.Refusals.{asking_of, done_of, failed_of, finished_of, leaves_of}
use Rattle.scope.specs.VirtualInstruction.{missed_effect, missed_of, virtual_effect}
use Rattle.scope.specs.declared.decided.Class.TheVariants as class
use Rattle.scope.specs.declared.decided.Class.{Class}
use Rattle.scope.specs.declared.decided.SbiCall.TheVariants as call
use Rattle.scope.specs.declared.decided.SbiCall.{SbiCall}
use Rattle.scope.specs.declared.hosts.HostCall.TheVariants as host_call
use Rattle.scope.specs.declared.hosts.HostCall.{HostCall}
use Rattle.scope.specs.declared.machine.Csrs.{Csrs}
use Rattle.scope.specs.declared.machine.GuestCsrs.{GuestCsrs}
use Rattle.scope.specs.declared.machine.Vcpu.{Vcpu}
use Rattle.scope.specs.declared.machine.Waiting.{Waiting}
use Rattle.scope.specs.declared.machine.Writes.{Writes}
use Rattle.scope.specs.declared.traps.Answer.TheVariants as answer
use Rattle.scope.specs.declared.traps.Answer.{Answer}
use Rattle.scope.specs.declared.traps.Args.{Args}
use Rattle.scope.specs.declared.traps.Error.TheVariants as error
use Rattle.scope.specs.declared.traps.Fetch.TheVariants as fetch
use Rattle.scope.specs.declared.traps.Fetch.{Fetch}
use Rattle.scope.specs.declared.traps.Trap.{Trap}
use Rattle.demand1.proofs.Rows.{ecall_row}
use Rattle.requests.specs.Kept.{Keeps, Steady}
use Rattle.requests.proofs.Kept.{answer_keeps, completed_keeps, csr_keeps, done_keeps, either, entry_keeps, fault_keeps, paging_keeps, refused_keeps, unless_keeps, write_keeps}
use Rattle.requests.specs.Mode.{Entered, ModeKept, answer_injects, injects, resumes_guest, resumes_in, supervisor_mode, touches_mode, trapped_from}

pub setup_enters : (c : Csrs) → Entered (setup_csrs c).guest
unfolding setup_csrs resumes_guest resumes_in trapped_from bit_of supervisor_mode
setup_enters c = record { guest = refl; mode = refl; from = refl }

-- after a trap of user code SPV is set and SPVP clear: two bits
pub user_resumes : (pc s : ℕ)
    → let g : GuestCsrs = record { sepc = pc; sstatus = s; hstatus = 2 ^ 7 } in (resumes_guest g ≡ 1) × (trapped_from g ≡ 0)
unfolding resumes_guest trapped_from bit_of
user_resumes pc s = (refl, refl)

-- a number of the CSRs that stays where hvip is written, too: sstatus and hstatus are such
module _ (at : Csrs → ℕ) (s : Steady at) (pends : (c : Csrs) (n : ℕ) → at (pended c n) ≡ at c) where
  call_keeps : (c : Csrs) (eid fid : ℕ) (a : Args) (k : SbiCall) → Keeps at c (call_effect c eid fid a k)
  unfolding call_effect forward_effect returns_of moves_of stays_of asks_of set_timer_of clear_ipi_of hypercall_of finished_of asking_of
  call_keeps c eid fid a (call.Returns e v) = record { kept = s.moves c 4 }
  call_keeps c eid fid a call.Moves = record { kept = s.moves c 4 }
  call_keeps c eid fid a (call.LegacyTimer d) = record { kept = s.moves _ 4 ∙ pends (timed c d) _ ∙ s.times c d }
  call_keeps c eid fid a (call.SetTimer d) = record { kept = s.moves _ 4 ∙ pends (timed c d) _ ∙ s.times c d }
  call_keeps c eid fid a call.ClearIpi = record { kept = s.moves _ 4 ∙ pends c _ }
  call_keeps c eid fid a (call.PutChar k) = record { kept = refl }
  call_keeps c eid fid a call.GetChar = record { kept = refl }
  call_keeps c eid fid a (call.CopyMask addr) = record { kept = refl }
  call_keeps c eid fid a (call.SendIpi r) = record { kept = s.moves c 4 }
  call_keeps c eid fid a (call.CpuUp t e k) = record { kept = s.moves c 4 }
  call_keeps c eid fid a call.CpuDown = record { kept = refl }
  call_keeps c eid fid a call.Halt = record { kept = refl }
  call_keeps c eid fid a call.SystemDown = record { kept = refl }
  call_keeps c eid fid a call.Hypercall = record { kept = s.moves c 4 }
  call_keeps c eid fid a (call.CopyIn addr k) = record { kept = refl }
  call_keeps c eid fid a (call.ReadConsole addr k) = record { kept = refl }
  call_keeps c eid fid a (call.PutByte k) = record { kept = refl }
  call_keeps c eid fid a (call.Forward e) = record { kept = refl }

  class_keeps : (k : Class) (x : List ℕ) (c : Csrs) (t : Trap) → Keeps at c (class_effect k x c t)
  unfolding class_effect virtual_effect page_fault_of mmio_of finished_of failed_of
  class_keeps class.Ecall x c t = ecall_row (Keeps at c) c _ _ _ (call_keeps c _ _ _) t.room
  class_keeps class.VirtualInstruction x c t = csr_keeps at s c _
  class_keeps (class.PageFault k) x c t = fault_keeps at s c _ k _
  class_keeps class.Interrupt x c t = record { kept = refl }
  class_keeps class.NotHandled x c t = record { kept = refl }
  class_keeps class.Unknown x c t = record { kept = refl }

  start_keeps : (x : List ℕ) (c : Csrs) (n : Waiting) (t : Trap) → Keeps at c (start_effect x c n t)
  unfolding start_effect
  start_keeps x c n t = either at (is_idle n) (class_keeps (class_of t.scause) x c t) (refused_keeps at c n error.BadState)

  missed_keeps : (c : Csrs) (f : Fetch) → injects f ≡ false → Keeps at c (missed_effect c (missed_of f))
  unfolding injects missed_of missed_effect finished_of failed_of
  missed_keeps c (fetch.Page a) h = never h
  missed_keeps c (fetch.Access a) h = never h
  missed_keeps c (fetch.Misaligned a) h = never h
  missed_keeps c (fetch.GuestPage a) h = record { kept = refl }
  missed_keeps c fetch.Unhandled h = record { kept = refl }
  missed_keeps c (fetch.Word w) h = record { kept = refl }

  -- the fault behind an answer to the fetch that waits is none of the three
  faulted : (n : Waiting) (a : Answer) (f : Fetch) → a ≡ answer.Fetched f → eqb (waiting_ask n) 1 ≡ true → and (eqb (waiting_ask n) 1) (answer_injects a) ≡ false → injects f ≡ false
  unfolding answer_injects
  faulted n a f e k h = sym (ap₂ (λ (b : Bool) (d : Answer). and b (answer_injects d)) k e) ∙ h

  pended_keeps : (c : Csrs) (k : ℕ) (w : Writes) (n : Waiting) → Keeps at c (done_of (pended c k) w n)
  unfolding done_of
  pended_keeps c k w n = record { kept = pends c k }

  pending_keeps : (c : Csrs) (n : Waiting) (vector : ℕ) (on : Bool) → Keeps at c (pending_effect c n vector on)
  unfolding pending_effect
  pending_keeps c n vector on = either at (eqb (hvip_bit_of vector) 0) (refused_keeps at c n error.InvalidInput) (pended_keeps c _ _ n)

  effect_keeps : (v : Vcpu) (c : HostCall) → touches_mode v c ≡ false → Keeps at v.csrs (effect_of v c)
  unfolding touches_mode effect_of leaves_of
  effect_keeps v (host_call.New hart tree) h = never h
  effect_keeps v host_call.Setup h = never h
  effect_keeps v (host_call.Answer a) h =
      answer_keeps at s v.x v.csrs v.waiting a (λ f e k. missed_keeps v.csrs f (faulted v.waiting a f e k h))
  effect_keeps v (host_call.Start t) h = start_keeps v.x v.csrs v.waiting t
  effect_keeps v (host_call.SetEntry entry) h = unless_keeps at s v (entry_keeps at s v.csrs entry _ v.waiting)
  effect_keeps v (host_call.GetGpr index) h = record { kept = refl }
  effect_keeps v (host_call.SetGpr index value) h = unless_keeps at s v (write_keeps at s v.csrs v.waiting index value)
  effect_keeps v (host_call.SetReturnValue value) h = unless_keeps at s v (done_keeps at v.csrs _ v.waiting)
  effect_keeps v (host_call.SetNestedPageTable levels mode root) h =
      unless_keeps at s v (paging_keeps at s v.csrs v.waiting levels mode root)
  effect_keeps v (host_call.SetPending vector level) h = unless_keeps at s v (pending_keeps v.csrs v.waiting vector level)
  effect_keeps v (host_call.LatchHvip bits) h = unless_keeps at s v (pended_keeps v.csrs _ _ v.waiting)
  effect_keeps v (host_call.CompleteIpi abi completion) h = unless_keeps at s v (done_keeps at v.csrs _ v.waiting)
  effect_keeps v (host_call.CompleteLoad n) h = completed_keeps at s v.csrs v.waiting n
  effect_keeps v (host_call.ToPrint length) h = record { kept = refl }

abbrev sstatus_of : Csrs → ℕ
sstatus_of c = c.guest.sstatus

abbrev hstatus_of : Csrs → ℕ
hstatus_of c = c.guest.hstatus

sstatus_steady : Steady sstatus_of
unfolding moved entry_csrs timed table_csrs
sstatus_steady = record { moves = λ c n. refl; enters = λ c entry. refl; times = λ c d. refl; maps = λ c mode root. refl }

hstatus_steady : Steady hstatus_of
unfolding moved entry_csrs timed table_csrs
hstatus_steady = record { moves = λ c n. refl; enters = λ c entry. refl; times = λ c d. refl; maps = λ c mode root. refl }

-- every other call leaves both
pub mode_kept : (v : Vcpu) (c : HostCall) → touches_mode v c ≡ false → ModeKept v (called_of v c).vcpu
unfolding called_of applied pended
mode_kept v c h =
    record {
      sstatus = (effect_keeps sstatus_of sstatus_steady (λ c n. refl) v c h).kept;
      hstatus = (effect_keeps hstatus_of hstatus_steady (λ c n. refl) v c h).kept;
    }

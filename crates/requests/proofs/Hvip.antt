-- Which calls touch hvip: every other case of HostCall leaves it. (A row of posts touches nothing else: Posts.antt.) 01, The record and
-- Ecalls; 02, W1.
use Rattle.std.specs.Prelude.{ℕ, Bool, true, false, List, ◌≡◌, refl, eqb, get_or}
use Rattle.isa_consts.specs.Traps.{env_call_from_vs, known_cause, load_guest_page_fault, store_guest_page_fault, supervisor_ext, supervisor_soft, supervisor_timer, virtual_instruction}
use Rattle.isa_types.specs.Pick.{and, never, pick}
use Rattle.scope.specs.Calls.{called_of, effect_of}
use Rattle.scope.specs.Classes.{arguments_of, class_effect, class_of, start_effect}
use Rattle.scope.specs.GuestPageFault.{mmio_of, page_fault_of}
use Rattle.scope.specs.Host.{entry_csrs, table_csrs}
use Rattle.scope.specs.Record.{applied, is_idle, moved, timed}
use Rattle.scope.specs.Refusals.{failed_of, finished_of, leaves_of, refused_of}
use Rattle.scope.specs.VirtualInstruction.{injected_of, missed_effect, virtual_effect}
use Rattle.scope.specs.declared.decided.Class.TheVariants as class
use Rattle.scope.specs.declared.decided.Class.{Class}
use Rattle.scope.specs.declared.decided.Missed.TheVariants as missed
use Rattle.scope.specs.declared.decided.Missed.{Missed}
use Rattle.scope.specs.declared.hosts.HostCall.TheVariants as host_call
use Rattle.scope.specs.declared.hosts.HostCall.{HostCall}
use Rattle.scope.specs.declared.machine.Csrs.{Csrs}
use Rattle.scope.specs.declared.machine.Vcpu.{Vcpu}
use Rattle.scope.specs.declared.machine.Waiting.{Waiting}
use Rattle.scope.specs.declared.traps.Access.TheVariants as access
use Rattle.scope.specs.declared.traps.Error.TheVariants as error
use Rattle.scope.specs.declared.traps.Trap.{Trap}
use Rattle.requests.specs.Kept.{Steady}
use Rattle.requests.proofs.Kept.{answer_keeps, completed_keeps, csr_keeps, done_keeps, entry_keeps, fault_keeps, paging_keeps, unless_keeps, write_keeps}
use Rattle.requests.specs.Hvip.{HvipKept, ecall_touches, touches_hvip}
use Rattle.requests.proofs.HvipRows.{KeepsHvip, ecall_keeps, hvip_of}

steady : Steady hvip_of
unfolding moved entry_csrs timed table_csrs
steady = record { moves = λ c n. refl; enters = λ c entry. refl; times = λ c d. refl; maps = λ c mode root. refl }

-- the other classes

missed_keeps : (c : Csrs) (m : Missed) → KeepsHvip c (missed_effect c m)
unfolding missed_effect finished_of failed_of injected_of
missed_keeps c (missed.Inject cause addr) = record { kept = refl }
missed_keeps c (missed.Nested addr) = record { kept = refl }
missed_keeps c missed.Unhandled = record { kept = refl }

-- a class by the tests behind the first
unfoldable class_behind : ℕ → Class
class_behind scause =
    pick (eqb scause virtual_instruction) class.VirtualInstruction
    (pick (eqb scause load_guest_page_fault) (class.PageFault access.Read)
    (pick (eqb scause store_guest_page_fault) (class.PageFault access.Write)
    (pick (eqb scause supervisor_soft) class.Interrupt
    (pick (eqb scause supervisor_timer) class.Interrupt
    (pick (eqb scause supervisor_ext) class.Interrupt
    (pick (known_cause scause) class.NotHandled class.Unknown))))))

one_class : (x : List ℕ) (c : Csrs) (t : Trap) (b : Bool) (k l : Class) → KeepsHvip c (class_effect k x c t) → KeepsHvip c (class_effect l x c t) → KeepsHvip c (class_effect (pick b k l) x c t)
one_class x c t true k l p q = p
one_class x c t false k l p q = q

behind_keeps : (x : List ℕ) (c : Csrs) (t : Trap) → KeepsHvip c (class_effect (class_behind t.scause) x c t)
unfolding class_behind class_effect virtual_effect page_fault_of mmio_of finished_of failed_of
behind_keeps x c t =
    one_class x c t (eqb t.scause virtual_instruction) _ _ (csr_keeps hvip_of steady c _)
    (one_class x c t (eqb t.scause load_guest_page_fault) _ _ (fault_keeps hvip_of steady c _ _ _)
    (one_class x c t (eqb t.scause store_guest_page_fault) _ _ (fault_keeps hvip_of steady c _ _ _)
    (one_class x c t (eqb t.scause supervisor_soft) _ _ (record { kept = refl })
    (one_class x c t (eqb t.scause supervisor_timer) _ _ (record { kept = refl })
    (one_class x c t (eqb t.scause supervisor_ext) _ _ (record { kept = refl })
    (one_class x c t (known_cause t.scause) _ _ (record { kept = refl }) (record { kept = refl })))))))

cause_keeps : (x : List ℕ) (c : Csrs) (t : Trap) (b : Bool) → and b (ecall_touches (get_or x 17 0) (get_or x 16 0)) ≡ false
    → KeepsHvip c (class_effect (pick b class.Ecall (class_behind t.scause)) x c t)
unfolding class_effect
cause_keeps x c t true h = ecall_keeps c (get_or x 17 0) (get_or x 16 0) (arguments_of x) t.room h
cause_keeps x c t false h = behind_keeps x c t

start_by : (x : List ℕ) (c : Csrs) (n : Waiting) (t : Trap) (b : Bool) → and (eqb t.scause env_call_from_vs) (and b (ecall_touches (get_or x 17 0) (get_or x 16 0))) ≡ false
    → KeepsHvip c (pick b (class_effect (class_of t.scause) x c t) (refused_of c n error.BadState))
unfolding class_of class_behind refused_of leaves_of
start_by x c n t true h = cause_keeps x c t (eqb t.scause env_call_from_vs) h
start_by x c n t false h = record { kept = refl }

start_keeps : (x : List ℕ) (c : Csrs) (n : Waiting) (t : Trap) → and (eqb t.scause env_call_from_vs) (and (is_idle n) (ecall_touches (get_or x 17 0) (get_or x 16 0))) ≡ false
    → KeepsHvip c (start_effect x c n t)
unfolding start_effect
start_keeps x c n t h = start_by x c n t (is_idle n) h

-- every call

effect_keeps : (v : Vcpu) (c : HostCall) → touches_hvip v c ≡ false → KeepsHvip v.csrs (effect_of v c)
unfolding touches_hvip effect_of leaves_of
effect_keeps v (host_call.New hart tree) h = never h
effect_keeps v host_call.Setup h = never h
effect_keeps v (host_call.SetPending vector level) h = never h
effect_keeps v (host_call.LatchHvip bits) h = never h
effect_keeps v (host_call.Start t) h = start_keeps v.x v.csrs v.waiting t h
effect_keeps v (host_call.SetEntry at) h = unless_keeps hvip_of steady v (entry_keeps hvip_of steady v.csrs at _ v.waiting)
effect_keeps v (host_call.GetGpr index) h = record { kept = refl }
effect_keeps v (host_call.SetGpr index value) h = unless_keeps hvip_of steady v (write_keeps hvip_of steady v.csrs v.waiting index value)
effect_keeps v (host_call.SetReturnValue value) h = unless_keeps hvip_of steady v (done_keeps hvip_of v.csrs _ v.waiting)
effect_keeps v (host_call.SetNestedPageTable levels mode root) h =
    unless_keeps hvip_of steady v (paging_keeps hvip_of steady v.csrs v.waiting levels mode root)
effect_keeps v (host_call.CompleteIpi abi completion) h = unless_keeps hvip_of steady v (done_keeps hvip_of v.csrs _ v.waiting)
effect_keeps v (host_call.Answer a) h = answer_keeps hvip_of steady v.x v.csrs v.waiting a (λ f e k. missed_keeps v.csrs _)
effect_keeps v (host_call.CompleteLoad n) h = completed_keeps hvip_of steady v.csrs v.waiting n
effect_keeps v (host_call.ToPrint length) h = record { kept = refl }

-- every other call leaves hvip
pub hvip_kept : (v : Vcpu) (c : HostCall) → touches_hvip v c ≡ false → HvipKept v (called_of v c).vcpu
unfolding called_of applied
hvip_kept v c h = (effect_keeps v c h).kept

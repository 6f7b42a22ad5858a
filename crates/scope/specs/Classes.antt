-- The start of a trap: its class by scause, and what each class does. 01, Classes.
use Rattle.std.specs.Prelude.{ℕ, ◌%◌, ◌^◌, List, eqb, get_or}
use Rattle.isa_consts.specs.Traps.{env_call_from_vs, virtual_instruction, load_guest_page_fault, store_guest_page_fault, supervisor_soft, supervisor_timer, supervisor_ext, known_cause}
use Rattle.isa_fields.specs.Fields.{rs1_field}
use Rattle.isa_types.specs.Pick.{pick}
use Rattle.scope.specs.declared.decided.Class.TheVariants as class
use Rattle.scope.specs.declared.decided.Class.{Class}
use Rattle.scope.specs.declared.machine.Csrs.{Csrs}
use Rattle.scope.specs.declared.machine.Effect.{Effect}
use Rattle.scope.specs.declared.machine.Event.TheVariants as event
use Rattle.scope.specs.declared.machine.Waiting.{Waiting}
use Rattle.scope.specs.declared.machine.Writes.TheVariants as writes
use Rattle.scope.specs.declared.traps.Access.TheVariants as access
use Rattle.scope.specs.declared.traps.Args.{Args}
use Rattle.scope.specs.declared.traps.Error.TheVariants as error
use Rattle.scope.specs.declared.traps.Exit.TheVariants as exit
use Rattle.scope.specs.declared.traps.Trap.{Trap}
use Rattle.scope.specs.Ecalls.{ecall_effect}
use Rattle.scope.specs.GuestPageFault.{page_fault_of}
use Rattle.scope.specs.Record.{value_of, is_idle}
use Rattle.scope.specs.Refusals.{finished_of, failed_of, refused_of}
use Rattle.scope.specs.VirtualInstruction.{virtual_effect}

-- exceptions 10, 22, 21 and 23 are handled; interrupts 1, 5 and 9 exit; other known codes end in error 3, all else in 4
unfoldable pub class_of : ℕ → Class
class_of scause =
    pick (eqb scause env_call_from_vs) class.Ecall
    (pick (eqb scause virtual_instruction) class.VirtualInstruction
    (pick (eqb scause load_guest_page_fault) (class.PageFault access.Read)
    (pick (eqb scause store_guest_page_fault) (class.PageFault access.Write)
    (pick (eqb scause supervisor_soft) class.Interrupt
    (pick (eqb scause supervisor_timer) class.Interrupt
    (pick (eqb scause supervisor_ext) class.Interrupt
    (pick (known_cause scause) class.NotHandled class.Unknown)))))))

-- a0 to a5 are x10 to x15
unfoldable pub arguments_of : List ℕ → Args
arguments_of x =
    record { a0 = get_or x 10 0; a1 = get_or x 11 0; a2 = get_or x 12 0; a3 = get_or x 13 0; a4 = get_or x 14 0; a5 = get_or x 15 0 }

-- what a trap of each class does; eid is a7 (x17), fid a6 (x16)
unfoldable pub class_effect : Class → List ℕ → Csrs → Trap → Effect
class_effect class.Ecall x c t = ecall_effect c (get_or x 17 0) (get_or x 16 0) (arguments_of x) t.room
class_effect class.VirtualInstruction x c t =
    virtual_effect c t.stval (value_of x (rs1_field (t.stval % 2 ^ 32)))
class_effect (class.PageFault k) x c t = page_fault_of x c t k
-- ExternalInterrupt with vector 2^63 plus the code, which is scause; record unchanged
class_effect class.Interrupt x c t = finished_of c event.Quiet writes.Keep (exit.ExternalInterrupt t.scause)
-- known codes that are not handled: error 3; all else: error 4
class_effect class.NotHandled x c t = failed_of c event.Quiet error.Unsupported
class_effect class.Unknown x c t = failed_of c event.Quiet error.InvalidTrap

-- a start while an ask or a load waits is refusal 2, whatever scause is
unfoldable pub start_effect : List ℕ → Csrs → Waiting → Trap → Effect
start_effect x c w t = pick (is_idle w) (class_effect (class_of t.scause) x c t) (refused_of c w error.BadState)

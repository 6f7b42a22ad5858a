-- The classes of a trap on words, each shown as the effect of the by-value step.
use Rattle.std.specs.Prelude.{ℕ, ◌%◌, ◌^◌, List, ◌≡◌, refl, get_or, length, set}
use Rattle.std.proofs.Common.{subst}
use Rattle.scope.specs.Decided.{call_effect}
use Rattle.scope.specs.Ecalls.{ecall_effect}
use Rattle.scope.specs.declared.decided.SbiCall.{SbiCall}
use Rattle.scope.specs.declared.machine.Csrs.{Csrs}
use Rattle.scope.specs.Refusals.{error_number, failed_of, finished_of, refused_of, leaves_of}
use Rattle.scope.specs.OneTrap.{exit_number, exit_values}
use Rattle.scope.specs.declared.traps.Error.TheVariants as error
use Rattle.isa_fields.specs.Fields.{rs1_field}
use Rattle.scope.specs.Record.{bumped, counted, event_number, listed, stored, value_of, applied, no_args}
use Rattle.scope.specs.VirtualInstruction.{stimecmp_stval, virtual_effect}
use Rattle.scope.specs.Classes.{arguments_of}
use Rattle.scope.specs.Words.{asked_words, csrs_of, kind_word, unpack_of, waiting_by, waiting_of, waiting_words}
use Rattle.in_place_record.specs.Steps.{Laid, beside_of, exit_count, out_over, trap_leaves}
use Rattle.in_place_record.specs.View.{record_of, view_of}
use Rattle.scope.specs.ReplyWords.{reply_word}
use Rattle.scope.specs.Words.{trap_left, waiting_count}
use Rattle.scope.specs.Refusals.{refusal, refuses}
use Rattle.in_place_record.specs.Rows.{call_left, csr_left, left}
use Rattle.in_place_record.specs.Laws.{On}
use Rattle.in_place_record.proofs.Laws.{call_made}
use Rattle.in_place_record.proofs.Shown.{over}
use Rattle.in_place_record.specs.Spelled.{spelled}
use Rattle.in_place_read.specs.Laws.{csr_by}
use Rattle.scope.specs.declared.machine.Event.TheVariants as event
use Rattle.scope.specs.declared.traps.Exit.TheVariants as exit
use Rattle.scope.specs.declared.machine.Writes.TheVariants as writes

-- an ecall

ecall_spelled : (k o : List ℕ) (room : ℕ) (d : SbiCall) → let r : List ℕ = spelled 58 0 k in
    ((c : Csrs) → call_effect c (get_or r 17 0) (get_or r 16 0) (arguments_of r) d ≡ ecall_effect c (get_or r 17 0) (get_or r 16 0) (arguments_of r) room) → On r o (ecall_effect (view_of r).csrs (get_or (view_of r).x 17 0) (get_or (view_of r).x 16 0) (arguments_of (view_of r).x) room) (call_left r o d)
unfolding view_of record_of unpack_of ecall_effect arguments_of
ecall_spelled k o room d h =
    let r : List ℕ = spelled 58 0 k in
    subst (λ e. On r o e (call_left r o d)) (h (view_of r).csrs) (call_made r o refl d)

pub ecall_made : (r o : List ℕ) → length r ≡ 58 → (room : ℕ) (d : SbiCall)
    → ((c : Csrs) → call_effect c (get_or r 17 0) (get_or r 16 0) (arguments_of r) d ≡ ecall_effect c (get_or r 17 0) (get_or r 16 0) (arguments_of r) room) → On r o (ecall_effect (view_of r).csrs (get_or (view_of r).x 17 0) (get_or (view_of r).x 16 0) (arguments_of (view_of r).x) room) (call_left r o d)
ecall_made r o e room d =
    over (λ r. ((c : Csrs) → call_effect c (get_or r 17 0) (get_or r 16 0) (arguments_of r) d ≡ ecall_effect c (get_or r 17 0) (get_or r 16 0) (arguments_of r) room) → On r o (ecall_effect (view_of r).csrs (get_or (view_of r).x 17 0) (get_or (view_of r).x 16 0) (arguments_of (view_of r).x) room) (call_left r o d))
    (λ k. ecall_spelled k o room d) r e

-- a virtual instruction
pub virtual_made : (r o : List ℕ) → length r ≡ 58 → (stval : ℕ)
    → On r o (virtual_effect (view_of r).csrs stval (value_of (view_of r).x (rs1_field (stval % 2 ^ 32)))) (csr_left r o (stimecmp_stval stval (get_or r 40 0) (value_of r (rs1_field (stval % 2 ^ 32)))))
unfolding virtual_effect
virtual_made r o e stval = csr_by r o e (λ old rs1. stimecmp_stval stval old rs1) (rs1_field (stval % 2 ^ 32))

-- the classes that are handled at once

interrupt_spelled : (k o : List ℕ) (v : ℕ) → let r : List ℕ = spelled 58 0 k in On r o (finished_of (view_of r).csrs event.Quiet writes.Keep (exit.ExternalInterrupt v)) (left (set r 54 0) (set o 0 v) 1)
unfolding view_of record_of unpack_of csrs_of waiting_of waiting_by kind_word asked_words applied finished_of no_args stored counted bumped event_number listed reply_word out_over exit_count beside_of exit_number exit_values trap_leaves trap_left refuses refusal waiting_count waiting_words
interrupt_spelled k o v = record { shows = refl; waits = refl; says = refl; gives = refl }

pub interrupt_made : (r o : List ℕ) → length r ≡ 58 → (v : ℕ) → On r o (finished_of (view_of r).csrs event.Quiet writes.Keep (exit.ExternalInterrupt v)) (left (set r 54 0) (set o 0 v) 1)
interrupt_made r o e v = over (λ r. On r o (finished_of (view_of r).csrs event.Quiet writes.Keep (exit.ExternalInterrupt v)) (left (set r 54 0) (set o 0 v) 1)) (λ k. interrupt_spelled k o v) r e

not_handled_spelled : (k o : List ℕ) → let r : List ℕ = spelled 58 0 k in On r o (failed_of (view_of r).csrs event.Quiet error.Unsupported) (left (set r 54 0) o 0x103)
unfolding view_of record_of unpack_of csrs_of waiting_of waiting_by kind_word asked_words applied failed_of no_args stored counted bumped event_number listed reply_word out_over error_number trap_leaves trap_left refuses refusal waiting_count waiting_words
not_handled_spelled k o = record { shows = refl; waits = refl; says = refl; gives = refl }

pub not_handled_made : (r o : List ℕ) → length r ≡ 58 → On r o (failed_of (view_of r).csrs event.Quiet error.Unsupported) (left (set r 54 0) o 0x103)
not_handled_made r o e = over (λ r. On r o (failed_of (view_of r).csrs event.Quiet error.Unsupported) (left (set r 54 0) o 0x103)) (λ k. not_handled_spelled k o) r e

unknown_spelled : (k o : List ℕ) → let r : List ℕ = spelled 58 0 k in On r o (failed_of (view_of r).csrs event.Quiet error.InvalidTrap) (left (set r 54 0) o 0x104)
unfolding view_of record_of unpack_of csrs_of waiting_of waiting_by kind_word asked_words applied failed_of no_args stored counted bumped event_number listed reply_word out_over error_number trap_leaves trap_left refuses refusal waiting_count waiting_words
unknown_spelled k o = record { shows = refl; waits = refl; says = refl; gives = refl }

pub unknown_made : (r o : List ℕ) → length r ≡ 58 → On r o (failed_of (view_of r).csrs event.Quiet error.InvalidTrap) (left (set r 54 0) o 0x104)
unknown_made r o e = over (λ r. On r o (failed_of (view_of r).csrs event.Quiet error.InvalidTrap) (left (set r 54 0) o 0x104)) (λ k. unknown_spelled k o) r e

pub busy_made : (r o : List ℕ) → Laid (trap_leaves r) o (applied (view_of r) (refused_of (view_of r).csrs (view_of r).waiting error.BadState)) r o 0x102
unfolding applied refused_of leaves_of no_args stored counted bumped event_number listed reply_word out_over error_number trap_leaves trap_left refuses refusal
busy_made r o = record { shows = refl; waits = refl; says = refl; gives = refl }

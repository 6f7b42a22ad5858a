-- A register read, and that a register's write is a host's own call.
use Rattle.std.specs.Prelude.{ℕ, true, false, List, ◌≡◌, refl, set, ltb}
use Rattle.std.proofs.Common.{ap}
use Rattle.scope.specs.declared.hosts.HostCall.TheVariants as host_call
use Rattle.scope.specs.Refusals.{error_number, leaves_of}
use Rattle.scope.specs.declared.traps.Error.TheVariants as error
use Rattle.scope.specs.declared.machine.Csrs.{Csrs}
use Rattle.scope.specs.declared.machine.Waiting.{Waiting}
use Rattle.scope.specs.declared.machine.Writes.TheVariants as writes
use Rattle.scope.specs.Host.{write_effect}
use Rattle.scope.specs.Calls.{base_of, called_of, effect_of, gpr_reply}
use Rattle.in_place_record.specs.Steps.{Laid, host_leaves, out_over}
use Rattle.in_place_record.specs.View.{view_of}
use Rattle.scope.specs.ReplyWords.{reply_word}
use Rattle.in_place_record.proofs.Laws.{read_shows}
use Rattle.in_place_host.specs.Host.{Keeps}
use Rattle.in_place_host.specs.Laws.{done_keeps, pick_keeps, refused_keeps}
use Rattle.scope.specs.Record.{applied, bumped, counted, event_number, listed, no_args, stored, value_of}

pub write_keeps : (c : Csrs) (w : Waiting) (i n : ℕ) → Keeps (write_effect c w i n) w
unfolding write_effect
write_keeps c w i n = pick_keeps (ltb i 32) (done_keeps c (writes.One i n) w) (refused_keeps c w error.InvalidInput)

-- a register read: the value in word 0
pub get_made : (r o : List ℕ) (i : ℕ) → ltb i 32 ≡ true → Laid (host_leaves r) o (called_of (view_of r) (host_call.GetGpr i)) r (set o 0 (value_of r i)) 0x41
unfolding host_leaves called_of base_of effect_of leaves_of applied stored counted bumped event_number no_args listed gpr_reply reply_word out_over
get_made r o i e = rw e (record { shows = refl; waits = refl; says = refl; gives = ap (λ (n : ℕ). set o 0 n) (read_shows r i) })

pub get_refused : (r o : List ℕ) (i : ℕ) → ltb i 32 ≡ false → Laid (host_leaves r) o (called_of (view_of r) (host_call.GetGpr i)) r o 0x101
unfolding host_leaves called_of base_of effect_of leaves_of applied stored counted bumped event_number no_args listed gpr_reply reply_word out_over error_number
get_refused r o i e = rw e (record { shows = refl; waits = refl; says = refl; gives = refl })

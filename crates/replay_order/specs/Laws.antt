-- The header's numbers in the record's words.
use Rattle.std.specs.Prelude.{ℕ, ◌-◌, List, ◌≡◌, refl, length, set}
use Rattle.std.proofs.Common.{◌∙◌, eq-eqb, ne_eqb}
use Rattle.scope.specs.declared.hosts.HostCall.TheVariants as host_call
use Rattle.scope.specs.declared.machine.Outcome.{Outcome}
use Rattle.scope.specs.declared.machine.Vcpu.{Vcpu}
use Rattle.scope.specs.Calls.{called_of}
use Rattle.scope.specs.Record.{timed}
use Rattle.scope.specs.Words.{csrs_of, unpack_of}
use Rattle.in_place_record.proofs.Shown.{over}
use Rattle.in_place_record.specs.Spelled.{spelled}
use Rattle.in_place_record.specs.Steps.{Settled}
use Rattle.in_place_record.specs.View.{record_of, view_of}
use Rattle.replay_scope.specs.Output.{headed_of}

-- the record with vstimecmp
abbrev timed_record : Vcpu → ℕ → Vcpu
timed_record v n = record { x = v.x; csrs = timed v.csrs n; counts = v.counts; waiting = v.waiting }

timer_spelled : (n : ℕ) (k : List ℕ) → view_of (set (spelled 58 0 k) 40 n) ≡ timed_record (view_of (spelled 58 0 k)) n
unfolding view_of record_of unpack_of csrs_of timed
timer_spelled n k = refl

-- vstimecmp where it lies
timer_shows : (r : List ℕ) (n : ℕ) → length r ≡ 58 → view_of (set r 40 n) ≡ timed_record (view_of r) n
timer_shows r n e = over (λ r. view_of (set r 40 n) ≡ timed_record (view_of r) n) (timer_spelled n) r e

-- the first line is sepc
pub sepc_headed : (r later : List ℕ) (i n word : ℕ) (leaves : Outcome → List ℕ) → i ≡ 0 → Settled leaves (called_of (view_of r) (host_call.SetEntry (record { 0 = n }))) later word → view_of later ≡ headed_of (view_of r) i n
unfolding headed_of
sepc_headed r later i n word leaves e d = d.shows ∙ simp (eq-eqb _ _ e)

-- the second is vstimecmp
pub timer_headed : (r : List ℕ) (i n : ℕ) → length r ≡ 58 → i ≡ 1 → view_of (set r 40 n) ≡ headed_of (view_of r) i n
unfolding headed_of
timer_headed r i n s e = timer_shows r n s ∙ simp e

-- the others are the general registers
pub register_headed : (r later : List ℕ) (i n word : ℕ) (leaves : Outcome → List ℕ) → (i ≡ 0 → ⊥) → (i ≡ 1 → ⊥) → Settled leaves (called_of (view_of r) (host_call.SetGpr (i - 1) n)) later word → view_of later ≡ headed_of (view_of r) i n
unfolding headed_of
register_headed r later i n word leaves a b d = d.shows ∙ simp (ne_eqb _ _ a, ne_eqb _ _ b)

-- The two numbers of a fetch's answer: a word where the second is 0, and else a fault.
use Rattle.std.specs.Prelude.{ℕ, ◌%◌, ◌^◌, Bool, true, false, List, ◌≡◌, refl, eqb}
use Rattle.isa_types.specs.Pick.{pick}
use Rattle.scope.specs.Answers.{fetch_effect, word_effect}
use Rattle.scope.specs.OneTrap.{fetch_number, fetch_of}
use Rattle.scope.specs.Record.{applied}
use Rattle.scope.specs.VirtualInstruction.{missed_effect, missed_of}
use Rattle.scope.specs.declared.machine.Csrs.{Csrs}
use Rattle.scope.specs.declared.machine.Waiting.{Waiting}
use Rattle.scope.specs.declared.traps.Fetch.TheVariants as fetch
use Rattle.scope.specs.declared.traps.Fetch.{Fetch}
use Rattle.in_place_record.specs.Steps.{Laid, trap_leaves}
use Rattle.in_place_record.specs.View.{view_of}

missed_by : (x : List ℕ) (c : Csrs) (w : Waiting) (a : ℕ) (b₁ b₂ b₃ b₄ : Bool) →
    let f : Fetch = pick b₁ (fetch.Page (record { 0 = a })) (pick b₂ (fetch.Access (record { 0 = a })) (pick b₃ (fetch.Misaligned (record { 0 = a })) (pick b₄ (fetch.GuestPage (record { 0 = a })) fetch.Unhandled))) in
    missed_effect c (missed_of f) ≡ fetch_effect x c w f
unfolding fetch_effect
missed_by x c w a true b₂ b₃ b₄ = refl
missed_by x c w a false true b₃ b₄ = refl
missed_by x c w a false false true b₄ = refl
missed_by x c w a false false false true = refl
missed_by x c w a false false false false = refl

pub missed_fetch : (x : List ℕ) (c : Csrs) (w : Waiting) (a b : ℕ) → eqb b 0 ≡ false → missed_effect c (missed_of (fetch_of a b)) ≡ fetch_effect x c w (fetch_of a b)
unfolding fetch_of fetch_number
missed_fetch x c w a b e = rw e (missed_by x c w a (eqb b 1) (eqb b 2) (eqb b 3) (eqb b 4))

pub word_answer : (r o s p : List ℕ) (w : Waiting) (a b c : ℕ) → b ≡ 0
    → Laid (trap_leaves r) o (applied (view_of r) (word_effect (view_of r).x (view_of r).csrs w (a % 2 ^ 32))) s p c → Laid (trap_leaves r) o (applied (view_of r) (fetch_effect (view_of r).x (view_of r).csrs w (fetch_of a b))) s p c
unfolding fetch_effect fetch_of fetch_number
word_answer r o s p w a b c e m = rw e m

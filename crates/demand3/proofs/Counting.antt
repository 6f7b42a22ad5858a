-- Each of the nine counts is, modulo 2^64, its start plus the traps of its kind so far. 01, Each call's promise.
use Prim.Native.Nat.{ℕ, suc, ◌+◌, ◌-◌, ◌<◌, ◌%◌, ◌^◌}
use Rattle.std.proofs.Common.{mod-eq_of_lt, mod-lt, add-zero, add_assoc, ap, sym, ◌∙◌, get_or-set_same}
use Rattle.std.proofs.Math.Nat.{mod-add-mod}
use native.Mathlib.Omega.{arith}
use Rattle.std.specs.Prelude.{Bool, List, [], ◌∷◌, ◌≡◌, set, ltb}
use Rattle.std.proofs.Math.Bool.{true, false}
use Rattle.std.proofs.Math.Path.{refl}
use Rattle.std.proofs.Math.ListN.{get_or, length, length-set}
use Rattle.std.proofs.Math.Seq.{get_or-set_other}
use Rattle.std.proofs.Math.Dec.{eqb}
use borrow.Author.Tests.{eqb-true, eqb-false, ne_eqb, lt-ltb}
use Rattle.demand3_table.specs.Turns.{Turn, call, print, post}
use Rattle.isa_types.specs.Pick.{pick, wrapped}
use Rattle.scope.specs.declared.machine.Vcpu.{Vcpu}
use Rattle.scope.specs.PostsLaws.{row_counts}
use Rattle.scope.specs.Record.{bumped, counted, applied}
use Rattle.demand3_table.specs.Runs.{Lasting, run_of, step_of, turn_renews}
use Rattle.demand3_table.proofs.Bases.{base_kept}
use Rattle.demand3.specs.Kinds.{call_kind, kind_of, traps}
use Rattle.demand3.proofs.Events.{event_kind}
use Rattle.scope.specs.Calls.{base_of, called_of}
use Rattle.demand3.specs.Counting.{Counted}

-- one more of kind n
module _ (k : List ℕ) (h : Counted k) where
  bumped_length : (n : ℕ) → length (bumped k n) ≡ 9
  unfolding bumped
  bumped_length n = by (eqb n 0) (ltb n 10)
    where
      by : (s t : Bool) → length (pick s k (pick t (set k (n - 1) (wrapped (get_or k (n - 1) 0 + 1))) k)) ≡ 9
      by true t = h.nine
      by false true = length-set k (n - 1) _ ∙ h.nine
      by false false = h.nine

  bumped_same : (i : ℕ) → i < 9 → get_or (bumped k (suc i)) i 0 ≡ wrapped (get_or k i 0 + 1)
  unfolding bumped
  bumped_same i lt =
      let less : suc i - 1 ≡ i = omega arith in
      rw (ne_eqb (suc i) 0 (λ e. omega arith), lt-ltb (suc i) 10 (omega arith), less)
      (get_or-set_same k i (wrapped (get_or k i 0 + 1)) 0 (omega (arith, h.nine)))

  bumped_other : (i n : ℕ) → eqb n (suc i) ≡ false → get_or (bumped k n) i 0 ≡ get_or k i 0
  unfolding bumped
  bumped_other i n e = by (eqb n 0) (ltb n 10) refl
    where
      by : (s t : Bool) → eqb n 0 ≡ s → get_or (pick s k (pick t (set k (n - 1) (wrapped (get_or k (n - 1) 0 + 1))) k)) i 0 ≡ get_or k i 0
      by true t z = refl
      by false true z = get_or-set_other k (n - 1) i _ 0 (λ d. omega (arith, eqb-false n (suc i) e, eqb-false n 0 z))
      by false false z = refl

  bumped_at : (i n : ℕ) → i < 9 → (t : Bool) → eqb n (suc i) ≡ t → get_or (bumped k n) i 0 ≡ wrapped (get_or k i 0 + pick t 1 0)
  bumped_at i n lt true e = ap (λ m. get_or (bumped k m) i 0) (eqb-true n (suc i) e) ∙ bumped_same i lt
  bumped_at i n lt false e = bumped_other i n e ∙ sym (simp add-zero (mod-eq_of_lt (h.below i lt)))

  bumped_counted : (n : ℕ) → Counted (bumped k n)
  bumped_counted n =
      record {
        nine = bumped_length n;
        below = λ i lt. rw (bumped_at i n lt (eqb n (suc i)) refl) (mod-lt _ (omega arith));
      }

-- one call
next_counts : (v : Vcpu) (c : Turn) → turn_renews c ≡ false → (step_of v c).counts ≡ bumped v.counts (kind_of v c)
unfolding step_of turn_renews kind_of called_of applied counted bumped
next_counts v (call c) h =
    ap (bumped (base_of v c).counts) (event_kind v c) ∙ ap (λ (u : Vcpu). bumped u.counts (call_kind v c)) (base_kept v c h)
next_counts v (print buffer) h = refl
next_counts v (post ps) h = row_counts v ps

folded : (a b n : ℕ) → (wrapped (a + b) + n) % 2 ^ 64 ≡ wrapped (a + (b + n))
folded a b n = mod-add-mod (a + b) (2 ^ 64) n ∙ ap wrapped (add_assoc a b n)

-- count i, from 0 to 8, is of kind i + 1; a new record starts a new count
pub counts : (v : Vcpu) (cs : List Turn) (i : ℕ) → Lasting cs → Counted v.counts → i < 9 → get_or (run_of v cs).counts i 0 ≡ wrapped (get_or v.counts i 0 + traps (suc i) v cs)
unfolding run_of traps Lasting
counts v [] i l h lt = sym (simp add-zero (mod-eq_of_lt (h.below i lt)))
counts v (c ∷ cs) i l h lt =
    let after : Counted (step_of v c).counts = rw (next_counts v c l.0) (bumped_counted v.counts h (kind_of v c)) in
    let one : get_or (step_of v c).counts i 0 ≡ wrapped (get_or v.counts i 0 + pick (eqb (kind_of v c) (suc i)) 1 0)
    = rw (next_counts v c l.0) (bumped_at v.counts h i (kind_of v c) lt (eqb (kind_of v c) (suc i)) refl) in
    counts (step_of v c) cs i l.1 after lt
    ∙ ap (λ n. wrapped (n + traps (suc i) (step_of v c) cs)) one
    ∙ folded (get_or v.counts i 0) (pick (eqb (kind_of v c) (suc i)) 1 0) (traps (suc i) (step_of v c) cs)

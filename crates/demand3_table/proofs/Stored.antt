-- Two files of registers that agree but in r, after the same write: they agree but in r, r keeps its content where the write
-- does not reach it, and is the same in both where it does.
use Rattle.std.specs.Prelude.{ℕ, ◌<◌, Bool, true, false, List, ◌≡◌, get_or, set, eqb, ltb}
use Rattle.std.proofs.Math.Decide.{ℕ_discrete, dec_lt}
use Rattle.std.proofs.Common.{arith, ap, sym, subst, ◌∙◌, length-set, get_or-set_same, get_or-set_other, ext_get_or, eqb-true, ltb-true}
use Rattle.std.proofs.Math.Path.{refl}
use Rattle.std.proofs.Math.Seq.{set_out}
use Rattle.std.proofs.lemmas.Bool.{eqb-false}
use Rattle.isa_types.specs.Pick.{pick, or}
use Rattle.scope.specs.declared.machine.Writes.{Writes}
use Rattle.scope.specs.declared.machine.Writes.TheVariants as writes
use Rattle.scope.specs.Record.{stored}
use Rattle.demand3_table.specs.Alike.{Files}
use Rattle.demand3_table.specs.Runs.{wrote}

pub neither : (a b : Bool) → or a b ≡ false → (a ≡ false) × (b ≡ false)
neither true b h = (h, cc)
neither false b h = (refl, h)

module _ {r : ℕ} {x y : List ℕ} (f : Files r x y) where
  -- what was written is the same in both
  set_joined : (i n : ℕ) → i < 32 → get_or (set x i n) i 0 ≡ get_or (set y i n) i 0
  set_joined i n h = get_or-set_same x i n 0 (omega (arith, f.long)) ∙ sym (get_or-set_same y i n 0 (omega (arith, f.long')))

  -- a write outside the file changes neither
  set_written : (i n : ℕ) → Dec (i < 32) → (i ≡ r → ⊥) → get_or (set x i n) i 0 ≡ get_or (set y i n) i 0
  set_written i n (yes h) ne = set_joined i n h
  set_written i n (no h) ne =
      ap (λ l. get_or l i 0) (set_out x i n (omega (arith, f.long))) ∙ f.agree i ne
      ∙ sym (ap (λ l. get_or l i 0) (set_out y i n (omega (arith, f.long'))))

  set_agree : (i n j : ℕ) → Dec (j ≡ i) → (j ≡ r → ⊥) → get_or (set x i n) j 0 ≡ get_or (set y i n) j 0
  set_agree i n j (yes e) ne =
      subst (λ k. get_or (set x i n) k 0 ≡ get_or (set y i n) k 0) (sym e) (set_written i n (dec_lt i 32) (λ k. ne (e ∙ k)))
  set_agree i n j (no d) ne = get_or-set_other x i j n 0 d ∙ f.agree j ne ∙ sym (get_or-set_other y i j n 0 d)

  set_files : (i n : ℕ) → Files r (set x i n) (set y i n)
  set_files i n =
      record {
        long = length-set x i n ∙ f.long;
        long' = length-set y i n ∙ f.long';
        agree = λ j ne. set_agree i n j (ℕ_discrete j i) ne;
      }

  at_r : (i : ℕ) → get_or x r 0 ≡ get_or y r 0 → Dec (i ≡ r) → get_or x i 0 ≡ get_or y i 0
  at_r i e (yes p) = subst (λ k. get_or x k 0 ≡ get_or y k 0) (sym p) e
  at_r i e (no d) = f.agree i d

  -- files that agree in r too are one
  pub same_files : get_or x r 0 ≡ get_or y r 0 → x ≡ y
  same_files e = ext_get_or 0 x y (f.long ∙ sym f.long') (λ i h. at_r i e (ℕ_discrete i r))

picked_files : {r : ℕ} {x y x' y' : List ℕ} (t : Bool) → Files r x y → Files r x' y' → Files r (pick t x x') (pick t y y')
picked_files true f g = f
picked_files false f g = g

pub stored_files : {r : ℕ} {x y : List ℕ} → Files r x y → (w : Writes) → Files r (stored x w) (stored y w)
unfolding stored
stored_files f writes.Keep = f
stored_files f (writes.One i n) = picked_files (eqb i 0) f (picked_files (ltb i 32) (set_files f i n) f)
stored_files f (writes.Pair e v) = set_files (set_files f 10 e) 11 v

-- r keeps its content

one_kept : (r i n : ℕ) (x : List ℕ) (s t : Bool) → pick s false (pick t (eqb r i) false) ≡ false → get_or (pick s x (pick t (set x i n) x)) r 0 ≡ get_or x r 0
one_kept r i n x true t h = refl
one_kept r i n x false true h = get_or-set_other x i r n 0 (eqb-false r i h)
one_kept r i n x false false h = refl

pub stored_kept : (r : ℕ) (x : List ℕ) (w : Writes) → wrote r w ≡ false → get_or (stored x w) r 0 ≡ get_or x r 0
unfolding stored wrote
stored_kept r x writes.Keep h = refl
stored_kept r x (writes.One i n) h = one_kept r i n x (eqb i 0) (ltb i 32) h
stored_kept r x (writes.Pair e v) h =
    let n = neither (eqb r 10) (eqb r 11) h in
    get_or-set_other (set x 10 e) 11 r v 0 (eqb-false r 11 n.1) ∙ get_or-set_other x 10 r e 0 (eqb-false r 10 n.0)

-- r is the same in both

module _ {r : ℕ} {x y : List ℕ} (f : Files r x y) where
  one_joined : (i n : ℕ) (s t : Bool) → ltb i 32 ≡ t → pick s false (pick t (eqb r i) false) ≡ true → get_or (pick s x (pick t (set x i n) x)) r 0 ≡ get_or (pick s y (pick t (set y i n) y)) r 0
  one_joined i n true t b h = cc
  one_joined i n false true b h =
      subst (λ k. get_or (set x i n) k 0 ≡ get_or (set y i n) k 0) (sym (eqb-true r i h)) (set_joined f i n (ltb-true i 32 b))
  one_joined i n false false b h = cc

  pair_joined : (e v : ℕ) (s t : Bool) → eqb r 10 ≡ s → eqb r 11 ≡ t → or s t ≡ true → get_or (set (set x 10 e) 11 v) r 0 ≡ get_or (set (set y 10 e) 11 v) r 0
  pair_joined e v true t p q h =
      subst (λ k. get_or (set (set x 10 e) 11 v) k 0 ≡ get_or (set (set y 10 e) 11 v) k 0) (sym (eqb-true r 10 p))
      (get_or-set_other (set x 10 e) 11 10 v 0 (λ z. omega arith) ∙ set_joined f 10 e (omega arith)
      ∙ sym (get_or-set_other (set y 10 e) 11 10 v 0 (λ z. omega arith)))
  pair_joined e v false true p q h =
      subst (λ k. get_or (set (set x 10 e) 11 v) k 0 ≡ get_or (set (set y 10 e) 11 v) k 0) (sym (eqb-true r 11 q))
      (set_joined (set_files f 10 e) 11 v (omega arith))
  pair_joined e v false false p q h = cc

  pub stored_joined : (w : Writes) → wrote r w ≡ true → get_or (stored x w) r 0 ≡ get_or (stored y w) r 0
  unfolding stored wrote
  stored_joined writes.Keep h = cc
  stored_joined (writes.One i n) h = one_joined i n (eqb i 0) (ltb i 32) refl h
  stored_joined (writes.Pair e v) h = pair_joined e v (eqb r 10) (eqb r 11) refl refl h

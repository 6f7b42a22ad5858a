-- The fold, turn by turn: what a loop over the row needs.
use Rattle.std.specs.Prelude.{ℕ, zero, suc, ◌+◌, ◌<◌, ◌≤◌, Bool, true, false, List, [], ◌∷◌, ◌≡◌, refl, eqb, is_some, length, get_or, drop}
use Rattle.std.proofs.Common.{not-suc-le-zero, le_of_suc-le-suc, le_refl, arith, sym, ap, ◌∙◌, drop_of_length-le}
use Rattle.scope.specs.declared.hosts.Post.{Post}
use Rattle.scope.specs.Host.{hvip_bit_of}
use Rattle.scope.specs.Words.{tested}
use Rattle.decide_posts.specs.declared.Row.{Row}
use Rattle.decide_posts.specs.Fold.{applied_by, fold_of, post_taken}

-- a post that stands for an index past the end; no turn looks at it
abbrev pub no_post : Post
no_post = record { vector = 0; level = 0 }

-- a row that was stopped stays, whatever follows
stays : (s : Row) (p : Post) → is_some s.refusal ≡ true → post_taken s p ≡ s
unfolding post_taken
stays s p h = rw h

pub stopped : (s : Row) (ps : List Post) → is_some s.refusal ≡ true → fold_of s ps ≡ s
unfolding fold_of
stopped s [] h = refl
stopped s (p ∷ ps) h = ap (λ (r : Row). fold_of r ps) (stays s p h) ∙ stopped s ps h

-- what is left from i begins with post i
begins : (ps : List Post) (i : ℕ) → i < length ps → drop i ps ≡ get_or ps i no_post ∷ drop (suc i) ps
begins [] i l = absurd (not-suc-le-zero l)
begins (p ∷ ps) zero l = refl
begins (p ∷ ps) (suc i) l = begins ps i (le_of_suc-le-suc l)

one_more : (i : ℕ) → suc i ≡ i + 1
one_more i = omega arith

-- a turn leaves the same to be folded
pub turn : (s r : Row) (ps : List Post) (i : ℕ) → i < length ps → r ≡ post_taken s (get_or ps i no_post) → fold_of s (drop i ps) ≡ fold_of r (drop (i + 1) ps)
unfolding fold_of
turn s r ps i l e =
    ap (fold_of s) (begins ps i l) ∙ ap (λ (u : Row). fold_of u (drop (suc i) ps)) (sym e) ∙ ap (λ (k : ℕ). fold_of r (drop k ps)) (one_more i)

-- and nothing at the end
pub at_end : (s : Row) (ps : List Post) (i : ℕ) → length ps ≤ i → fold_of s (drop i ps) ≡ s
unfolding fold_of
at_end s ps i l = ap (fold_of s) (drop_of_length-le ps {i = i} l)

-- a turn of a row that goes on
pub going : (s : Row) (p : Post) → is_some s.refusal ≡ false → applied_by s (hvip_bit_of p.vector) (tested p.level) ≡ post_taken s p
unfolding post_taken
going s p h = rw h refl

-- no more are applied than were looked at
one_at_most_by : (s : Row) (line : ℕ) (on t : Bool) → eqb line 0 ≡ t → (applied_by s line on).applied ≤ s.applied + 1
unfolding applied_by
one_at_most_by s line on true h = rw h (omega arith)
one_at_most_by s line on false h = rw h (le_refl _)

one_at_most : (s : Row) (line : ℕ) (on : Bool) → (applied_by s line on).applied ≤ s.applied + 1
one_at_most s line on = one_at_most_by s line on (eqb line 0) refl

pub within : (s : Row) (line : ℕ) (on : Bool) {i : ℕ} → s.applied ≤ i → (applied_by s line on).applied ≤ i + 1
within s line on {i} h = let o : (applied_by s line on).applied ≤ s.applied + 1 = one_at_most s line on in omega (arith, o, h)

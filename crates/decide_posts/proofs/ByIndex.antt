-- The fold by an index that jumps to the end where the row was stopped: the same row, in as many turns or fewer. The loop of src/
-- looks at the posts themselves.
use Rattle.std.specs.Prelude.{ℕ, ◌+◌, ◌-◌, ◌<◌, ◌≤◌, Bool, true, false, List, ◌≡◌, refl, is_some, length, get_or, drop}
use Rattle.std.proofs.Common.{le_refl, arith, sym, ◌∙◌, subst}
use Rattle.isa_types.specs.Pick.{pick}
use Rattle.scope.specs.declared.hosts.Post.{Post}
use Rattle.scope.specs.Host.{hvip_bit_of}
use Rattle.scope.specs.Words.{tested}
use Rattle.decide_posts.specs.declared.Row.{Row}
use Rattle.decide_posts.specs.Fold.{fold_of, post_taken}
use Rattle.decide_posts.specs.FoldLaws.{no_post, stopped, turn, within}

-- the index after this one of n; the end where the row was stopped
unfoldable pub next_of : Row → ℕ → ℕ → ℕ
next_of s i n = pick (is_some s.refusal) n (i + 1)

-- a turn leaves the same to be folded
by_test : (t : Bool) (r : Row) (ps : List Post) (i : ℕ) → is_some r.refusal ≡ t → fold_of r (drop (i + 1) ps) ≡ fold_of r (drop (pick t (length ps) (i + 1)) ps)
by_test true r ps i h = stopped r (drop (i + 1) ps) h ∙ sym (stopped r (drop (length ps) ps) h)
by_test false r ps i h = refl

pub turned : (s r : Row) (ps : List Post) (i : ℕ) → i < length ps → r ≡ post_taken s (get_or ps i no_post) → fold_of s (drop i ps) ≡ fold_of r (drop (next_of r i (length ps)) ps)
unfolding next_of
turned s r ps i l e = turn s r ps i l e ∙ by_test (is_some r.refusal) r ps i refl

-- the next index is in reach, and nearer to the end
in_reach_by : (t : Bool) {i n : ℕ} → i < n → pick t n (i + 1) ≤ n
in_reach_by true l = omega arith
in_reach_by false l = omega arith

pub in_reach : (r : Row) {i n : ℕ} → i < n → next_of r i n ≤ n
unfolding next_of
in_reach r l = in_reach_by (is_some r.refusal) l

nearer_by : (t : Bool) {i n : ℕ} → i < n → n - pick t n (i + 1) < n - i
nearer_by true l = omega arith
nearer_by false l = omega arith

pub nearer : (r : Row) {i n : ℕ} → i < n → n - next_of r i n < n - i
unfolding next_of
nearer r l = nearer_by (is_some r.refusal) l

-- no more are applied than were looked at
step_applies : (s : Row) (p : Post) (t : Bool) → is_some s.refusal ≡ t → (post_taken s p).applied ≤ s.applied + 1
unfolding post_taken
step_applies s p true h = rw h (omega arith)
step_applies s p false h = rw h (within s (hvip_bit_of p.vector) (tested p.level) (le_refl _))

ahead : (t : Bool) {i n : ℕ} → i < n → i + 1 ≤ pick t n (i + 1)
ahead true l = omega arith
ahead false l = omega arith

pub applies_within : (s r : Row) (p : Post) {i n : ℕ} → i < n → r ≡ post_taken s p → s.applied ≤ i → r.applied ≤ next_of r i n
unfolding next_of
applies_within s r p {i} {n} l e h =
    let one : r.applied ≤ s.applied + 1 = subst (λ (u : Row). u.applied ≤ s.applied + 1) (sym e) (step_applies s p (is_some s.refusal) refl) in
    let on : i + 1 ≤ pick (is_some r.refusal) n (i + 1) = ahead (is_some r.refusal) l in
    omega (arith, one, on, h)

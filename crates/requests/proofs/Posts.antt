-- A row of posts in one call, in the request's words, of every entry. 02, W4.
use Rattle.std.specs.Prelude.{ℕ, suc, ◌+◌, Bool, true, false, List, [], ◌∷◌, ◌++◌, ◌≡◌, refl, eqb}
use Rattle.std.proofs.Common.{add-zero, zero-add, add_assoc, arith, ap, sym, subst, ◌∙◌}
use Rattle.isa_types.specs.Pick.{never, not}
use Rattle.scope.specs.Host.{hvip_bit_of}
use Rattle.scope.specs.Posts.{one_by_one, posted_of, row_of}
use Rattle.scope.specs.PostsLaws.{Free, hvip_by, only_hvip, post_applied, post_refused, row_free, row_refused, row_waiting, single_done, single_leaves, single_refused, still_free, with_hvip}
use Rattle.scope.specs.Record.{waiting_ask}
use Rattle.scope.specs.Refusals.{error_number}
use Rattle.scope.specs.Words.{unpack_of}
use Rattle.scope.specs.declared.hosts.Post.{Post}
use Rattle.scope.specs.declared.hosts.Posted.{Posted}
use Rattle.scope.specs.declared.machine.Record.{Record}
use Rattle.scope.specs.declared.machine.RowOutcome.{RowOutcome}
use Rattle.scope.specs.declared.machine.Vcpu.{Vcpu}
use Rattle.by_value_posts.specs.Lent.{StoredRow}
use Rattle.words_entry_posts.specs.Words.{ExportedRow, exported_row}
use Rattle.in_place_record.specs.View.{MadeRow, view_of}
use Rattle.demand1.proofs.RowLaws.{no_line}
use Rattle.demand1.specs.When.{vector_allowed}
use Rattle.demands_words.proofs.Left.{row_shows}
use Rattle.requests.specs.Posts.{InTwo, OneByOne, W4, applied, in_two, none_left, refused}

-- counted on from n, the row is the same

unfoldable counted_on : ℕ → RowOutcome → RowOutcome
counted_on n o = row_of o.vcpu (n + o.posted.applied) o.posted.refusal

on_by : (v : Vcpu) (n m : ℕ) (p : Post) (ps : List Post) (t : Bool) → Free v → eqb (hvip_bit_of p.vector) 0 ≡ t
    → ((h k : ℕ) → one_by_one (n + k) (with_hvip v h) ps ≡ counted_on n (one_by_one k (with_hvip v h) ps)) → one_by_one (n + m) v (p ∷ ps) ≡ counted_on n (one_by_one m v (p ∷ ps))
unfolding counted_on row_of
on_by v n m p ps true f h more =
    post_refused v (n + m) p ps f h ∙ ap (counted_on n) (sym (post_refused v m p ps f h))
on_by v n m p ps false f h more =
    post_applied v (n + m) p ps f h
    ∙ ap (λ (k : ℕ). one_by_one k (with_hvip v (hvip_by v p)) ps) (add_assoc n m 1)
    ∙ more (hvip_by v p) (m + 1)
    ∙ ap (counted_on n) (sym (post_applied v m p ps f h))

counts_on : (v : Vcpu) (n m : ℕ) (ps : List Post) → Free v → one_by_one (n + m) v ps ≡ counted_on n (one_by_one m v ps)
unfolding one_by_one counted_on row_of
counts_on v n m [] f = refl
counts_on v n m (p ∷ ps) f =
    on_by v n m p ps (eqb (hvip_bit_of p.vector) 0) f refl (λ h k. counts_on (with_hvip v h) n k ps (still_free v h f))

from_nothing : (v : Vcpu) (n : ℕ) (ps : List Post) → Free v → one_by_one n v ps ≡ counted_on n (one_by_one 0 v ps)
from_nothing v n ps f = ap (λ (k : ℕ). one_by_one k v ps) (sym (add-zero n)) ∙ counts_on v n 0 ps f

-- the posts one by one

Lists : Vcpu → List Post → RowOutcome → Type 0
Lists v ps o = OneByOne v ps o.posted.applied o.posted.refusal o.vcpu

one_more : (n : ℕ) → 1 + n ≡ suc n
one_more n = omega arith

lists_by : (v : Vcpu) (p : Post) (ps : List Post) (t : Bool) → Free v → eqb (hvip_bit_of p.vector) 0 ≡ t
    → ((h : ℕ) → Lists (with_hvip v h) ps (one_by_one 0 (with_hvip v h) ps)) → Lists v (p ∷ ps) (one_by_one 0 v (p ∷ ps))
unfolding Lists counted_on row_of error_number
lists_by v p ps true f h more =
    subst (Lists v (p ∷ ps)) (sym (post_refused v 0 p ps f h)) (refused (single_refused v p f h))
lists_by v p ps false f h more =
    let u : Vcpu = with_hvip v (hvip_by v p) in
    let o : RowOutcome = one_by_one 0 u ps in
    subst (Lists v (p ∷ ps)) (sym (post_applied v 0 p ps f h ∙ ap (λ (k : ℕ). one_by_one k u ps) (zero-add 1) ∙ from_nothing u 1 ps (still_free v (hvip_by v p) f)))
    (subst (λ (k : ℕ). OneByOne v (p ∷ ps) k o.posted.refusal o.vcpu) (sym (one_more o.posted.applied))
    (applied (single_done v p f h) (subst (λ (w : Vcpu). OneByOne w ps o.posted.applied o.posted.refusal o.vcpu) (sym (single_leaves v p f h)) (more (hvip_by v p)))))

lists : (v : Vcpu) (ps : List Post) → Free v → Lists v ps (one_by_one 0 v ps)
unfolding Lists one_by_one row_of
lists v [] f = none_left
lists v (p ∷ ps) f =
    lists_by v p ps (eqb (hvip_bit_of p.vector) 0) f refl (λ h. lists (with_hvip v h) ps (still_free v h f))

-- by value, for every record and row
pub w4 : (v : Vcpu) (ps : List Post) → W4 v ps (posted_of v ps).vcpu (posted_of v ps).posted
unfolding row_of error_number Lists
w4 v ps =
    record {
      asking = λ h. (ap (λ (o : RowOutcome). o.vcpu) (row_refused v ps h), ap (λ (o : RowOutcome). o.posted) (row_refused v ps h));
      one_by_one_lem = λ h. let f : Free v = record { free = h } in subst (Lists v ps) (sym (row_free v ps f)) (lists v ps f);
      elsewhere = only_hvip v ps;
    }

by_promise : (v : Vcpu) (ps : List Post) (u : Vcpu) (g : Posted) → u ≡ (posted_of v ps).vcpu → g ≡ (posted_of v ps).posted → W4 v ps u g
by_promise v ps u g left gives =
    subst (λ (w : Vcpu). W4 v ps w g) (sym left) (subst (λ (k : Posted). W4 v ps (posted_of v ps).vcpu k) (sym gives) (w4 v ps))

-- over a lent record, over words and in place, by the promises
pub w4_lent : (v w : Vcpu) (ps : List Post) (g : Posted) → StoredRow v ps w g → W4 v ps w g
w4_lent v w ps g s = by_promise v ps w g s.0 s.1

pub w4_words : (r s : Record) (ps : List Post) (g : Posted) → ExportedRow r ps s g → W4 (unpack_of r) ps (unpack_of s) g
unfolding exported_row
w4_words r s ps g x = by_promise (unpack_of r) ps (unpack_of s) g (ap unpack_of x.0 ∙ row_shows r ps) x.1

pub w4_place : (r s : List ℕ) (ps : List Post) (g : Posted) → MadeRow r ps s g → W4 (view_of r) ps (view_of s) g
w4_place r s ps g m = by_promise (view_of r) ps (view_of s) g m.shows m.says

stopped_first : (o second : RowOutcome) → eqb o.posted.refusal 0 ≡ false → in_two o second ≡ o
unfolding in_two
stopped_first o second h = rw h

two_by : (v : Vcpu) (n : ℕ) (p : Post) (ps qs : List Post) (t : Bool) → Free v → eqb (hvip_bit_of p.vector) 0 ≡ t
    → ((h k : ℕ) → one_by_one k (with_hvip v h) (ps ++ qs) ≡ in_two (one_by_one k (with_hvip v h) ps) (one_by_one 0 (one_by_one k (with_hvip v h) ps).vcpu qs))
    → one_by_one n v (p ∷ (ps ++ qs)) ≡ in_two (one_by_one n v (p ∷ ps)) (one_by_one 0 (one_by_one n v (p ∷ ps)).vcpu qs)
unfolding error_number row_of
two_by v n p ps qs true f h more =
    post_refused v n p (ps ++ qs) f h
    ∙ sym (ap (λ (o : RowOutcome). in_two o (one_by_one 0 o.vcpu qs)) (post_refused v n p ps f h) ∙ stopped_first (row_of v n 1) _ refl)
two_by v n p ps qs false f h more =
    post_applied v n p (ps ++ qs) f h ∙ more (hvip_by v p) (n + 1) ∙ ap (λ (o : RowOutcome). in_two o (one_by_one 0 o.vcpu qs)) (sym (post_applied v n p ps f h))

two : (v : Vcpu) (n : ℕ) (ps qs : List Post) → Free v → one_by_one n v (ps ++ qs) ≡ in_two (one_by_one n v ps) (one_by_one 0 (one_by_one n v ps).vcpu qs)
unfolding one_by_one in_two row_of counted_on
two v n [] qs f = from_nothing v n qs f
two v n (p ∷ ps) qs f =
    two_by v n p ps qs (eqb (hvip_bit_of p.vector) 0) f refl (λ h k. two (with_hvip v h) k ps qs (still_free v h f))

free_after : (v : Vcpu) (ps : List Post) → Free v → Free (posted_of v ps).vcpu
free_after v ps f = record { free = ap (λ w. eqb (waiting_ask w) 0) (row_waiting v ps) ∙ f.free }

two_free : (v : Vcpu) (ps qs : List Post) (t : Bool) → eqb (waiting_ask v.waiting) 0 ≡ t → posted_of v (ps ++ qs) ≡ in_two (posted_of v ps) (posted_of (posted_of v ps).vcpu qs)
unfolding error_number row_of
two_free v ps qs true h =
    let f : Free v = record { free = h } in
    row_free v (ps ++ qs) f ∙ two v 0 ps qs f
    ∙ sym (ap (in_two (posted_of v ps)) (row_free (posted_of v ps).vcpu qs (free_after v ps f)) ∙ ap (λ (o : RowOutcome). in_two o (one_by_one 0 o.vcpu qs)) (row_free v ps f))
two_free v ps qs false h =
    row_refused v (ps ++ qs) h
    ∙ sym (ap (λ (o : RowOutcome). in_two o (posted_of o.vcpu qs)) (row_refused v ps h) ∙ stopped_first (row_of v 0 2) _ refl)

pub row_in_two : (v : Vcpu) (ps qs : List Post) → posted_of v (ps ++ qs) ≡ in_two (posted_of v ps) (posted_of (posted_of v ps).vcpu qs)
row_in_two v ps qs = two_free v ps qs (eqb (waiting_ask v.waiting) 0) refl

-- so what stands behind a refused post is not looked at
pub behind_a_refusal : (v : Vcpu) (ps qs : List Post) → eqb (posted_of v ps).posted.refusal 0 ≡ false → posted_of v (ps ++ qs) ≡ posted_of v ps
behind_a_refusal v ps qs h = row_in_two v ps qs ∙ stopped_first (posted_of v ps) _ h

-- demand 1 as the request reads it: behind posts that are applied, one whose vector is not allowed changes nothing, whatever follows it

ask_stops : (v : Vcpu) (ps : List Post) (t : Bool) → eqb (waiting_ask v.waiting) 0 ≡ t → eqb (posted_of v ps).posted.refusal 0 ≡ true → Free v
unfolding row_of error_number
ask_stops v ps true h k = record { free = h }
ask_stops v ps false h k = never (sym (ap (λ (o : RowOutcome). eqb o.posted.refusal 0) (sym (row_refused v ps h)) ∙ k))

no_bit : (k : ℕ) → vector_allowed k ≡ false → eqb (hvip_bit_of k) 0 ≡ true
no_bit k h = no_line k ∙ ap not h

second_refused : (u : Vcpu) (p : Post) (qs : List Post) → Free u → eqb (hvip_bit_of p.vector) 0 ≡ true → posted_of u (p ∷ qs) ≡ row_of u 0 1
unfolding error_number
second_refused u p qs f h = row_free u (p ∷ qs) f ∙ post_refused u 0 p qs f h

whole_first : (o second : RowOutcome) → eqb o.posted.refusal 0 ≡ true → in_two o second ≡ row_of second.vcpu (o.posted.applied + second.posted.applied) second.posted.refusal
unfolding in_two
whole_first o second h = rw h

pub refused_post_changes_nothing : (v : Vcpu) (ps : List Post) (p : Post) (qs : List Post) → eqb (posted_of v ps).posted.refusal 0 ≡ true → vector_allowed p.vector ≡ false
    → posted_of v (ps ++ (p ∷ qs)) ≡ row_of (posted_of v ps).vcpu (posted_of v ps).posted.applied 1
unfolding row_of
refused_post_changes_nothing v ps p qs h k =
    let u : Vcpu = (posted_of v ps).vcpu in
    let f : Free u = free_after v ps (ask_stops v ps (eqb (waiting_ask v.waiting) 0) refl h) in
    row_in_two v ps (p ∷ qs) ∙ whole_first (posted_of v ps) (posted_of u (p ∷ qs)) h
    ∙ ap (λ (o : RowOutcome). row_of o.vcpu ((posted_of v ps).posted.applied + o.posted.applied) o.posted.refusal) (second_refused u p qs f (no_bit p.vector k))
    ∙ ap (λ (n : ℕ). row_of u n 1) (add-zero (posted_of v ps).posted.applied)

value_in_two : (v : Vcpu) (ps qs : List Post) → let o : RowOutcome = posted_of v ps in let q : RowOutcome = posted_of o.vcpu qs in
    InTwo (posted_of v (ps ++ qs)).vcpu o.vcpu q.vcpu (posted_of v (ps ++ qs)).posted o.posted q.posted
unfolding row_of
value_in_two v ps qs =
    let o : RowOutcome = posted_of v ps in
    let q : RowOutcome = posted_of o.vcpu qs in
    record {
      whole = λ h.
          let e = row_in_two v ps qs ∙ whole_first o q h in
          (ap (λ (z : RowOutcome). z.vcpu) e, ap (λ (z : RowOutcome). z.posted) e);
      stopped = λ h.
          let e = row_in_two v ps qs ∙ stopped_first o q h in
          (ap (λ (z : RowOutcome). z.vcpu) e, ap (λ (z : RowOutcome). z.posted) e);
    }

-- by what the promises say of each
two_by_promise : (v w w₁ w₂ : Vcpu) (g g₁ g₂ : Posted) (ps qs : List Post) → w ≡ (posted_of v (ps ++ qs)).vcpu → g ≡ (posted_of v (ps ++ qs)).posted
    → w₁ ≡ (posted_of v ps).vcpu → g₁ ≡ (posted_of v ps).posted → w₂ ≡ (posted_of w₁ qs).vcpu → g₂ ≡ (posted_of w₁ qs).posted → InTwo w w₁ w₂ g g₁ g₂
two_by_promise v w w₁ w₂ g g₁ g₂ ps qs a b a₁ b₁ a₂ b₂ =
    let a₃ : w₂ ≡ (posted_of (posted_of v ps).vcpu qs).vcpu = a₂ ∙ ap (λ (u : Vcpu). (posted_of u qs).vcpu) a₁ in
    let b₃ : g₂ ≡ (posted_of (posted_of v ps).vcpu qs).posted = b₂ ∙ ap (λ (u : Vcpu). (posted_of u qs).posted) a₁ in
    subst (λ (z : Vcpu). InTwo z w₁ w₂ g g₁ g₂) (sym a)
    (subst (λ (z : Vcpu). InTwo (posted_of v (ps ++ qs)).vcpu z w₂ g g₁ g₂) (sym a₁)
    (subst (λ (z : Vcpu). InTwo (posted_of v (ps ++ qs)).vcpu (posted_of v ps).vcpu z g g₁ g₂) (sym a₃)
    (subst (λ (z : Posted). InTwo (posted_of v (ps ++ qs)).vcpu (posted_of v ps).vcpu (posted_of (posted_of v ps).vcpu qs).vcpu z g₁ g₂) (sym b)
    (subst (λ (z : Posted). InTwo (posted_of v (ps ++ qs)).vcpu (posted_of v ps).vcpu (posted_of (posted_of v ps).vcpu qs).vcpu (posted_of v (ps ++ qs)).posted z g₂) (sym b₁)
    (subst (λ (z : Posted). InTwo (posted_of v (ps ++ qs)).vcpu (posted_of v ps).vcpu (posted_of (posted_of v ps).vcpu qs).vcpu (posted_of v (ps ++ qs)).posted (posted_of v ps).posted z) (sym b₃)
    (value_in_two v ps qs))))))

pub lent_in_two : (v w w₁ w₂ : Vcpu) (g g₁ g₂ : Posted) (ps qs : List Post) → StoredRow v (ps ++ qs) w g → StoredRow v ps w₁ g₁ → StoredRow w₁ qs w₂ g₂ → InTwo w w₁ w₂ g g₁ g₂
lent_in_two v w w₁ w₂ g g₁ g₂ ps qs s s₁ s₂ =
    two_by_promise v w w₁ w₂ g g₁ g₂ ps qs s.0 s.1 s₁.0 s₁.1 s₂.0 s₂.1

pub words_in_two : (r s s₁ s₂ : Record) (g g₁ g₂ : Posted) (ps qs : List Post) → ExportedRow r (ps ++ qs) s g → ExportedRow r ps s₁ g₁ → ExportedRow s₁ qs s₂ g₂
    → InTwo (unpack_of s) (unpack_of s₁) (unpack_of s₂) g g₁ g₂
unfolding exported_row
words_in_two r s s₁ s₂ g g₁ g₂ ps qs x x₁ x₂ =
    two_by_promise (unpack_of r) (unpack_of s) (unpack_of s₁) (unpack_of s₂) g g₁ g₂ ps qs
    (ap unpack_of x.0 ∙ row_shows r (ps ++ qs)) x.1 (ap unpack_of x₁.0 ∙ row_shows r ps) x₁.1 (ap unpack_of x₂.0 ∙ row_shows s₁ qs) x₂.1

pub place_in_two : (r s s₁ s₂ : List ℕ) (g g₁ g₂ : Posted) (ps qs : List Post) → MadeRow r (ps ++ qs) s g → MadeRow r ps s₁ g₁ → MadeRow s₁ qs s₂ g₂
    → InTwo (view_of s) (view_of s₁) (view_of s₂) g g₁ g₂
place_in_two r s s₁ s₂ g g₁ g₂ ps qs m m₁ m₂ =
    two_by_promise (view_of r) (view_of s) (view_of s₁) (view_of s₂) g g₁ g₂ ps qs m.shows m.says m₁.shows m₁.says m₂.shows m₂.says

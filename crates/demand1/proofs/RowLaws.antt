-- A row of posts: when each number is given, how many are applied, and what a refused one leaves. 01, Refusals and errors by number;
-- 02, W4.
use Rattle.std.specs.Prelude.{ℕ, ◌+◌, Bool, true, false, List, [], ◌∷◌, ◌≡◌, refl, eqb}
use Rattle.std.proofs.Common.{add-zero, add_assoc, zero-add, arith, ap, sym, ◌∙◌}
use Rattle.isa_consts.specs.Csr.{vseip, vssip, vstip}
use Rattle.isa_consts.specs.Traps.{supervisor_external, supervisor_soft, supervisor_timer}
use Rattle.isa_types.specs.Pick.{and, not, or, pick}
use Rattle.scope.specs.Host.{hvip_bit_of}
use Rattle.scope.specs.Posts.{one_by_one, posted_of, row_of}
use Rattle.scope.specs.PostsLaws.{Free, hvip_by, post_applied, post_refused, row_free, row_refused, still_free, with_hvip}
use Rattle.scope.specs.Record.{waiting_ask}
use Rattle.scope.specs.Refusals.{error_number}
use Rattle.scope.specs.declared.hosts.Post.{Post}
use Rattle.scope.specs.declared.machine.RowOutcome.{RowOutcome}
use Rattle.scope.specs.declared.machine.Vcpu.{Vcpu}
use Rattle.scope.specs.declared.traps.Error.TheVariants as error
use Rattle.scope.specs.declared.traps.Error.{Error}
use Rattle.demand1.specs.When.{changing_when, is, leading, row_allowed, row_applies, row_when, vector_allowed}

-- a vector is allowed exactly where it stands for a bit

line_by : (s t x : Bool) → eqb (pick s vssip (pick t vstip (pick x vseip 0))) 0 ≡ not (or s (or t x))
line_by true t x = refl
line_by false true x = refl
line_by false false true = refl
line_by false false false = refl

pub no_line : (k : ℕ) → eqb (hvip_bit_of k) 0 ≡ not (vector_allowed k)
unfolding hvip_bit_of vector_allowed
no_line k = line_by (eqb k supervisor_soft) (eqb k supervisor_timer) (supervisor_external k)

line_at : (k : ℕ) (b : Bool) → vector_allowed k ≡ b → eqb (hvip_bit_of k) 0 ≡ not b
line_at k b h = no_line k ∙ ap not h

-- no error has the number 0
no_error : (e : Error) → eqb (error_number e) 0 ≡ false
unfolding error_number
no_error error.InvalidInput = refl
no_error error.BadState = refl
no_error error.Unsupported = refl
no_error error.InvalidTrap = refl
no_error error.DecodeFailed = refl
no_error error.GuestMemoryFault = refl
no_error error.WrongAnswer = refl

-- while no ask waits

stopped_gives : (e : Error) (v : Vcpu) (n : ℕ) (y : Error) → eqb (error_number e) (row_of v n (error_number y)).posted.refusal ≡ is e y
unfolding row_of is
stopped_gives e v n y = refl

post_gives : (e : Error) (v : Vcpu) (n : ℕ) (p : Post) (ps : List Post) (b : Bool) → Free v → vector_allowed p.vector ≡ b
    → ((h m : ℕ) → eqb (error_number e) (one_by_one m (with_hvip v h) ps).posted.refusal ≡ and (not (row_allowed ps)) (is e error.InvalidInput))
    → eqb (error_number e) (one_by_one n v (p ∷ ps)).posted.refusal ≡ and (not (and b (row_allowed ps))) (is e error.InvalidInput)
post_gives e v n p ps true f h more =
    ap (λ (o : RowOutcome). eqb (error_number e) o.posted.refusal) (post_applied v n p ps f (line_at p.vector true h)) ∙ more (hvip_by v p) (n + 1)
post_gives e v n p ps false f h more =
    ap (λ (o : RowOutcome). eqb (error_number e) o.posted.refusal) (post_refused v n p ps f (line_at p.vector false h)) ∙ stopped_gives e v n error.InvalidInput

posts_give : (e : Error) (v : Vcpu) (n : ℕ) (ps : List Post) → Free v → eqb (error_number e) (one_by_one n v ps).posted.refusal ≡ and (not (row_allowed ps)) (is e error.InvalidInput)
unfolding one_by_one row_of row_allowed
posts_give e v n [] f = no_error e
posts_give e v n (p ∷ ps) f =
    post_gives e v n p ps (vector_allowed p.vector) f refl (λ h m. posts_give e (with_hvip v h) m ps (still_free v h f))

post_applies : (v : Vcpu) (n : ℕ) (p : Post) (ps : List Post) (b : Bool) → Free v → vector_allowed p.vector ≡ b
    → ((h m : ℕ) → (one_by_one m (with_hvip v h) ps).posted.applied ≡ m + leading ps) → (one_by_one n v (p ∷ ps)).posted.applied ≡ n + pick b (1 + leading ps) 0
unfolding row_of
post_applies v n p ps true f h more =
    ap (λ (o : RowOutcome). o.posted.applied) (post_applied v n p ps f (line_at p.vector true h)) ∙ more (hvip_by v p) (n + 1) ∙ add_assoc n 1 (leading ps)
post_applies v n p ps false f h more =
    ap (λ (o : RowOutcome). o.posted.applied) (post_refused v n p ps f (line_at p.vector false h)) ∙ sym (add-zero n)

posts_apply : (v : Vcpu) (n : ℕ) (ps : List Post) → Free v → (one_by_one n v ps).posted.applied ≡ n + leading ps
unfolding one_by_one row_of leading
posts_apply v n [] f = sym (add-zero n)
posts_apply v n (p ∷ ps) f =
    post_applies v n p ps (vector_allowed p.vector) f refl (λ h m. posts_apply (with_hvip v h) m ps (still_free v h f))

-- the whole row: each number is given exactly where the table has it

when_by : (e : Error) (v : Vcpu) (ps : List Post) (t : Bool) → eqb (waiting_ask v.waiting) 0 ≡ t
    → eqb (error_number e) (posted_of v ps).posted.refusal ≡ pick t (and (not (row_allowed ps)) (is e error.InvalidInput)) (is e error.BadState)
when_by e v ps true h =
    let f : Free v = record { free = h } in
    ap (λ (o : RowOutcome). eqb (error_number e) o.posted.refusal) (row_free v ps f) ∙ posts_give e v 0 ps f
when_by e v ps false h =
    ap (λ (o : RowOutcome). eqb (error_number e) o.posted.refusal) (row_refused v ps h) ∙ stopped_gives e v 0 error.BadState

pub row_when_lem : (e : Error) (v : Vcpu) (ps : List Post) → eqb (error_number e) (posted_of v ps).posted.refusal ≡ row_when v ps e
unfolding row_when changing_when
row_when_lem e v ps = when_by e v ps (eqb (waiting_ask v.waiting) 0) refl

-- and so many are applied

applies_by : (v : Vcpu) (ps : List Post) (t : Bool) → eqb (waiting_ask v.waiting) 0 ≡ t → (posted_of v ps).posted.applied ≡ pick t (leading ps) 0
unfolding row_of
applies_by v ps true h =
    let f : Free v = record { free = h } in ap (λ (o : RowOutcome). o.posted.applied) (row_free v ps f) ∙ posts_apply v 0 ps f ∙ zero-add (leading ps)
applies_by v ps false h = ap (λ (o : RowOutcome). o.posted.applied) (row_refused v ps h)

pub row_applies_lem : (v : Vcpu) (ps : List Post) → (posted_of v ps).posted.applied ≡ row_applies v ps
unfolding row_applies
row_applies_lem v ps = applies_by v ps (eqb (waiting_ask v.waiting) 0) refl

-- a row that applies nothing leaves the record as it was: so one that is refused while an ask waits, and one whose first post is

some_more : {A : Type 0} (n : ℕ) → 1 + n ≡ 0 → A
some_more n h = absurd (omega (arith, h))

first_keeps : (v : Vcpu) (p : Post) (ps : List Post) (b : Bool) → Free v → vector_allowed p.vector ≡ b → pick b (1 + leading ps) 0 ≡ 0 → (one_by_one 0 v (p ∷ ps)).vcpu ≡ v
unfolding row_of
first_keeps v p ps true f h z = some_more (leading ps) z
first_keeps v p ps false f h z = ap (λ (o : RowOutcome). o.vcpu) (post_refused v 0 p ps f (line_at p.vector false h))

none_keeps : (v : Vcpu) (ps : List Post) → Free v → leading ps ≡ 0 → (one_by_one 0 v ps).vcpu ≡ v
unfolding one_by_one row_of leading
none_keeps v [] f z = refl
none_keeps v (p ∷ ps) f z = first_keeps v p ps (vector_allowed p.vector) f refl z

keeps_by : (v : Vcpu) (ps : List Post) (t : Bool) → eqb (waiting_ask v.waiting) 0 ≡ t → (posted_of v ps).posted.applied ≡ 0 → (posted_of v ps).vcpu ≡ v
unfolding row_of
keeps_by v ps true h z =
    let f : Free v = record { free = h } in
    ap (λ (o : RowOutcome). o.vcpu) (row_free v ps f) ∙ none_keeps v ps f (sym (applies_by v ps true h) ∙ z)
keeps_by v ps false h z = ap (λ (o : RowOutcome). o.vcpu) (row_refused v ps h)

pub none_applied_keeps_the_record : (v : Vcpu) (ps : List Post) → (posted_of v ps).posted.applied ≡ 0 → (posted_of v ps).vcpu ≡ v
none_applied_keeps_the_record v ps z = keeps_by v ps (eqb (waiting_ask v.waiting) 0) refl z

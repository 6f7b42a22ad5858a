-- The fold over hvip is the row of posts one by one.
use Rattle.std.specs.Prelude.{ℕ, ◌+◌, Bool, true, false, List, [], ◌∷◌, ◌≡◌, None, Some, refl, eqb}
use Rattle.std.proofs.Common.{ap, sym, ◌∙◌}
use Rattle.isa_registers.specs.Bits.{with_bits}
use Rattle.isa_types.specs.Pick.{pick}
use Rattle.scope.specs.Host.{hvip_bit_of}
use Rattle.scope.specs.Posts.{one_by_one, posted_of}
use Rattle.scope.specs.PostsLaws.{Free, hvip_by, post_applied, post_refused, row_free, row_refused, still_free, with_hvip}
use Rattle.scope.specs.Record.{pended, waiting_ask}
use Rattle.scope.specs.Refusals.{error_number}
use Rattle.scope.specs.Words.{tested}
use Rattle.scope.specs.declared.hosts.Post.{Post}
use Rattle.scope.specs.declared.machine.Vcpu.{Vcpu}
use Rattle.scope.specs.declared.traps.Error.TheVariants as error
use Rattle.decide_posts.specs.declared.Row.{Row}
use Rattle.decide_posts.specs.Fold.{applied_by, begun_by, begun_of, ended_of, fold_of, post_taken, refusal_number}
use Rattle.decide_posts.specs.FoldLaws.{stopped}

-- so many applied, and nothing stopped the row yet
abbrev going : ℕ → ℕ → Row
going h n = record { hvip = h; applied = n; refusal = None }

-- a turn of the fold

turn_refused : (h n : ℕ) (p : Post) → eqb (hvip_bit_of p.vector) 0 ≡ true → post_taken (going h n) p ≡ record { hvip = h; applied = n; refusal = Some (error_number error.InvalidInput) }
unfolding post_taken applied_by
turn_refused h n p e = rw e

turn_applied : (h n : ℕ) (p : Post) → eqb (hvip_bit_of p.vector) 0 ≡ false → post_taken (going h n) p ≡ going (with_bits h (hvip_bit_of p.vector) (tested p.level)) (n + 1)
unfolding post_taken applied_by
turn_applied h n p e = rw e

-- the posts that are left, from a record whose hvip is h, n of them applied

one : (v : Vcpu) (h n : ℕ) (p : Post) (ps : List Post) (t : Bool) → Free v → eqb (hvip_bit_of p.vector) 0 ≡ t
    → ((k m : ℕ) → one_by_one m (with_hvip v k) ps ≡ ended_of v (fold_of (going k m) ps)) → one_by_one n (with_hvip v h) (p ∷ ps) ≡ ended_of v (fold_of (post_taken (going h n) p) ps)
unfolding ended_of refusal_number with_hvip hvip_by pended error_number
one v h n p ps true f e more =
    post_refused (with_hvip v h) n p ps (still_free v h f) e
    ∙ sym (ap (ended_of v) (ap (λ (s : Row). fold_of s ps) (turn_refused h n p e) ∙ stopped (record { hvip = h; applied = n; refusal = Some (error_number error.InvalidInput) }) ps refl))
one v h n p ps false f e more =
    post_applied (with_hvip v h) n p ps (still_free v h f) e
    ∙ more (with_bits h (hvip_bit_of p.vector) (tested p.level)) (n + 1)
    ∙ sym (ap (λ (s : Row). ended_of v (fold_of s ps)) (turn_applied h n p e))

rest : (v : Vcpu) (h n : ℕ) (ps : List Post) → Free v → one_by_one n (with_hvip v h) ps ≡ ended_of v (fold_of (going h n) ps)
unfolding one_by_one fold_of ended_of refusal_number with_hvip
rest v h n [] f = refl
rest v h n (p ∷ ps) f = one v h n p ps (eqb (hvip_bit_of p.vector) 0) f refl (λ k m. rest v k m ps f)

-- the whole row

begun_by_lem : (v : Vcpu) (t : Bool) → eqb (waiting_ask v.waiting) 0 ≡ t → begun_of v ≡ record { hvip = v.csrs.hs.hvip; applied = 0; refusal = pick t None (Some (error_number error.BadState)) }
unfolding begun_of begun_by
begun_by_lem v t h = rw h

folded_by : (v : Vcpu) (ps : List Post) (t : Bool) → eqb (waiting_ask v.waiting) 0 ≡ t → posted_of v ps ≡ ended_of v (fold_of (begun_of v) ps)
unfolding ended_of refusal_number with_hvip pended error_number
folded_by v ps true h =
    let f : Free v = record { free = h } in
    row_free v ps f ∙ rest v v.csrs.hs.hvip 0 ps f ∙ sym (ap (λ (s : Row). ended_of v (fold_of s ps)) (begun_by_lem v true h))
folded_by v ps false h =
    row_refused v ps h
    ∙ sym (ap (ended_of v) (ap (λ (s : Row). fold_of s ps) (begun_by_lem v false h) ∙ stopped (record { hvip = v.csrs.hs.hvip; applied = 0; refusal = Some (error_number error.BadState) }) ps refl))

pub folded : (v : Vcpu) (ps : List Post) → posted_of v ps ≡ ended_of v (fold_of (begun_of v) ps)
folded v ps = folded_by v ps (eqb (waiting_ask v.waiting) 0) refl

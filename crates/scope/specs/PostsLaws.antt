-- Laws of a row of posts: what one post does to it, that only hvip changes, and that nothing but hvip and what waits is looked at.
use Rattle.std.specs.Prelude.{ℕ, ◌+◌, Bool, true, false, ◌≡◌, eqb}
use mathlib.Core.List.{List, [], ◌∷◌}
use Rattle.std.proofs.Math.Path.{refl}
use Rattle.std.proofs.Common.{ap, sym, ◌∙◌, subst}
use Rattle.isa_registers.specs.Bits.{with_bits}
use Rattle.isa_types.specs.Pick.{pick}
use Rattle.scope.specs.declared.hosts.Post.{Post}
use Rattle.scope.specs.declared.machine.Csrs.{Csrs}
use Rattle.scope.specs.declared.machine.Outcome.{Outcome}
use Rattle.scope.specs.declared.machine.RowOutcome.{RowOutcome}
use Rattle.scope.specs.declared.machine.Vcpu.{Vcpu}
use Rattle.scope.specs.declared.machine.Waiting.{Waiting}
use Rattle.scope.specs.declared.machine.Writes.TheVariants as writes
use Rattle.scope.specs.declared.traps.Error.TheVariants as error
use Rattle.scope.specs.declared.traps.Reply.TheVariants as reply
use Rattle.scope.specs.Calls.{base_of, called_of, effect_of}
use Rattle.scope.specs.Host.{hvip_bit_of, pending_effect}
use Rattle.scope.specs.Posts.{one_by_one, post_call, posted_of, row_of}
use Rattle.scope.specs.Record.{applied, bumped, counted, event_number, pended, stored, waiting_ask}
use Rattle.scope.specs.Refusals.{done_of, error_number, leaves_of, refusal, refused_of, refuses, unless_asking}
use Rattle.scope.specs.ReplyWords.{reply_number}
use Rattle.scope.specs.Words.{tested}

-- a record with another hvip
unfoldable pub with_hvip : Vcpu → ℕ → Vcpu
with_hvip v h = record { x = v.x; csrs = pended v.csrs h; counts = v.counts; waiting = v.waiting }

-- no ask waits
pub record Free (v : Vcpu) : Type 0 where
  pub free : eqb (waiting_ask v.waiting) 0 ≡ true

pub still_free : (v : Vcpu) (h : ℕ) → Free v → Free (with_hvip v h)
unfolding with_hvip
still_free v h f = record { free = f.free }

-- hvip after one post
unfoldable pub hvip_by : Vcpu → Post → ℕ
hvip_by v p = with_bits v.csrs.hs.hvip (hvip_bit_of p.vector) (tested p.level)

-- one post while no ask waits, by whether its vector stands for a bit

by_line : (v : Vcpu) (p : Post) (t : Bool) → Free v → eqb (hvip_bit_of p.vector) 0 ≡ t
    → called_of v (post_call p) ≡ applied v (pick t (refused_of v.csrs v.waiting error.InvalidInput) (done_of (pended v.csrs (hvip_by v p)) writes.Keep v.waiting))
unfolding called_of base_of effect_of post_call unless_asking pending_effect hvip_by
by_line v p t f h = rw (f.free, h)

pub single_refused : (v : Vcpu) (p : Post) → Free v → eqb (hvip_bit_of p.vector) 0 ≡ true → (called_of v (post_call p)).reply ≡ reply.Error error.InvalidInput
unfolding applied refused_of leaves_of
single_refused v p f h = ap (λ (o : Outcome). o.reply) (by_line v p true f h)

pub single_done : (v : Vcpu) (p : Post) → Free v → eqb (hvip_bit_of p.vector) 0 ≡ false → (called_of v (post_call p)).reply ≡ reply.Done
unfolding applied done_of
single_done v p f h = ap (λ (o : Outcome). o.reply) (by_line v p false f h)

pub single_leaves : (v : Vcpu) (p : Post) → Free v → eqb (hvip_bit_of p.vector) 0 ≡ false → (called_of v (post_call p)).vcpu ≡ with_hvip v (hvip_by v p)
unfolding applied stored counted bumped event_number done_of with_hvip
single_leaves v p f h = ap (λ (o : Outcome). o.vcpu) (by_line v p false f h)

-- and in a row

pub post_refused : (v : Vcpu) (n : ℕ) (p : Post) (ps : List Post) → Free v → eqb (hvip_bit_of p.vector) 0 ≡ true → one_by_one n v (p ∷ ps) ≡ row_of v n (error_number error.InvalidInput)
unfolding one_by_one applied refuses refusal reply_number refused_of leaves_of
post_refused v n p ps f h = rw (by_line v p true f h)

pub post_applied : (v : Vcpu) (n : ℕ) (p : Post) (ps : List Post) → Free v → eqb (hvip_bit_of p.vector) 0 ≡ false → one_by_one n v (p ∷ ps) ≡ one_by_one (n + 1) (with_hvip v (hvip_by v p)) ps
unfolding one_by_one applied stored counted bumped event_number refuses done_of with_hvip
post_applied v n p ps f h = rw (by_line v p false f h)

-- the whole row, by whether an ask waits

pub row_refused : (v : Vcpu) (ps : List Post) → eqb (waiting_ask v.waiting) 0 ≡ false → posted_of v ps ≡ row_of v 0 (error_number error.BadState)
unfolding posted_of
row_refused v ps h = rw h

pub row_free : (v : Vcpu) (ps : List Post) → Free v → posted_of v ps ≡ one_by_one 0 v ps
unfolding posted_of
row_free v ps f = rw f.free

-- only hvip changes

abbrev hvip_in : RowOutcome → ℕ
hvip_in o = o.vcpu.csrs.hs.hvip

record OnlyHvip (v : Vcpu) (o : RowOutcome) : Type 0 where
  only : o.vcpu ≡ with_hvip v (hvip_in o)

stopped_only : (v : Vcpu) (n m : ℕ) → OnlyHvip v (row_of v n m)
unfolding row_of with_hvip pended
stopped_only v n m = record { only = refl }

over_only : (v : Vcpu) (h : ℕ) (o : RowOutcome) → OnlyHvip (with_hvip v h) o → OnlyHvip v o
unfolding with_hvip pended
over_only v h o k = record { only = k.only }

post_only : (v : Vcpu) (n : ℕ) (p : Post) (ps : List Post) (t : Bool) → Free v → eqb (hvip_bit_of p.vector) 0 ≡ t
    → ((h m : ℕ) → OnlyHvip (with_hvip v h) (one_by_one m (with_hvip v h) ps)) → OnlyHvip v (one_by_one n v (p ∷ ps))
post_only v n p ps true f e more =
    subst (OnlyHvip v) (sym (post_refused v n p ps f e)) (stopped_only v n (error_number error.InvalidInput))
post_only v n p ps false f e more =
    subst (OnlyHvip v) (sym (post_applied v n p ps f e)) (over_only v (hvip_by v p) _ (more (hvip_by v p) (n + 1)))

posts_only : (v : Vcpu) (n : ℕ) (ps : List Post) → Free v → OnlyHvip v (one_by_one n v ps)
unfolding one_by_one
posts_only v n [] f = stopped_only v n 0
posts_only v n (p ∷ ps) f =
    post_only v n p ps (eqb (hvip_bit_of p.vector) 0) f refl (λ h m. posts_only (with_hvip v h) m ps (still_free v h f))

only_by : (v : Vcpu) (ps : List Post) (t : Bool) → eqb (waiting_ask v.waiting) 0 ≡ t → OnlyHvip v (posted_of v ps)
only_by v ps true h =
    let f : Free v = record { free = h } in subst (OnlyHvip v) (sym (row_free v ps f)) (posts_only v 0 ps f)
only_by v ps false h =
    subst (OnlyHvip v) (sym (row_refused v ps h)) (stopped_only v 0 (error_number error.BadState))

pub only_hvip : (v : Vcpu) (ps : List Post) → (posted_of v ps).vcpu ≡ with_hvip v (posted_of v ps).vcpu.csrs.hs.hvip
only_hvip v ps = (only_by v ps (eqb (waiting_ask v.waiting) 0) refl).only

-- so the registers, the counts and what waits stay

pub row_x : (v : Vcpu) (ps : List Post) → (posted_of v ps).vcpu.x ≡ v.x
unfolding with_hvip
row_x v ps = ap (λ (u : Vcpu). u.x) (only_hvip v ps)

pub row_counts : (v : Vcpu) (ps : List Post) → (posted_of v ps).vcpu.counts ≡ v.counts
unfolding with_hvip
row_counts v ps = ap (λ (u : Vcpu). u.counts) (only_hvip v ps)

pub row_waiting : (v : Vcpu) (ps : List Post) → (posted_of v ps).vcpu.waiting ≡ v.waiting
unfolding with_hvip
row_waiting v ps = ap (λ (u : Vcpu). u.waiting) (only_hvip v ps)

-- two records with the same CSRs and the same waiting: the rows give the same, and leave the same CSRs

pub record SameRow (o q : RowOutcome) : Type 0 where
  pub given : o.posted ≡ q.posted
  pub csrs : o.vcpu.csrs ≡ q.vcpu.csrs

module _ (x y k l : List ℕ) (w : Waiting) where
  abbrev left : Csrs → Vcpu
  left c = record { x = x; csrs = c; counts = k; waiting = w }

  abbrev right : Csrs → Vcpu
  right c = record { x = y; csrs = c; counts = l; waiting = w }

  same_end : (c : Csrs) (n m : ℕ) → SameRow (row_of (left c) n m) (row_of (right c) n m)
  unfolding row_of
  same_end c n m = record { given = refl; csrs = refl }

  free_right : (c : Csrs) → Free (left c) → Free (right c)
  free_right c f = record { free = f.free }

  next_left : (c : Csrs) (p : Post) → with_hvip (left c) (hvip_by (left c) p) ≡ left (pended c (hvip_by (left c) p))
  unfolding with_hvip
  next_left c p = refl

  next_right : (c : Csrs) (p : Post) → with_hvip (right c) (hvip_by (right c) p) ≡ right (pended c (hvip_by (left c) p))
  unfolding with_hvip hvip_by
  next_right c p = refl

  same_post : (c : Csrs) (n : ℕ) (p : Post) (ps : List Post) (t : Bool) → Free (left c) → eqb (hvip_bit_of p.vector) 0 ≡ t
      → ((d : Csrs) (m : ℕ) → SameRow (one_by_one m (left d) ps) (one_by_one m (right d) ps)) → SameRow (one_by_one n (left c) (p ∷ ps)) (one_by_one n (right c) (p ∷ ps))
  same_post c n p ps true f e more =
      subst (λ (o : RowOutcome). SameRow o (one_by_one n (right c) (p ∷ ps))) (sym (post_refused (left c) n p ps f e))
      (subst (SameRow (row_of (left c) n (error_number error.InvalidInput))) (sym (post_refused (right c) n p ps (free_right c f) e))
      (same_end c n (error_number error.InvalidInput)))
  same_post c n p ps false f e more =
      subst (λ (o : RowOutcome). SameRow o (one_by_one n (right c) (p ∷ ps))) (sym (post_applied (left c) n p ps f e ∙ ap (λ (v : Vcpu). one_by_one (n + 1) v ps) (next_left c p)))
      (subst (SameRow (one_by_one (n + 1) (left (pended c (hvip_by (left c) p))) ps)) (sym (post_applied (right c) n p ps (free_right c f) e ∙ ap (λ (v : Vcpu). one_by_one (n + 1) v ps) (next_right c p)))
      (more (pended c (hvip_by (left c) p)) (n + 1)))

  same_posts : (c : Csrs) (n : ℕ) (ps : List Post) → Free (left c) → SameRow (one_by_one n (left c) ps) (one_by_one n (right c) ps)
  unfolding one_by_one
  same_posts c n [] f = same_end c n 0
  same_posts c n (p ∷ ps) f =
      same_post c n p ps (eqb (hvip_bit_of p.vector) 0) f refl (λ d m. same_posts d m ps (record { free = f.free }))

  same_by : (c : Csrs) (ps : List Post) (t : Bool) → eqb (waiting_ask w) 0 ≡ t → SameRow (posted_of (left c) ps) (posted_of (right c) ps)
  same_by c ps true h =
      let f : Free (left c) = record { free = h } in
      subst (λ (o : RowOutcome). SameRow o (posted_of (right c) ps)) (sym (row_free (left c) ps f))
      (subst (SameRow (one_by_one 0 (left c) ps)) (sym (row_free (right c) ps (free_right c f))) (same_posts c 0 ps f))
  same_by c ps false h =
      subst (λ (o : RowOutcome). SameRow o (posted_of (right c) ps)) (sym (row_refused (left c) ps h))
      (subst (SameRow (row_of (left c) 0 (error_number error.BadState))) (sym (row_refused (right c) ps h)) (same_end c 0 (error_number error.BadState)))

pub same_row : (v u : Vcpu) (ps : List Post) → v.csrs ≡ u.csrs → v.waiting ≡ u.waiting → SameRow (posted_of v ps) (posted_of u ps)
same_row v u ps c w =
    subst (λ (d : Csrs). SameRow (posted_of v ps) (posted_of (record { x = u.x; csrs = d; counts = u.counts; waiting = u.waiting }) ps)) c
    (subst (λ (n : Waiting). SameRow (posted_of v ps) (posted_of (record { x = u.x; csrs = v.csrs; counts = u.counts; waiting = n }) ps)) w
    (same_by v.x u.x v.counts u.counts v.waiting v.csrs ps (eqb (waiting_ask v.waiting) 0) refl))

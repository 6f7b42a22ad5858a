-- A row of posts in one call, in the request's words, of every entry. 02, W4.
use Rattle.std.specs.Prelude.{ℕ, suc, ◌+◌, true, false, List, [], ◌∷◌, ◌≡◌, eqb}
use Rattle.isa_types.specs.Pick.{pick}
use Rattle.scope.specs.Calls.{called_of}
use Rattle.scope.specs.Posts.{post_call, row_of}
use Rattle.scope.specs.PostsLaws.{with_hvip}
use Rattle.scope.specs.Record.{waiting_ask}
use Rattle.scope.specs.declared.hosts.Post.{Post}
use Rattle.scope.specs.declared.hosts.Posted.{Posted}
use Rattle.scope.specs.declared.machine.RowOutcome.{RowOutcome}
use Rattle.scope.specs.declared.machine.Vcpu.{Vcpu}
use Rattle.scope.specs.declared.traps.Error.TheVariants as error
use Rattle.scope.specs.declared.traps.Reply.TheVariants as reply

-- from record v, these posts made one by one, each by 01's call for one interrupt, until one is refused: n were applied, refusal e
-- stopped them (0: none did), and u is the record left. A refused post changes nothing, and those behind it are not looked at
pub data OneByOne : Vcpu → List Post → ℕ → ℕ → Vcpu → Type 0 where
  none_left : {v : Vcpu} → OneByOne v [] 0 0 v
  refused : {v : Vcpu} {p : Post} {ps : List Post} → (called_of v (post_call p)).reply ≡ reply.Error error.InvalidInput → OneByOne v (p ∷ ps) 0 1 v
  applied : {v u : Vcpu} {p : Post} {ps : List Post} {n e : ℕ} → (called_of v (post_call p)).reply ≡ reply.Done
      → OneByOne (called_of v (post_call p)).vcpu ps n e u → OneByOne v (p ∷ ps) (suc n) e u

-- the request, of a row ps on record v that leaves u and gives g
pub record W4 (v : Vcpu) (ps : List Post) (u : Vcpu) (g : Posted) : Type 0 where
  -- 2 before the first post while an ask waits, for an empty row too, with 0 applied
  pub asking : eqb (waiting_ask v.waiting) 0 ≡ false → (u ≡ v) × (g ≡ record { applied = 0; refusal = 2 })
  -- else the outcome of the posts one by one in order
  pub one_by_one_lem : eqb (waiting_ask v.waiting) 0 ≡ true → OneByOne v ps g.applied g.refusal u
  -- and whatever is posted, nothing but hvip changes
  pub elsewhere : u ≡ with_hvip v u.csrs.hs.hvip

-- a row that is cut in two and posted in two calls: the second counts on from the first, unless the first was stopped

unfoldable pub in_two : RowOutcome → RowOutcome → RowOutcome
in_two o second = pick (eqb o.posted.refusal 0) (row_of second.vcpu (o.posted.applied + second.posted.applied) second.posted.refusal) o

-- the two of every entry: a row ps on v leaves w₁ and gives g₁, qs on w₁ leaves w₂ and gives g₂, and both in one call leave w and give g
pub record InTwo (w w₁ w₂ : Vcpu) (g g₁ g₂ : Posted) : Type 0 where
  pub whole : eqb g₁.refusal 0 ≡ true → (w ≡ w₂) × (g ≡ record { applied = g₁.applied + g₂.applied; refusal = g₂.refusal })
  pub stopped : eqb g₁.refusal 0 ≡ false → (w ≡ w₁) × (g ≡ g₁)

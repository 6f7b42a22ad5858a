-- A row made in place: hvip is one of the 58 words, and all others stay.
use Rattle.std.specs.Prelude.{ℕ, List, ◌≡◌, refl, drop, get_or, length, set}
use Rattle.std.proofs.Common.{ap, sym, ◌∙◌}
use Rattle.decide_posts.specs.Fold.{begun_of, ended_of, fold_of, given_of}
use Rattle.decide_posts.specs.RowLaws.{folded}
use Rattle.decide_posts.specs.declared.Row.{Row}
use Rattle.in_place_record.proofs.Shown.{over}
use Rattle.in_place_record.specs.View.{MadeRow, record_of, view_of}
use Rattle.scope.specs.Posts.{posted_of, row_of}
use Rattle.scope.specs.PostsLaws.{with_hvip}
use Rattle.scope.specs.Record.{pended}
use Rattle.scope.specs.Words.{csrs_of, unpack_of}
use Rattle.scope.specs.declared.hosts.Post.{Post}
use Rattle.scope.specs.declared.hosts.Posted.{Posted}
use Rattle.scope.specs.declared.machine.RowOutcome.{RowOutcome}

-- word 42 is hvip
pub hvip_word : (r : List ℕ) → length r ≡ 58 → get_or r 42 0 ≡ (view_of r).csrs.hs.hvip
unfolding view_of record_of unpack_of csrs_of
hvip_word r e = over (λ r. get_or r 42 0 ≡ (view_of r).csrs.hs.hvip) (λ k. refl) r e

hvip_shows : (r : List ℕ) (h : ℕ) → length r ≡ 58 → view_of (set r 42 h) ≡ with_hvip (view_of r) h
unfolding view_of record_of unpack_of csrs_of with_hvip pended
hvip_shows r h e =
    over (λ r. view_of (set r 42 h) ≡ with_hvip (view_of r) h) (λ k. refl) r e

waits_stay : (r : List ℕ) (h : ℕ) → length r ≡ 58 → drop 54 (set r 42 h) ≡ drop 54 r
waits_stay r h e = over (λ r. drop 54 (set r 42 h) ≡ drop 54 r) (λ k. refl) r e

-- what the three steps of the call leave and give is the row's
pub row_made : (entry r : List ℕ) (ps : List Post) (s row : Row) (g : Posted) → length entry ≡ 58 → s ≡ begun_of (view_of entry) → row ≡ fold_of s ps → r ≡ set entry 42 row.hvip → g ≡ given_of row → MadeRow entry ps r g
unfolding ended_of row_of given_of
row_made entry r ps s row g e begun folds left gives =
    let whole : posted_of (view_of entry) ps ≡ ended_of (view_of entry) row
    = folded (view_of entry) ps ∙ ap (λ (u : Row). ended_of (view_of entry) (fold_of u ps)) (sym begun) ∙ ap (ended_of (view_of entry)) (sym folds) in
    record {
      shows = ap view_of left ∙ hvip_shows entry row.hvip e ∙ ap (λ (o : RowOutcome). o.vcpu) (sym whole);
      waits = ap (drop 54) left ∙ waits_stay entry row.hvip e;
      says = gives ∙ ap (λ (o : RowOutcome). o.posted) (sym whole);
    }

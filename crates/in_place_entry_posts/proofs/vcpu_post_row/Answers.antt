-- The three steps of the call are the row.
use Rattle.std.proofs.Common.{◌≡◌, length, refl}
use borrow.Author.Rules.{rules}
use Rattle.decide_posts.specs.Fold.{begun_by, begun_of}
use Rattle.in_place_entry_posts.specs.Laws.{row_made}
use Rattle.in_place_entry_posts.proofs.vcpu_post_row.Goals as goal

pub fold-row-requires : goal.fold-row-requires
unfolding begun_of begun_by
fold-row-requires c = rw c.begin-s.ensures refl

pub returns : goal.returns
returns c =
    let long : length c.args.r.now ≡ 58 = search rules in
    row_made _ _ _ _ _ _ long c.begin-s.ensures c.fold-row.ensures c.finish.ensures.0 c.finish.ensures.1

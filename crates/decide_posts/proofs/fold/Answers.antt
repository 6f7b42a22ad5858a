-- A turn takes a post; the rest is folded from what it leaves. A row that was stopped stays.
use Rattle.std.proofs.Common.{◌∙◌, sym}
use Rattle.decide_posts.specs.FoldLaws.{at_end, going, stopped, turn, within}
use Rattle.decide_posts.proofs.fold.Goals as goal

pub loop-p-preserved : goal.loop-p-preserved
loop-p-preserved c =
    rw (c.apply-row.ensures, c.line_of.ensures, c.from_number.ensures)
    (record {
      folds =
          sym (turn c.loop-p.row _ c.args.posts.now c.loop-p.p-index c.loop-p-test.true (going c.loop-p.row _ (sym c.if-is_some.ensures)))
          ∙ c.loop-p.invariant.folds;
      applies = within c.loop-p.row _ _ c.loop-p.invariant.applies;
    })

pub returns-after-loop-p : goal.returns-after-loop-p
returns-after-loop-p c = sym (at_end c.loop-p.row c.args.posts.now c.loop-p.p-index c.loop-p-test.false) ∙ c.loop-p.invariant.folds

pub returns-then-is_some : goal.returns-then-is_some
returns-then-is_some c = sym (stopped c.loop-p.row _ (sym c.if-is_some.ensures)) ∙ c.loop-p.invariant.folds

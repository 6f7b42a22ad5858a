-- What is left of the row, folded from here, is the whole row folded; no more posts were applied than were looked at.
use Rattle.std.proofs.Common.{◌≡◌, ◌≤◌, drop}
use Rattle.decide_posts.specs.Fold.{fold_of}
use Rattle.decide_posts.proofs.fold.Given as goal

abbrev pub invariant-loop-p : goal.invariant-loop-p
invariant-loop-p l = record { folds : fold_of l.row (drop l.p-index l.posts) ≡ fold_of l.fn.s l.posts; applies : l.row.applied ≤ l.p-index }

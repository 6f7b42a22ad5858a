-- The words that a call or a row of posts leaves show its outcome.
use Rattle.std.specs.Prelude.{List, [], ◌∷◌, ◌≡◌, length}
use Rattle.scope.specs.declared.machine.Record.{Record}
use Rattle.scope.specs.Posts.{left_posted}
use Rattle.scope.specs.Words.{left_of}
use Rattle.demand3_table.specs.Turns.{Turn, call, post, print}

-- a record of words: 13 for the CSRs and four for what waits
pub record Sized (r : Record) : Type 0 where
  pub thirteen : length r.csrs ≡ 13
  pub four : length r.waiting ≡ 4

-- the record after a turn, in words, and after turns

unfoldable pub turn_left : Record → Turn → Record
turn_left r (call c) = left_of r c
turn_left r (print buffer) = r
turn_left r (post ps) = left_posted r ps

unfoldable pub left_after : Record → List Turn → Record
left_after r [] = r
left_after r (c ∷ cs) = left_after (turn_left r c) cs

-- The words of an answer: the ask's number, word and more. 01, One trap.
use Rattle.std.specs.Prelude.{ℕ, List, get_or}
use Rattle.in_place_answer.specs.declared.AnswerWords.{AnswerWords}

unfoldable pub answer_words : List ℕ → AnswerWords
answer_words a = record { ask = get_or a 0 0; word = get_or a 1 0; more = get_or a 2 0 }

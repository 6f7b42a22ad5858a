-- Every record has words: laid out in order, they show it.
use Rattle.std.specs.Prelude.{ℕ}
use mathlib.Core.List.{List, ◌++◌}
use Rattle.scope.specs.declared.machine.Vcpu.{Vcpu}
use Rattle.scope.specs.Words.{csrs_words, waiting_words}

-- the 58 words of a record
unfoldable pub words_of : Vcpu → List ℕ
words_of v = v.x ++ (csrs_words v.csrs ++ (v.counts ++ waiting_words v.waiting))

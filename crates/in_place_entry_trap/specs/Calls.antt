-- The calls of the entry for cost, from the words that they are given.
use Rattle.std.specs.Prelude.{ℕ, List}
use Rattle.scope.specs.declared.hosts.HostCall.{HostCall}
use Rattle.scope.specs.declared.hosts.HostCall.TheVariants as host_call
use Rattle.scope.specs.OneTrap.{answer_for}
use Rattle.in_place_start.specs.Words.{trap_words}
use Rattle.in_place_answer.specs.Words.{answer_words}

unfoldable pub start_call : List ℕ → HostCall
start_call t = host_call.Start (trap_words t)

unfoldable pub answer_call : List ℕ → HostCall
answer_call a = host_call.Answer (answer_for (answer_words a).ask (answer_words a).word (answer_words a).more)

-- Demand 1 in words, of every call: a refusal and a read leave every word; a trap that ends in an error changes no register's word
-- and no CSR's; and each number is given exactly where 01's table has it.
use Rattle.std.specs.Prelude.{◌≡◌}
use Rattle.scope.specs.declared.machine.Record.{Record}
use Rattle.scope.specs.declared.machine.Waiting.TheVariants as waiting
use Rattle.scope.specs.Words.{waiting_of}
use Rattle.demand1.specs.Whole.{Tallied}

-- a trap that ends in an error, from its start through its last answer, with refused calls, rows of posts while an ask waits, reads and
-- printing between: every word of a
-- register and of a CSR is as before, nothing waits, and the counts have at most one more of event 2
pub record OverWords (r s : Record) : Type 0 where
  pub x : s.x ≡ r.x
  pub csrs : s.csrs ≡ r.csrs
  pub waiting : waiting_of s.waiting ≡ waiting.Idle
  pub counts : Tallied r.counts s.counts

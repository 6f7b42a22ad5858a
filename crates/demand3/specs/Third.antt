-- Demand 3: two records alike except in one general register, and the same sequence of calls, lent buffers and answers on both.
-- The statement is Third; Alike is in Alike.antt, Untouched, seen_of, run_of and written in Runs.antt, the table in Table.antt.
use Rattle.std.specs.Prelude.{ℕ, true, false, List, ◌≡◌, get_or}
use Rattle.demand3_table.specs.Turns.{Turn}
use Rattle.scope.specs.declared.machine.Vcpu.{Vcpu}
use Rattle.demand3_table.specs.Runs.{run_of, seen_of, written}
use Rattle.demand3_table.specs.Alike.{Alike}

pub record Third (r : ℕ) (v w : Vcpu) (cs : List Turn) : Type 0 where
  -- all exits, host requests and refusals agree, with the hypercall array, the bytes printed and what a row of posts
  -- gives
  pub sights : seen_of v cs ≡ seen_of w cs
  -- counts, CSRs, the waiting part and the other registers agree
  pub alike : Alike r (run_of v cs) (run_of w cs)
  -- a call writes r on the one exactly when it does on the other
  pub writes : written r v cs ≡ written r w cs
  -- the register itself keeps each record's own content until a call writes it
  pub keeps : written r v cs ≡ false → (get_or (run_of v cs).x r 0 ≡ get_or v.x r 0) × (get_or (run_of w cs).x r 0 ≡ get_or w.x r 0)
  -- and agrees from then on: the two records are equal
  pub joins : written r v cs ≡ true → run_of v cs ≡ run_of w cs

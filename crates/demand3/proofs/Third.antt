-- Demand 3: two records alike except in one general register, and the same sequence of calls, lent buffers and answers on both.
-- The statement is Third; Alike is in Alike.antt, Untouched, seen_of, run_of and written in Runs.antt, the table in Table.antt.
use Rattle.std.specs.Prelude.{ℕ, List, ◌++◌}
use Rattle.demand3_table.specs.Turns.{Turn}
use Rattle.scope.specs.declared.machine.Vcpu.{Vcpu}
use Rattle.demand3_table.specs.Runs.{Untouched}
use Rattle.demand3_table.specs.Alike.{Alike}
use Rattle.demand3.proofs.Sequences as sequences
use Rattle.demand3.specs.Third.{Third}

-- if no trap in the sequence names r and no call reads it out, this holds after each of its beginnings
pub third : (r : ℕ) (v w : Vcpu) (front back : List Turn) → Alike r v w → Untouched r v (front ++ back) → Third r v w front
third r v w front back a u = whole r v w front a (sequences.beginning r v front back u)
  where
    whole : (r : ℕ) (v w : Vcpu) (cs : List Turn) → Alike r v w → Untouched r v cs → Third r v w cs
    whole r v w cs a u =
        record {
          sights = sequences.sights r v w cs a u;
          alike = sequences.ends r v w cs a u;
          writes = sequences.writes r v w cs a u;
          keeps = sequences.keeps r v w cs a u;
          joins = sequences.joins r v w cs a u;
        }

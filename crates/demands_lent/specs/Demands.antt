-- Demands 1 and 3, and the counts, of the entry over a lent record.
use Rattle.std.specs.Prelude.{ℕ, true, false, List, ◌≡◌, get_or}
use Rattle.scope.specs.declared.machine.Vcpu.{Vcpu}
use Rattle.demand3_table.specs.Alike.{Alike}
use Rattle.demand3_table.specs.Runs.{written}
use Rattle.demand3_table.specs.Turns.{Turn}
use Rattle.demands_lent.specs.Entries.{Back}

-- demand 3: two lent records alike except in register r, and the same turns on both, none of which names r or reads it out
pub record EntryThird (r : ℕ) (v w u t : Vcpu) (cs : List Turn) (gs hs : List Back) : Type 0 where
  pub given : gs ≡ hs
  pub alike : Alike r u t
  pub keeps : written r v cs ≡ false → (get_or u.x r 0 ≡ get_or v.x r 0) × (get_or t.x r 0 ≡ get_or w.x r 0)
  pub joins : written r v cs ≡ true → u ≡ t

-- Demand 3 in words: two records that are alike in every word but one register's, and the same turns on both, none of which names
-- it or reads it out.
use Rattle.std.specs.Prelude.{ℕ, true, false, List, ◌≡◌, get_or}
use Rattle.scope.specs.declared.machine.Record.{Record}
use Rattle.scope.specs.Words.{unpack_of}
use Rattle.demand3_table.specs.Alike.{Files}
use Rattle.demand3_table.specs.Runs.{seen_of, written}
use Rattle.demand3_table.specs.Turns.{Turn}
use Rattle.demands_words.specs.Left.{left_after}

-- the other registers, the CSRs, the counts and all four waiting words agree
pub record AlikeWords (k : ℕ) (r q : Record) : Type 0 where
  pub files : Files k r.x q.x
  pub csrs : r.csrs ≡ q.csrs
  pub counts : r.counts ≡ q.counts
  pub waiting : r.waiting ≡ q.waiting

pub record WordsThird (k : ℕ) (r q : Record) (cs : List Turn) : Type 0 where
  -- all exits, host requests and refusals agree, with what each carries, the hypercall array and what rows of posts give
  pub sights : seen_of (unpack_of r) cs ≡ seen_of (unpack_of q) cs
  -- every word but the register's agrees, the four of what waits too
  pub alike : AlikeWords k (left_after r cs) (left_after q cs)
  -- the register keeps each record's own content until a call writes it
  pub keeps : written k (unpack_of r) cs ≡ false
      → (get_or (left_after r cs).x k 0 ≡ get_or r.x k 0) × (get_or (left_after q cs).x k 0 ≡ get_or q.x k 0)
  -- and from then on every word agrees
  pub joins : written k (unpack_of r) cs ≡ true → left_after r cs ≡ left_after q cs

-- What the host's own calls do to the 58 words: their effect, written where the record lies. 01, The record.
use Rattle.std.specs.Prelude.{ℕ, List, ◌≡◌, set}
use Rattle.std.proofs.lemmas.List.Edits.{sets}
use Rattle.scope.specs.declared.machine.Effect.{Effect}
use Rattle.scope.specs.declared.machine.Event.TheVariants as event
use Rattle.scope.specs.declared.machine.Waiting.{Waiting}
use Rattle.scope.specs.declared.machine.Writes.{Writes}
use Rattle.scope.specs.declared.machine.Writes.TheVariants as writes
use Rattle.scope.specs.Words.{csrs_words}
use Rattle.in_place_record.specs.Rows.{put_word}

-- the registers that an effect writes
unfoldable pub write_words : List ℕ → Writes → List ℕ
write_words r writes.Keep = r
write_words r (writes.One i n) = put_word r i n
write_words r (writes.Pair a0 a1) = set (set r 10 a0) 11 a1

-- the 13 CSRs, then the registers
unfoldable pub host_words : List ℕ → Effect → List ℕ
host_words r e = write_words (sets r 32 (csrs_words e.csrs)) e.writes

-- an effect that counts nothing and leaves what waits: so are those of all the host's calls
pub record Keeps (e : Effect) (w : Waiting) : Type 0 where
  pub waits : e.waiting ≡ w
  pub quiet : e.event ≡ event.Quiet

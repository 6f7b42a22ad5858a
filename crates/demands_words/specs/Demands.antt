-- Demands 1 and 3, and the counts, of the entries that hosts call: in place, in all 58 words, and by words.
use Rattle.std.specs.Prelude.{ℕ, Bool, true, false, List, [], ◌∷◌, ◌≡◌, eqb, get_or, length}
use Rattle.isa_types.specs.Pick.{and, or}
use Rattle.scope.specs.declared.machine.Record.{Record}
use Rattle.scope.specs.ReplyWords.{reply_kind, reply_number, reply_values}
use Rattle.scope.specs.Words.{unpack_of}
use Rattle.words_call.specs.declared.ReplyWords.{ReplyWords}
use Rattle.in_place_record.specs.View.{record_of, view_of}
use Rattle.demand3_table.specs.Runs.{Sight, written}
use Rattle.demands_words.specs.Left.{left_after}
use Rattle.demands_words.specs.Places as places
use Rattle.demands_words.specs.Places.{Answered, Shown, Spoken, Use, shows_of, turns_in, turns_of}
use Rattle.demands_words.specs.Third.{AlikeWords}

-- a sequence in place leaves the words of that sequence, and shows what a host sees of it

pub record Ran (r : List ℕ) (cs : List Use) (u : List ℕ) : Type 0 where
  pub sized : length u ≡ 58
  pub left : record_of u ≡ left_after (record_of r) (turns_of cs)

-- what is shown, of what a host sees
unfoldable pub shown_for : List Use → List Sight → List Shown
shown_for [] ss = []
shown_for (c ∷ cs) [] = []
shown_for (c ∷ cs) (s ∷ ss) = shows_of c s ∷ shown_for cs ss

-- demand 1: a refusal leaves all 58 words as they were, and zeros for its reply

-- refusals 1, 2 and 7, by the word returned
unfoldable pub refusal_word : ℕ → Bool
refusal_word w = or (eqb w 0x101) (or (eqb w 0x102) (eqb w 0x107))

-- demand 3, in all 58 words: two that are alike but in register k, and the same calls and rows of posts on both, the same words lent and
-- lengths to print, none of which names k or reads it out
pub record PlaceThird (k : ℕ) (r q u t : List ℕ) (cs : List Use) (ws xs : List Shown) : Type 0 where
  pub shown : ws ≡ xs
  pub alike : AlikeWords k (record_of u) (record_of t)
  pub keeps : written k (view_of r) (turns_of cs) ≡ false
      → (get_or (record_of u).x k 0 ≡ get_or (record_of r).x k 0) × (get_or (record_of t).x k 0 ≡ get_or (record_of q).x k 0)
  pub joins : written k (view_of r) (turns_of cs) ≡ true → u ≡ t

unfoldable pub answered_by : Spoken → Sight → Answered
answered_by (places.called c) s = places.replied (record { kind = reply_kind s.reply; number = reply_number s.reply; values = reply_values s.reply; args = s.args })
answered_by (places.row ps) s = places.posted s.posted

unfoldable pub given_in : List Spoken → List Sight → List Answered
given_in [] ss = []
given_in (c ∷ cs) [] = []
given_in (c ∷ cs) (s ∷ ss) = answered_by c s ∷ given_in cs ss

-- refusals 1, 2 and 7, by the kind and the number given
unfoldable pub refusal_given : ReplyWords → Bool
refusal_given g = and (eqb g.kind 4) (or (eqb g.number 1) (or (eqb g.number 2) (eqb g.number 7)))

pub record EnteredThird (k : ℕ) (r q u t : Record) (cs : List Spoken) (gs hs : List Answered) : Type 0 where
  pub given : gs ≡ hs
  pub alike : AlikeWords k u t
  pub keeps : written k (unpack_of r) (turns_in cs) ≡ false → (get_or u.x k 0 ≡ get_or r.x k 0) × (get_or t.x k 0 ≡ get_or q.x k 0)
  pub joins : written k (unpack_of r) (turns_in cs) ≡ true → u ≡ t

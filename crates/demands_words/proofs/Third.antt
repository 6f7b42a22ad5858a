-- Demand 3 in words: two records that are alike in every word but one register's, and the same turns on both, none of which names
-- it or reads it out.
use Rattle.std.specs.Prelude.{ℕ, Bool, true, false, List, [], ◌∷◌, ◌≡◌, refl, get_or}
use Rattle.std.proofs.Math.Path.{ap, ap₂, subst}
use Rattle.std.proofs.Common.{sym, ◌∙◌}
use Rattle.isa_types.specs.Pick.{or}
use Rattle.scope.specs.Calls.{called_of}
use Rattle.scope.specs.declared.hosts.HostCall.{HostCall}
use Rattle.scope.specs.declared.machine.Record.{Record}
use Rattle.scope.specs.declared.machine.Vcpu.{Vcpu}
use Rattle.scope.specs.Posts.{left_posted}
use Rattle.scope.specs.Words.{csrs_of, csrs_words, laid_with, left_by, left_of, unpack_of, waiting_left, waiting_of}
use Rattle.demand3_table.specs.Alike.{Alike}
use Rattle.demand3_table.specs.Runs.{Untouched, run_of, sight_of, step_of, written, wrote_by}
use Rattle.demand3_table.specs.Turns.{Turn, call, post, print}
use Rattle.demand3.proofs.Sequences as sequences
use Rattle.demand3.proofs.Sequences.{next_alike, next_joined, sight_alike}
use Rattle.demands_words.specs.Left.{Sized, left_after, turn_left}
use Rattle.demands_words.proofs.Left.{turn_shows, turn_sized}
use Rattle.demands_words.specs.Third.{AlikeWords, WordsThird}

shows_alike : (k : ℕ) (r q : Record) → AlikeWords k r q → Alike k (unpack_of r) (unpack_of q)
unfolding unpack_of
shows_alike k r q a =
    record { files = a.files; csrs = ap csrs_of a.csrs; counts = a.counts; waiting = ap waiting_of a.waiting }

-- the words after a sequence show its record
pub after_run : (r : Record) (cs : List Turn) → Sized r → unpack_of (left_after r cs) ≡ run_of (unpack_of r) cs
unfolding left_after run_of
after_run r [] z = refl
after_run r (c ∷ cs) z =
    after_run (turn_left r c) cs (turn_sized r c z) ∙ ap (λ (v : Vcpu). run_of v cs) (turn_shows r c z)

-- one turn on both: the sights are one, and so are the waiting words that it leaves
module _ (k : ℕ) (r q : Record) (z : Sized r) (y : Sized q) (a : AlikeWords k r q) where
  abbrev v : Vcpu
  v = unpack_of r

  abbrev w : Vcpu
  w = unpack_of q

  alike : Alike k v w
  alike = shows_alike k r q a

  waits : (c : HostCall) → sight_of v (call c) ≡ sight_of w (call c) → Alike k (step_of v (call c)) (step_of w (call c))
      → waiting_left c r.waiting (called_of v c).reply (called_of v c).vcpu.waiting ≡ waiting_left c q.waiting (called_of w c).reply (called_of w c).vcpu.waiting
  unfolding sight_of step_of
  waits c sight next = λ i. waiting_left c (a.waiting i) (sight i).reply (next.waiting i)

  turn_alike : (c : Turn) → sight_of v c ≡ sight_of w c → Alike k (step_of v c) (step_of w c) → AlikeWords k (turn_left r c) (turn_left q c)
  unfolding turn_left left_of left_by left_posted laid_with step_of
  turn_alike (call c) sight next =
      record { files = next.files; csrs = ap csrs_words next.csrs; counts = next.counts; waiting = waits c sight next }
  turn_alike (print buffer) sight next = a
  turn_alike (post ps) sight next =
      record { files = next.files; csrs = ap csrs_words next.csrs; counts = next.counts; waiting = a.waiting }

  turn_joined : (c : Turn) → sight_of v c ≡ sight_of w c → Alike k (step_of v c) (step_of w c) → wrote_by k v c ≡ true → step_of v c ≡ step_of w c → turn_left r c ≡ turn_left q c
  unfolding turn_left left_of left_by wrote_by step_of
  turn_joined (call c) sight next h joined = ap₂ laid_with joined (waits c sight next)
  turn_joined (print buffer) sight next h joined = cc
  turn_joined (post ps) sight next h joined = cc

  module _ (c : Turn) (cs : List Turn) (u : Untouched k (unpack_of r) (c ∷ cs)) where
    next : Alike k (step_of v c) (step_of w c)
    unfolding Untouched
    next = next_alike k v w alike c u.0 u.1

    sight : sight_of v c ≡ sight_of w c
    unfolding Untouched
    sight = sight_alike k v w alike c u.0 u.1

    left_alike : AlikeWords k (turn_left r c) (turn_left q c)
    left_alike = turn_alike c sight next

    left_joined : wrote_by k v c ≡ true → turn_left r c ≡ turn_left q c
    unfolding Untouched
    left_joined h = turn_joined c sight next h (next_joined k v w alike c u.0 u.1 h)

    rest : Untouched k (unpack_of (turn_left r c)) cs
    unfolding Untouched
    rest = subst (λ (n : Vcpu). Untouched k n cs) (sym (turn_shows r c z)) u.2

alike_after : (k : ℕ) (r q : Record) (cs : List Turn) → Sized r → Sized q → AlikeWords k r q → Untouched k (unpack_of r) cs → AlikeWords k (left_after r cs) (left_after q cs)
unfolding left_after
alike_after k r q [] z y a u = a
alike_after k r q (c ∷ cs) z y a u =
    alike_after k (turn_left r c) (turn_left q c) cs (turn_sized r c z) (turn_sized q c y) (left_alike k r q z y a c cs u) (rest k r q z y a c cs u)

-- from the first write on every word agrees

from_then : (r q : Record) (cs : List Turn) (s t : Bool) → or s t ≡ true → (s ≡ true → r ≡ q) → (t ≡ true → left_after r cs ≡ left_after q cs) → left_after r cs ≡ left_after q cs
from_then r q cs true t h now later = ap (λ (z : Record). left_after z cs) (now refl)
from_then r q cs false t h now later = later h

joined_after : (k : ℕ) (r q : Record) (cs : List Turn) → Sized r → Sized q → AlikeWords k r q → Untouched k (unpack_of r) cs
    → written k (unpack_of r) cs ≡ true → left_after r cs ≡ left_after q cs
unfolding left_after written
joined_after k r q [] z y a u h = cc
joined_after k r q (c ∷ cs) z y a u h =
    from_then (turn_left r c) (turn_left q c) cs (wrote_by k (unpack_of r) c) (written k (step_of (unpack_of r) c) cs) h
    (left_joined k r q z y a c cs u)
    (λ t. joined_after k (turn_left r c) (turn_left q c) cs (turn_sized r c z) (turn_sized q c y) (left_alike k r q z y a c cs u) (rest k r q z y a c cs u)
    (ap (λ (n : Vcpu). written k n cs) (turn_shows r c z) ∙ t))

x_after : (r : Record) (cs : List Turn) (k : ℕ) → Sized r → get_or (left_after r cs).x k 0 ≡ get_or (run_of (unpack_of r) cs).x k 0
unfolding unpack_of
x_after r cs k z = ap (λ (v : Vcpu). get_or v.x k 0) (after_run r cs z)

x_here : (r : Record) (k : ℕ) → get_or (unpack_of r).x k 0 ≡ get_or r.x k 0
unfolding unpack_of
x_here r k = refl

pub words_third : (k : ℕ) (r q : Record) (cs : List Turn) → Sized r → Sized q → AlikeWords k r q → Untouched k (unpack_of r) cs → WordsThird k r q cs
words_third k r q cs z y a u =
    record {
      sights = sequences.sights k (unpack_of r) (unpack_of q) cs (shows_alike k r q a) u;
      alike = alike_after k r q cs z y a u;
      keeps = λ h.
          let both = sequences.keeps k (unpack_of r) (unpack_of q) cs (shows_alike k r q a) u h in
          (x_after r cs k z ∙ both.0 ∙ x_here r k, x_after q cs k y ∙ both.1 ∙ x_here q k);
      joins = joined_after k r q cs z y a u;
    }

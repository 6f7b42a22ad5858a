-- Words that show an outcome, and a register that is written among them.
use Rattle.std.specs.Prelude.{ℕ, ◌<◌, eqb, ltb, Bool, true, false, List, ◌≡◌, refl, length, set, take, drop}
use Rattle.std.proofs.Common.{arith, ltb-true, drop-set-lt, ap, subst, ◌∙◌}
use Rattle.std.proofs.Math.Seq.{take-set-lt}
use Rattle.isa_types.specs.Pick.{pick}
use Rattle.scope.specs.declared.machine.Writes.TheVariants as writes
use Rattle.scope.specs.declared.machine.Outcome.{Outcome}
use Rattle.scope.specs.declared.machine.Vcpu.{Vcpu}
use Rattle.scope.specs.Record.{stored}
use Rattle.scope.specs.Words.{csrs_of, unpack_of, waiting_of}
use Rattle.in_place_record.specs.Steps.{Laid}
use Rattle.in_place_record.specs.View.{record_of, view_of}
use Rattle.in_place_record.specs.Rows.{Leaves, Left, put_word}
use Rattle.in_place_record.specs.Spelled.{spelled}
use Rattle.in_place_record.proofs.Spelled.{spelled_out}

-- a function that leaves words which show an outcome shows it
pub made_by : {leaves : Outcome → List ℕ} {o : List ℕ} {outcome : Outcome} {l : Left} {r out : List ℕ} {word : ℕ} → Laid leaves o outcome l.rec l.out l.word → Leaves l r out word → Laid leaves o outcome r out word
made_by m l =
    record { shows = ap view_of l.rec ∙ m.shows; waits = ap (λ (k : List ℕ). drop 54 k) l.rec ∙ m.waits; says = l.word ∙ m.says; gives = l.out ∙ m.gives }

-- what holds of every record that is written out holds of all 58 words
pub over : (P : List ℕ → Type 0) → ((k : List ℕ) → P (spelled 58 0 k)) → (r : List ℕ) → length r ≡ 58 → P r
over P f r e = subst P (spelled_out r e) (f r)

-- two records are equal by their parts
pub same : {a b : Vcpu} → a.x ≡ b.x → a.csrs ≡ b.csrs → a.counts ≡ b.counts → a.waiting ≡ b.waiting → a ≡ b
same p q s t = λ i. record { x = p i; csrs = q i; counts = s i; waiting = t i }

-- a register that is written shows as one

set_shows : (s : List ℕ) (i n : ℕ) → i < 32
    → view_of (set s i n) ≡ record { x = set (view_of s).x i n; csrs = (view_of s).csrs; counts = (view_of s).counts; waiting = (view_of s).waiting }
unfolding view_of record_of unpack_of
set_shows s i n h =
    same (take-set-lt 32 s i n h) (ap (λ (l : List ℕ). csrs_of (take 13 l)) (drop-set-lt 32 s i n h))
    (ap (λ (l : List ℕ). take 9 l) (drop-set-lt 45 s i n (omega arith)))
    (ap (λ (l : List ℕ). waiting_of (take 4 l)) (drop-set-lt 54 s i n (omega arith)))

put_by : (s : List ℕ) (i n : ℕ) (b c : Bool) → ltb i 32 ≡ c
    → view_of (pick b s (pick c (set s i n) s))
    ≡ record { x = pick b (view_of s).x (pick c (set (view_of s).x i n) (view_of s).x); csrs = (view_of s).csrs; counts = (view_of s).counts; waiting = (view_of s).waiting }
put_by s i n true c e = refl
put_by s i n false true e = set_shows s i n (ltb-true i 32 e)
put_by s i n false false e = refl

pub put_shows : (s : List ℕ) (i n : ℕ)
    → view_of (put_word s i n)
    ≡ record { x = stored (view_of s).x (writes.One i n); csrs = (view_of s).csrs; counts = (view_of s).counts; waiting = (view_of s).waiting }
unfolding put_word stored
put_shows s i n = put_by s i n (eqb i 0) (ltb i 32) refl

-- and leaves the waiting words

keep_by : (s : List ℕ) (i n : ℕ) (b c : Bool) → ltb i 32 ≡ c → drop 54 (pick b s (pick c (set s i n) s)) ≡ drop 54 s
keep_by s i n true c e = refl
keep_by s i n false true e =
    let h : i < 32 = ltb-true i 32 e in drop-set-lt 54 s i n (omega arith)
keep_by s i n false false e = refl

pub put_keeps : (s : List ℕ) (i n : ℕ) → drop 54 (put_word s i n) ≡ drop 54 s
unfolding put_word
put_keeps s i n = keep_by s i n (eqb i 0) (ltb i 32) refl

-- Sequences of calls and rows of posts through the exported entries, by their promises alone: in place on 58 words, and by words.
use Rattle.std.specs.Prelude.{ℕ, List, [], ◌≡◌, refl, drop, length, take}
use Rattle.std.proofs.Common.{ap, ap₂, sym, ◌∙◌}
use Rattle.scope.specs.Calls.{base_of, called_of, effect_of, printable}
use Rattle.scope.specs.declared.hosts.HostCall.TheVariants as host_call
use Rattle.scope.specs.declared.hosts.HostCall.{HostCall}
use Rattle.scope.specs.declared.hosts.Post.{Post}
use Rattle.scope.specs.declared.machine.Record.{Record}
use Rattle.scope.specs.declared.machine.Vcpu.{Vcpu}
use Rattle.scope.specs.Posts.{left_posted, posted_of}
use Rattle.scope.specs.Record.{applied, bumped, counted, event_number, stored}
use Rattle.scope.specs.Refusals.{leaves_of}
use Rattle.scope.specs.Words.{csrs_of, csrs_words, laid_with, left_by, left_of, unpack_of, waiting_left}
use Rattle.in_place_record.proofs.Shown.{over}
use Rattle.in_place_record.proofs.Told.{all_there, last_four, left_four, told}
use Rattle.in_place_record.specs.View.{record_of, view_of}
use Rattle.demand3_table.specs.Runs.{sight_of, step_of}
use Rattle.demands_words.specs.Left.{Sized, turn_left}
use Rattle.demands_words.proofs.Left.{csrs_words_back}
use Rattle.demands_words.proofs.First.{print_leaves_the_words}
use Rattle.demands_words.specs.Places.{Leads, Shown, Step, Use, counts, does, gives, posts, shows_of, use_turn, value_in, words}

-- 58 words are a record of words

pub record_sized : (r : List ℕ) → length r ≡ 58 → Sized (record_of r)
unfolding record_of
record_sized r e =
    record {
      thirteen = over (λ r. length (take 13 (drop 32 r)) ≡ 13) (λ k. refl) r e;
      four = over (λ r. length (take 4 (drop 54 r)) ≡ 4) (λ k. refl) r e;
    }

last : (r : List ℕ) → length r ≡ 58 → (record_of r).waiting ≡ drop 54 r
unfolding record_of
last r e = over (λ r. take 4 (drop 54 r) ≡ drop 54 r) (λ k. refl) r e

-- two that are one record of words are the same 58 words
pub one_place : (r s : List ℕ) → length r ≡ 58 → length s ≡ 58 → record_of r ≡ record_of s → r ≡ s
unfolding view_of
one_place r s e f h = told r s e f (ap unpack_of h) (sym (last r e) ∙ ap (λ (k : Record). k.waiting) h ∙ last s f)

-- what is left in place is what the definition says

csrs_of_lem : (s : List ℕ) → csrs_of (record_of s).csrs ≡ (view_of s).csrs
unfolding view_of unpack_of
csrs_of_lem s = refl

x_of : (s : List ℕ) → (record_of s).x ≡ (view_of s).x
unfolding view_of unpack_of
x_of s = refl

counts_of : (s : List ℕ) → (record_of s).counts ≡ (view_of s).counts
unfolding view_of unpack_of
counts_of s = refl

-- 58 words that show a record, with these for what waits
laid_by : (s : List ℕ) (v : Vcpu) (w : List ℕ) → length s ≡ 58 → view_of s ≡ v → drop 54 s ≡ w → record_of s ≡ laid_with v w
unfolding laid_with view_of
laid_by s v w f shows waits =
    let csrs : (record_of s).csrs ≡ csrs_words v.csrs = sym (csrs_words_back (record_of s).csrs (record_sized s f).thirteen) ∙ ap csrs_words (csrs_of_lem s) ∙ ap (λ (u : Vcpu). csrs_words u.csrs) shows in
    λ i. record { x = (x_of s ∙ ap (λ (u : Vcpu). u.x) shows) i; csrs = csrs i; counts = (counts_of s ∙ ap (λ (u : Vcpu). u.counts) shows) i; waiting = (last s f ∙ waits) i }

left_by_lem : (r s : List ℕ) (c : HostCall) → length r ≡ 58 → length s ≡ 58 → view_of s ≡ (called_of (view_of r) c).vcpu
    → drop 54 s ≡ waiting_left c (drop 54 r) (called_of (view_of r) c).reply (called_of (view_of r) c).vcpu.waiting
    → record_of s ≡ left_of (record_of r) c
unfolding left_of left_by view_of
left_by_lem r s c e f shows waits =
    laid_by s _ _ f shows (waits ∙ ap (λ (w : List ℕ). waiting_left c w (called_of (view_of r) c).reply (called_of (view_of r) c).vcpu.waiting) (sym (last r e)))

row_by : (r s : List ℕ) (ps : List Post) → length r ≡ 58 → length s ≡ 58 → view_of s ≡ (posted_of (view_of r) ps).vcpu → drop 54 s ≡ drop 54 r → record_of s ≡ left_posted (record_of r) ps
unfolding left_posted view_of
row_by r s ps e f shows waits = laid_by s _ _ f shows (waits ∙ sym (last r e))

sized_by : (r s : List ℕ) (c : HostCall) → length r ≡ 58
    → drop 54 s ≡ waiting_left c (drop 54 r) (called_of (view_of r) c).reply (called_of (view_of r) c).vcpu.waiting → length s ≡ 58
sized_by r s c e waits = all_there s _ (left_four c (drop 54 r) _ _ (last_four r e)) waits

row_sized : (r s : List ℕ) → length r ≡ 58 → drop 54 s ≡ drop 54 r → length s ≡ 58
row_sized r s e waits = all_there s _ (last_four r e) waits

print_vcpu : (v : Vcpu) (n : ℕ) → (called_of v (host_call.ToPrint n)).vcpu ≡ v
unfolding called_of base_of effect_of leaves_of applied stored counted bumped event_number
print_vcpu v n = refl

print_value : (v : Vcpu) (n : ℕ) → value_in (called_of v (host_call.ToPrint n)).reply ≡ printable v.waiting n
unfolding called_of effect_of leaves_of applied value_in
print_value v n = refl

pub leads : {r s : List ℕ} {c : Use} {h : Shown} → length r ≡ 58 → Step r c s h → Leads r c s h
unfolding use_turn turn_left step_of sight_of shows_of
leads {r} {s} {c} {h} e (gives {c = k} m) =
    record {
      sized = sized_by r s k e m.waits;
      left = left_by_lem r s k e (sized_by r s k e m.waits) m.shows m.waits;
      shows = m.shows;
      says = ap₂ words m.gives m.says;
    }
leads {r} {s} {c} {h} e (does {c = k} d) =
    record {
      sized = sized_by r s k e d.waits;
      left = left_by_lem r s k e (sized_by r s k e d.waits) d.shows d.waits;
      shows = d.shows;
      says = ap (words []) d.says;
    }
leads {r} {s} {c} {h} e (counts {n = n} k) =
    record {
      sized = e;
      left = sym (print_leaves_the_words (record_of r) n (record_sized r e));
      shows = sym (print_vcpu (view_of r) n);
      says = ap (words []) (k ∙ sym (print_value (view_of r) n));
    }
leads {r} {s} {c} {h} e (posts {ps = ps} m) =
    record {
      sized = row_sized r s e m.waits;
      left = row_by r s ps e (row_sized r s e m.waits) m.shows m.waits;
      shows = m.shows;
      says = ap Shown.posted m.says;
    }

-- The words that a call or a row of posts leaves show its outcome.
use Rattle.std.specs.Prelude.{ℕ, ◌%◌, ◌^◌, Bool, true, false, List, ◌≡◌, refl, eqb, ltb, length, take}
use Rattle.std.proofs.Common.{arith, ap, subst, sym, ◌∙◌}
use Rattle.std.proofs.lemmas.List.Edits.{sets}
use Rattle.isa_types.specs.Pick.{pick}
use Rattle.scope.specs.Calls.{called_of, effect_of}
use Rattle.scope.specs.declared.hosts.HostCall.TheVariants as host_call
use Rattle.scope.specs.declared.hosts.HostCall.{HostCall}
use Rattle.scope.specs.declared.machine.Csrs.{Csrs}
use Rattle.scope.specs.declared.machine.EcallAsk.TheVariants as asked
use Rattle.scope.specs.declared.machine.EcallAsk.{EcallAsk}
use Rattle.scope.specs.declared.machine.Effect.{Effect}
use Rattle.scope.specs.declared.machine.Record.{Record}
use Rattle.scope.specs.declared.machine.Vcpu.{Vcpu}
use Rattle.scope.specs.declared.machine.Waiting.TheVariants as waiting
use Rattle.scope.specs.declared.machine.Waiting.{Waiting}
use Rattle.scope.specs.declared.machine.Writes.{Writes}
use Rattle.scope.specs.declared.traps.Error.TheVariants as error
use Rattle.scope.specs.declared.traps.Error.{Error}
use Rattle.scope.specs.Host.{hvip_bit_of, paging_by, paging_effect, pending_effect, write_effect}
use Rattle.scope.specs.declared.hosts.Post.{Post}
use Rattle.scope.specs.Posts.{left_posted, posted_of}
use Rattle.scope.specs.PostsLaws.{row_waiting}
use Rattle.scope.specs.Record.{applied, waiting_ask}
use Rattle.scope.specs.Refusals.{done_of, leaves_of, refused_of, refuses, unless_asking}
use Rattle.scope.specs.Words.{asked_word_count, asked_words, csrs_of, csrs_words, kind_word, laid_with, left_by, left_of, trap_left, unpack_of, waiting_by, waiting_count, waiting_left, waiting_of, waiting_words}
use Rattle.scope.specs.WordsLaws.{access_back, csrs_back, flag_back, waiting_back, width_back}
use Rattle.in_place_record.proofs.Shown.{same}
use Rattle.in_place_record.specs.Spelled.{spelled}
use Rattle.in_place_record.proofs.Spelled.{spelled_drop}
use Rattle.in_place_record.proofs.Told.{left_four}
use Rattle.demand1.proofs.Demand1.{refusal_keeps_the_record}
use Rattle.demand3_table.specs.Runs.{step_of}
use Rattle.demand3_table.specs.Turns.{Turn, call, post, print}
use Rattle.demands_words.specs.Left.{Sized, turn_left}

-- what holds of four words that are written out holds of four words
each_four : (P : List ℕ → Type 0) → ((k : List ℕ) → P (spelled 4 0 k)) → (w : List ℕ) → length w ≡ 4 → P w
each_four P f w e = subst P (spelled_drop 4 0 w (omega arith)) (f w)

-- what is written over the waiting words is read back

asked_over : (k : List ℕ) (a : EcallAsk) → waiting_of (sets (spelled 4 0 k) 0 (take (asked_word_count a) (asked_words a))) ≡ waiting.Ecall a
unfolding waiting_of waiting_by kind_word waiting_words asked_words asked_word_count
asked_over k asked.CopyMask = refl
asked_over k (asked.CopyIn n) = refl
asked_over k (asked.Print n) = refl
asked_over k (asked.ReadConsole n a) = refl
asked_over k (asked.CopyOut n) = refl
asked_over k asked.PutChar = refl
asked_over k asked.PutByte = refl
asked_over k asked.GetChar = refl
asked_over k asked.Forward = refl

spelled_over : (k : List ℕ) (n : Waiting) → waiting_of (sets (spelled 4 0 k) 0 (take (waiting_count n) (waiting_words n))) ≡ n
unfolding waiting_of waiting_by kind_word waiting_words waiting_count asked_words
spelled_over k waiting.Idle = refl
spelled_over k (waiting.Load r w s) = λ i. waiting.Load r (width_back w i) (flag_back s i)
spelled_over k waiting.FetchCsr = refl
spelled_over k (waiting.FetchFault a t) = λ i. waiting.FetchFault a (access_back t i)
spelled_over k (waiting.Ecall a) = asked_over k a

over_back : (w : List ℕ) → length w ≡ 4 → (n : Waiting) → waiting_of (sets w 0 (take (waiting_count n) (waiting_words n))) ≡ n
over_back w e n =
    each_four (λ w. waiting_of (sets w 0 (take (waiting_count n) (waiting_words n))) ≡ n) (λ k. spelled_over k n) w e

-- a host's own call leaves what waits

record Stays (n : Waiting) (e : Effect) : Type 0 where
  stays : e.waiting ≡ n

either_stays : (b : Bool) {e f : Effect} {n : Waiting} → Stays n e → Stays n f → Stays n (pick b e f)
either_stays true h k = h
either_stays false h k = k

done_stays : (c : Csrs) (w : Writes) (n : Waiting) → Stays n (done_of c w n)
unfolding done_of
done_stays c w n = record { stays = refl }

refused_stays : (c : Csrs) (n : Waiting) (x : Error) → Stays n (refused_of c n x)
unfolding refused_of leaves_of
refused_stays c n x = record { stays = refl }

guarded : (v : Vcpu) (e : Effect) → Stays v.waiting e → v.waiting ≡ (unless_asking v e).waiting
unfolding unless_asking
guarded v e h = sym (either_stays (eqb (waiting_ask v.waiting) 0) h (refused_stays v.csrs v.waiting error.BadState)).stays

write_stays : (c : Csrs) (n : Waiting) (index value : ℕ) → Stays n (write_effect c n index value)
unfolding write_effect
write_stays c n index value = either_stays (ltb index 32) (done_stays _ _ n) (refused_stays c n _)

by_stays : (c : Csrs) (n : Waiting) (wanted mode root : ℕ) → Stays n (paging_by c n wanted mode root)
unfolding paging_by
by_stays c n wanted mode root =
    either_stays (eqb mode wanted) (either_stays (eqb (root % 2 ^ 14) 0) (done_stays _ _ n) (refused_stays c n _)) (refused_stays c n _)

paging_stays : (c : Csrs) (n : Waiting) (levels mode root : ℕ) → Stays n (paging_effect c n levels mode root)
unfolding paging_effect
paging_stays c n levels mode root =
    either_stays (eqb levels 3) (by_stays c n 8 mode root) (either_stays (eqb levels 4) (by_stays c n 9 mode root) (refused_stays c n _))

pending_stays : (c : Csrs) (n : Waiting) (vector : ℕ) (on : Bool) → Stays n (pending_effect c n vector on)
unfolding pending_effect
pending_stays c n vector on =
    either_stays (eqb (hvip_bit_of vector) 0) (refused_stays c n _) (done_stays _ _ n)

-- the words of what waits, by a trap's reply
trap_waits : (r : Record) (c : HostCall) → length r.waiting ≡ 4 → (b : Bool) → refuses (called_of (unpack_of r) c).reply ≡ b
    → let n : Waiting = (called_of (unpack_of r) c).vcpu.waiting in
    waiting_of (pick b r.waiting (sets r.waiting 0 (take (waiting_count n) (waiting_words n)))) ≡ n
unfolding unpack_of
trap_waits r c e true h = ap (λ (u : Vcpu). u.waiting) (sym (refusal_keeps_the_record (unpack_of r) c h))
trap_waits r c e false h = over_back r.waiting e (called_of (unpack_of r) c).vcpu.waiting

as_read : (r : Record) → waiting_of r.waiting ≡ (unpack_of r).waiting
unfolding unpack_of
as_read r = refl

left_waits : (r : Record) (c : HostCall) → length r.waiting ≡ 4
    → waiting_of (waiting_left c r.waiting (called_of (unpack_of r) c).reply (called_of (unpack_of r) c).vcpu.waiting) ≡ (called_of (unpack_of r) c).vcpu.waiting
unfolding waiting_left trap_left called_of effect_of applied leaves_of
left_waits r (host_call.New hart tree) e = waiting_back (called_of (unpack_of r) (host_call.New hart tree)).vcpu.waiting
left_waits r host_call.Setup e = as_read r ∙ guarded (unpack_of r) _ (done_stays _ _ _)
left_waits r (host_call.SetEntry at) e = as_read r ∙ guarded (unpack_of r) _ (done_stays _ _ _)
left_waits r (host_call.GetGpr index) e = as_read r
left_waits r (host_call.SetGpr index value) e = as_read r ∙ guarded (unpack_of r) _ (write_stays _ _ index value)
left_waits r (host_call.SetReturnValue value) e = as_read r ∙ guarded (unpack_of r) _ (done_stays _ _ _)
left_waits r (host_call.SetNestedPageTable levels mode root) e = as_read r ∙ guarded (unpack_of r) _ (paging_stays _ _ levels mode root)
left_waits r (host_call.SetPending vector level) e = as_read r ∙ guarded (unpack_of r) _ (pending_stays _ _ vector level)
left_waits r (host_call.LatchHvip bits) e = as_read r ∙ guarded (unpack_of r) _ (done_stays _ _ _)
left_waits r (host_call.CompleteIpi abi completion) e = as_read r ∙ guarded (unpack_of r) _ (done_stays _ _ _)
left_waits r (host_call.Start t) e = trap_waits r (host_call.Start t) e _ refl
left_waits r (host_call.Answer a) e = trap_waits r (host_call.Answer a) e _ refl
left_waits r (host_call.CompleteLoad n) e = trap_waits r (host_call.CompleteLoad n) e _ refl
left_waits r (host_call.ToPrint length) e = as_read r

shown : (u : Vcpu) (w : List ℕ) → waiting_of w ≡ u.waiting → unpack_of (laid_with u w) ≡ u
unfolding unpack_of laid_with
shown u w h = same refl (csrs_back u.csrs) refl h

-- the words that a call leaves stand for the record of its outcome
pub left_shows : (r : Record) (c : HostCall) → Sized r → unpack_of (left_of r c) ≡ (called_of (unpack_of r) c).vcpu
unfolding left_of left_by
left_shows r c z = shown (called_of (unpack_of r) c).vcpu _ (left_waits r c z.four)

-- and are a record's again
pub left_sized : (r : Record) (c : HostCall) → Sized r → Sized (left_of r c)
unfolding left_of left_by laid_with csrs_words
left_sized r c z = record { thirteen = refl; four = left_four c r.waiting _ _ z.four }

-- the words of the CSRs are those that they are read off
pub csrs_words_back : (l : List ℕ) → length l ≡ 13 → csrs_words (csrs_of l) ≡ l
unfolding csrs_of csrs_words
csrs_words_back l e =
    subst (λ (k : List ℕ). csrs_words (csrs_of k) ≡ k) (spelled_drop 13 0 l (omega arith)) refl

-- a row leaves what waits, and so its words
pub row_shows : (r : Record) (ps : List Post) → unpack_of (left_posted r ps) ≡ (posted_of (unpack_of r) ps).vcpu
unfolding left_posted
row_shows r ps = shown (posted_of (unpack_of r) ps).vcpu r.waiting (as_read r ∙ sym (row_waiting (unpack_of r) ps))

pub turn_shows : (r : Record) (c : Turn) → Sized r → unpack_of (turn_left r c) ≡ step_of (unpack_of r) c
unfolding turn_left step_of
turn_shows r (call c) z = left_shows r c z
turn_shows r (print buffer) z = refl
turn_shows r (post ps) z = row_shows r ps

pub turn_sized : (r : Record) (c : Turn) → Sized r → Sized (turn_left r c)
unfolding turn_left left_posted laid_with csrs_words
turn_sized r (call c) z = left_sized r c z
turn_sized r (print buffer) z = z
turn_sized r (post ps) z = record { thirteen = refl; four = z.four }

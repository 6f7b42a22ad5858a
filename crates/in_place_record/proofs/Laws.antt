-- Through the view, what each class does to words is the effect of the same decision.
use Rattle.std.specs.Prelude.{ℕ, eqb, ltb, Bool, true, false, List, ◌≡◌, refl, get_or, length, set}
use Rattle.std.proofs.Common.{eqb-true, ltb-true, get_or-set_other, get_or-take, set-set, ap, sym, ◌∙◌}
use Rattle.std.proofs.lemmas.Bool.{eqb-false}
use Rattle.std.proofs.lemmas.List.{set-get_or}
use Rattle.isa_types.specs.Pick.{pick}
use Rattle.scope.specs.declared.traps.Access.{Access}
use Rattle.isa_types.specs.declared.GuestPhysAddr.{GuestPhysAddr}
use Rattle.scope.specs.declared.machine.Waiting.{Waiting}
use Rattle.scope.specs.Record.{value_of, applied}
use Rattle.scope.specs.declared.decided.SbiCall.{SbiCall}
use Rattle.scope.specs.Decided.{call_effect, answered_effect}
use Rattle.scope.specs.VirtualInstruction.{missed_effect, stimecmp_effect}
use Rattle.scope.specs.declared.decided.Missed.{Missed}
use Rattle.scope.specs.declared.decided.Stimecmp.{Stimecmp}
use Rattle.scope.specs.GuestPageFault.{fault_effect, completed_of}
use Rattle.scope.specs.declared.decided.Fault.{Fault}
use Rattle.scope.specs.declared.decided.Answered.{Answered}
use Rattle.scope.specs.Words.{csrs_of, unpack_of, waiting_by, waiting_of}
use Rattle.in_place_record.specs.Steps.{Settled, trap_leaves}
use Rattle.in_place_record.specs.View.{record_of, view_of}
use Rattle.in_place_record.specs.Rows.{answered_left, call_left, complete_word, complete_words, csr_left, fault_left, missed_left, put_word}
use Rattle.in_place_record.specs.Spelled.{spelled}
use Rattle.in_place_record.specs.Laws.{On, csrs_at}
use Rattle.in_place_record.proofs.Shown.{over}
use Rattle.in_place_record.proofs.EachRow.{answered_spelled, call_spelled, complete_spelled, csr_spelled, fault_spelled, missed_spelled}
use Rattle.scope.specs.Classes.{arguments_of}

-- an SBI call
pub call_made : (r o : List ℕ) → length r ≡ 58 → (d : SbiCall) → On r o (call_effect (view_of r).csrs (get_or r 17 0) (get_or r 16 0) (arguments_of r) d) (call_left r o d)
call_made r o e d =
    over (λ r. On r o (call_effect (view_of r).csrs (get_or r 17 0) (get_or r 16 0) (arguments_of r) d) (call_left r o d)) (λ k. call_spelled k o d) r e

-- a virtual instruction
pub csr_made : (r o : List ℕ) → length r ≡ 58 → (d : Stimecmp) → On r o (stimecmp_effect (view_of r).csrs d) (csr_left r o d)
csr_made r o e d = over (λ r. On r o (stimecmp_effect (view_of r).csrs d) (csr_left r o d)) (λ k. csr_spelled k o d) r e

-- a guest page fault
pub fault_made : (r o : List ℕ) → length r ≡ 58 → (at : GuestPhysAddr) (a : Access) (d : Fault) → On r o (fault_effect (view_of r).csrs at a d) (fault_left r o at a d)
fault_made r o e at a d = over (λ r. On r o (fault_effect (view_of r).csrs at a d) (fault_left r o at a d)) (λ k. fault_spelled k o at a d) r e

-- a failed fetch
pub missed_made : (r o : List ℕ) → length r ≡ 58 → (d : Missed) → On r o (missed_effect (view_of r).csrs d) (missed_left r o d)
missed_made r o e d = over (λ r. On r o (missed_effect (view_of r).csrs d) (missed_left r o d)) (λ k. missed_spelled k o d) r e

-- an answer to asks 2 to 9
pub answered_made : (r o : List ℕ) → length r ≡ 58 → (d : Answered) → On r o (answered_effect (view_of r).csrs d) (answered_left r o d)
answered_made r o e d = over (λ r. On r o (answered_effect (view_of r).csrs d) (answered_left r o d)) (λ k. answered_spelled k o d) r e

pub complete_done : (r : List ℕ) → length r ≡ 58 → (w : Waiting) (n : ℕ) → (view_of r).waiting ≡ w → Settled (trap_leaves r) (applied (view_of r) (completed_of (view_of r).csrs w n)) (complete_words r w n) (complete_word w)
complete_done r e w n =
    over (λ r. (view_of r).waiting ≡ w → Settled (trap_leaves r) (applied (view_of r) (completed_of (view_of r).csrs w n)) (complete_words r w n) (complete_word w)) (λ k. complete_spelled k w n) r e

-- what waits and the CSRs, word by word

waiting_spelled : (k : List ℕ) → let r : List ℕ = spelled 58 0 k in (view_of r).waiting ≡ waiting_by (get_or r 54 0) (get_or r 55 0) (get_or r 56 0) (get_or r 57 0)
unfolding view_of record_of unpack_of waiting_of
waiting_spelled k = refl

pub waiting_words_lem : (r : List ℕ) → length r ≡ 58 → waiting_by (get_or r 54 0) (get_or r 55 0) (get_or r 56 0) (get_or r 57 0) ≡ (view_of r).waiting
waiting_words_lem r e = over (λ r. waiting_by (get_or r 54 0) (get_or r 55 0) (get_or r 56 0) (get_or r 57 0) ≡ (view_of r).waiting) (λ k. sym (waiting_spelled k)) r e

csrs_spelled : (k : List ℕ) → let r : List ℕ = spelled 58 0 k in csrs_at r ≡ (view_of r).csrs
unfolding view_of record_of unpack_of csrs_of
csrs_spelled k = refl

pub csrs_words_lem : (r : List ℕ) → length r ≡ 58 → csrs_at r ≡ (view_of r).csrs
csrs_words_lem r e = over (λ r. csrs_at r ≡ (view_of r).csrs) csrs_spelled r e

-- a register written, and x0's slot with what it held

put_by_slot : (r : List ℕ) (i n : ℕ) (b : Bool) → eqb i 0 ≡ b → ltb i 32 ≡ true → set (set r i n) 0 (get_or r 0 0) ≡ pick b r (pick (ltb i 32) (set r i n) r)
put_by_slot r i n true e h =
    ap (λ (k : ℕ). set (set r k n) 0 (get_or r 0 0)) (eqb-true i 0 e) ∙ set-set r 0 n (get_or r 0 0) ∙ set-get_or r 0 0
put_by_slot r i n false e h =
    rw h (ap (set (set r i n) 0) (sym (get_or-set_other r i 0 n 0 (λ z. eqb-false i 0 e (sym z)))) ∙ set-get_or (set r i n) 0 0)

pub put_straight : (r : List ℕ) (i n : ℕ) → ltb i 32 ≡ true → set (set r i n) 0 (get_or r 0 0) ≡ put_word r i n
unfolding put_word
put_straight r i n h = put_by_slot r i n (eqb i 0) refl h

same_pick : (b : Bool) (r : List ℕ) → r ≡ pick b r r
same_pick true r = refl
same_pick false r = refl

pub put_beyond : (r : List ℕ) (i n : ℕ) → ltb i 32 ≡ false → r ≡ put_word r i n
unfolding put_word
put_beyond r i n h = rw h (same_pick (eqb i 0) r)

-- a register, read of the words or of the record

read_by_lem : (r : List ℕ) (i : ℕ) (b c : Bool) → ltb i 32 ≡ c → pick b 0 (pick c (get_or r i 0) 0) ≡ pick b 0 (pick c (get_or (view_of r).x i 0) 0)
unfolding view_of record_of unpack_of
read_by_lem r i true c e = refl
read_by_lem r i false true e = sym (get_or-take 32 r i 0 (ltb-true i 32 e))
read_by_lem r i false false e = refl

pub read_shows : (r : List ℕ) (i : ℕ) → value_of r i ≡ value_of (view_of r).x i
unfolding value_of
read_shows r i = read_by_lem r i (eqb i 0) (ltb i 32) refl

-- The promise tells all 58 words: the view and the waiting words leave none open.
use Rattle.std.specs.Prelude.{ℕ, suc, ◌-◌, Bool, true, false, List, [], ◌∷◌, ◌++◌, ◌≡◌, refl, drop, length, set, take}
use Rattle.std.proofs.Common.{arith, ap, ap₂, sym, ◌∙◌, length-drop, length-set}
use Rattle.std.proofs.lemmas.List.Edits.{sets}
use Rattle.isa_types.specs.Pick.{pick}
use Rattle.scope.specs.declared.machine.Vcpu.{Vcpu}
use Rattle.scope.specs.declared.hosts.HostCall.TheVariants as host_call
use Rattle.scope.specs.declared.hosts.HostCall.{HostCall}
use Rattle.scope.specs.declared.machine.EcallAsk.TheVariants as asked
use Rattle.scope.specs.declared.machine.EcallAsk.{EcallAsk}
use Rattle.scope.specs.declared.machine.Waiting.TheVariants as waiting
use Rattle.scope.specs.declared.machine.Waiting.{Waiting}
use Rattle.scope.specs.declared.traps.Reply.{Reply}
use Rattle.scope.specs.Refusals.{refuses}
use Rattle.scope.specs.Words.{asked_words, csrs_of, csrs_words, trap_left, unpack_of, waiting_count, waiting_left, waiting_words}
use Rattle.in_place_record.specs.View.{record_of, view_of}
use Rattle.in_place_record.proofs.Shown.{over}
use Rattle.in_place_record.specs.Spelled.{spelled}

-- the words of a record, and four waiting words
laid : Vcpu → List ℕ → List ℕ
laid v w = v.x ++ (csrs_words v.csrs ++ (v.counts ++ w))

laid_spelled : (k : List ℕ) → let r : List ℕ = spelled 58 0 k in laid (view_of r) (drop 54 r) ≡ r
unfolding laid view_of record_of unpack_of csrs_of csrs_words
laid_spelled k = refl

laid_back : (r : List ℕ) → length r ≡ 58 → laid (view_of r) (drop 54 r) ≡ r
laid_back r e = over (λ r. laid (view_of r) (drop 54 r) ≡ r) laid_spelled r e

-- 58 words are told by the record that they show and by their last four
pub told : (r s : List ℕ) → length r ≡ 58 → length s ≡ 58 → view_of r ≡ view_of s → drop 54 r ≡ drop 54 s → r ≡ s
told r s e f p q = sym (laid_back r e) ∙ ap₂ laid p q ∙ laid_back s f

-- what is left is 58 words, if what was there was

sets_length : (l : List ℕ) (i : ℕ) (vs : List ℕ) → length (sets l i vs) ≡ length l
sets_length l i [] = refl
sets_length l i (v ∷ vs) = sets_length (set l i v) (suc i) vs ∙ length-set l i v

pub last_four : (r : List ℕ) → length r ≡ 58 → length (drop 54 r) ≡ 4
last_four r e = length-drop 54 r ∙ ap (λ (n : ℕ). n - 54) e

pick_four : (b : Bool) (l m : List ℕ) → length l ≡ 4 → length m ≡ 4 → length (pick b l m) ≡ 4
pick_four true l m e f = e
pick_four false l m e f = f

asked_four : (a : EcallAsk) → length (asked_words a) ≡ 4
unfolding asked_words
asked_four asked.CopyMask = refl
asked_four (asked.CopyIn n) = refl
asked_four (asked.Print n) = refl
asked_four (asked.ReadConsole n a) = refl
asked_four (asked.CopyOut n) = refl
asked_four asked.PutChar = refl
asked_four asked.PutByte = refl
asked_four asked.GetChar = refl
asked_four asked.Forward = refl

waiting_four : (n : Waiting) → length (waiting_words n) ≡ 4
unfolding waiting_words
waiting_four waiting.Idle = refl
waiting_four (waiting.Load r w s) = refl
waiting_four waiting.FetchCsr = refl
waiting_four (waiting.FetchFault a k) = refl
waiting_four (waiting.Ecall a) = asked_four a

trap_four : (w : List ℕ) (p : Reply) (n : Waiting) → length w ≡ 4 → length (trap_left w p n) ≡ 4
unfolding trap_left
trap_four w p n e = pick_four (refuses p) _ _ e (sets_length w 0 (take (waiting_count n) (waiting_words n)) ∙ e)

-- every call leaves four waiting words of four
pub left_four : (c : HostCall) (w : List ℕ) (p : Reply) (n : Waiting) → length w ≡ 4 → length (waiting_left c w p n) ≡ 4
unfolding waiting_left
left_four (host_call.New hart tree) w p n e = waiting_four n
left_four host_call.Setup w p n e = e
left_four (host_call.SetEntry at) w p n e = e
left_four (host_call.GetGpr index) w p n e = e
left_four (host_call.SetGpr index value) w p n e = e
left_four (host_call.SetReturnValue value) w p n e = e
left_four (host_call.SetNestedPageTable levels mode root) w p n e = e
left_four (host_call.SetPending vector level) w p n e = e
left_four (host_call.LatchHvip bits) w p n e = e
left_four (host_call.CompleteIpi abi completion) w p n e = e
left_four (host_call.Start t) w p n e = trap_four w p n e
left_four (host_call.Answer a) w p n e = trap_four w p n e
left_four (host_call.CompleteLoad number) w p n e = trap_four w p n e
left_four (host_call.ToPrint n') w p n e = e

pub all_there : (r w : List ℕ) → length w ≡ 4 → drop 54 r ≡ w → length r ≡ 58
all_there r w e f =
    let h : length r - 54 ≡ 4 = sym (length-drop 54 r) ∙ ap (λ (l : List ℕ). length l) f ∙ e in omega arith

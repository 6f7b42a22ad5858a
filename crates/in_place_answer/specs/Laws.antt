-- The answers on words, each shown as the effect of the by-value step.
use Rattle.std.specs.Prelude.{ℕ, ◌<◌, ◌≤◌, Bool, true, false, List, ◌≡◌, refl, drop, get_or, length, eqb}
use Rattle.std.proofs.Common.{ap, sym, subst, ◌∙◌, arith, eqb-true, ne_eqb}
use Rattle.scope.specs.OneTrap.{answer_for, answer_number, answer_values, fetch_of}
use Rattle.scope.specs.Refusals.{error_number, refused_of, leaves_of}
use Rattle.scope.specs.declared.traps.Error.TheVariants as error
use Rattle.scope.specs.declared.traps.Fetch.{Fetch}
use Rattle.scope.specs.declared.traps.Fetch.TheVariants as fetch
use Rattle.isa_fields.specs.Fields.{rs1_field}
use Rattle.scope.specs.declared.machine.Csrs.{Csrs}
use Rattle.scope.specs.declared.machine.Effect.{Effect}
use Rattle.scope.specs.declared.machine.Outcome.{Outcome}
use Rattle.scope.specs.declared.machine.Vcpu.{Vcpu}
use Rattle.scope.specs.declared.machine.Waiting.{Waiting}
use Rattle.scope.specs.declared.machine.Waiting.TheVariants as waiting
use Rattle.scope.specs.Record.{bumped, counted, event_number, listed, stored, value_of, waiting_ask, applied, no_args, ecall_ask_number}
use Rattle.scope.specs.VirtualInstruction.{missed_effect, missed_of, stimecmp_effect, stimecmp_word}
use Rattle.scope.specs.Decided.{answered_effect}
use Rattle.scope.specs.Answers.{answer_effect, fitting_effect, fetch_effect, numbers_effect, values_effect}
use Rattle.scope.specs.Calls.{base_of, called_of, effect_of}
use Rattle.scope.specs.declared.hosts.HostCall.TheVariants as host_call
use Rattle.in_place_record.specs.Steps.{Laid, Settled, out_over, trap_leaves}
use Rattle.in_place_record.specs.View.{view_of}
use Rattle.scope.specs.ReplyWords.{reply_word}
use Rattle.scope.specs.Words.{trap_left}
use Rattle.scope.specs.Refusals.{refusal, refuses}
use Rattle.in_place_record.specs.Rows.{Leaves, answered_left, csr_left, missed_left}
use Rattle.in_place_record.specs.Laws.{On}
use Rattle.in_place_record.proofs.Laws.{answered_made, missed_made}
use Rattle.in_place_record.proofs.Shown.{made_by, same}
use Rattle.in_place_read.specs.Laws.{csr_by}
use Rattle.scope.specs.declared.decided.Answered.{Answered}
use Rattle.scope.specs.declared.machine.EcallAsk.{EcallAsk}
use Rattle.scope.specs.declared.machine.EcallAsk.TheVariants as asked
use Rattle.scope.specs.Ecalls.{ecall_answer}

-- words that show an outcome, left by a function
pub done_by : {leaves : Outcome → List ℕ} {outcome : Outcome} {r s : List ℕ} {w n : ℕ} → Settled leaves outcome r w → (s ≡ r) × (n ≡ w) → Settled leaves outcome s n
done_by d e =
    record { shows = ap view_of e.0 ∙ d.shows; waits = ap (λ (k : List ℕ). drop 54 k) e.0 ∙ d.waits; says = e.1 ∙ d.says }

-- a CSR instruction that was fetched
pub word_made : (r o : List ℕ) → length r ≡ 58 → (w : ℕ)
    → On r o (stimecmp_effect (view_of r).csrs (stimecmp_word w (view_of r).csrs.vs.vstimecmp (value_of (view_of r).x (rs1_field w)))) (csr_left r o (stimecmp_word w (get_or r 40 0) (value_of r (rs1_field w))))
word_made r o e w = csr_by r o e (λ old rs1. stimecmp_word w old rs1) (rs1_field w)

-- a refusal leaves every word
pub refused_made : (r o : List ℕ) (w : Waiting) → w ≡ (view_of r).waiting → Laid (trap_leaves r) o (applied (view_of r) (refused_of (view_of r).csrs w error.WrongAnswer)) r o 0x107
unfolding applied refused_of leaves_of no_args stored counted bumped event_number listed reply_word out_over error_number trap_leaves trap_left refuses refusal
refused_made r o w e = record { shows = same refl refl refl (sym e); waits = refl; says = refl; gives = refl }

-- an answer of another ask's kind, or of no ask's

low : (ask n : ℕ) → n ≡ ask → 1 < ask → n ≤ 1 → ⊥
low ask n e h l = omega arith

-- no ask has number 10
ecall_below : (a : EcallAsk) → eqb (ecall_ask_number a) 10 ≡ false
unfolding ecall_ask_number
ecall_below asked.CopyMask = refl
ecall_below (asked.CopyIn n) = refl
ecall_below (asked.Print n) = refl
ecall_below (asked.ReadConsole n at) = refl
ecall_below (asked.CopyOut n) = refl
ecall_below asked.PutChar = refl
ecall_below asked.PutByte = refl
ecall_below asked.GetChar = refl
ecall_below asked.Forward = refl

ask_below : (n : Waiting) → eqb (waiting_ask n) 10 ≡ false
unfolding waiting_ask
ask_below waiting.Idle = refl
ask_below (waiting.Load rd w s) = refl
ask_below waiting.FetchCsr = refl
ask_below (waiting.FetchFault at k) = refl
ask_below (waiting.Ecall a) = ecall_below a

-- the number of an answer made for `ask`: the ask's own, which is not 0, or 10, which is no ask's
data Number (ask n : ℕ) : Type 0 where
  own : n ≡ ask → eqb 0 n ≡ false → Number ask n
  none : n ≡ 10 → Number ask n

number_by : (ask a b : ℕ) (t₁ t₂ t₃ t₄ t₅ t₆ t₇ t₈ t₉ : Bool)
    → eqb ask 1 ≡ t₁ → eqb ask 2 ≡ t₂ → eqb ask 3 ≡ t₃ → eqb ask 4 ≡ t₄ → eqb ask 5 ≡ t₅ → eqb ask 6 ≡ t₆ → eqb ask 7 ≡ t₇ → eqb ask 8 ≡ t₈ → eqb ask 9 ≡ t₉
    → Number ask (answer_number (answer_for ask a b))
unfolding answer_for answer_number
number_by ask a b true t₂ t₃ t₄ t₅ t₆ t₇ t₈ t₉ e₁ e₂ e₃ e₄ e₅ e₆ e₇ e₈ e₉ = own (simp (e₁) (sym (eqb-true ask 1 e₁))) (simp (e₁))
number_by ask a b false true t₃ t₄ t₅ t₆ t₇ t₈ t₉ e₁ e₂ e₃ e₄ e₅ e₆ e₇ e₈ e₉ = own (simp (e₁, e₂) (sym (eqb-true ask 2 e₂))) (simp (e₁, e₂))
number_by ask a b false false true t₄ t₅ t₆ t₇ t₈ t₉ e₁ e₂ e₃ e₄ e₅ e₆ e₇ e₈ e₉ = own (simp (e₁, e₂, e₃) (sym (eqb-true ask 3 e₃))) (simp (e₁, e₂, e₃))
number_by ask a b false false false true t₅ t₆ t₇ t₈ t₉ e₁ e₂ e₃ e₄ e₅ e₆ e₇ e₈ e₉ = own (simp (e₁, e₂, e₃, e₄) (sym (eqb-true ask 4 e₄))) (simp (e₁, e₂, e₃, e₄))
number_by ask a b false false false false true t₆ t₇ t₈ t₉ e₁ e₂ e₃ e₄ e₅ e₆ e₇ e₈ e₉ = own (simp (e₁, e₂, e₃, e₄, e₅) (sym (eqb-true ask 5 e₅))) (simp (e₁, e₂, e₃, e₄, e₅))
number_by ask a b false false false false false true t₇ t₈ t₉ e₁ e₂ e₃ e₄ e₅ e₆ e₇ e₈ e₉ = own (simp (e₁, e₂, e₃, e₄, e₅, e₆) (sym (eqb-true ask 6 e₆))) (simp (e₁, e₂, e₃, e₄, e₅, e₆))
number_by ask a b false false false false false false true t₈ t₉ e₁ e₂ e₃ e₄ e₅ e₆ e₇ e₈ e₉ = own (simp (e₁, e₂, e₃, e₄, e₅, e₆, e₇) (sym (eqb-true ask 7 e₇))) (simp (e₁, e₂, e₃, e₄, e₅, e₆, e₇))
number_by ask a b false false false false false false false true t₉ e₁ e₂ e₃ e₄ e₅ e₆ e₇ e₈ e₉ = own (simp (e₁, e₂, e₃, e₄, e₅, e₆, e₇, e₈) (sym (eqb-true ask 8 e₈))) (simp (e₁, e₂, e₃, e₄, e₅, e₆, e₇, e₈))
number_by ask a b false false false false false false false false true e₁ e₂ e₃ e₄ e₅ e₆ e₇ e₈ e₉ = own (simp (e₁, e₂, e₃, e₄, e₅, e₆, e₇, e₈, e₉) (sym (eqb-true ask 9 e₉))) (simp (e₁, e₂, e₃, e₄, e₅, e₆, e₇, e₈, e₉))
number_by ask a b false false false false false false false false false e₁ e₂ e₃ e₄ e₅ e₆ e₇ e₈ e₉ = none (simp (e₁, e₂, e₃, e₄, e₅, e₆, e₇, e₈, e₉))

answer_number_lem : (ask a b : ℕ) → Number ask (answer_number (answer_for ask a b))
answer_number_lem ask a b =
    number_by ask a b (eqb ask 1) (eqb ask 2) (eqb ask 3) (eqb ask 4) (eqb ask 5) (eqb ask 6) (eqb ask 7) (eqb ask 8) (eqb ask 9) refl refl refl refl refl refl refl refl refl

-- so one of another number than the ask that waits does not fit, and where no ask waits none does
unfit_by : (n : Waiting) {ask m : ℕ} → Number ask m → eqb (waiting_ask n) ask ≡ false → eqb (waiting_ask n) m ≡ false
unfit_by n (own e z) h = ap (λ (k : ℕ). eqb (waiting_ask n) k) e ∙ h
unfit_by n (none e) h = ap (λ (k : ℕ). eqb (waiting_ask n) k) e ∙ ask_below n

no_zero_by : {ask m : ℕ} → Number ask m → eqb 0 m ≡ false
no_zero_by (own e z) = z
no_zero_by (none e) = ap (λ (k : ℕ). eqb 0 k) e

unfit : (n : Waiting) (ask a b : ℕ) → eqb (waiting_ask n) ask ≡ false → eqb (waiting_ask n) (answer_number (answer_for ask a b)) ≡ false
unfit n ask a b h = unfit_by n (answer_number_lem ask a b) h

no_zero : (ask a b : ℕ) → eqb 0 (answer_number (answer_for ask a b)) ≡ false
no_zero ask a b = no_zero_by (answer_number_lem ask a b)

pub wrong_made : (r o : List ℕ) (ask a b : ℕ) → eqb (waiting_ask (view_of r).waiting) ask ≡ false → Laid (trap_leaves r) o (called_of (view_of r) (host_call.Answer (answer_for ask a b))) r o 0x107
unfolding called_of base_of effect_of answer_effect
wrong_made r o ask a b e = rw (unfit (view_of r).waiting ask a b e) (refused_made r o (view_of r).waiting refl)

-- to the fetch that waits
pub fetch_called : (v : Vcpu) (a b : ℕ) → waiting_ask v.waiting ≡ 1 → applied v (fetch_effect v.x v.csrs v.waiting (fetch_of a b)) ≡ called_of v (host_call.Answer (answer_for 1 a b))
unfolding called_of base_of effect_of answer_effect answer_number fitting_effect answer_for
fetch_called v a b e = rw e

-- to the ecall that waits

numbers_by : (x k : List ℕ) (c : Csrs) (w : Waiting) (ask a b : ℕ) → waiting_ask w ≡ ask → 1 < ask →
    let v : Vcpu = record { x = x; csrs = c; counts = k; waiting = w } in
    applied v (numbers_effect c w a b) ≡ called_of v (host_call.Answer (answer_for ask a b))
unfolding called_of base_of effect_of answer_effect answer_number answer_values fitting_effect values_effect answer_for waiting_ask ecall_ask_number numbers_effect ecall_answer
numbers_by x k c waiting.Idle ask a b e h = absurd (low ask 0 e h (omega arith))
numbers_by x k c (waiting.Load rd w s) ask a b e h = absurd (low ask 0 e h (omega arith))
numbers_by x k c waiting.FetchCsr ask a b e h = absurd (low ask 1 e h (omega arith))
numbers_by x k c (waiting.FetchFault at q) ask a b e h = absurd (low ask 1 e h (omega arith))
numbers_by x k c (waiting.Ecall asked.CopyMask) ask a b e h = rw (← e) refl
numbers_by x k c (waiting.Ecall (asked.CopyIn n)) ask a b e h = rw (← e) refl
numbers_by x k c (waiting.Ecall (asked.Print n)) ask a b e h = rw (← e) refl
numbers_by x k c (waiting.Ecall (asked.ReadConsole n at)) ask a b e h = rw (← e) refl
numbers_by x k c (waiting.Ecall (asked.CopyOut n)) ask a b e h = rw (← e) refl
numbers_by x k c (waiting.Ecall asked.PutChar) ask a b e h = rw (← e) refl
numbers_by x k c (waiting.Ecall asked.PutByte) ask a b e h = rw (← e) refl
numbers_by x k c (waiting.Ecall asked.GetChar) ask a b e h = rw (← e) refl
numbers_by x k c (waiting.Ecall asked.Forward) ask a b e h = rw (← e) refl

pub numbers_called : (v : Vcpu) (ask a b : ℕ) → waiting_ask v.waiting ≡ ask → 1 < ask → applied v (numbers_effect v.csrs v.waiting a b) ≡ called_of v (host_call.Answer (answer_for ask a b))
numbers_called v ask a b e h = numbers_by v.x v.counts v.csrs v.waiting ask a b e h

pub none_waits : (r o : List ℕ) (w : Waiting) (ask a b : ℕ) → w ≡ (view_of r).waiting → waiting_ask w ≡ 0 → Laid (trap_leaves r) o (called_of (view_of r) (host_call.Answer (answer_for ask a b))) r o 0x107
unfolding called_of base_of effect_of answer_effect
none_waits r o w ask a b e z =
    rw (ap waiting_ask (sym e) ∙ z, no_zero ask a b) (refused_made r o (view_of r).waiting refl)

-- the same, as the functions come by it

pub fetch_made : (r o s p : List ℕ) (w : Waiting) (ask a b c : ℕ) → w ≡ (view_of r).waiting → waiting_ask w ≡ 1 → ask ≡ 1
    → Laid (trap_leaves r) o (applied (view_of r) (fetch_effect (view_of r).x (view_of r).csrs w (fetch_of a b))) s p c → Laid (trap_leaves r) o (called_of (view_of r) (host_call.Answer (answer_for ask a b))) s p c
fetch_made r o s p w ask a b c e f h m =
    subst (λ (n : ℕ). Laid (trap_leaves r) o (called_of (view_of r) (host_call.Answer (answer_for n a b))) s p c) (sym h)
    (subst (λ (q : Outcome). Laid (trap_leaves r) o q s p c) (fetch_called (view_of r) a b (ap waiting_ask (sym e) ∙ f))
    (subst (λ (n : Waiting). Laid (trap_leaves r) o (applied (view_of r) (fetch_effect (view_of r).x (view_of r).csrs n (fetch_of a b))) s p c) e m))

pub unfit_made : (r o : List ℕ) (w : Waiting) (number ask a b : ℕ) → w ≡ (view_of r).waiting → waiting_ask w ≡ number → (ask ≡ number → ⊥)
    → Laid (trap_leaves r) o (called_of (view_of r) (host_call.Answer (answer_for ask a b))) r o 0x107
unfit_made r o w number ask a b e f n =
    wrong_made r o ask a b (ap (λ (k : ℕ). eqb k ask) (ap waiting_ask (sym e) ∙ f) ∙ ne_eqb number ask (λ h. n (sym h)))

-- what was decided of the answer, done on the words
pub asked_made : (r o s p : List ℕ) → length r ≡ 58 → (a : EcallAsk) (word more c : ℕ) (d : Answered) → ((q : Csrs) → answered_effect q d ≡ ecall_answer q a word more)
    → Leaves (answered_left r o d) s p c → Laid (trap_leaves r) o (applied (view_of r) (ecall_answer (view_of r).csrs a word more)) s p c
asked_made r o s p n a word more c d h l =
    made_by (subst (λ (e : Effect). On r o e (answered_left r o d)) (h (view_of r).csrs) (answered_made r o n d)) l

ecall_numbers : (c : Csrs) (e : EcallAsk) (a b : ℕ) → ecall_answer c e a b ≡ numbers_effect c (waiting.Ecall e) a b
unfolding numbers_effect
ecall_numbers c e a b = refl

above_one : (e : EcallAsk) → 1 < ecall_ask_number e
unfolding ecall_ask_number
above_one asked.CopyMask = omega arith
above_one (asked.CopyIn n) = omega arith
above_one (asked.Print n) = omega arith
above_one (asked.ReadConsole n at) = omega arith
above_one (asked.CopyOut n) = omega arith
above_one asked.PutChar = omega arith
above_one asked.PutByte = omega arith
above_one asked.GetChar = omega arith
above_one asked.Forward = omega arith

ecall_number : (e : EcallAsk) → waiting_ask (waiting.Ecall e) ≡ ecall_ask_number e
unfolding waiting_ask
ecall_number e = refl

ecall_called : (v : Vcpu) (e : EcallAsk) (a b : ℕ) → waiting.Ecall e ≡ v.waiting → applied v (ecall_answer v.csrs e a b) ≡ called_of v (host_call.Answer (answer_for (ecall_ask_number e) a b))
ecall_called v e a b h =
    ap (applied v) (ecall_numbers v.csrs e a b ∙ ap (λ (w : Waiting). numbers_effect v.csrs w a b) h)
    ∙ numbers_called v (ecall_ask_number e) a b (ap waiting_ask (sym h) ∙ ecall_number e) (above_one e)

-- the ask that waits is known by its case
pub known : {e a : EcallAsk} {w : Waiting} → e ≡ a → waiting.Ecall e ≡ w → waiting.Ecall a ≡ w
known {e} {a} {w} f h = subst (λ (k : EcallAsk). waiting.Ecall k ≡ w) f h

pub ecall_made : (r o s p : List ℕ) → length r ≡ 58 → (e : EcallAsk) (number ask word more c : ℕ) (d : Answered) → waiting.Ecall e ≡ (view_of r).waiting → number ≡ ecall_ask_number e → ask ≡ number
    → ((q : Csrs) → answered_effect q d ≡ ecall_answer q e word more) → Leaves (answered_left r o d) s p c
    → Laid (trap_leaves r) o (called_of (view_of r) (host_call.Answer (answer_for ask word more))) s p c
ecall_made r o s p n e number ask word more c d w f g h l =
    subst (λ (k : ℕ). Laid (trap_leaves r) o (called_of (view_of r) (host_call.Answer (answer_for k word more))) s p c) (sym (g ∙ f))
    (subst (λ (q : Outcome). Laid (trap_leaves r) o q s p c) (ecall_called (view_of r) e word more w)
    (asked_made r o s p n e word more c d h l))

pub ecall_unfit : (r o : List ℕ) (e : EcallAsk) (number ask a b : ℕ) → waiting.Ecall e ≡ (view_of r).waiting → number ≡ ecall_ask_number e → (ask ≡ number → ⊥)
    → Laid (trap_leaves r) o (called_of (view_of r) (host_call.Answer (answer_for ask a b))) r o 0x107
ecall_unfit r o e number ask a b w f n = unfit_made r o (waiting.Ecall e) number ask a b w (ecall_number e ∙ sym f) n

-- a fetch's answer that is no word

missed_is : (x : List ℕ) (c : Csrs) (w : Waiting) (f : Fetch) → ((n : ℕ) → f ≡ fetch.Word n → ⊥) → missed_effect c (missed_of f) ≡ fetch_effect x c w f
unfolding fetch_effect
missed_is x c w (fetch.Word n) h = absurd (h n refl)
missed_is x c w (fetch.Page a) h = refl
missed_is x c w (fetch.Access a) h = refl
missed_is x c w (fetch.Misaligned a) h = refl
missed_is x c w (fetch.GuestPage a) h = refl
missed_is x c w fetch.Unhandled h = refl

pub missed_answer : (r o s p : List ℕ) (w : Waiting) (f : Fetch) (c : ℕ) → length r ≡ 58 → ((n : ℕ) → f ≡ fetch.Word n → ⊥)
    → Leaves (missed_left r o (missed_of f)) s p c → Laid (trap_leaves r) o (applied (view_of r) (fetch_effect (view_of r).x (view_of r).csrs w f)) s p c
missed_answer r o s p w f c n h l =
    subst (λ (q : Effect). Laid (trap_leaves r) o (applied (view_of r) q) s p c) (missed_is (view_of r).x (view_of r).csrs w f h)
    (made_by (missed_made r o n (missed_of f)) l)

-- A trap that ends in an error changes no register and no CSR, from its start through its last answer.
use Rattle.std.specs.Prelude.{ℕ, Bool, true, false, List, [], ◌∷◌, ◌≡◌, refl, eqb, ltb}
use Rattle.std.proofs.Common.{arith, ap, sym, ◌∙◌}
use Rattle.std.proofs.Math.Path.{subst}
use Rattle.isa_types.specs.Pick.{pick}
use Rattle.scope.specs.declared.hosts.HostCall.TheVariants as host_call
use Rattle.scope.specs.declared.hosts.HostCall.{HostCall}
use Rattle.scope.specs.Decided.{call_effect, answered_effect}
use Rattle.scope.specs.OneTrap.{answer_number}
use Rattle.scope.specs.declared.traps.Access.{Access}
use Rattle.scope.specs.declared.traps.Answer.{Answer}
use Rattle.scope.specs.declared.traps.Answer.TheVariants as answer
use Rattle.scope.specs.declared.traps.Args.{Args}
use Rattle.scope.specs.declared.traps.Error.TheVariants as error
use Rattle.scope.specs.declared.traps.Error.{Error}
use Rattle.scope.specs.declared.traps.Fetch.{Fetch}
use Rattle.scope.specs.declared.traps.Fetch.TheVariants as fetch
use Rattle.isa_types.specs.declared.GuestPhysAddr.{GuestPhysAddr}
use Rattle.scope.specs.declared.traps.Reply.{Reply}
use Rattle.scope.specs.declared.traps.Reply.TheVariants as reply
use Rattle.scope.specs.declared.traps.Trap.{Trap}
use Rattle.isa_decoder.specs.declared.Trapped.{Trapped}
use Rattle.scope.specs.declared.machine.Csrs.{Csrs}
use Rattle.scope.specs.declared.machine.Effect.{Effect}
use Rattle.scope.specs.declared.machine.Event.{Event}
use Rattle.scope.specs.declared.machine.Event.TheVariants as event
use Rattle.scope.specs.declared.machine.Outcome.{Outcome}
use Rattle.scope.specs.declared.machine.Vcpu.{Vcpu}
use Rattle.scope.specs.declared.machine.Waiting.{Waiting}
use Rattle.scope.specs.declared.machine.Waiting.TheVariants as waiting
use Rattle.scope.specs.declared.machine.Writes.TheVariants as writes
use Rattle.scope.specs.declared.hosts.Post.{Post}
use Rattle.scope.specs.declared.machine.RowOutcome.{RowOutcome}
use Rattle.scope.specs.Posts.{posted_of, row_of}
use Rattle.scope.specs.PostsLaws.{row_refused}
use Rattle.demand3_table.specs.Runs.{step_of}
use Rattle.demand3_table.specs.Turns.{Turn, call, post, print}
use Rattle.scope.specs.Record.{counted, bumped, event_number, is_idle, stored, value_of, waiting_ask, applied, ecall_ask_number}
use Rattle.scope.specs.Refusals.{asking_of, failed_of, finished_of, refusal, refused_of, refuses, leaves_of}
use Rattle.scope.specs.declared.decided.SbiCall.{SbiCall}
use Rattle.scope.specs.declared.decided.SbiCall.TheVariants as call
use Rattle.scope.specs.Ecalls.{asks_of, clear_ipi_of, hypercall_of, moves_of, returns_of, set_timer_of, stays_of, forward_effect, gives_of}
use Rattle.scope.specs.declared.decided.Missed.{Missed}
use Rattle.scope.specs.declared.decided.Missed.TheVariants as missed
use Rattle.scope.specs.VirtualInstruction.{ask_fetch_of, missed_effect, stimecmp_effect, virtual_effect}
use Rattle.scope.specs.declared.decided.Stimecmp.{Stimecmp}
use Rattle.scope.specs.declared.decided.Stimecmp.TheVariants as csr
use Rattle.scope.specs.declared.decided.Fault.{Fault}
use Rattle.scope.specs.declared.decided.Fault.TheVariants as fault
use Rattle.scope.specs.GuestPageFault.{fault_effect, mmio_of, page_fault_of}
use Rattle.scope.specs.declared.decided.Answered.{Answered}
use Rattle.scope.specs.declared.decided.Answered.TheVariants as answered
use Rattle.scope.specs.Classes.{start_effect, class_of, class_effect}
use Rattle.scope.specs.Answers.{answer_effect, fitting_effect, fetch_effect, numbers_effect, values_effect, word_effect}
use Rattle.scope.specs.Calls.{base_of, called_of, effect_of, gpr_reply}
use Rattle.demand1.specs.Leaves.{AtMostIllegal, Ended, Failed, Says}
use Rattle.demand1.specs.Leaves as leaves
use Rattle.demand1.proofs.Sound.{start_sound, answer_sound}
use Rattle.demand1.proofs.Demand1.{refusal_keeps_the_record}
use Rattle.demand1.specs.Whole as whole
use Rattle.demand1.specs.Whole.{Middle, Middles, after_turn, carried, whole_of, ends_trap, in_error, Tallied, Over, same, illegal}
use Rattle.scope.specs.declared.decided.Class.{Class}
use Rattle.scope.specs.declared.machine.EcallAsk.TheVariants as asked
use Rattle.scope.specs.declared.decided.Class.TheVariants as class
use Rattle.demand1.proofs.Rows.{ecall_row, one_of, answer_row}

never : {A : Type 0} → false ≡ true → A
never h = let z : ◌≡◌ {A = ℕ} 0 1 = cc in absurd (omega arith)

-- only a waiting fetch can still end in an error
unfoldable fetching : Waiting → Bool
fetching waiting.Idle = false
fetching (waiting.Load rd l s) = false
fetching waiting.FetchCsr = true
fetching (waiting.FetchFault at k) = true
fetching (waiting.Ecall a) = false

-- while a fetch waits, its trap has changed nothing
record Still (c : Csrs) (e : Effect) : Type 0 where
  csrs : e.csrs ≡ c
  writes : e.writes ≡ writes.Keep
  event : e.event ≡ event.Quiet

record Held (c : Csrs) (e : Effect) : Type 0 where
  held : fetching e.waiting ≡ true → Still c e

either : {c : Csrs} (b : Bool) {e f : Effect} → Held c e → Held c f → Held c (pick b e f)
either {c} b s t = one_of (Held c) b s t

call_held : (c : Csrs) (eid fid : ℕ) (a : Args) (k : SbiCall) → Held c (call_effect c eid fid a k)
unfolding call_effect forward_effect returns_of moves_of stays_of asks_of set_timer_of clear_ipi_of hypercall_of finished_of asking_of fetching
call_held c eid fid a (call.Returns e v) = record { held = λ h. never h }
call_held c eid fid a call.Moves = record { held = λ h. never h }
call_held c eid fid a (call.LegacyTimer d) = record { held = λ h. never h }
call_held c eid fid a (call.SetTimer d) = record { held = λ h. never h }
call_held c eid fid a call.ClearIpi = record { held = λ h. never h }
call_held c eid fid a (call.PutChar k) = record { held = λ h. never h }
call_held c eid fid a call.GetChar = record { held = λ h. never h }
call_held c eid fid a (call.CopyMask at) = record { held = λ h. never h }
call_held c eid fid a (call.SendIpi r) = record { held = λ h. never h }
call_held c eid fid a (call.CpuUp t e k) = record { held = λ h. never h }
call_held c eid fid a call.CpuDown = record { held = λ h. never h }
call_held c eid fid a call.Halt = record { held = λ h. never h }
call_held c eid fid a call.SystemDown = record { held = λ h. never h }
call_held c eid fid a call.Hypercall = record { held = λ h. never h }
call_held c eid fid a (call.CopyIn at k) = record { held = λ h. never h }
call_held c eid fid a (call.ReadConsole at k) = record { held = λ h. never h }
call_held c eid fid a (call.PutByte k) = record { held = λ h. never h }
call_held c eid fid a (call.Forward e) = record { held = λ h. never h }

csr_held : (c : Csrs) (d : Stimecmp) → Held c (stimecmp_effect c d)
unfolding stimecmp_effect ask_fetch_of finished_of asking_of failed_of fetching
csr_held c csr.Illegal = record { held = λ h. never h }
csr_held c csr.Fetch = record { held = λ h. record { csrs = refl; writes = refl; event = refl } }
csr_held c (csr.Write rd t) = record { held = λ h. never h }

fault_held : (c : Csrs) (at : GuestPhysAddr) (k : Access) (d : Fault) → Held c (fault_effect c at k d)
unfolding fault_effect ask_fetch_of finished_of asking_of failed_of fetching
fault_held c at k fault.Fetch = record { held = λ h. record { csrs = refl; writes = refl; event = refl } }
fault_held c at k fault.Walk = record { held = λ h. never h }
fault_held c at k fault.Unfit = record { held = λ h. never h }
fault_held c at k fault.Nested = record { held = λ h. never h }
fault_held c at k (fault.Load w s rd l) = record { held = λ h. never h }
fault_held c at k (fault.Store w d l) = record { held = λ h. never h }

missed_held : (c : Csrs) (m : Missed) → Held c (missed_effect c m)
unfolding missed_effect finished_of failed_of fetching
missed_held c (missed.Inject cause a) = record { held = λ h. never h }
missed_held c (missed.Nested a) = record { held = λ h. never h }
missed_held c missed.Unhandled = record { held = λ h. never h }

refused_held : (c : Csrs) (n : Waiting) (x : Error) → Held c (refused_of c n x)
unfolding refused_of leaves_of
refused_held c n x = record { held = λ h. record { csrs = refl; writes = refl; event = refl } }

answered_held : (c : Csrs) (d : Answered) → Held c (answered_effect c d)
unfolding answered_effect moves_of gives_of returns_of asks_of finished_of asking_of fetching
answered_held c answered.Moves = record { held = λ h. never h }
answered_held c (answered.Gives v) = record { held = λ h. never h }
answered_held c (answered.Returns e v) = record { held = λ h. never h }
answered_held c (answered.SendIpi r) = record { held = λ h. never h }
answered_held c (answered.Print k) = record { held = λ h. never h }
answered_held c (answered.CopyOut at k) = record { held = λ h. never h }

mmio_held : (x : List ℕ) (c : Csrs) (at : GuestPhysAddr) (k : Access) (i : Trapped) → Held c (mmio_of x c at k i)
unfolding mmio_of
mmio_held x c at k i = fault_held c at k _

class_held : (k : Class) (x : List ℕ) (c : Csrs) (t : Trap) → Held c (class_effect k x c t)
unfolding class_effect virtual_effect page_fault_of finished_of failed_of fetching
class_held class.Ecall x c t = ecall_row (Held c) c _ _ _ (call_held c _ _ _) t.room
class_held class.VirtualInstruction x c t = csr_held c _
class_held (class.PageFault k) x c t = mmio_held x c _ k _
class_held class.Interrupt x c t = record { held = λ h. never h }
class_held class.NotHandled x c t = record { held = λ h. never h }
class_held class.Unknown x c t = record { held = λ h. never h }

start_held : (x : List ℕ) (c : Csrs) (n : Waiting) (t : Trap) → Held c (start_effect x c n t)
unfolding start_effect
start_held x c n t = either (is_idle n) (class_held (class_of t.scause) x c t) (refused_held c n error.BadState)

resumed_held : (x : List ℕ) (c : Csrs) (n : Waiting) (w : ℕ) → Held c (word_effect x c n w)
unfolding word_effect
resumed_held x c waiting.Idle w = refused_held c _ error.WrongAnswer
resumed_held x c (waiting.Load rd l s) w = refused_held c _ error.WrongAnswer
resumed_held x c waiting.FetchCsr w = csr_held c _
resumed_held x c (waiting.FetchFault at k) w = mmio_held x c at k _
resumed_held x c (waiting.Ecall a) w = refused_held c _ error.WrongAnswer

numbers_held : (c : Csrs) (n : Waiting) (word more : ℕ) → Held c (numbers_effect c n word more)
unfolding numbers_effect
numbers_held c (waiting.Ecall a) word more = answer_row (Held c) c (answered_held c) a word more
numbers_held c waiting.Idle word more = refused_held c _ error.WrongAnswer
numbers_held c (waiting.Load rd l s) word more = refused_held c _ error.WrongAnswer
numbers_held c waiting.FetchCsr word more = refused_held c _ error.WrongAnswer
numbers_held c (waiting.FetchFault at k) word more = refused_held c _ error.WrongAnswer

fetched_held : (x : List ℕ) (c : Csrs) (n : Waiting) (f : Fetch) → Held c (fetch_effect x c n f)
unfolding fetch_effect
fetched_held x c n (fetch.Word w) = resumed_held x c n w
fetched_held x c n (fetch.Page a) = missed_held c _
fetched_held x c n (fetch.Access a) = missed_held c _
fetched_held x c n (fetch.Misaligned a) = missed_held c _
fetched_held x c n (fetch.GuestPage a) = missed_held c _
fetched_held x c n fetch.Unhandled = missed_held c _

continued_held : (x : List ℕ) (c : Csrs) (n : Waiting) (a : Answer) → Held c (fitting_effect x c n a)
unfolding fitting_effect values_effect
continued_held x c n (answer.Fetched f) = fetched_held x c n f
continued_held x c n (answer.MaskCopied k b) = numbers_held c n _ _
continued_held x c n (answer.CopiedIn k) = numbers_held c n _ _
continued_held x c n (answer.Printed e v) = numbers_held c n _ _
continued_held x c n (answer.ConsoleRead e v) = numbers_held c n _ _
continued_held x c n (answer.CopiedOut k) = numbers_held c n _ _
continued_held x c n answer.Emitted = numbers_held c n _ _
continued_held x c n (answer.Char k) = numbers_held c n _ _
continued_held x c n (answer.Forwarded e v) = numbers_held c n _ _
continued_held x c n answer.Other = refused_held c n error.WrongAnswer

answer_held : (x : List ℕ) (c : Csrs) (n : Waiting) (a : Answer) → Held c (answer_effect x c n a)
unfolding answer_effect
answer_held x c n a =
    either (eqb (waiting_ask n) (answer_number a)) (continued_held x c n a) (refused_held c n error.WrongAnswer)

-- an answer ends a trap in an error only where a fetch waits

-- what an answer other than a fetch's does: it ends in no error, and no fetch waits after it unless one did before
record Goes (n : Waiting) (e : Effect) : Type 0 where
  on : in_error e.reply ≡ false
  still : fetching e.waiting ≡ true → fetching n ≡ true

answered_goes : (c : Csrs) (n : Waiting) (d : Answered) → Goes n (answered_effect c d)
unfolding answered_effect moves_of gives_of returns_of asks_of finished_of asking_of in_error fetching
answered_goes c n answered.Moves = record { on = refl; still = λ h. never h }
answered_goes c n (answered.Gives v) = record { on = refl; still = λ h. never h }
answered_goes c n (answered.Returns e v) = record { on = refl; still = λ h. never h }
answered_goes c n (answered.SendIpi r) = record { on = refl; still = λ h. never h }
answered_goes c n (answered.Print k) = record { on = refl; still = λ h. never h }
answered_goes c n (answered.CopyOut at k) = record { on = refl; still = λ h. never h }

refused_goes : (c : Csrs) (n : Waiting) → Goes n (refused_of c n error.WrongAnswer)
unfolding refused_of leaves_of in_error ends_trap refusal
refused_goes c n = record { on = refl; still = λ h. h }

numbers_goes : (c : Csrs) (n : Waiting) (word more : ℕ) → Goes n (numbers_effect c n word more)
unfolding numbers_effect
numbers_goes c (waiting.Ecall a) word more =
    answer_row (Goes (waiting.Ecall a)) c (answered_goes c (waiting.Ecall a)) a word more
numbers_goes c waiting.Idle word more = refused_goes c waiting.Idle
numbers_goes c (waiting.Load rd l s) word more = refused_goes c (waiting.Load rd l s)
numbers_goes c waiting.FetchCsr word more = refused_goes c waiting.FetchCsr
numbers_goes c (waiting.FetchFault at k) word more = refused_goes c (waiting.FetchFault at k)

matched_goes : (c : Csrs) (n : Waiting) (b : Bool) (word more : ℕ) → Goes n (pick b (numbers_effect c n word more) (refused_of c n error.WrongAnswer))
matched_goes c n b word more = one_of (Goes n) b (numbers_goes c n word more) (refused_goes c n)

contradicts : {A : Type 0} {b : Bool} → b ≡ false → b ≡ true → A
contradicts p q = never (sym p ∙ q)

fetch_ends : (x : List ℕ) (c : Csrs) (n : Waiting) (f : Fetch)
    → in_error (answer_effect x c n (answer.Fetched f)).reply ≡ true
    → fetching n ≡ true
unfolding answer_effect waiting_ask ecall_ask_number answer_number refused_of leaves_of in_error ends_trap refusal fetching
fetch_ends x c waiting.Idle f h = h
fetch_ends x c (waiting.Load rd l s) f h = h
fetch_ends x c waiting.FetchCsr f h = refl
fetch_ends x c (waiting.FetchFault at k) f h = refl
fetch_ends x c (waiting.Ecall asked.CopyMask) f h = h
fetch_ends x c (waiting.Ecall (asked.CopyIn j)) f h = h
fetch_ends x c (waiting.Ecall (asked.Print j)) f h = h
fetch_ends x c (waiting.Ecall (asked.ReadConsole j at)) f h = h
fetch_ends x c (waiting.Ecall (asked.CopyOut j)) f h = h
fetch_ends x c (waiting.Ecall asked.PutChar) f h = h
fetch_ends x c (waiting.Ecall asked.PutByte) f h = h
fetch_ends x c (waiting.Ecall asked.GetChar) f h = h
fetch_ends x c (waiting.Ecall asked.Forward) f h = h

answer_ends : (x : List ℕ) (c : Csrs) (n : Waiting) (a : Answer)
    → in_error (answer_effect x c n a).reply ≡ true
    → fetching n ≡ true
unfolding answer_effect fitting_effect values_effect
answer_ends x c n (answer.Fetched f) h = fetch_ends x c n f h
answer_ends x c n (answer.MaskCopied k b) h = contradicts (matched_goes c n (eqb (waiting_ask n) (answer_number (answer.MaskCopied k b))) _ _).on h
answer_ends x c n (answer.CopiedIn k) h = contradicts (matched_goes c n (eqb (waiting_ask n) (answer_number (answer.CopiedIn k))) _ _).on h
answer_ends x c n (answer.Printed e v) h = contradicts (matched_goes c n (eqb (waiting_ask n) (answer_number (answer.Printed e v))) _ _).on h
answer_ends x c n (answer.ConsoleRead e v) h = contradicts (matched_goes c n (eqb (waiting_ask n) (answer_number (answer.ConsoleRead e v))) _ _).on h
answer_ends x c n (answer.CopiedOut k) h = contradicts (matched_goes c n (eqb (waiting_ask n) (answer_number (answer.CopiedOut k))) _ _).on h
answer_ends x c n answer.Emitted h = contradicts (matched_goes c n (eqb (waiting_ask n) (answer_number answer.Emitted)) _ _).on h
answer_ends x c n (answer.Char k) h = contradicts (matched_goes c n (eqb (waiting_ask n) (answer_number (answer.Char k))) _ _).on h
answer_ends x c n answer.Other h = contradicts (one_of (Goes n) (eqb (waiting_ask n) (answer_number answer.Other)) (refused_goes c n) (refused_goes c n)).on h
answer_ends x c n (answer.Forwarded e v) h = contradicts (matched_goes c n (eqb (waiting_ask n) (answer_number (answer.Forwarded e v))) _ _).on h

-- a fetch waits after an answer only where one waited before it

fetch_fetches : (x : List ℕ) (c : Csrs) (n : Waiting) (f : Fetch)
    → fetching (answer_effect x c n (answer.Fetched f)).waiting ≡ true
    → fetching n ≡ true
unfolding answer_effect waiting_ask ecall_ask_number answer_number refused_of leaves_of fetching
fetch_fetches x c waiting.Idle f h = h
fetch_fetches x c (waiting.Load rd l s) f h = h
fetch_fetches x c waiting.FetchCsr f h = refl
fetch_fetches x c (waiting.FetchFault at k) f h = refl
fetch_fetches x c (waiting.Ecall asked.CopyMask) f h = h
fetch_fetches x c (waiting.Ecall (asked.CopyIn j)) f h = h
fetch_fetches x c (waiting.Ecall (asked.Print j)) f h = h
fetch_fetches x c (waiting.Ecall (asked.ReadConsole j at)) f h = h
fetch_fetches x c (waiting.Ecall (asked.CopyOut j)) f h = h
fetch_fetches x c (waiting.Ecall asked.PutChar) f h = h
fetch_fetches x c (waiting.Ecall asked.PutByte) f h = h
fetch_fetches x c (waiting.Ecall asked.GetChar) f h = h
fetch_fetches x c (waiting.Ecall asked.Forward) f h = h

answer_fetches : (x : List ℕ) (c : Csrs) (n : Waiting) (a : Answer)
    → fetching (answer_effect x c n a).waiting ≡ true
    → fetching n ≡ true
unfolding answer_effect fitting_effect values_effect
answer_fetches x c n (answer.Fetched f) h = fetch_fetches x c n f h
answer_fetches x c n (answer.MaskCopied k b) h = (matched_goes c n (eqb (waiting_ask n) (answer_number (answer.MaskCopied k b))) _ _).still h
answer_fetches x c n (answer.CopiedIn k) h = (matched_goes c n (eqb (waiting_ask n) (answer_number (answer.CopiedIn k))) _ _).still h
answer_fetches x c n (answer.Printed e v) h = (matched_goes c n (eqb (waiting_ask n) (answer_number (answer.Printed e v))) _ _).still h
answer_fetches x c n (answer.ConsoleRead e v) h = (matched_goes c n (eqb (waiting_ask n) (answer_number (answer.ConsoleRead e v))) _ _).still h
answer_fetches x c n (answer.CopiedOut k) h = (matched_goes c n (eqb (waiting_ask n) (answer_number (answer.CopiedOut k))) _ _).still h
answer_fetches x c n answer.Emitted h = (matched_goes c n (eqb (waiting_ask n) (answer_number answer.Emitted)) _ _).still h
answer_fetches x c n (answer.Char k) h = (matched_goes c n (eqb (waiting_ask n) (answer_number (answer.Char k))) _ _).still h
answer_fetches x c n answer.Other h = (one_of (Goes n) (eqb (waiting_ask n) (answer_number answer.Other)) (refused_goes c n) (refused_goes c n)).still h
answer_fetches x c n (answer.Forwarded e v) h = (matched_goes c n (eqb (waiting_ask n) (answer_number (answer.Forwarded e v))) _ _).still h

-- what an error leaves of a record

tallied : (k : List ℕ) {y : Event} → AtMostIllegal y → Tallied k (counted k y)
unfolding counted bumped event_number
tallied k leaves.quiet = same
tallied k leaves.illegal = illegal

ended : (v : Vcpu) (e : Effect) → Ended v.csrs e → AtMostIllegal e.event → Over v (applied v e).vcpu
unfolding applied stored
ended v e d m =
    record { x = ap (λ w. stored v.x w) d.writes; csrs = d.csrs; waiting = d.waiting; counts = tallied v.counts m }

quietly : (e : Effect) → e.event ≡ event.Quiet → AtMostIllegal e.event
quietly e h = subst (λ (k : Event). AtMostIllegal k) (sym h) leaves.quiet

failed_over : (v : Vcpu) (e : Effect) (y : Error) → ends_trap y ≡ true → Failed v.csrs v.waiting e y → Over v (applied v e).vcpu
unfolding Failed ends_trap refusal
failed_over v e error.InvalidInput h f = never h
failed_over v e error.BadState h f = never h
failed_over v e error.Unsupported h f = ended v e f.0 f.1
failed_over v e error.InvalidTrap h f = ended v e f.0 (quietly e f.1)
failed_over v e error.DecodeFailed h f = ended v e f.0 (quietly e f.1)
failed_over v e error.GuestMemoryFault h f = ended v e f.0 (quietly e f.1)
failed_over v e error.WrongAnswer h f = never h

over_by : (v : Vcpu) (e : Effect) (r : Reply) → in_error r ≡ true → Says v.csrs v.waiting e r → Over v (applied v e).vcpu
unfolding in_error Says
over_by v e (reply.Exit x) h f = never h
over_by v e (reply.Ask a) h f = never h
over_by v e reply.Done h f = never h
over_by v e (reply.Value n) h f = never h
over_by v e (reply.Error y) h f = failed_over v e y h f

-- u is v in the middle of a trap: while a fetch waits nothing has changed
record Carries (v u : Vcpu) : Type 0 where
  carries : fetching u.waiting ≡ true → (u.x ≡ v.x) × (u.csrs ≡ v.csrs) × (u.counts ≡ v.counts)

still_record : (u : Vcpu) (e : Effect) → Still u.csrs e
    → ((applied u e).vcpu.x ≡ u.x) × ((applied u e).vcpu.csrs ≡ u.csrs) × ((applied u e).vcpu.counts ≡ u.counts)
unfolding applied stored counted bumped event_number
still_record u e s =
    (ap (λ w. stored u.x w) s.writes, s.csrs, ap (λ k. counted u.counts k) s.event)

start_carries : (v : Vcpu) (t : Trap) → Carries v (called_of v (host_call.Start t)).vcpu
unfolding called_of base_of effect_of applied
start_carries v t =
    record { carries = λ h. still_record v _ ((start_held v.x v.csrs v.waiting t).held h) }

answer_carries : (v u : Vcpu) (a : Answer) → Carries v u → Carries v (called_of u (host_call.Answer a)).vcpu
unfolding called_of base_of effect_of applied
answer_carries v u a k =
    record {
      carries = λ h.
          let before = k.carries (answer_fetches u.x u.csrs u.waiting a h) in
          let now' = still_record u (answer_effect u.x u.csrs u.waiting a) ((answer_held u.x u.csrs u.waiting a).held h) in
          (now'.0 ∙ before.0, now'.1 ∙ before.1, now'.2 ∙ before.2);
    }

over_from : (v u w : Vcpu) → (u.x ≡ v.x) × (u.csrs ≡ v.csrs) × (u.counts ≡ v.counts) → Over u w → Over v w
over_from v u w s o =
    record {
      x = o.x ∙ s.0;
      csrs = o.csrs ∙ s.1;
      waiting = o.waiting;
      counts = subst (λ (k : List ℕ). Tallied k w.counts) s.2 o.counts;
    }

start_over : (v : Vcpu) (t : Trap) → in_error (called_of v (host_call.Start t)).reply ≡ true → Over v (called_of v (host_call.Start t)).vcpu
unfolding called_of base_of effect_of applied
start_over v t h =
    over_by v (start_effect v.x v.csrs v.waiting t) _ h (start_sound v.x v.csrs v.waiting t).says

answer_over : (v u : Vcpu) (a : Answer) → Carries v u → in_error (called_of u (host_call.Answer a)).reply ≡ true → Over v (called_of u (host_call.Answer a)).vcpu
unfolding called_of base_of effect_of applied
answer_over v u a k h =
    over_from v u _ (k.carries (answer_ends u.x u.csrs u.waiting a h))
    (over_by u (answer_effect u.x u.csrs u.waiting a) _ h (answer_sound u.x u.csrs u.waiting a).says)

-- a refused call, and a read, leave the record and end nothing

refused_not : (p : Reply) → refuses p ≡ true → in_error p ≡ false
unfolding refuses refusal in_error ends_trap
refused_not (reply.Exit x) h = never h
refused_not (reply.Ask a) h = never h
refused_not reply.Done h = never h
refused_not (reply.Value n) h = never h
refused_not (reply.Error error.InvalidInput) h = refl
refused_not (reply.Error error.BadState) h = refl
refused_not (reply.Error error.Unsupported) h = never h
refused_not (reply.Error error.InvalidTrap) h = never h
refused_not (reply.Error error.DecodeFailed) h = never h
refused_not (reply.Error error.GuestMemoryFault) h = never h
refused_not (reply.Error error.WrongAnswer) h = refl

-- the call leaves the record, and its reply ends no trap
record Idles (u : Vcpu) (c : HostCall) : Type 0 where
  same : (called_of u c).vcpu ≡ u
  on : in_error (called_of u c).reply ≡ false

refused_idles : (u : Vcpu) (c : HostCall) → refuses (called_of u c).reply ≡ true → Idles u c
refused_idles u c h = record { same = refusal_keeps_the_record u c h; on = refused_not _ h }

index_idles : (b : Bool) (n : ℕ) → in_error (pick b (reply.Value n) (reply.Error error.InvalidInput)) ≡ false
unfolding in_error ends_trap refusal
index_idles true n = refl
index_idles false n = refl

read_idles : (u : Vcpu) (i : ℕ) → Idles u (host_call.GetGpr i)
unfolding called_of base_of effect_of leaves_of gpr_reply applied stored counted bumped event_number
read_idles u i = record { same = refl; on = index_idles (ltb i 32) (value_of u.x i) }

print_idles : (u : Vcpu) (n : ℕ) → Idles u (host_call.ToPrint n)
unfolding called_of base_of effect_of leaves_of applied stored counted bumped event_number in_error
print_idles u n = record { same = refl; on = refl }

module _ (v u : Vcpu) (k : Carries v u) where
  idle_over : (c : HostCall) → Idles u c → in_error (called_of u c).reply ≡ true → Over v (called_of u c).vcpu
  idle_over c i h = contradicts i.on h

  idle_carries : (c : HostCall) → Idles u c → Carries v (called_of u c).vcpu
  idle_carries c i = subst (λ (w : Vcpu). Carries v w) (sym i.same) k

-- a row of posts while an ask waits leaves the record
row_idles : (u : Vcpu) (ps : List Post) → eqb (waiting_ask u.waiting) 0 ≡ false → (posted_of u ps).vcpu ≡ u
unfolding row_of
row_idles u ps h = ap (λ (o : RowOutcome). o.vcpu) (row_refused u ps h)

-- a turn in the middle of a trap that has changed nothing so far
module _ (v : Vcpu) (o : Outcome) (f : in_error o.reply ≡ true → Over v o.vcpu) (k : Carries v o.vcpu) where
  middle_over : {c : Turn} → Middle o.vcpu c → in_error (after_turn o c).reply ≡ true → Over v (after_turn o c).vcpu
  unfolding after_turn
  middle_over (whole.answer a) h = answer_over v o.vcpu a k h
  middle_over (whole.refused {c} r) h = idle_over v o.vcpu k c (refused_idles o.vcpu c r) h
  middle_over (whole.row ps w) h = subst (λ (u : Vcpu). Over v u) (sym (row_idles o.vcpu ps w)) (f h)
  middle_over (whole.read i) h = idle_over v o.vcpu k _ (read_idles o.vcpu i) h
  middle_over (whole.count n) h = idle_over v o.vcpu k _ (print_idles o.vcpu n) h
  middle_over (whole.bytes buffer) h = f h

  middle_carries : {c : Turn} → Middle o.vcpu c → Carries v (after_turn o c).vcpu
  unfolding after_turn
  middle_carries (whole.answer a) = answer_carries v o.vcpu a k
  middle_carries (whole.refused {c} r) = idle_carries v o.vcpu k c (refused_idles o.vcpu c r)
  middle_carries (whole.row ps w) = subst (λ (u : Vcpu). Carries v u) (sym (row_idles o.vcpu ps w)) k
  middle_carries (whole.read i) = idle_carries v o.vcpu k _ (read_idles o.vcpu i)
  middle_carries (whole.count n) = idle_carries v o.vcpu k _ (print_idles o.vcpu n)
  middle_carries (whole.bytes buffer) = k

-- the record after a turn is the one that the turn steps to
pub after_steps : (o : Outcome) (c : Turn) → (after_turn o c).vcpu ≡ step_of o.vcpu c
unfolding after_turn step_of
after_steps o (call c) = refl
after_steps o (print buffer) = refl
after_steps o (post ps) = refl

carried_over : (v : Vcpu) (o : Outcome) → (in_error o.reply ≡ true → Over v o.vcpu) → Carries v o.vcpu
    → (l : List Turn) → Middles o.vcpu l → in_error (carried o l).reply ≡ true → Over v (carried o l).vcpu
unfolding carried Middles
carried_over v o f k [] m h = f h
carried_over v o f k (c ∷ l) m h =
    carried_over v (after_turn o c) (middle_over v o f k m.0) (middle_carries v o f k m.0) l (subst (λ (u : Vcpu). Middles u l) (sym (after_steps o c)) m.1) h

-- a trap that ends in an error changes no register and no CSR, counts at most event 2, and nothing waits after it
pub error_changes_nothing : (v : Vcpu) (t : Trap) (l : List Turn) → Middles (called_of v (host_call.Start t)).vcpu l
    → in_error (whole_of v t l).reply ≡ true
    → Over v (whole_of v t l).vcpu
unfolding whole_of
error_changes_nothing v t l m h = carried_over v (called_of v (host_call.Start t)) (start_over v t) (start_carries v t) l m h

-- Of 58 words written out: what each class does to them is the effect of the same decision.
use Rattle.std.specs.Prelude.{ℕ, List, ◌≡◌, refl, get_or, set}
use Rattle.scope.specs.OneTrap.{abi_number, access_number, ask_number, exit_number, ask_values, exit_values}
use Rattle.scope.specs.Refusals.{error_number, asking_of, done_of, failed_of, finished_of, refused_of, leaves_of}
use Rattle.scope.specs.declared.traps.Access.{Access}
use Rattle.isa_types.specs.declared.GuestPhysAddr.{GuestPhysAddr}
use Rattle.scope.specs.declared.machine.Waiting.{Waiting}
use Rattle.scope.specs.declared.machine.Waiting.TheVariants as waiting
use Rattle.scope.specs.declared.machine.Event.TheVariants as event
use Rattle.scope.specs.Record.{bumped, counted, event_number, listed, moved, pended, stored, timed, applied, no_args}
use Rattle.scope.specs.declared.decided.SbiCall.{SbiCall}
use Rattle.scope.specs.declared.decided.SbiCall.TheVariants as call
use Rattle.scope.specs.Decided.{call_effect, answered_effect}
use Rattle.scope.specs.Ecalls.{asks_of, clear_ipi_of, hypercall_of, moves_of, returns_of, set_timer_of, stays_of, forward_effect, gives_of}
use Rattle.scope.specs.VirtualInstruction.{ask_fetch_of, injected_of, missed_effect, stimecmp_effect}
use Rattle.scope.specs.declared.decided.Missed.{Missed}
use Rattle.scope.specs.declared.decided.Missed.TheVariants as missed
use Rattle.scope.specs.declared.decided.Stimecmp.{Stimecmp}
use Rattle.scope.specs.declared.decided.Stimecmp.TheVariants as csr
use Rattle.scope.specs.GuestPageFault.{fault_effect, completed_of}
use Rattle.scope.specs.declared.decided.Fault.{Fault}
use Rattle.scope.specs.declared.decided.Fault.TheVariants as fault
use Rattle.scope.specs.declared.decided.Answered.{Answered}
use Rattle.scope.specs.declared.decided.Answered.TheVariants as answered
use Rattle.scope.specs.Words.{csrs_of, kind_word, unpack_of, waiting_by, waiting_of, waiting_words, asked_words}
use Rattle.scope.specs.WordsLaws.{access_back, flag_back, width_back}
use Rattle.in_place_record.specs.Steps.{Settled, ask_count, beside_of, exit_count, out_over, trap_leaves}
use Rattle.in_place_record.specs.View.{record_of, view_of}
use Rattle.scope.specs.ReplyWords.{reply_word}
use Rattle.scope.specs.Words.{trap_left, waiting_count, asked_word_count}
use Rattle.scope.specs.Refusals.{refusal, refuses}
use Rattle.in_place_record.specs.Rows.{answered_left, bump_words, call_left, complete_word, complete_words, csr_left, fault_left, fetch_out, give_words, inject_words, missed_left, moved_words, pair_words, six_words, step_words, timer_words}
use Rattle.in_place_record.specs.Spelled.{spelled}
use Rattle.in_place_record.specs.Laws.{On}
use Rattle.in_place_record.proofs.Shown.{put_keeps, put_shows, same}
use Rattle.scope.specs.Classes.{arguments_of}

pub call_spelled : (k o : List ℕ) (d : SbiCall) → let r : List ℕ = spelled 58 0 k in On r o (call_effect (view_of r).csrs (get_or r 17 0) (get_or r 16 0) (arguments_of r) d) (call_left r o d)
unfolding view_of record_of unpack_of csrs_of waiting_of waiting_by kind_word applied call_effect returns_of moves_of set_timer_of finished_of asking_of no_args stored counted bumped event_number listed moved timed pended reply_word out_over exit_count ask_count beside_of exit_number ask_number exit_values ask_values call_left pair_words give_words step_words moved_words timer_words bump_words arguments_of six_words clear_ipi_of asks_of stays_of hypercall_of abi_number trap_leaves trap_left refuses refusal waiting_count asked_word_count asked_words waiting_words gives_of forward_effect
call_spelled k o (call.Returns e v) = record { shows = refl; waits = refl; says = refl; gives = refl }
call_spelled k o call.Moves = record { shows = refl; waits = refl; says = refl; gives = refl }
call_spelled k o (call.LegacyTimer d) = record { shows = refl; waits = refl; says = refl; gives = refl }
call_spelled k o (call.SetTimer d) = record { shows = refl; waits = refl; says = refl; gives = refl }
call_spelled k o call.ClearIpi = record { shows = refl; waits = refl; says = refl; gives = refl }
call_spelled k o (call.PutChar n) = record { shows = refl; waits = refl; says = refl; gives = refl }
call_spelled k o call.GetChar = record { shows = refl; waits = refl; says = refl; gives = refl }
call_spelled k o (call.CopyMask at) = record { shows = refl; waits = refl; says = refl; gives = refl }
call_spelled k o (call.SendIpi q) = record { shows = refl; waits = refl; says = refl; gives = refl }
call_spelled k o (call.CpuUp target entry arg) = record { shows = refl; waits = refl; says = refl; gives = refl }
call_spelled k o call.CpuDown = record { shows = refl; waits = refl; says = refl; gives = refl }
call_spelled k o call.Halt = record { shows = refl; waits = refl; says = refl; gives = refl }
call_spelled k o call.SystemDown = record { shows = refl; waits = refl; says = refl; gives = refl }
call_spelled k o call.Hypercall = record { shows = refl; waits = refl; says = refl; gives = refl }
call_spelled k o (call.CopyIn at n) = record { shows = refl; waits = refl; says = refl; gives = refl }
call_spelled k o (call.ReadConsole at n) = record { shows = refl; waits = refl; says = refl; gives = refl }
call_spelled k o (call.PutByte n) = record { shows = refl; waits = refl; says = refl; gives = refl }
call_spelled k o (call.Forward event.Quiet) = record { shows = refl; waits = refl; says = refl; gives = refl }
call_spelled k o (call.Forward event.SetTimer) = record { shows = refl; waits = refl; says = refl; gives = refl }
call_spelled k o (call.Forward event.IllegalInsn) = record { shows = refl; waits = refl; says = refl; gives = refl }
call_spelled k o (call.Forward event.FenceI) = record { shows = refl; waits = refl; says = refl; gives = refl }
call_spelled k o (call.Forward event.SfenceVma) = record { shows = refl; waits = refl; says = refl; gives = refl }
call_spelled k o (call.Forward event.SfenceVmaAsid) = record { shows = refl; waits = refl; says = refl; gives = refl }
call_spelled k o (call.Forward event.HfenceGvmaVmid) = record { shows = refl; waits = refl; says = refl; gives = refl }
call_spelled k o (call.Forward event.HfenceGvma) = record { shows = refl; waits = refl; says = refl; gives = refl }
call_spelled k o (call.Forward event.HfenceVvmaAsid) = record { shows = refl; waits = refl; says = refl; gives = refl }
call_spelled k o (call.Forward event.HfenceVvma) = record { shows = refl; waits = refl; says = refl; gives = refl }

pub csr_spelled : (k o : List ℕ) (d : Stimecmp) → let r : List ℕ = spelled 58 0 k in On r o (stimecmp_effect (view_of r).csrs d) (csr_left r o d)
unfolding view_of record_of unpack_of csrs_of waiting_of waiting_by kind_word applied stimecmp_effect ask_fetch_of finished_of asking_of failed_of no_args stored counted bumped event_number listed moved timed reply_word out_over exit_count ask_count beside_of exit_number ask_number error_number exit_values ask_values csr_left step_words moved_words bump_words fetch_out trap_leaves trap_left refuses refusal waiting_count asked_word_count asked_words waiting_words
csr_spelled k o csr.Illegal = record { shows = refl; waits = refl; says = refl; gives = refl }
csr_spelled k o csr.Fetch = record { shows = refl; waits = refl; says = refl; gives = refl }
csr_spelled k o (csr.Write rd timer) =
    record { shows = put_shows (step_words (set (spelled 58 0 k) 40 timer) 4) rd (get_or k 40 0); waits = put_keeps (step_words (set (spelled 58 0 k) 40 timer) 4) rd (get_or k 40 0); says = refl; gives = refl }

pub fault_spelled : (k o : List ℕ) (at : GuestPhysAddr) (a : Access) (d : Fault) → let r : List ℕ = spelled 58 0 k in On r o (fault_effect (view_of r).csrs at a d) (fault_left r o at a d)
unfolding view_of record_of unpack_of csrs_of waiting_of waiting_by kind_word applied fault_effect ask_fetch_of finished_of asking_of failed_of no_args stored counted bumped event_number listed moved reply_word out_over exit_count ask_count beside_of exit_number ask_number error_number exit_values ask_values fault_left step_words moved_words fetch_out trap_leaves trap_left refuses refusal waiting_count asked_word_count asked_words waiting_words
fault_spelled k o at a fault.Fetch =
    record { shows = same refl refl refl (λ i. waiting.FetchFault at (access_back a i)); waits = refl; says = refl; gives = refl }
fault_spelled k o at a fault.Walk = record { shows = refl; waits = refl; says = refl; gives = refl }
fault_spelled k o at a fault.Unfit = record { shows = refl; waits = refl; says = refl; gives = refl }
fault_spelled k o at a fault.Nested = record { shows = refl; waits = refl; says = refl; gives = refl }
fault_spelled k o at a (fault.Load w s rd n) =
    record { shows = same refl refl refl (λ i. waiting.Load rd (width_back w i) (flag_back s i)); waits = refl; says = refl; gives = refl }
fault_spelled k o at a (fault.Store w d n) = record { shows = refl; waits = refl; says = refl; gives = refl }

pub missed_spelled : (k o : List ℕ) (d : Missed) → let r : List ℕ = spelled 58 0 k in On r o (missed_effect (view_of r).csrs d) (missed_left r o d)
unfolding view_of record_of unpack_of csrs_of waiting_of waiting_by kind_word applied missed_effect injected_of finished_of failed_of no_args stored counted bumped event_number listed reply_word out_over exit_count beside_of exit_number error_number exit_values access_number missed_left inject_words trap_leaves trap_left refuses refusal waiting_count asked_word_count asked_words waiting_words
missed_spelled k o (missed.Inject cause addr) = record { shows = refl; waits = refl; says = refl; gives = refl }
missed_spelled k o (missed.Nested addr) = record { shows = refl; waits = refl; says = refl; gives = refl }
missed_spelled k o missed.Unhandled = record { shows = refl; waits = refl; says = refl; gives = refl }

pub answered_spelled : (k o : List ℕ) (d : Answered) → let r : List ℕ = spelled 58 0 k in On r o (answered_effect (view_of r).csrs d) (answered_left r o d)
unfolding view_of record_of unpack_of csrs_of waiting_of waiting_by kind_word applied answered_effect finished_of asking_of refused_of leaves_of no_args stored counted bumped event_number listed moved reply_word out_over exit_count ask_count beside_of exit_number ask_number error_number exit_values ask_values answered_left pair_words give_words step_words moved_words trap_leaves trap_left refuses refusal waiting_count asked_word_count asked_words waiting_words moves_of gives_of returns_of asks_of
answered_spelled k o answered.Moves = record { shows = refl; waits = refl; says = refl; gives = refl }
answered_spelled k o (answered.Gives v) = record { shows = refl; waits = refl; says = refl; gives = refl }
answered_spelled k o (answered.Returns e v) = record { shows = refl; waits = refl; says = refl; gives = refl }
answered_spelled k o (answered.SendIpi q) = record { shows = refl; waits = refl; says = refl; gives = refl }
answered_spelled k o (answered.Print n) = record { shows = refl; waits = refl; says = refl; gives = refl }
answered_spelled k o (answered.CopyOut at n) = record { shows = refl; waits = refl; says = refl; gives = refl }

-- a load's completion

pub complete_spelled : (k : List ℕ) (w : Waiting) (n : ℕ) → let r : List ℕ = spelled 58 0 k in (view_of r).waiting ≡ w → Settled (trap_leaves r) (applied (view_of r) (completed_of (view_of r).csrs w n)) (complete_words r w n) (complete_word w)
unfolding view_of record_of unpack_of csrs_of waiting_of waiting_by kind_word applied completed_of refused_of leaves_of done_of no_args stored counted bumped event_number listed reply_word error_number complete_words complete_word trap_leaves trap_left refuses refusal waiting_count asked_word_count asked_words waiting_words
complete_spelled k waiting.Idle n e = record { shows = same refl refl refl e; waits = refl; says = refl }
complete_spelled k (waiting.Load rd w s) n e = record { shows = put_shows (set (spelled 58 0 k) 54 0) rd _; waits = put_keeps (set (spelled 58 0 k) 54 0) rd _; says = refl }
complete_spelled k waiting.FetchCsr n e = record { shows = same refl refl refl e; waits = refl; says = refl }
complete_spelled k (waiting.FetchFault at a) n e = record { shows = same refl refl refl e; waits = refl; says = refl }
complete_spelled k (waiting.Ecall a) n e = record { shows = same refl refl refl e; waits = refl; says = refl }

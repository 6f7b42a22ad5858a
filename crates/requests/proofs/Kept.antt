-- What a call keeps, for any number of the CSRs: hvip in Hvip.antt, sstatus and hstatus in Mode.antt.
use Rattle.std.specs.Prelude.{ℕ, ◌%◌, ◌^◌, Bool, true, List, ◌≡◌, eqb, ltb}
use Rattle.std.proofs.Math.Path.{refl}
use Rattle.std.proofs.Common.{◌∙◌}
use Rattle.isa_types.specs.Pick.{pick}
use Rattle.isa_types.specs.declared.GuestPhysAddr.{GuestPhysAddr}
use Rattle.scope.specs.Answers.{answer_effect}
use Rattle.scope.specs.Decided.{answered_effect}
use Rattle.scope.specs.Ecalls.{asks_of, gives_of, moves_of, returns_of}
use Rattle.scope.specs.GuestPageFault.{completed_of, fault_effect}
use Rattle.scope.specs.Host.{entry_csrs, paging_by, paging_effect, table_csrs, write_effect}
use Rattle.scope.specs.Record.{timed, waiting_ask}
use Rattle.scope.specs.Refusals.{asking_of, done_of, failed_of, finished_of, leaves_of, refused_of, unless_asking}
use Rattle.scope.specs.VirtualInstruction.{ask_fetch_of, missed_effect, missed_of, stimecmp_effect}
use Rattle.scope.specs.declared.decided.Answered.TheVariants as answered
use Rattle.scope.specs.declared.decided.Answered.{Answered}
use Rattle.scope.specs.declared.decided.Fault.TheVariants as fault
use Rattle.scope.specs.declared.decided.Fault.{Fault}
use Rattle.scope.specs.declared.decided.Stimecmp.TheVariants as csr
use Rattle.scope.specs.declared.decided.Stimecmp.{Stimecmp}
use Rattle.scope.specs.declared.machine.Csrs.{Csrs}
use Rattle.scope.specs.declared.machine.Effect.{Effect}
use Rattle.scope.specs.declared.machine.Vcpu.{Vcpu}
use Rattle.scope.specs.declared.machine.Waiting.TheVariants as waiting
use Rattle.scope.specs.declared.machine.Waiting.{Waiting}
use Rattle.scope.specs.declared.machine.Writes.{Writes}
use Rattle.scope.specs.declared.traps.Access.{Access}
use Rattle.scope.specs.declared.traps.Answer.TheVariants as answer
use Rattle.scope.specs.declared.traps.Answer.{Answer}
use Rattle.scope.specs.declared.traps.Error.TheVariants as error
use Rattle.scope.specs.declared.traps.Error.{Error}
use Rattle.scope.specs.declared.traps.Fetch.{Fetch}
use Rattle.demand1.proofs.Rows.{any_answer, one_of}
use Rattle.requests.specs.Kept.{Keeps, Steady}

-- where the CSRs stay it stays, whatever it is

module _ (at : Csrs → ℕ) where
  pub either : {c : Csrs} (b : Bool) {e f : Effect} → Keeps at c e → Keeps at c f → Keeps at c (pick b e f)
  either {c} b k l = one_of (Keeps at c) b k l

  pub refused_keeps : (c : Csrs) (n : Waiting) (x : Error) → Keeps at c (refused_of c n x)
  unfolding refused_of leaves_of
  refused_keeps c n x = record { kept = refl }

  pub done_keeps : (c : Csrs) (w : Writes) (n : Waiting) → Keeps at c (done_of c w n)
  unfolding done_of
  done_keeps c w n = record { kept = refl }

module _ (at : Csrs → ℕ) (s : Steady at) where
  -- a virtual instruction, a guest page fault

  pub csr_keeps : (c : Csrs) (d : Stimecmp) → Keeps at c (stimecmp_effect c d)
  unfolding stimecmp_effect failed_of ask_fetch_of asking_of finished_of
  csr_keeps c csr.Illegal = record { kept = refl }
  csr_keeps c csr.Fetch = record { kept = refl }
  csr_keeps c (csr.Write rd timer) = record { kept = s.moves (timed c timer) 4 ∙ s.times c timer }

  pub fault_keeps : (c : Csrs) (addr : GuestPhysAddr) (k : Access) (d : Fault) → Keeps at c (fault_effect c addr k d)
  unfolding fault_effect ask_fetch_of asking_of failed_of finished_of
  fault_keeps c addr k fault.Fetch = record { kept = refl }
  fault_keeps c addr k fault.Walk = record { kept = refl }
  fault_keeps c addr k fault.Unfit = record { kept = refl }
  fault_keeps c addr k fault.Nested = record { kept = refl }
  fault_keeps c addr k (fault.Load w signed rd n) = record { kept = s.moves c n }
  fault_keeps c addr k (fault.Store w d n) = record { kept = s.moves c n }

  -- an answer: a fetch that failed is left to the caller, where one waits

  answered_keeps : (c : Csrs) (d : Answered) → Keeps at c (answered_effect c d)
  unfolding answered_effect moves_of gives_of returns_of asks_of finished_of asking_of
  answered_keeps c answered.Moves = record { kept = s.moves c 4 }
  answered_keeps c (answered.Gives n) = record { kept = s.moves c 4 }
  answered_keeps c (answered.Returns e v) = record { kept = s.moves c 4 }
  answered_keeps c (answered.SendIpi r) = record { kept = s.moves c 4 }
  answered_keeps c (answered.Print n) = record { kept = refl }
  answered_keeps c (answered.CopyOut addr n) = record { kept = refl }

  pub answer_keeps : (x : List ℕ) (c : Csrs) (n : Waiting) (a : Answer)
      → ((f : Fetch) → a ≡ answer.Fetched f → eqb (waiting_ask n) 1 ≡ true → Keeps at c (missed_effect c (missed_of f))) → Keeps at c (answer_effect x c n a)
  answer_keeps x c n a m =
      any_answer (λ n e. Keeps at c e) x c
      (record {
        csrs = λ n. csr_keeps c;
        faults = λ n. fault_keeps c;
        answers = λ n. answered_keeps c;
        wrong = λ n. refused_keeps at c n error.WrongAnswer;
      })
      n a m

  pub completed_keeps : (c : Csrs) (n : Waiting) (k : ℕ) → Keeps at c (completed_of c n k)
  unfolding completed_of done_of
  completed_keeps c waiting.Idle k = refused_keeps at c waiting.Idle error.BadState
  completed_keeps c (waiting.Load rd w signed) k = record { kept = refl }
  completed_keeps c waiting.FetchCsr k = refused_keeps at c waiting.FetchCsr error.BadState
  completed_keeps c (waiting.FetchFault addr a) k = refused_keeps at c (waiting.FetchFault addr a) error.BadState
  completed_keeps c (waiting.Ecall a) k = refused_keeps at c (waiting.Ecall a) error.BadState

  -- the host's own calls

  pub entry_keeps : (c : Csrs) (entry : GuestPhysAddr) (w : Writes) (n : Waiting) → Keeps at c (done_of (entry_csrs c entry) w n)
  unfolding done_of
  entry_keeps c entry w n = record { kept = s.enters c entry }

  pub write_keeps : (c : Csrs) (n : Waiting) (index value : ℕ) → Keeps at c (write_effect c n index value)
  unfolding write_effect
  write_keeps c n index value = either at (ltb index 32) (done_keeps at c _ n) (refused_keeps at c n error.InvalidInput)

  table_keeps : (c : Csrs) (n : Waiting) (mode root : ℕ) (w : Writes) → Keeps at c (done_of (table_csrs c mode root) w n)
  unfolding done_of
  table_keeps c n mode root w = record { kept = s.maps c mode root }

  paging_by_keeps : (c : Csrs) (n : Waiting) (wanted mode root : ℕ) → Keeps at c (paging_by c n wanted mode root)
  unfolding paging_by
  paging_by_keeps c n wanted mode root =
      either at (eqb mode wanted) (either at (eqb (root % 2 ^ 14) 0) (table_keeps c n mode root _) (refused_keeps at c n error.InvalidInput))
      (refused_keeps at c n error.InvalidInput)

  pub paging_keeps : (c : Csrs) (n : Waiting) (levels mode root : ℕ) → Keeps at c (paging_effect c n levels mode root)
  unfolding paging_effect
  paging_keeps c n levels mode root =
      either at (eqb levels 3) (paging_by_keeps c n 8 mode root)
      (either at (eqb levels 4) (paging_by_keeps c n 9 mode root) (refused_keeps at c n error.InvalidInput))

  -- and so with the guard of refusal 2 before them
  pub unless_keeps : (v : Vcpu) {e : Effect} → Keeps at v.csrs e → Keeps at v.csrs (unless_asking v e)
  unfolding unless_asking
  unless_keeps v k = either at (eqb (waiting_ask v.waiting) 0) k (refused_keeps at v.csrs v.waiting error.BadState)

-- What `exit` says is read off the word that a call returns, and what a trap's four lines say off the record's words.
use Rattle.std.specs.Prelude.{◌≡◌, ℕ, ◌+◌, ◌<◌, Bool, true, false, List, length, ◌==◌, ◌≢◌, nat_lt, slice_index, slice_index_or, refl}
use Rattle.std.proofs.Math.Path.{sym}
use Rattle.std.proofs.Common.{ap, ◌∙◌, lit≤, get_or-take}
use borrow.Author.Tests.{eq-eqb, lt-ltb, ne_eqb}
use Rattle.isa_types.specs.Pick.{and, pick}
use Rattle.scope.specs.declared.hosts.HostCall.TheVariants as host_call
use Rattle.scope.specs.Calls.{called_of}
use Rattle.scope.specs.Refusals.{error_number}
use Rattle.scope.specs.Record.{is_idle, waiting_ask}
use Rattle.scope.specs.OneTrap.{ask_number, exit_number}
use Rattle.scope.specs.OneTrap.{answer_for}
use Rattle.scope.specs.Words.{unpack_of}
use Rattle.scope.specs.declared.machine.Csrs.{Csrs}
use Rattle.scope.specs.declared.machine.Outcome.{Outcome}
use Rattle.scope.specs.declared.machine.Vcpu.{Vcpu}
use Rattle.scope.specs.declared.traps.Ask.{Ask}
use Rattle.scope.specs.declared.traps.Ask.TheVariants as ask
use Rattle.scope.specs.declared.traps.Error.{Error}
use Rattle.scope.specs.declared.traps.Error.TheVariants as error
use Rattle.scope.specs.declared.traps.Exit.{Exit}
use Rattle.scope.specs.declared.traps.Exit.TheVariants as exit
use Rattle.scope.specs.declared.traps.Reply.{Reply}
use Rattle.scope.specs.declared.traps.Reply.TheVariants as reply
use Rattle.in_place_record.proofs.Laws.{csrs_words_lem}
use Rattle.in_place_record.specs.Steps.{Laid, Settled}
use Rattle.in_place_record.specs.View.{record_of, view_of}
use Rattle.scope.specs.ReplyWords.{reply_word}
use Rattle.replay_scope.specs.declared.Gives.{Gives}
use Rattle.replay_scope.specs.declared.Gives.TheVariants as gives
use Rattle.replay_scope.specs.declared.Place.TheVariants as place
use Rattle.replay_scope.specs.declared.Progress.{Progress}
use Rattle.replay_scope.specs.Output.{exit_said, followed_by, pair_taken, saying, settled_by, settled_of, trap_started, unfit_of}
use Rattle.replay_traps.specs.declared.Replay.{Replay}
use Rattle.replay_traps.specs.InPlace.{state_in, state_of, step_with}

-- exits are below 0x20 and errors from 0x100 on; between lie an ask, a load's completion and a value
unfoldable pub exit_by : ℕ → ℕ → ℕ
exit_by before word = pick (nat_lt word 32) word (pick (nat_lt word 256) before word)

exit_word : (before : ℕ) (e : Exit) → exit_by before (exit_number e) ≡ exit_number e
unfolding exit_by exit_number
exit_word before exit.Nothing = refl
exit_word before (exit.ExternalInterrupt v) = refl
exit_word before (exit.SendIpi r) = refl
exit_word before (exit.CpuUp t e a) = refl
exit_word before (exit.CpuDown s) = refl
exit_word before exit.Halt = refl
exit_word before (exit.Hypercall n) = refl
exit_word before exit.SystemDown = refl
exit_word before (exit.NestedPageFault a k) = refl
exit_word before (exit.MmioRead a w) = refl
exit_word before (exit.MmioWrite a w d) = refl

ask_word : (before : ℕ) (a : Ask) → exit_by before (32 + ask_number a) ≡ before
unfolding exit_by ask_number
ask_word before (ask.Fetch a s) = refl
ask_word before (ask.CopyMask a) = refl
ask_word before (ask.CopyIn a n) = refl
ask_word before (ask.Print n) = refl
ask_word before (ask.ReadConsole n) = refl
ask_word before (ask.CopyOut a n) = refl
ask_word before (ask.Emit n) = refl
ask_word before ask.GetChar = refl
ask_word before (ask.Forward e f a) = refl

error_word : (before : ℕ) (e : Error) → exit_by before (256 + error_number e) ≡ 256 + error_number e
unfolding exit_by error_number
error_word before error.InvalidInput = refl
error_word before error.BadState = refl
error_word before error.Unsupported = refl
error_word before error.InvalidTrap = refl
error_word before error.DecodeFailed = refl
error_word before error.GuestMemoryFault = refl
error_word before error.WrongAnswer = refl

-- what `exit` says after a reply is read off the reply's word
pub exit_said_lem : (before : ℕ) (r : Reply) → exit_by before (reply_word r) ≡ exit_said before r
unfolding exit_said reply_word exit_by
exit_said_lem before (reply.Exit e) = exit_word before e
exit_said_lem before (reply.Ask a) = ask_word before a
exit_said_lem before reply.Done = refl
exit_said_lem before (reply.Value n) = refl
exit_said_lem before (reply.Error e) = error_word before e

-- a general register where it lies
register_word : (r : List ℕ) (i : ℕ) → i < 32 → slice_index r i ≡ slice_index (view_of r).x i
unfolding view_of record_of unpack_of
register_word r i h = sym (get_or-take 32 r i 0 h)

-- sepc where it lies
sepc_word : (r : List ℕ) → length r ≡ 58 → slice_index r 32 ≡ (view_of r).csrs.guest.sepc
sepc_word r n = ap (λ (c : Csrs). c.guest.sepc) (csrs_words_lem r n)

-- a step after a call, by the record and the word that the call leaves
pub settled_by_lem : (p : Progress) (r : List ℕ) (word : ℕ) (o : Outcome) → view_of r ≡ o.vcpu → word ≡ reply_word o.reply
    → settled_by (view_of r) (saying p (exit_by p.exit word)) ≡ settled_of p o
unfolding settled_of
settled_by_lem p r word o e f =
    ap (λ (v : Vcpu). settled_by v (saying p (exit_by p.exit word))) e
    ∙ ap (λ (n : ℕ). settled_by o.vcpu (saying p n)) (ap (exit_by p.exit) f ∙ exit_said_lem p.exit o.reply)

-- nothing waits: the trap's four lines are read off the record's words
pub trap_over : (p : Progress) (r : List ℕ) (t : Replay) (g : Gives) (idle : Bool) → length r ≡ 58 → t.record ≡ r → t.progress ≡ followed_by p place.Scause
    → g ≡ gives.Trap p.exit (slice_index r 32) (slice_index r 10) (slice_index r 11) → idle ≡ true → idle ≡ is_idle (view_of r).waiting → step_with t g ≡ settled_by (view_of r) p
unfolding settled_by step_with state_of state_in
trap_over p r t h idle n s e g i j =
    let k : is_idle (view_of r).waiting ≡ true = sym j ∙ i in
    let a : slice_index_or r 10 0 ≡ slice_index_or (view_of r).x 10 0 = register_word r 10 (lit≤ tt) in
    let b : slice_index_or r 11 0 ≡ slice_index_or (view_of r).x 11 0 = register_word r 11 (lit≤ tt) in
    rw (s, k, e, g, sepc_word r n, a, b)

-- something waits
pub word_follows : (p : Progress) (r : List ℕ) (t : Replay) (g : Gives) (idle : Bool) → t.record ≡ r → t.progress ≡ followed_by p place.Word → g ≡ gives.Nothing
    → idle ≡ false → idle ≡ is_idle (view_of r).waiting → step_with t g ≡ settled_by (view_of r) p
unfolding settled_by step_with state_of state_in
word_follows p r t h idle s e g i j =
    let k : is_idle (view_of r).waiting ≡ false = sym j ∙ i in
    rw (s, k, e, g)

-- a trap's start, an answer and a load's completion, by what the call promises and the step after it
module _ (p : Progress) (r : List ℕ) (later : List ℕ) (t : Replay) (g : Gives) where
  pub start_stepped : (htinst : ℕ) (leaves : Outcome → List ℕ) (o out : List ℕ) (word : ℕ)
      → Laid leaves o (called_of (view_of r) (host_call.Start (record { scause = p.kept.scause; stval = p.kept.stval; htval = p.kept.htval; htinst = htinst; room = 4096 }))) later out word
      → ((q : Outcome) → view_of later ≡ q.vcpu → word ≡ reply_word q.reply → step_with t g ≡ settled_of p q)
      → step_with t g ≡ trap_started (state_in r p) htinst
  unfolding trap_started state_in
  start_stepped htinst leaves o out word m on = on _ m.shows m.says

  pub load_stepped : (more ask : ℕ) (leaves : Outcome → List ℕ) (word : ℕ) → ask ≡ waiting_ask (view_of r).waiting → ask ≡ 0
      → Settled leaves (called_of (view_of r) (host_call.CompleteLoad p.kept.word)) later word
      → ((q : Outcome) → view_of later ≡ q.vcpu → word ≡ reply_word q.reply → step_with t g ≡ settled_of p q)
      → step_with t g ≡ pair_taken (state_in r p) more
  unfolding pair_taken state_in
  load_stepped more ask leaves word a z m on =
      let e : waiting_ask (view_of r).waiting ≡ 0 = sym a ∙ z in
      on (called_of (view_of r) (host_call.CompleteLoad p.kept.word)) m.shows m.says ∙ simp (eq-eqb _ _ e)

  -- for a fetch, more is at most 5
  pub answer_stepped : (more ask : ℕ) (leaves : Outcome → List ℕ) (o out : List ℕ) (word : ℕ) → ask ≡ waiting_ask (view_of r).waiting → (ask ≢ 0)
      → and (ask == 1) (nat_lt 5 more) ≡ false
      → Laid leaves o (called_of (view_of r) (host_call.Answer (answer_for ask p.kept.word more))) later out word
      → ((q : Outcome) → view_of later ≡ q.vcpu → word ≡ reply_word q.reply → step_with t g ≡ settled_of p q)
      → step_with t g ≡ pair_taken (state_in r p) more
  unfolding pair_taken state_in
  answer_stepped more ask leaves o out word a z n m on =
      on (called_of (view_of r) (host_call.Answer (answer_for ask p.kept.word more))) m.shows m.says ∙ simp (sym a, ne_eqb _ _ z, n)

  -- and above 5 the line is unfit
  pub unfit_stepped : (more ask : ℕ) → ask ≡ waiting_ask (view_of r).waiting → ask ≡ 1 → 5 < more
      → step_with t g ≡ unfit_of (state_in r p) → step_with t g ≡ pair_taken (state_in r p) more
  unfolding pair_taken state_in
  unfit_stepped more ask a i h e =
      let k : waiting_ask (view_of r).waiting ≡ 1 = sym a ∙ i in
      e ∙ simp (k, lt-ltb _ _ h)

-- Demand 1 in words, of every call: a refusal and a read leave every word; a trap that ends in an error changes no register's word
-- and no CSR's; and each number is given exactly where 01's table has it.
use Rattle.std.specs.Prelude.{ℕ, ◌+◌, Bool, true, false, List, [], ◌∷◌, ◌≡◌, refl, eqb, ltb, length}
use Rattle.std.proofs.Common.{arith, ap, sym, subst, ◌∙◌, eq-eqb, eqb-true, ltb-true, ne_eqb}
use Rattle.std.proofs.lemmas.Bool.{eqb-false}
use Rattle.isa_types.specs.Pick.{and}
use Rattle.scope.specs.Calls.{base_of, called_of, effect_of}
use Rattle.scope.specs.declared.hosts.HostCall.TheVariants as host_call
use Rattle.scope.specs.declared.hosts.HostCall.{HostCall}
use Rattle.scope.specs.declared.machine.Outcome.{Outcome}
use Rattle.scope.specs.declared.machine.Record.{Record}
use Rattle.scope.specs.declared.machine.Vcpu.{Vcpu}
use Rattle.scope.specs.declared.machine.Waiting.{Waiting}
use Rattle.scope.specs.declared.traps.Ask.TheVariants as ask
use Rattle.scope.specs.declared.traps.Ask.{Ask}
use Rattle.scope.specs.declared.traps.Error.{Error}
use Rattle.scope.specs.declared.traps.Exit.TheVariants as exit
use Rattle.scope.specs.declared.traps.Exit.{Exit}
use Rattle.scope.specs.declared.traps.Reply.TheVariants as reply
use Rattle.scope.specs.declared.traps.Reply.{Reply}
use Rattle.scope.specs.declared.traps.Trap.{Trap}
use Rattle.scope.specs.OneTrap.{ask_number, exit_number}
use Rattle.scope.specs.declared.hosts.Post.{Post}
use Rattle.scope.specs.Posts.{left_posted, posted_of}
use Rattle.scope.specs.Record.{applied, bumped, counted, event_number, stored}
use Rattle.scope.specs.Refusals.{done_of, error_number, leaves_of, refuses}
use Rattle.scope.specs.ReplyWords.{reply_kind, reply_number, reply_word}
use Rattle.scope.specs.Words.{csrs_words, laid_with, left_by, left_of, trap_left, unpack_of, waiting_left}
use Rattle.demand1.proofs.Demand1.{refusal_keeps_the_record}
use Rattle.demand1.specs.When.{call_when, gives, is}
use Rattle.demand1.proofs.WhenLaws.{call_when_lem}
use Rattle.demand1.proofs.RowLaws.{none_applied_keeps_the_record}
use Rattle.demand1.specs.Whole.{Middles, Over, after_turn, carried, in_error, whole_of}
use Rattle.demand1.proofs.WholeLaws.{after_steps, error_changes_nothing}
use Rattle.demand3_table.specs.Runs.{step_of}
use Rattle.demand3_table.specs.Turns.{Turn, call}
use Rattle.demands_words.specs.Left.{Sized, left_after, turn_left}
use Rattle.demands_words.proofs.Left.{csrs_words_back, left_shows, left_sized, turn_shows, turn_sized}
use Rattle.demands_words.specs.First.{OverWords}

never : {A : Type 0} → false ≡ true → A
never h = let z : ◌≡◌ {A = ℕ} 0 1 = cc in absurd (omega arith)

-- a record whose meaning stays, with its waiting words, stays

laid_same : (r : Record) (u : Vcpu) (w : List ℕ) → Sized r → u ≡ unpack_of r → w ≡ r.waiting → laid_with u w ≡ r
unfolding laid_with unpack_of
laid_same r u w z h k =
    let csrs : csrs_words u.csrs ≡ r.csrs = ap (λ (v : Vcpu). csrs_words v.csrs) h ∙ csrs_words_back r.csrs z.thirteen in
    λ i. record { x = (h i).x; csrs = csrs i; counts = (h i).counts; waiting = k i }

new_done : (v : Vcpu) (hart tree : ℕ) → refuses (called_of v (host_call.New hart tree)).reply ≡ false
unfolding called_of base_of effect_of done_of applied refuses
new_done v hart tree = refl

trap_refused : (w : List ℕ) (p : Reply) (n : Waiting) → refuses p ≡ true → trap_left w p n ≡ w
unfolding trap_left
trap_refused w p n h = rw h refl

refused_waits : (v : Vcpu) (c : HostCall) (w : List ℕ) (n : Waiting) → refuses (called_of v c).reply ≡ true → waiting_left c w (called_of v c).reply n ≡ w
unfolding waiting_left
refused_waits v (host_call.New hart tree) w n h = never (sym (new_done v hart tree) ∙ h)
refused_waits v host_call.Setup w n h = refl
refused_waits v (host_call.SetEntry at) w n h = refl
refused_waits v (host_call.GetGpr index) w n h = refl
refused_waits v (host_call.SetGpr index value) w n h = refl
refused_waits v (host_call.SetReturnValue value) w n h = refl
refused_waits v (host_call.SetNestedPageTable levels mode root) w n h = refl
refused_waits v (host_call.SetPending vector level) w n h = refl
refused_waits v (host_call.LatchHvip bits) w n h = refl
refused_waits v (host_call.CompleteIpi abi completion) w n h = refl
refused_waits v (host_call.Start t) w n h = trap_refused w _ n h
refused_waits v (host_call.Answer a) w n h = trap_refused w _ n h
refused_waits v (host_call.CompleteLoad k) w n h = trap_refused w _ n h
refused_waits v (host_call.ToPrint length) w n h = refl

-- a refusal of any call leaves every word
pub refusal_leaves_the_words : (r : Record) (c : HostCall) → Sized r → refuses (called_of (unpack_of r) c).reply ≡ true → left_of r c ≡ r
unfolding left_of left_by
refusal_leaves_the_words r c z h =
    laid_same r _ _ z (refusal_keeps_the_record (unpack_of r) c h) (refused_waits (unpack_of r) c r.waiting _ h)

-- so does a register read, and the question how much is to be printed
pub read_leaves_the_words : (r : Record) (index : ℕ) → Sized r → left_of r (host_call.GetGpr index) ≡ r
unfolding left_of left_by called_of base_of effect_of leaves_of applied stored counted bumped event_number waiting_left
read_leaves_the_words r index z = laid_same r (unpack_of r) r.waiting z refl refl

pub print_leaves_the_words : (r : Record) (n : ℕ) → Sized r → left_of r (host_call.ToPrint n) ≡ r
unfolding left_of left_by called_of base_of effect_of leaves_of applied stored counted bumped event_number waiting_left
print_leaves_the_words r n z = laid_same r (unpack_of r) r.waiting z refl refl

-- so does a row of posts that applies nothing
pub row_leaves_the_words : (r : Record) (ps : List Post) → Sized r → (posted_of (unpack_of r) ps).posted.applied ≡ 0 → left_posted r ps ≡ r
unfolding left_posted
row_leaves_the_words r ps z h =
    laid_same r _ _ z (none_applied_keeps_the_record (unpack_of r) ps h) refl

after_shows : (o : Outcome) (s : Record) (l : List Turn) → Sized s → unpack_of s ≡ o.vcpu → (unpack_of (left_after s l) ≡ (carried o l).vcpu) × (Sized (left_after s l))
unfolding left_after carried
after_shows o s [] z h = (h, z)
after_shows o s (c ∷ l) z h =
    after_shows (after_turn o c) (turn_left s c) l (turn_sized s c z) (turn_shows s c z ∙ ap (λ (v : Vcpu). step_of v c) h ∙ sym (after_steps o c))

over_words : (r s : Record) → Sized r → Sized s → Over (unpack_of r) (unpack_of s) → OverWords r s
unfolding unpack_of
over_words r s z y o =
    record {
      x = o.x;
      csrs = sym (csrs_words_back s.csrs y.thirteen) ∙ ap csrs_words o.csrs ∙ csrs_words_back r.csrs z.thirteen;
      waiting = o.waiting;
      counts = o.counts;
    }

pub error_leaves_the_words : (r : Record) (t : Trap) (l : List Turn) → Sized r
    → Middles (called_of (unpack_of r) (host_call.Start t)).vcpu l
    → in_error (whole_of (unpack_of r) t l).reply ≡ true
    → OverWords r (left_after r (call (host_call.Start t) ∷ l))
unfolding whole_of left_after turn_left
error_leaves_the_words r t l z m h =
    let after = after_shows (called_of (unpack_of r) (host_call.Start t)) (left_of r (host_call.Start t)) l (left_sized r (host_call.Start t) z) (left_shows r (host_call.Start t) z) in
    over_words r (left_after (left_of r (host_call.Start t)) l) z after.1
    (subst (λ (u : Vcpu). Over (unpack_of r) u) (sym after.0) (error_changes_nothing (unpack_of r) t l m h))

-- the table of 'given exactly when', of the word that is returned, and of kind and number

-- no exit, ask, done or value has a word so high
low : (e : Error) (n : ℕ) → ltb n 256 ≡ true → eqb n (256 + error_number e) ≡ false
low e n h = ne_eqb n (256 + error_number e) (λ k. omega (arith, ltb-true n 256 h))

exit_low : (x : Exit) → ltb (exit_number x) 256 ≡ true
unfolding exit_number
exit_low exit.Nothing = refl
exit_low (exit.ExternalInterrupt v) = refl
exit_low (exit.SendIpi r) = refl
exit_low (exit.CpuUp t n a) = refl
exit_low (exit.CpuDown s) = refl
exit_low exit.Halt = refl
exit_low (exit.Hypercall n) = refl
exit_low exit.SystemDown = refl
exit_low (exit.NestedPageFault a k) = refl
exit_low (exit.MmioRead a w) = refl
exit_low (exit.MmioWrite a w d) = refl

ask_low : (a : Ask) → ltb (32 + ask_number a) 256 ≡ true
unfolding ask_number
ask_low (ask.Fetch a s) = refl
ask_low (ask.CopyMask a) = refl
ask_low (ask.CopyIn a n) = refl
ask_low (ask.Print n) = refl
ask_low (ask.ReadConsole n) = refl
ask_low (ask.CopyOut a n) = refl
ask_low (ask.Emit n) = refl
ask_low ask.GetChar = refl
ask_low (ask.Forward f g a) = refl

shifted : (m n : ℕ) → eqb (256 + m) (256 + n) ≡ eqb n m
shifted m n = by (eqb n m) refl
  where
    by : (b : Bool) → eqb n m ≡ b → eqb (256 + m) (256 + n) ≡ b
    by true h = eq-eqb (256 + m) (256 + n) (ap (λ (k : ℕ). 256 + k) (sym (eqb-true n m h)))
    by false h = ne_eqb (256 + m) (256 + n) (λ k. omega (arith, eqb-false n m h))

word_says : (e : Error) (p : Reply) → eqb (reply_word p) (256 + error_number e) ≡ gives e p
unfolding reply_word gives is
word_says e (reply.Exit x) = low e (exit_number x) (exit_low x)
word_says e (reply.Ask a) = low e (32 + ask_number a) (ask_low a)
word_says e reply.Done = low e 64 refl
word_says e (reply.Value n) = low e 65 refl
word_says e (reply.Error y) = shifted (error_number y) (error_number e)

-- the word is 0x100 + e exactly where the table has e
pub word_when_lem : (e : Error) (v : Vcpu) (c : HostCall) → eqb (reply_word (called_of v c).reply) (256 + error_number e) ≡ call_when v c e
word_when_lem e v c = word_says e (called_of v c).reply ∙ call_when_lem e v c

number_says : (e : Error) (p : Reply) → and (eqb (reply_kind p) 4) (eqb (error_number e) (reply_number p)) ≡ gives e p
unfolding reply_kind reply_number gives is
number_says e (reply.Exit x) = refl
number_says e (reply.Ask a) = refl
number_says e reply.Done = refl
number_says e (reply.Value n) = refl
number_says e (reply.Error y) = refl

-- the kind is 4 and the number e exactly there
pub number_when : (e : Error) (v : Vcpu) (c : HostCall) → and (eqb (reply_kind (called_of v c).reply) 4) (eqb (error_number e) (reply_number (called_of v c).reply)) ≡ call_when v c e
number_when e v c = number_says e (called_of v c).reply ∙ call_when_lem e v c

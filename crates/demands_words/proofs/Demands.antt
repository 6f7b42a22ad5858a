-- Demands 1 and 3, and the counts, of the entries that hosts call: in place, in all 58 words, and by words.
use Rattle.std.specs.Prelude.{ℕ, suc, ◌+◌, ◌<◌, true, false, List, ◌∷◌, ◌≡◌, refl, eqb, get_or, length, replicate}
use Rattle.std.proofs.Common.{arith, ap, ap₂, sym, subst, ◌∙◌}
use Rattle.isa_types.specs.Pick.{and, or, wrapped}
use Rattle.scope.specs.Calls.{called_of}
use Rattle.scope.specs.declared.hosts.HostCall.TheVariants as host_call
use Rattle.scope.specs.declared.hosts.HostCall.{HostCall}
use Rattle.scope.specs.declared.hosts.Post.{Post}
use Rattle.scope.specs.declared.hosts.Posted.{Posted}
use Rattle.scope.specs.declared.machine.Record.{Record}
use Rattle.scope.specs.declared.machine.Vcpu.{Vcpu}
use Rattle.scope.specs.declared.traps.Ask.TheVariants as ask
use Rattle.scope.specs.declared.traps.Ask.{Ask}
use Rattle.scope.specs.declared.traps.Error.TheVariants as error
use Rattle.scope.specs.declared.traps.Error.{Error}
use Rattle.scope.specs.declared.traps.Exit.TheVariants as exit
use Rattle.scope.specs.declared.traps.Exit.{Exit}
use Rattle.scope.specs.declared.traps.Reply.TheVariants as reply
use Rattle.scope.specs.declared.traps.Reply.{Reply}
use Rattle.scope.specs.declared.traps.Trap.{Trap}
use Rattle.scope.specs.OneTrap.{ask_number, exit_number}
use Rattle.scope.specs.Refusals.{error_number, refusal, refuses}
use Rattle.scope.specs.Posts.{left_posted}
use Rattle.scope.specs.ReplyWords.{out_of, reply_kind, reply_number, reply_values, reply_word}
use Rattle.scope.specs.Words.{left_of, unpack_of}
use Rattle.words_call.specs.declared.CallWords.{CallWords}
use Rattle.words_call.specs.declared.ReplyWords.{ReplyWords}
use Rattle.words_call.specs.Words.{call_of, reply_words_of}
use Rattle.words_entry.specs.Words.{Exported, exported_of}
use Rattle.words_entry_posts.specs.Words.{ExportedRow, exported_row}
use Rattle.in_place_record.specs.View.{Done, Made, MadeRow, record_of, view_of}
use Rattle.demand1.specs.Demand1.{Pending}
use Rattle.demand1.proofs.Demand1.{ask_waits, exit_leaves}
use Rattle.demand1.specs.Leaves.{ExitLeaves}
use Rattle.demand1.proofs.RowLaws.{row_applies_lem, row_when_lem}
use Rattle.demand1.specs.When.{call_when, row_applies, row_when}
use Rattle.demand1.specs.Whole.{Middles, in_error, whole_of}
use Rattle.demand3.proofs.Counting as counting
use Rattle.demand3.specs.Counting.{Counted}
use Rattle.demand3.specs.Kinds.{traps}
use Rattle.demand3_table.specs.Runs.{Lasting, Untouched, seen_of, sight_of, step_of}
use Rattle.demand3_table.specs.Turns.{call, post}
use Rattle.demands_words.specs.Left.{Sized, left_after, turn_left}
use Rattle.demands_words.proofs.Left.{left_shows, left_sized, row_shows, turn_sized}
use Rattle.demands_words.specs.First.{OverWords}
use Rattle.demands_words.proofs.First.{error_leaves_the_words, number_when, print_leaves_the_words, read_leaves_the_words, refusal_leaves_the_words, row_leaves_the_words, word_when_lem}
use Rattle.demands_words.specs.Places as places
use Rattle.demands_words.specs.Places.{Answered, Entered, Places, Shown, Spoken, Use, spoken_turn, turns_in, turns_of, use_turn}
use Rattle.demands_words.proofs.Places.{leads, one_place, record_sized}
use Rattle.demands_words.specs.Third.{AlikeWords, WordsThird}
use Rattle.demands_words.proofs.Third.{after_run, words_third}
use Rattle.demands_words.specs.Demands.{EnteredThird, PlaceThird, Ran, answered_by, given_in, refusal_given, refusal_word, shown_for}

ran : {r u : List ℕ} {cs : List Use} {ws : List Shown} → length r ≡ 58 → Places r cs ws u → Ran r cs u
unfolding turns_of left_after
ran e places.none = record { sized = e; left = refl }
ran {r} e (places.next {s = s} {c = c} {cs = cs} k p) =
    let one = leads e k in
    let rest = ran one.sized p in
    record { sized = rest.sized; left = rest.left ∙ ap (λ (z : Record). left_after z (turns_of cs)) one.left }

told_by : {r u : List ℕ} {cs : List Use} {ws : List Shown} → length r ≡ 58 → Places r cs ws u → ws ≡ shown_for cs (seen_of (view_of r) (turns_of cs))
unfolding turns_of seen_of shown_for
told_by e places.none = refl
told_by {r} e (places.next {c = c} {cs = cs} k p) =
    let one = leads e k in
    ap₂ ◌∷◌ one.says (told_by one.sized p ∙ ap (λ (v : Vcpu). shown_for cs (seen_of v (turns_of cs))) one.shows)

refusal_word_lem : (p : Reply) → refusal_word (reply_word p) ≡ refuses p
unfolding refusal_word reply_word refuses refusal exit_number ask_number error_number
refusal_word_lem (reply.Exit exit.Nothing) = refl
refusal_word_lem (reply.Exit (exit.ExternalInterrupt v)) = refl
refusal_word_lem (reply.Exit (exit.SendIpi r)) = refl
refusal_word_lem (reply.Exit (exit.CpuUp t e a)) = refl
refusal_word_lem (reply.Exit (exit.CpuDown s)) = refl
refusal_word_lem (reply.Exit exit.Halt) = refl
refusal_word_lem (reply.Exit (exit.Hypercall n)) = refl
refusal_word_lem (reply.Exit exit.SystemDown) = refl
refusal_word_lem (reply.Exit (exit.NestedPageFault a k)) = refl
refusal_word_lem (reply.Exit (exit.MmioRead a w)) = refl
refusal_word_lem (reply.Exit (exit.MmioWrite a w d)) = refl
refusal_word_lem (reply.Ask (ask.Fetch a s)) = refl
refusal_word_lem (reply.Ask (ask.CopyMask a)) = refl
refusal_word_lem (reply.Ask (ask.CopyIn a n)) = refl
refusal_word_lem (reply.Ask (ask.Print n)) = refl
refusal_word_lem (reply.Ask (ask.ReadConsole n)) = refl
refusal_word_lem (reply.Ask (ask.CopyOut a n)) = refl
refusal_word_lem (reply.Ask (ask.Emit n)) = refl
refusal_word_lem (reply.Ask ask.GetChar) = refl
refusal_word_lem (reply.Ask (ask.Forward e f a)) = refl
refusal_word_lem reply.Done = refl
refusal_word_lem (reply.Value n) = refl
refusal_word_lem (reply.Error error.InvalidInput) = refl
refusal_word_lem (reply.Error error.BadState) = refl
refusal_word_lem (reply.Error error.Unsupported) = refl
refusal_word_lem (reply.Error error.InvalidTrap) = refl
refusal_word_lem (reply.Error error.DecodeFailed) = refl
refusal_word_lem (reply.Error error.GuestMemoryFault) = refl
refusal_word_lem (reply.Error error.WrongAnswer) = refl

never : {A : Type 0} → false ≡ true → A
never h = let z : ◌≡◌ {A = ℕ} 0 1 = cc in absurd (omega arith)

blank_by : (p : Reply) (args : List ℕ) → refuses p ≡ true → out_of p args ≡ replicate 8 0
unfolding out_of reply_word reply_values refuses refusal error_number
blank_by (reply.Exit e) args h = never h
blank_by (reply.Ask a) args h = never h
blank_by reply.Done args h = never h
blank_by (reply.Value n) args h = never h
blank_by (reply.Error error.InvalidInput) args h = refl
blank_by (reply.Error error.BadState) args h = refl
blank_by (reply.Error error.Unsupported) args h = never h
blank_by (reply.Error error.InvalidTrap) args h = never h
blank_by (reply.Error error.DecodeFailed) args h = never h
blank_by (reply.Error error.GuestMemoryFault) args h = never h
blank_by (reply.Error error.WrongAnswer) args h = refl

refused_place : (r s : List ℕ) (c : HostCall) (w : ℕ) → length r ≡ 58 → length s ≡ 58 → record_of s ≡ left_of (record_of r) c → w ≡ reply_word (called_of (view_of r) c).reply → refusal_word w ≡ true → s ≡ r
unfolding view_of
refused_place r s c w e f left says h =
    one_place s r f e (left ∙ refusal_leaves_the_words (record_of r) c (record_sized r e) (sym (refusal_word_lem (called_of (view_of r) c).reply) ∙ ap refusal_word (sym says) ∙ h))

pub place_refusal_keeps_the_record : (r s p : List ℕ) (c : HostCall) (w : ℕ) → length r ≡ 58 → Made r c s p w → refusal_word w ≡ true → (s ≡ r) × (p ≡ replicate 8 0)
unfolding use_turn turn_left
place_refusal_keeps_the_record r s p c w e m h =
    let one = leads e (places.gives m) in (
      refused_place r s c w e one.sized one.left m.says h,
      m.gives ∙ blank_by (called_of (view_of r) c).reply (called_of (view_of r) c).args (sym (refusal_word_lem (called_of (view_of r) c).reply) ∙ ap refusal_word (sym m.says) ∙ h),
    )

pub host_refusal_keeps_the_record : (r s : List ℕ) (c : HostCall) (w : ℕ) → length r ≡ 58 → Done r c s w → refusal_word w ≡ true → s ≡ r
unfolding use_turn turn_left
host_refusal_keeps_the_record r s c w e d h =
    let one = leads e (places.does d) in refused_place r s c w e one.sized one.left d.says h

-- a register read leaves all 58
pub place_read_keeps_the_record : (r s p : List ℕ) (index w : ℕ) → length r ≡ 58 → Made r (host_call.GetGpr index) s p w → s ≡ r
unfolding use_turn turn_left
place_read_keeps_the_record r s p index w e m =
    let one = leads e (places.gives m) in
    one_place s r one.sized e (one.left ∙ read_leaves_the_words (record_of r) index (record_sized r e))

-- 0x100 + e is returned exactly where 01's table has e
pub place_when : (y : Error) (r s p : List ℕ) (c : HostCall) (w : ℕ) → Made r c s p w → eqb w (256 + error_number y) ≡ call_when (view_of r) c y
place_when y r s p c w m = ap (λ (n : ℕ). eqb n (256 + error_number y)) m.says ∙ word_when_lem y (view_of r) c

pub host_when : (y : Error) (r s : List ℕ) (c : HostCall) (w : ℕ) → Done r c s w → eqb w (256 + error_number y) ≡ call_when (view_of r) c y
host_when y r s c w d = ap (λ (n : ℕ). eqb n (256 + error_number y)) d.says ∙ word_when_lem y (view_of r) c

-- an ask leaves exactly that ask waiting
pub place_ask_waits : (r s p : List ℕ) (c : HostCall) (w : ℕ) → Made r c s p w → (a : Ask) → (called_of (view_of r) c).reply ≡ reply.Ask a → Pending (view_of r) a (view_of s)
place_ask_waits r s p c w m a e =
    subst (λ (v : Vcpu). Pending (view_of r) a v) (sym m.shows) (ask_waits (view_of r) c a e)

start_first : (r : Record) (t : Trap) (cs : List Use) → left_after r (turns_of (places.given (host_call.Start t) ∷ cs)) ≡ left_after r (call (host_call.Start t) ∷ turns_of cs)
unfolding turns_of use_turn
start_first r t cs = refl

-- nothing waits after an exit, but a load after MmioRead
pub place_exit_leaves : (r s p : List ℕ) (c : HostCall) (w : ℕ) → Made r c s p w → (y : Exit) → (called_of (view_of r) c).reply ≡ reply.Exit y → ExitLeaves y (view_of s).waiting
place_exit_leaves r s p c w m y e =
    subst (λ (v : Vcpu). ExitLeaves y v.waiting) (sym m.shows) (exit_leaves (view_of r) c y e)

-- a trap that ends in an error, from its start through its last answer, with refused calls, rows while an ask waits, and reads between
pub place_error_changes_nothing : (r u : List ℕ) (t : Trap) (cs : List Use) (ws : List Shown) → length r ≡ 58 → Places r (places.given (host_call.Start t) ∷ cs) ws u
    → Middles (called_of (view_of r) (host_call.Start t)).vcpu (turns_of cs) → in_error (whole_of (view_of r) t (turns_of cs)).reply ≡ true → OverWords (record_of r) (record_of u)
unfolding view_of
place_error_changes_nothing r u t cs ws e p m h =
    subst (λ (z : Record). OverWords (record_of r) z) (sym ((ran e p).left ∙ start_first (record_of r) t cs)) (error_leaves_the_words (record_of r) t (turns_of cs) (record_sized r e) m h)

pub place_third : (k : ℕ) {r q u t : List ℕ} {cs : List Use} {ws xs : List Shown} → length r ≡ 58 → length q ≡ 58 → AlikeWords k (record_of r) (record_of q)
    → Untouched k (view_of r) (turns_of cs) → Places r cs ws u → Places q cs xs t → PlaceThird k r q u t cs ws xs
unfolding view_of
place_third k {r} {q} {u} {t} {cs} {ws} {xs} e f a n p o =
    let both : WordsThird k (record_of r) (record_of q) (turns_of cs) = words_third k (record_of r) (record_of q) (turns_of cs) (record_sized r e) (record_sized q f) a n in
    let here = ran e p in
    let there = ran f o in
    record {
      shown = told_by e p ∙ ap (shown_for cs) both.sights ∙ sym (told_by f o);
      alike = subst (λ (z : Record). AlikeWords k z (record_of t)) (sym here.left) (subst (λ (z : Record). AlikeWords k (left_after (record_of r) (turns_of cs)) z) (sym there.left) both.alike);
      keeps = λ h.
          (ap (λ (z : Record). get_or z.x k 0) here.left ∙ (both.keeps h).0, ap (λ (z : Record). get_or z.x k 0) there.left ∙ (both.keeps h).1);
      joins = λ h. one_place u t here.sized there.sized (here.left ∙ both.joins h ∙ sym there.left);
    }

-- the counts, where no new record is made
pub place_counts : {r u : List ℕ} {cs : List Use} {ws : List Shown} → length r ≡ 58 → Places r cs ws u → (i : ℕ) → Lasting (turns_of cs) → Counted (view_of r).counts → i < 9
    → get_or (view_of u).counts i 0 ≡ wrapped (get_or (view_of r).counts i 0 + traps (suc i) (view_of r) (turns_of cs))
unfolding view_of
place_counts {r} {u} {cs} e p i l k h =
    ap (λ (z : Record). get_or (unpack_of z).counts i 0) (ran e p).left
    ∙ ap (λ (v : Vcpu). get_or v.counts i 0) (after_run (record_of r) (turns_of cs) (record_sized r e))
    ∙ counting.counts (unpack_of (record_of r)) (turns_of cs) i l k h

-- a row of posts that applies nothing leaves all 58; and it gives each number exactly where the table has it, with as many applied
pub place_row_keeps_the_record : (r s : List ℕ) (ps : List Post) (g : Posted) → length r ≡ 58 → MadeRow r ps s g → g.applied ≡ 0 → s ≡ r
unfolding use_turn turn_left view_of
place_row_keeps_the_record r s ps g e m h =
    let one = leads e (places.posts m) in
    one_place s r one.sized e (one.left ∙ row_leaves_the_words (record_of r) ps (record_sized r e) (ap (λ (k : Posted). k.applied) (sym m.says) ∙ h))

pub place_row_when : (y : Error) (r s : List ℕ) (ps : List Post) (g : Posted) → MadeRow r ps s g → (eqb (error_number y) g.refusal ≡ row_when (view_of r) ps y) × (g.applied ≡ row_applies (view_of r) ps)
place_row_when y r s ps g m =
    (ap (λ (k : Posted). eqb (error_number y) k.refusal) m.says ∙ row_when_lem y (view_of r) ps, ap (λ (k : Posted). k.applied) m.says ∙ row_applies_lem (view_of r) ps)

-- the same of the entries over words

entered_left : {r u : Record} {cs : List Spoken} {gs : List Answered} → Entered r cs gs u → u ≡ left_after r (turns_in cs)
unfolding turns_in spoken_turn left_after turn_left exported_of exported_row
entered_left places.none = refl
entered_left (places.next {cs = cs} x p) = entered_left p ∙ ap (λ (z : Record). left_after z (turns_in cs)) x.0
entered_left (places.post {cs = cs} x p) = entered_left p ∙ ap (λ (z : Record). left_after z (turns_in cs)) x.0

row_sized : (r : Record) (ps : List Post) → Sized r → Sized (left_posted r ps)
unfolding turn_left
row_sized r ps z = turn_sized r (post ps) z

entered_gives : {r u : Record} {cs : List Spoken} {gs : List Answered} → Sized r → Entered r cs gs u → gs ≡ given_in cs (seen_of (unpack_of r) (turns_in cs))
unfolding turns_in spoken_turn seen_of given_in answered_by sight_of step_of exported_of exported_row reply_words_of
entered_gives z places.none = refl
entered_gives {r} z (places.next {c = c} {cs = cs} x p) =
    ap₂ (λ (g : ReplyWords) (gs : List Answered). places.replied g ∷ gs) x.1
    (entered_gives (subst (λ (k : Record). Sized k) (sym x.0) (left_sized r (call_of c) z)) p
    ∙ ap (λ (v : Vcpu). given_in cs (seen_of v (turns_in cs))) (ap unpack_of x.0 ∙ left_shows r (call_of c) z))
entered_gives {r} z (places.post {ps = ps} {cs = cs} x p) =
    ap₂ (λ (g : Posted) (gs : List Answered). places.posted g ∷ gs) x.1
    (entered_gives (subst (λ (k : Record). Sized k) (sym x.0) (row_sized r ps z)) p
    ∙ ap (λ (v : Vcpu). given_in cs (seen_of v (turns_in cs))) (ap unpack_of x.0 ∙ row_shows r ps))

given_refuses : (p : Reply) → and (eqb (reply_kind p) 4) (or (eqb (reply_number p) 1) (or (eqb (reply_number p) 2) (eqb (reply_number p) 7))) ≡ refuses p
unfolding reply_kind reply_number error_number refuses refusal
given_refuses (reply.Exit e) = refl
given_refuses (reply.Ask a) = refl
given_refuses reply.Done = refl
given_refuses (reply.Value n) = refl
given_refuses (reply.Error error.InvalidInput) = refl
given_refuses (reply.Error error.BadState) = refl
given_refuses (reply.Error error.Unsupported) = refl
given_refuses (reply.Error error.InvalidTrap) = refl
given_refuses (reply.Error error.DecodeFailed) = refl
given_refuses (reply.Error error.GuestMemoryFault) = refl
given_refuses (reply.Error error.WrongAnswer) = refl

given_by_lem : (r s : Record) (c : CallWords) (g : ReplyWords) → Exported r c s g → refusal_given g ≡ refuses (called_of (unpack_of r) (call_of c)).reply
unfolding refusal_given exported_of reply_words_of
given_by_lem r s c g x =
    ap (λ (n : ReplyWords). and (eqb n.kind 4) (or (eqb n.number 1) (or (eqb n.number 2) (eqb n.number 7)))) x.1
    ∙ given_refuses (called_of (unpack_of r) (call_of c)).reply

-- what is given as a refusal leaves every word
pub words_refusal_keeps_the_record : (r s : Record) (c : CallWords) (g : ReplyWords) → Sized r → Exported r c s g → refusal_given g ≡ true → s ≡ r
unfolding exported_of
words_refusal_keeps_the_record r s c g z x h =
    x.0 ∙ refusal_leaves_the_words r (call_of c) z (sym (given_by_lem r s c g x) ∙ h)

-- so does a row of posts that applies nothing; and it gives each number exactly where the table has it, with as many applied
pub words_row_keeps_the_record : (r s : Record) (ps : List Post) (g : Posted) → Sized r → ExportedRow r ps s g → g.applied ≡ 0 → s ≡ r
unfolding exported_row
words_row_keeps_the_record r s ps g z x h =
    x.0 ∙ row_leaves_the_words r ps z (ap (λ (k : Posted). k.applied) (sym x.1) ∙ h)

pub words_row_when : (y : Error) (r s : Record) (ps : List Post) (g : Posted) → ExportedRow r ps s g → (eqb (error_number y) g.refusal ≡ row_when (unpack_of r) ps y) × (g.applied ≡ row_applies (unpack_of r) ps)
unfolding exported_row
words_row_when y r s ps g x =
    (ap (λ (k : Posted). eqb (error_number y) k.refusal) x.1 ∙ row_when_lem y (unpack_of r) ps, ap (λ (k : Posted). k.applied) x.1 ∙ row_applies_lem (unpack_of r) ps)

-- so does a register read, and the question how much is to be printed
pub words_read_keeps_the_record : (r s : Record) (c : CallWords) (g : ReplyWords) (index : ℕ) → Sized r → call_of c ≡ host_call.GetGpr index → Exported r c s g → s ≡ r
unfolding exported_of
words_read_keeps_the_record r s c g index z k x =
    x.0 ∙ ap (left_of r) k ∙ read_leaves_the_words r index z

pub words_print_keeps_the_record : (r s : Record) (c : CallWords) (g : ReplyWords) (n : ℕ) → Sized r → call_of c ≡ host_call.ToPrint n → Exported r c s g → s ≡ r
unfolding exported_of
words_print_keeps_the_record r s c g n z k x =
    x.0 ∙ ap (left_of r) k ∙ print_leaves_the_words r n z

-- an ask leaves exactly that ask waiting; nothing waits after an exit, but a load after MmioRead
pub words_ask_waits : (r s : Record) (c : CallWords) (g : ReplyWords) → Sized r → Exported r c s g → (a : Ask) → (called_of (unpack_of r) (call_of c)).reply ≡ reply.Ask a → Pending (unpack_of r) a (unpack_of s)
unfolding exported_of
words_ask_waits r s c g z x a e =
    subst (λ (v : Vcpu). Pending (unpack_of r) a v) (sym (ap unpack_of x.0 ∙ left_shows r (call_of c) z)) (ask_waits (unpack_of r) (call_of c) a e)

pub words_exit_leaves : (r s : Record) (c : CallWords) (g : ReplyWords) → Sized r → Exported r c s g → (y : Exit) → (called_of (unpack_of r) (call_of c)).reply ≡ reply.Exit y → ExitLeaves y (unpack_of s).waiting
unfolding exported_of
words_exit_leaves r s c g z x y e =
    subst (λ (v : Vcpu). ExitLeaves y v.waiting) (sym (ap unpack_of x.0 ∙ left_shows r (call_of c) z)) (exit_leaves (unpack_of r) (call_of c) y e)

-- kind 4 and number e are given exactly where 01's table has e
pub words_when : (y : Error) (r s : Record) (c : CallWords) (g : ReplyWords) → Exported r c s g → and (eqb g.kind 4) (eqb (error_number y) g.number) ≡ call_when (unpack_of r) (call_of c) y
unfolding exported_of reply_words_of
words_when y r s c g x =
    ap (λ (n : ReplyWords). and (eqb n.kind 4) (eqb (error_number y) n.number)) x.1 ∙ number_when y (unpack_of r) (call_of c)

pub entered_third : (k : ℕ) {r q u t : Record} {cs : List Spoken} {gs hs : List Answered} → Sized r → Sized q → AlikeWords k r q → Untouched k (unpack_of r) (turns_in cs)
    → Entered r cs gs u → Entered q cs hs t → EnteredThird k r q u t cs gs hs
entered_third k {r} {q} {u} {t} {cs} {gs} {hs} z y a n p o =
    let both : WordsThird k r q (turns_in cs) = words_third k r q (turns_in cs) z y a n in
    record {
      given = entered_gives z p ∙ ap (given_in cs) both.sights ∙ sym (entered_gives y o);
      alike = subst (λ (m : Record). AlikeWords k m t) (sym (entered_left p)) (subst (λ (m : Record). AlikeWords k (left_after r (turns_in cs)) m) (sym (entered_left o)) both.alike);
      keeps = λ h. (ap (λ (m : Record). get_or m.x k 0) (entered_left p) ∙ (both.keeps h).0, ap (λ (m : Record). get_or m.x k 0) (entered_left o) ∙ (both.keeps h).1);
      joins = λ h. entered_left p ∙ both.joins h ∙ sym (entered_left o);
    }

pub entered_error_changes_nothing : (r u : Record) (t : Trap) (c : CallWords) (cs : List Spoken) (gs : List Answered) → Sized r → call_of c ≡ host_call.Start t → Entered r (places.called c ∷ cs) gs u
    → Middles (called_of (unpack_of r) (host_call.Start t)).vcpu (turns_in cs) → in_error (whole_of (unpack_of r) t (turns_in cs)).reply ≡ true → OverWords r u
unfolding turns_in spoken_turn
entered_error_changes_nothing r u t c cs gs z k p m h =
    subst (λ (n : Record). OverWords r n) (sym (entered_left p ∙ ap (λ (l : HostCall). left_after r (call l ∷ turns_in cs)) k)) (error_leaves_the_words r t (turns_in cs) z m h)

-- the counts, where no new record is made
pub entered_counts : {r u : Record} {cs : List Spoken} {gs : List Answered} → Sized r → Entered r cs gs u → (i : ℕ) → Lasting (turns_in cs) → Counted (unpack_of r).counts → i < 9
    → get_or (unpack_of u).counts i 0 ≡ wrapped (get_or (unpack_of r).counts i 0 + traps (suc i) (unpack_of r) (turns_in cs))
entered_counts {r} {u} {cs} z p i l k h =
    ap (λ (m : Record). get_or (unpack_of m).counts i 0) (entered_left p)
    ∙ ap (λ (v : Vcpu). get_or v.counts i 0) (after_run r (turns_in cs) z)
    ∙ counting.counts (unpack_of r) (turns_in cs) i l k h

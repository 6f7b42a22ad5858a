-- Laws of the replay: a line read at once is its bytes fed in order.
use Rattle.std.specs.Prelude.{ℕ, ◌+◌, ◌-◌, ◌≤◌, ◌<◌, Bool, true, false, List, [], ◌∷◌, ◌++◌, ◌≡◌, refl, drop, length, take}
use Rattle.std.proofs.Common.{add-zero, arith, append_assoc, sym, ap, ◌∙◌, subst, lit≤, length-append, length-drop, drop-drop, take_all}
use Rattle.isa_types.specs.Pick.{pick}
use Rattle.replay_lines.specs.declared.Part.{Part}
use Rattle.replay_lines.specs.Read.{Read, Taken, after, taken_of}
use Rattle.replay_output.specs.Put.{Put, PutLine}
use Rattle.replay_output.specs.PutLaws.{line_length, put_both, put_front, put_none, put_same}
use Rattle.replay_scope.specs.declared.Gives.{Gives}
use Rattle.replay_scope.specs.declared.Gives.TheVariants as gives
use Rattle.replay_scope.specs.declared.Got.{Got}
use Rattle.replay_scope.specs.declared.Got.TheVariants as got
use Rattle.replay_scope.specs.declared.Place.{Place}
use Rattle.replay_scope.specs.declared.Place.TheVariants as place
use Rattle.replay_scope.specs.declared.State.{State}
use Rattle.replay_scope.specs.declared.Step.{Step}
use Rattle.replay_scope.specs.Lines.{bytes, key_of, line_of, line_text}
use Rattle.replay_scope.specs.Output.{
  byte_of,
  followed_by,
  got_of,
  keeping,
  line_does,
  number_taken,
  output_of,
  over_at,
  pair_taken,
  read_to,
  saying,
  settled_by,
  settled_of,
  state_after,
  text_of,
  trap_started,
  unfit_of,
}
use Rattle.replay_capture.specs.Feeds.{Feeds}

-- what is given takes at most 84 bytes
pub text_short : (g : Gives) → length (text_of g) ≤ 84
unfolding text_of
text_short gives.Nothing = lit≤ tt
text_short (gives.Trap e s a b) = simp (length-append, line_length) (lit≤ tt)
text_short (gives.Bad n) = simp line_length (lit≤ tt)

-- nothing is written
pub nothing_put : (out : List ℕ) (at : ℕ) → Put out at (text_of gives.Nothing) at out
unfolding text_of
nothing_put out at = record { ends = sym (add-zero at); holds = put_none out at }

-- a trap's four lines are written one after the other
pub trap_put : (o₀ o₁ o₂ o₃ o₄ : List ℕ) (at p q r z e s a b : ℕ) → at + 84 ≤ length o₀
    → PutLine o₀ at (bytes "exit=") e p o₁ → PutLine o₁ p (bytes "sepc=") s q o₂
    → PutLine o₂ q (bytes "a0=") a r o₃ → PutLine o₃ r (bytes "a1=") b z o₄
    → Put o₀ at (text_of (gives.Trap e s a b)) z o₄
unfolding text_of
trap_put o₀ o₁ o₂ o₃ o₄ at p q r z e s a b h f₁ f₂ f₃ f₄ =
    let k₁ : length (bytes "exit=") ≡ 5 = refl in
    let k₂ : length (bytes "sepc=") ≡ 5 = refl in
    let k₃ : length (bytes "a0=") ≡ 3 = refl in
    let k₄ : length (bytes "a1=") ≡ 3 = refl in
    let n₁ : length (line_text (bytes "exit=") e) ≡ 22 = line_length (bytes "exit=") e in
    let n₂ : length (line_text (bytes "sepc=") s) ≡ 22 = line_length (bytes "sepc=") s in
    let n₃ : length (line_text (bytes "a0=") a) ≡ 20 = line_length (bytes "a0=") a in
    let h₁ : at + length (line_text (bytes "exit=") e) ≤ length o₀ = omega arith in
    let w₁ : Put o₀ at (line_text (bytes "exit=") e) p o₁ = f₁.room (omega arith) in
    let l₁ : length o₁ ≡ length o₀ = put_same h₁ w₁ in
    let p₁ : p ≡ at + 22 = w₁.ends ∙ rw n₁ in
    let h₂ : p + length (line_text (bytes "sepc=") s) ≤ length o₁ = omega arith in
    let w₂ : Put o₁ p (line_text (bytes "sepc=") s) q o₂ = f₂.room (omega arith) in
    let l₂ : length o₂ ≡ length o₁ = put_same h₂ w₂ in
    let p₂ : q ≡ p + 22 = w₂.ends ∙ rw n₂ in
    let h₃ : q + length (line_text (bytes "a0=") a) ≤ length o₂ = omega arith in
    let w₃ : Put o₂ q (line_text (bytes "a0=") a) r o₃ = f₃.room (omega arith) in
    let l₃ : length o₃ ≡ length o₂ = put_same h₃ w₃ in
    let p₃ : r ≡ q + 20 = w₃.ends ∙ rw n₃ in
    put_both h₁ w₁ (put_both h₂ w₂ (put_both h₃ w₃ (f₄.room (omega arith))))

-- the line of a bad line
pub bad_put : (out : List ℕ) (at r n : ℕ) (later : List ℕ) → at + 84 ≤ length out → PutLine out at (bytes "bad=") n r later → Put out at (text_of (gives.Bad n)) r later
unfolding text_of
bad_put out at r n later h p =
    let k : length (bytes "bad=") ≡ 4 = refl in
    p.room (omega arith)

-- the state of whose line so much is read
abbrev with_read : State → ℕ → ℕ → State
with_read s a v = record { vcpu = s.vcpu; progress = read_to s.progress a v }

-- what a line does does not hang on how much of it was known
does_with : (k : Place) (s : State) (a v n : ℕ) → line_does k (with_read s a v) n ≡ line_does k s n
unfolding line_does read_to keeping followed_by trap_started settled_of settled_by saying pair_taken unfit_of over_at
does_with (place.Header i) s a v n = refl
does_with place.Scause s a v n = refl
does_with place.Stval s a v n = refl
does_with place.Htval s a v n = refl
does_with place.Htinst s a v n = refl
does_with place.Word s a v n = refl
does_with place.More s a v n = refl

-- nor does what was got of it
got_with : (s : State) (a v : ℕ) (g : Got) → got_of (with_read s a v) g ≡ got_of s g
unfolding got_of read_to number_taken unfit_of over_at
got_with s a v (got.More b w) = refl
got_with s a v (got.Whole w) = does_with s.progress.line.place s a v w
got_with s a v got.Unfit = refl

-- a test that holds
picked : {A : Type 0} (t : Bool) (x y : A) → t ≡ true → pick t x y ≡ x
picked t x y e = rw e

-- a test that does not
passed : {A : Type 0} (t : Bool) (x y : A) → t ≡ false → pick t x y ≡ y
passed t x y e = rw e

-- one byte of a line
fed_one : (s : State) (a v b : ℕ) → s.progress.over ≡ false → byte_of (with_read s a v) b ≡ got_of s (line_of (key_of s.progress.line.place) a v b)
unfolding byte_of read_to
fed_one s a v b e = passed s.progress.over _ _ e ∙ got_with s a v (line_of (key_of s.progress.line.place) a v b)

-- the output of a reading and of the bytes behind it
abbrev said : State → Taken → List ℕ
said s t = text_of (got_of s t.got).gives ++ output_of (got_of s t.got).state t.left

-- the state after them
abbrev led : State → Taken → State
led s t = state_after (got_of s t.got).state t.left

-- the output, by what the first byte gave
said_got : (s : State) (l : List ℕ) (g : Got) → ((a w : ℕ) → output_of (with_read s a w) l ≡ said s (taken_of (key_of s.progress.line.place) a w l))
    → text_of (got_of s g).gives ++ output_of (got_of s g).state l ≡ said s (after g (λ a w. taken_of (key_of s.progress.line.place) a w l) l)
unfolding got_of text_of
said_got s l (got.More a w) on = on a w
said_got s l (got.Whole w) on = refl
said_got s l got.Unfit on = refl

-- the state, by what the first byte gave
led_got : (s : State) (l : List ℕ) (g : Got) → ((a w : ℕ) → state_after (with_read s a w) l ≡ led s (taken_of (key_of s.progress.line.place) a w l))
    → state_after (got_of s g).state l ≡ led s (after g (λ a w. taken_of (key_of s.progress.line.place) a w l) l)
unfolding got_of
led_got s l (got.More a w) on = on a w
led_got s l (got.Whole w) on = refl
led_got s l got.Unfit on = refl

-- the output of bytes is that of the line read on and of the bytes behind it
line_said : (l : List ℕ) (s : State) (a v : ℕ) → s.progress.over ≡ false → output_of (with_read s a v) l ≡ said s (taken_of (key_of s.progress.line.place) a v l)
unfolding output_of taken_of got_of text_of
line_said [] s a v e = refl
line_said (b ∷ l) s a v e =
    ap (λ (x : Step). text_of x.gives ++ output_of x.state l) (fed_one s a v b e)
    ∙ said_got s l (line_of (key_of s.progress.line.place) a v b) (λ c w. line_said l s c w e)

-- and so is the state
line_led : (l : List ℕ) (s : State) (a v : ℕ) → s.progress.over ≡ false → state_after (with_read s a v) l ≡ led s (taken_of (key_of s.progress.line.place) a v l)
unfolding state_after taken_of got_of
line_led [] s a v e = refl
line_led (b ∷ l) s a v e =
    ap (λ (x : Step). state_after x.state l) (fed_one s a v b e)
    ∙ led_got s l (line_of (key_of s.progress.line.place) a v b) (λ c w. line_led l s c w e)

-- a state knows of its line what it knows
with_own : (s : State) → s ≡ with_read s s.progress.line.at s.progress.line.value
unfolding read_to
with_own s = refl

-- a reading of the line is a step
pub read_feeds : (s : State) (l : List ℕ) (p : Part) → s.progress.over ≡ false → Read (key_of s.progress.line.place) s.progress.line.at s.progress.line.value l p
    → Feeds s l (got_of s p.got) p.next
read_feeds s l p e r =
    record {
      high = r.high;
      moves = r.moves;
      says = ap (λ (x : State). output_of x l) (with_own s) ∙ line_said l s s.progress.line.at s.progress.line.value e ∙ ap (said s) r.reads;
      leads = ap (λ (x : State). state_after x l) (with_own s) ∙ line_led l s s.progress.line.at s.progress.line.value e ∙ ap (led s) r.reads;
    }

-- a byte after an unfit line
fed_over : (s : State) (b : ℕ) → s.progress.over ≡ true → byte_of s b ≡ record { state = s; gives = gives.Nothing }
unfolding byte_of
fed_over s b e = picked s.progress.over _ _ e

-- after an unfit line nothing is said
pub over_said : (l : List ℕ) (s : State) → s.progress.over ≡ true → output_of s l ≡ []
unfolding output_of text_of
over_said [] s e = refl
over_said (b ∷ l) s e = ap (λ (x : Step). text_of x.gives ++ output_of x.state l) (fed_over s b e) ∙ over_said l s e

-- and nothing changes
pub over_led : (l : List ℕ) (s : State) → s.progress.over ≡ true → state_after s l ≡ s
unfolding state_after
over_led [] s e = refl
over_led (b ∷ l) s e = ap (λ (x : Step). state_after x.state l) (fed_over s b e) ∙ over_led l s e

-- so all bytes are one step
pub over_feeds : (s : State) (l : List ℕ) → s.progress.over ≡ true → Feeds s l (record { state = s; gives = gives.Nothing }) (length l)
unfolding text_of
over_feeds s l e =
    record {
      high = omega arith;
      moves = λ m. m;
      says = over_said l s e ∙ sym (over_said (drop (length l) l) s e);
      leads = over_led l s e ∙ sym (over_led (drop (length l) l) s e);
    }

-- what is left of the bytes behind the first of them
left_next : (l m : List ℕ) (j : ℕ) → length m ≤ length l → j ≤ length m → m ≡ drop (length l - length m) l → drop j m ≡ drop (length l - length (drop j m)) l
left_next l m j h k e =
    let n : length (drop j m) ≡ length m - j = length-drop j m in
    let p : length l - length m + j ≡ length l - length (drop j m) = omega arith in
    ap (drop j) e ∙ drop-drop j (length l - length m) l ∙ ap (λ (x : ℕ). drop x l) p

-- a step whose output is written behind what was written before
filled_next : (s t : State) (l m : List ℕ) (e : ℕ) (out : List ℕ) (d : Step) (j : ℕ) (z : ℕ) (later : List ℕ)
    → output_of s l ≡ take e out ++ output_of t m → Feeds t m d j → e + 84 ≤ length out → Put out e (text_of d.gives) z later
    → output_of s l ≡ take z later ++ output_of d.state (drop j m)
filled_next s t l m e out d j z later p w h q =
    let n : length (text_of d.gives) ≤ 84 = text_short d.gives in
    let k : e + length (text_of d.gives) ≤ length out = omega arith in
    p
    ∙ ap (λ (x : List ℕ). take e out ++ x) w.says
    ∙ sym (append_assoc (take e out) (text_of d.gives) (output_of d.state (drop j m)))
    ∙ ap (λ (x : List ℕ). x ++ output_of d.state (drop j m)) (sym (put_front out e (text_of d.gives) z later k q))

-- writing what was given keeps the buffer's length
pub written_same : (g : Gives) (out : List ℕ) (e z : ℕ) (later : List ℕ) → e + 84 ≤ length out → Put out e (text_of g) z later → length later ≡ length out
written_same g out e z later h q =
    let n : length (text_of g) ≤ 84 = text_short g in
    put_same (omega arith) q

-- and ends in the buffer
pub written_end : (g : Gives) (out : List ℕ) (e z : ℕ) (later : List ℕ) → e + 84 ≤ length out → Put out e (text_of g) z later → z ≤ length later
written_end g out e z later h q =
    let n : length (text_of g) ≤ 84 = text_short g in
    let s : length later ≡ length out = written_same g out e z later h q in
    omega (arith, q.ends)

-- between two steps: what is left of the bytes l fed from the state s on, and the output so far
abbrev pub Filling : State → List ℕ → ℕ → State → List ℕ → ℕ → List ℕ → Type 0
Filling s l room t left end out =
    (length left ≤ length l) × (left ≡ drop (length l - length left) l) × (length out ≡ room) × (end ≤ length out) × (0 < end → length left < length l)
    × (output_of s l ≡ take end out ++ output_of t left) × (state_after s l ≡ state_after t left)

-- one step more
pub filling_next : (s t : State) (l m : List ℕ) (room e : ℕ) (out : List ℕ) (d : Step) (j z : ℕ) (later : List ℕ) → Filling s l room t m e out
    → 0 < length m → Feeds t m d j → e + 84 ≤ length out → Put out e (text_of d.gives) z later
    → Filling s l room d.state (take (length m - j) (drop j m)) z later
filling_next s t l m room e out d j z later f p w h q =
    let n : length (drop j m) ≡ length m - j = length-drop j m in
    let k : length m ≤ length l = f.0 in
    let x : 0 < j = w.moves p in
    let y : j ≤ length m = w.high in
    subst (λ (r : List ℕ). Filling s l room d.state r z later) (sym (take_all (length m - j) (drop j m) (omega arith))) (
      omega arith,
      left_next l m j k y f.1,
      written_same d.gives out e z later h q ∙ f.2,
      written_end d.gives out e z later h q,
      λ o. omega arith,
      filled_next s t l m e out d j z later f.5 w h q,
      f.6 ∙ w.leads,
    )

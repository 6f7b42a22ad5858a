-- Steps over a slice by the place that they have come to: what a loop that counts the place would cite. The loop of src/ goes on with the
-- rest of the slice.
use Rattle.std.specs.Prelude.{ℕ, ◌+◌, ◌-◌, ◌≤◌, ◌<◌, List, ◌++◌, ◌≡◌, drop, length, take}
use Rattle.std.proofs.Common.{arith, append_assoc, sym, ap, ◌∙◌, subst, length-drop, drop-drop, length-take-le, take_all}
use Rattle.replay_output.specs.Put.{Put}
use Rattle.replay_output.specs.PutLaws.{put_front}
use Rattle.replay_scope.specs.declared.State.{State}
use Rattle.replay_scope.specs.declared.Step.{Step}
use Rattle.replay_scope.specs.Output.{output_of, state_after, text_of}
use Rattle.replay_capture.specs.Feeds.{Feeds, Fills}
use Rattle.replay_capture.specs.Laws.{text_short}

-- a part to the end is what is left
pub part_fed : (t : State) (l : List ℕ) (i : ℕ) (d : Step) (j : ℕ) → Feeds t (take (length l - i) (drop i l)) d j → Feeds t (drop i l) d j
part_fed t l i d j w =
    let n : length (drop i l) ≡ length l - i = length-drop i l in
    subst (λ (k : List ℕ). Feeds t k d j) (take_all (length l - i) (drop i l) (omega arith)) w

-- a step over what is left of the bytes stays in them
pub fed_high : (t : State) (l : List ℕ) (i : ℕ) (d : Step) (j : ℕ) → i ≤ length l → Feeds t (drop i l) d j → i + j ≤ length l
fed_high t l i d j h w =
    let n : length (drop i l) ≡ length l - i = length-drop i l in
    omega (arith, w.high)

-- and takes some of them
pub fed_moves : (t : State) (l : List ℕ) (i : ℕ) (d : Step) (j : ℕ) → i < length l → Feeds t (drop i l) d j → 0 < j
fed_moves t l i d j h w =
    let n : length (drop i l) ≡ length l - i = length-drop i l in
    w.moves (omega arith)

-- a step whose output is written behind what was written before
pub filled_next : (s t : State) (l : List ℕ) (i e : ℕ) (out : List ℕ) (d : Step) (j : ℕ) (z : ℕ) (later : List ℕ)
    → output_of s l ≡ take e out ++ output_of t (drop i l) → Feeds t (drop i l) d j → e + 84 ≤ length out → Put out e (text_of d.gives) z later
    → output_of s l ≡ take z later ++ output_of d.state (drop (i + j) l)
filled_next s t l i e out d j z later p w h q =
    let n : length (text_of d.gives) ≤ 84 = text_short d.gives in
    let m : e + length (text_of d.gives) ≤ length out = omega arith in
    p
    ∙ ap (λ (x : List ℕ). take e out ++ x) w.says
    ∙ sym (append_assoc (take e out) (text_of d.gives) (output_of d.state (drop (j) (drop i l))))
    ∙ ap (λ (x : List ℕ). x ++ output_of d.state (drop (j) (drop i l))) (sym (put_front out e (text_of d.gives) z later m q))
    ∙ ap (λ (x : List ℕ). take z later ++ output_of d.state x) (drop-drop (j) i l)

-- and the state that it leads to
pub filled_led : (s t : State) (l : List ℕ) (i : ℕ) (d : Step) (j : ℕ) → state_after s l ≡ state_after t (drop i l) → Feeds t (drop i l) d j
    → state_after s l ≡ state_after d.state (drop (i + j) l)
filled_led s t l i d j p w = p ∙ w.leads ∙ ap (state_after d.state) (drop-drop (j) i l)

-- the length of the part from i up to n
part_length : (l : List ℕ) (i n : ℕ) → n ≤ length l → length (take (n - i) (drop i l)) ≡ n - i
part_length l i n h =
    let k : length (drop i l) ≡ length l - i = length-drop i l in
    length-take-le (n - i) (drop i l) (omega arith)

-- steps over a part of the bytes stay in it
pub filled_high : (s : State) (l : List ℕ) (i n room : ℕ) (out : List ℕ) (t : State) (j e : ℕ) → i ≤ n → n ≤ length l → Fills s (take (n - i) (drop i l)) room out t j e → i + j ≤ n
filled_high s l i n room out t j e h k w = let m : length (take (n - i) (drop i l)) ≡ n - i = part_length l i n k in omega (arith, w.high)

-- and take some of it
pub filled_moves : (s : State) (l : List ℕ) (i n room : ℕ) (out : List ℕ) (t : State) (j e : ℕ) → i < n → n ≤ length l → 84 ≤ room → Fills s (take (n - i) (drop i l)) room out t j e → 0 < j
filled_moves s l i n room out t j e h k f w =
    let m : length (take (n - i) (drop i l)) ≡ n - i = part_length l i n k in
    w.moves (omega arith) f

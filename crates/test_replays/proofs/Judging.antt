-- Output that agrees with the expected one in all of its bytes is the replay of the capture.
use Rattle.std.proofs.Common.{◌≡◌, ℕ, ◌-◌, ◌≤◌, List, [], ◌++◌, length, take, drop, sym, ap, ◌∙◌, subst, append-nil, arith, length-drop, take-append-drop, drop_of_length-le, length-take-le, take_all}
use Rattle.replay_output.specs.Put.{Put}
use Rattle.replay_output.specs.PutLaws.{put_front}
use Rattle.replay_capture.specs.Feeds.{Fills}
use Rattle.replay_capture.specs.Laws.{text_short, written_end}
use Rattle.replay_scope.specs.declared.Gives.{Gives}
use Rattle.replay_scope.specs.declared.State.{State}
use Rattle.replay_scope.specs.Output.{begun, end_gives, output_of, replay_of, state_after, text_of}

-- all bytes were fed: the output is what was written and what the end gives
whole_replay : (c : List ℕ) (room : ℕ) (out : List ℕ) (t : State) (j e : ℕ) → Fills begun c room out t j e → length c ≤ j
    → replay_of c ≡ take e out ++ text_of (end_gives t.progress)
unfolding replay_of output_of state_after
whole_replay c room out t j e w h =
    let z : drop j c ≡ [] = drop_of_length-le c h in
    let s : output_of begun c ≡ take e out = w.says ∙ ap (λ (l : List ℕ). take e out ++ output_of t l) z ∙ append-nil (take e out) in
    let u : state_after begun c ≡ t = w.leads ∙ ap (state_after t) z in
    ap (λ (l : List ℕ). l ++ text_of (end_gives (state_after begun c).progress)) s ∙ ap (λ (v : State). take e out ++ text_of (end_gives v.progress)) u

-- two lists that agree in their first n, and have no more
all_alike : (a b : List ℕ) (n : ℕ) → take n a ≡ take n b → length a ≤ n → length b ≤ n → a ≡ b
all_alike a b n e h k = sym (take_all n a h) ∙ e ∙ take_all n b k

-- the front of the expected output is what was fed, and its rest what the end gives
pub judged : (s : State) (c x out last₀ last : List ℕ) (room n k m : ℕ) (f : State) (next end : ℕ) (g : Gives) → s ≡ begun → Fills s c room out f next end → length c ≤ next
    → (n ≤ length (take (end) out)) × (n ≤ length x) × (take n (take (end) out) ≡ take n x) → end ≤ n
    → g ≡ end_gives f.progress → 84 ≤ length last₀ → Put last₀ 0 (text_of g) k last
    → (m ≤ length (take k last)) × (m ≤ length (take (length x - end) (drop (end) x))) × (take m (take k last) ≡ take m (take (length x - end) (drop (end) x)))
    → k ≤ m → length x - end ≤ k → replay_of c ≡ x
judged s c x out last₀ last room n k m f next end g b w h p i e q u r v y =
    let a : length (take (end) out) ≡ end = length-take-le (end) out w.fits in
    let j : k ≤ length last = written_end g last₀ 0 k last q u in
    let o : length (take k last) ≡ k = length-take-le k last j in
    let d : length (drop (end) x) ≡ length x - end = length-drop (end) x in
    let t : take (length x - end) (drop (end) x) ≡ drop (end) x = take_all (length x - end) (drop (end) x) (omega arith) in
    let z : n ≡ end = omega (arith, p.0) in
    let short : length (text_of g) ≤ 84 = text_short g in
    let front : take (end) out ≡ take (end) x = sym (take_all (end) (take (end) out) (omega arith)) ∙ subst (λ (l : ℕ). take l (take (end) out) ≡ take l x) z p.2 in
    let rest : take k last ≡ drop (end) x = all_alike (take k last) (drop (end) x) m (r.2 ∙ ap (take m) t) (omega arith) (omega arith) in
    let text : take k last ≡ text_of g = put_front last₀ 0 (text_of g) k last (omega arith) u in
    whole_replay c room out f next end (subst (λ (l : State). Fills l c room out f next end) b w) h
    ∙ ap (λ (l : List ℕ). l ++ text_of (end_gives f.progress)) front
    ∙ ap (λ (l : Gives). take (end) x ++ text_of l) (sym e)
    ∙ ap (λ (l : List ℕ). take (end) x ++ l) (sym text ∙ rest)
    ∙ take-append-drop (end) x

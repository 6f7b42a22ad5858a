-- A capture fed in pieces, and then its end: the output is that of the whole, however it is cut.
use Rattle.std.specs.Prelude.{ℕ, List, [], ◌∷◌, ◌++◌, ◌≡◌, refl}
use Rattle.std.proofs.Common.{append_assoc, sym, ap, ◌∙◌}
use Rattle.replay_scope.specs.declared.State.{State}
use Rattle.replay_scope.specs.Output.{begun, byte_of, end_gives, output_of, replay_of, state_after, text_of}

-- pieces one after the other
unfoldable pub joined : List (List ℕ) → List ℕ
joined [] = []
joined (c ∷ cs) = c ++ joined cs

-- what each piece gives, fed to the state that the one before left, and what the end gives
unfoldable pub pieces_of : State → List (List ℕ) → List ℕ
pieces_of s [] = text_of (end_gives s.progress)
pieces_of s (c ∷ cs) = output_of s c ++ pieces_of (state_after s c) cs

-- the state after two pieces
after_pieces : (s : State) (a b : List ℕ) → state_after s (a ++ b) ≡ state_after (state_after s a) b
unfolding state_after
after_pieces s [] b = refl
after_pieces s (x ∷ a) b = after_pieces (byte_of s x).state a b

-- the output of two pieces
out_pieces : (s : State) (a b : List ℕ) → output_of s (a ++ b) ≡ output_of s a ++ output_of (state_after s a) b
unfolding output_of state_after
out_pieces s [] b = refl
out_pieces s (x ∷ a) b =
    ap (λ (o : List ℕ). text_of (byte_of s x).gives ++ o) (out_pieces (byte_of s x).state a b)
    ∙ sym (append_assoc (text_of (byte_of s x).gives) (output_of (byte_of s x).state a) (output_of (state_after (byte_of s x).state a) b))

-- the same from any state
in_pieces : (s : State) (cs : List (List ℕ)) → pieces_of s cs ≡ output_of s (joined cs) ++ text_of (end_gives (state_after s (joined cs)).progress)
unfolding pieces_of joined output_of state_after
in_pieces s [] = refl
in_pieces s (c ∷ cs) =
    ap (λ (o : List ℕ). output_of s c ++ o) (in_pieces (state_after s c) cs)
    ∙ sym (append_assoc (output_of s c) (output_of (state_after s c) (joined cs)) (text_of (end_gives (state_after (state_after s c) (joined cs)).progress)))
    ∙ ap (λ (o : List ℕ). o ++ text_of (end_gives (state_after (state_after s c) (joined cs)).progress)) (sym (out_pieces s c (joined cs)))
    ∙ ap (λ (z : State). output_of s (c ++ joined cs) ++ text_of (end_gives z.progress)) (sym (after_pieces s c (joined cs)))

-- the theorem: for every capture and every way of cutting it
pub any_cut : (cs : List (List ℕ)) → pieces_of begun cs ≡ replay_of (joined cs)
unfolding replay_of
any_cut cs = in_pieces begun cs

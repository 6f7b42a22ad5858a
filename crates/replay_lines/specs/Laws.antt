-- Laws of reading: one byte at a time, and a whole line at once.
use Rattle.std.specs.Prelude.{ℕ, zero, suc, ◌+◌, ◌-◌, ◌*◌, ◌≤◌, ◌<◌, List, [], ◌≡◌, refl, drop, get_or, length, take}
use Rattle.std.proofs.Common.{add-one, arith, sym, ap, ◌∙◌, subst, drop_of_length-le, drop-cons}
use Rattle.replay_scope.specs.declared.Got.{Got}
use Rattle.replay_scope.specs.declared.Got.TheVariants as got
use Rattle.replay_scope.specs.Lines.{four_at, line_of}
use Rattle.replay_lines.specs.declared.Part.{Part}
use Rattle.replay_lines.specs.Read.{Read, Taken, after, taken_of}

-- one byte of the slice
pub taken_next : (key s : List ℕ) (a w i : ℕ) (g : Got) → i < length s → line_of key a w (get_or s i 0) ≡ g
    → taken_of key a w (drop i s) ≡ after g (λ b y. taken_of key b y (drop (i + 1) s)) (drop (i + 1) s)
unfolding taken_of
taken_next key s a w i g h e =
    ap (taken_of key a w) (drop-cons s i 0 h)
    ∙ ap (λ (x : Got). after x (λ b y. taken_of key b y (drop (suc i) s)) (drop (suc i) s)) e
    ∙ ap (λ (n : ℕ). after g (λ b y. taken_of key b y (drop n s)) (drop n s)) (sym (add-one i))

-- what is not `More` ends the reading
pub ended : (g : Got) (on : ℕ → ℕ → Taken) (l : List ℕ) → ((a w : ℕ) → g ≡ got.More a w → ⊥) → after g on l ≡ record { got = g; left = l }
ended (got.More a w) on l n = absurd (n a w refl)
ended (got.Whole w) on l n = refl
ended got.Unfit on l n = refl

-- no byte is left
pub taken_end : (key s : List ℕ) (a w i : ℕ) → length s ≤ i → taken_of key a w (drop i s) ≡ record { got = got.More a w; left = drop i s }
unfolding taken_of
taken_end key s a w i h = rw (drop_of_length-le s h)

pub taken_all : (key s : List ℕ) (a w i : ℕ) → length s ≤ i → taken_of key a w (drop i s) ≡ record { got = got.More a w; left = drop (length s) s }
unfolding taken_of
taken_all key s a w i h = let k : length s ≤ length s = omega arith in rw (drop_of_length-le s h, drop_of_length-le s k)

-- the four bytes from i * 4 up to i * 4 + 4
pub read_four : (keys : List ℕ) (i at v : ℕ) (s : List ℕ) (r : Part) → Read (take (i * 4 + 4 - i * 4) (drop (i * 4) keys)) at v s r → Read (four_at keys i) at v s r
read_four keys i at v s r h =
    let n : i * 4 + 4 - i * 4 ≡ 4 = omega arith in
    subst (λ (k : ℕ). Read (take k (drop (i * 4) keys)) at v s r) n h

-- none are left past the last key
pub read_none : (keys : List ℕ) (i at v : ℕ) (s : List ℕ) (r : Part) → length keys ≡ 124 → 31 ≤ i → Read [] at v s r → Read (four_at keys i) at v s r
read_none keys i at v s r n h p =
    let m : length keys ≤ i * 4 = omega arith in
    subst (λ (k : List ℕ). Read (take 4 k) at v s r) (sym (drop_of_length-le keys m)) p

-- neither 0 nor 1 is 2 or more
pub two_up : (k : ℕ) → (k ≡ 0 → ⊥) → (k ≡ 1 → ⊥) → 2 ≤ k
two_up zero a b = absurd (a refl)
two_up (suc zero) a b = absurd (b refl)
two_up (suc (suc k)) a b = omega arith

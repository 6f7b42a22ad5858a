-- Laws of writing: texts one after the other are one text.
use Rattle.std.specs.Prelude.{ℕ, ◌+◌, ◌≤◌, ◌<◌, List, [], ◌∷◌, ◌++◌, ◌≡◌, refl, drop, get_or, set, take}
use Rattle.std.proofs.Common.{add-zero, add-one, arith, append_assoc, sym, ap, ◌∙◌, length-append, length-drop, take-append-drop, drop_at, drop-drop, take_all, take_at, take-suc}
use Rattle.std.proofs.Math.ListN.{length}
use Rattle.std.proofs.Math.Seq.{length-take-le}
use Rattle.std.proofs.lemmas.List.{set_split}
use Rattle.replay_scope.specs.Lines.{line_text, sixteen}
use Rattle.replay_output.specs.Put.{Put, PutLine, put_at}

module _ (out : List ℕ) (at : ℕ) (t : List ℕ) (fits : at + length t ≤ length out) where
  -- the bytes up to the text's end
  head_length : length (take at out ++ t) ≡ at + length t
  head_length =
      let p : length (take at out) ≡ at = length-take-le at out (omega arith) in
      simp (length-append, p)

  -- writing keeps the length
  pub put_length : length (put_at out at t) ≡ length out
  unfolding put_at
  put_length =
      let p : length (take at out) ≡ at = length-take-le at out (omega arith) in
      simp (length-append, p, length-drop) (omega arith)

-- the bytes behind two texts
put_rest : (out p : List ℕ) (e n : ℕ) → length p ≡ e → drop (e + n) (p ++ drop e out) ≡ drop (e + n) out
put_rest out p e n h = sym (drop-drop n e (p ++ drop e out)) ∙ ap (drop n) (drop_at p (drop e out) e h) ∙ drop-drop n e out

-- a text behind another
pub put_put : (out : List ℕ) (at : ℕ) (t u : List ℕ) → at + length t ≤ length out → put_at (put_at out at t) (at + length t) u ≡ put_at out at (t ++ u)
unfolding put_at
put_put out at t u h =
    let n : at + length t + length u ≡ at + length (t ++ u) = simp length-append (omega arith) in
    ap (λ (l : List ℕ). take (at + length t) l ++ (u ++ drop (at + length t + length u) l)) (sym (append_assoc (take at out) t (drop (at + length t) out)))
    ∙ ap (λ (l : List ℕ). l ++ (u ++ drop (at + length t + length u) ((take at out ++ t) ++ drop (at + length t) out)))
    (take_at (take at out ++ t) (drop (at + length t) out) (at + length t) (head_length out at t h))
    ∙ ap (λ (l : List ℕ). (take at out ++ t) ++ (u ++ l)) (put_rest out (take at out ++ t) (at + length t) (length u) (head_length out at t h))
    ∙ append_assoc (take at out) t (u ++ drop (at + length t + length u) out)
    ∙ ap (λ (l : List ℕ). take at out ++ l) (sym (append_assoc t u (drop (at + length t + length u) out)))
    ∙ ap (λ (k : ℕ). take at out ++ ((t ++ u) ++ drop k out)) n

-- the same by what each call promises
pub put_both : {out mid later : List ℕ} {at a b : ℕ} {t u : List ℕ} → at + length t ≤ length out → Put out at t a mid → Put mid a u b later → Put out at (t ++ u) b later
put_both {out} {mid} {later} {at} {a} {b} {t} {u} h p q =
    record {
      ends = let s : length (t ++ u) ≡ length t + length u = length-append t u in omega (arith, p.ends, q.ends);
      holds = q.holds ∙ rw (p.holds, p.ends) (put_put out at t u h);
    }

-- nothing is written
pub put_none : (out : List ℕ) (at : ℕ) → out ≡ put_at out at []
unfolding put_at
put_none out at = sym (rw add-zero (take-append-drop at out))

-- one byte
pub put_one : (out : List ℕ) (at b : ℕ) → at < length out → set out at b ≡ put_at out at (b ∷ [])
unfolding put_at
put_one out at b h = set_split out at b h ∙ ap (λ (k : ℕ). take at out ++ b ∷ drop k out) (sym (add-one at))

-- a text is written up to i, and one byte more
pub put_next : (out : List ℕ) (at : ℕ) (t : List ℕ) (i : ℕ) (now : List ℕ) → at + length t ≤ length out → i < length t → now ≡ put_at out at (take i t)
    → set now (at + i) (get_or t i 0) ≡ put_at out at (take (i + 1) t)
put_next out at t i now h l e =
    let n : length (take i t) ≡ i = length-take-le i t (omega arith) in
    let f : at + length (take i t) ≤ length out = omega arith in
    let g : at + i < length (put_at out at (take i t)) = rw (put_length out at (take i t) f) (omega arith) in
    ap (λ (x : List ℕ). set x (at + i) (get_or t i 0)) e
    ∙ put_one (put_at out at (take i t)) (at + i) (get_or t i 0) g
    ∙ ap (λ (k : ℕ). put_at (put_at out at (take i t)) (at + k) (get_or t i 0 ∷ [])) (sym n)
    ∙ put_put out at (take i t) (get_or t i 0 ∷ []) f
    ∙ ap (put_at out at) (sym (take-suc t i 0 l) ∙ ap (λ (k : ℕ). take k t) (sym (add-one i)))

-- the loop that writes a text ends with all of it
pub put_all : (out : List ℕ) (at : ℕ) (t : List ℕ) (i : ℕ) (now : List ℕ) → length t ≤ i → now ≡ put_at out at (take i t) → now ≡ put_at out at t
put_all out at t i now h e = e ∙ ap (put_at out at) (take_all i t h)

-- sixteen digits are sixteen bytes
pub sixteen_length : (v : ℕ) → length (sixteen v) ≡ 16
unfolding sixteen
sixteen_length v = refl

-- a line is its key and 17 bytes
pub line_length : (key : List ℕ) (v : ℕ) → length (line_text key v) ≡ length key + 17
unfolding line_text
line_length key v = simp (length-append, sixteen_length) (omega arith)

-- writing leaves the buffer's length
pub put_same : {out later : List ℕ} {at r : ℕ} {t : List ℕ} → at + length t ≤ length out → Put out at t r later → length later ≡ length out
put_same {out} {later} {at} {r} {t} h p = ap length p.holds ∙ put_length out at t h

-- a key, sixteen digits and LF are a line
pub line_put : (out mid late : List ℕ) (at v : ℕ) (key : List ℕ) → at + length key + 17 ≤ length out → mid ≡ put_at out at key → late ≡ put_at mid (at + length key) (sixteen v)
    → Put out at (line_text key v) (at + length key + 16 + 1) (set late (at + length key + 16) 10)
unfolding line_text
line_put out mid late at v key h e f =
    let n : length (sixteen v) ≡ 16 = sixteen_length v in
    let a : at + length key ≤ length out = omega arith in
    let m : length mid ≡ length out = ap length e ∙ put_length out at key a in
    let b : at + length key + length (sixteen v) ≤ length mid = omega arith in
    let l : length late ≡ length mid = ap length f ∙ put_length mid (at + length key) (sixteen v) b in
    let i : at + length key + 16 < length late = omega arith in
    put_both a (record { ends = refl; holds = e })
    (put_both b (record { ends = omega arith; holds = f })
    (record { ends = refl; holds = put_one late (at + length key + 16) 10 i }))

-- room for a key and 17 bytes is room for its line
pub line_fits : (out key : List ℕ) (at v : ℕ) → at + length key + 17 ≤ length out → at + length (line_text key v) ≤ length out
line_fits out key at v h = let n : length (line_text key v) ≡ length key + 17 = line_length key v in omega arith

-- the front of the buffer after writing behind it
pub put_front : (out : List ℕ) (at : ℕ) (t : List ℕ) (r : ℕ) (later : List ℕ) → at + length t ≤ length out → Put out at t r later → take r later ≡ take at out ++ t
unfolding put_at
put_front out at t r later h p =
    ap (take r) (p.holds ∙ sym (append_assoc (take at out) t (drop (at + length t) out)))
    ∙ take_at (take at out ++ t) (drop (at + length t) out) r (head_length out at t h ∙ sym p.ends)

-- a line without room is not written
pub no_room : (out : List ℕ) (at : ℕ) (key : List ℕ) (v : ℕ) → length out < at + length key + 17 → PutLine out at key v at out
no_room out at key v h = record { room = λ k. absurd (omega arith); none = λ k. (refl, refl) }

-- a line with room is
pub has_room : (out : List ℕ) (at : ℕ) (key : List ℕ) (v r : ℕ) (later : List ℕ) → at + length key + 17 ≤ length out → Put out at (line_text key v) r later → PutLine out at key v r later
has_room out at key v r later h p = record { room = λ k. p; none = λ k. absurd (omega arith) }

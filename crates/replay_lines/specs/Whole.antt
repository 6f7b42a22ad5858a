-- A line read at once, its digits by the digit reader's promise, is what it is byte by byte.
use Rattle.std.specs.Prelude.{ℕ, Option, Some, None, suc, ◌+◌, ◌-◌, ◌*◌, ◌≤◌, ◌<◌, Bool, true, false, ◌&&◌, ◌≡◌, refl, eqb, ltb, nat_eq, drop, get_or, length, take}
use Rattle.std.proofs.Common.{add-zero, arith, sym, ap, ◌∙◌, subst, add-one, drop_of_length-le, length-append, length-drop, take-append-drop, drop-cons, drop-drop, get_or-drop, length-take-le, eq-eqb, eqb-true, le-ltb, lt-ltb, ne_eqb}
use mathlib.Core.List.{List, [], ◌∷◌, ◌++◌, append_assoc, append-nil, foldl}
use Rattle.std.proofs.Math.Seq.{get_or-append_seam}
use Rattle.std.proofs.lemmas.Bool.{eqb-false}
use Rattle.std.specs.List.{starts_with}
use Rattle.isa_types.specs.Pick.{and, pick}
use Rattle.replay_digits.specs.Hex.{digit_in, digit_of, hex_of}
use Rattle.replay_scope.specs.declared.Got.{Got}
use Rattle.replay_scope.specs.declared.Got.TheVariants as got
use Rattle.replay_scope.specs.Lines.{four_at, line_of, nibble_of, push_of}
use Rattle.replay_lines.specs.Read.{Read, Spelled, after, begins, taken_of}

-- the key's next byte
key_step : (key p : List ℕ) (x : ℕ) (xs : List ℕ) (v : ℕ) → key ≡ p ++ x ∷ xs → line_of key (length p) v x ≡ got.More (length p + 1) v
unfolding line_of
key_step key p x xs v e =
    let h : length p < length (p ++ x ∷ xs) = simp length-append (omega arith) in
    simp (e, lt-ltb _ _ h, get_or-append_seam, eq-eqb x x refl)

-- the key's own bytes lead to its end
key_taken : (key p q rest : List ℕ) (v : ℕ) → key ≡ p ++ q → taken_of key (length p) v (q ++ rest) ≡ taken_of key (length key) v rest
unfolding taken_of
key_taken key p [] rest v e = ap (λ (n : ℕ). taken_of key n v rest) (ap length (sym (append-nil p)) ∙ ap length (sym e))
key_taken key p (x ∷ xs) rest v e =
    let n : length p + 1 ≡ length (p ++ (x ∷ [])) = simp length-append (omega arith) in
    ap (λ (g : Got). after g (λ a w. taken_of key a w (xs ++ rest)) (xs ++ rest)) (key_step key p x xs v e)
    ∙ ap (λ (k : ℕ). taken_of key k v (xs ++ rest)) n
    ∙ key_taken key (p ++ (x ∷ [])) xs rest v (e ∙ sym (append_assoc p (x ∷ []) xs))

-- after a byte that is no digit, none follows
bad_digits : (l : List ℕ) → foldl digit_of None l ≡ None
unfolding digit_of
bad_digits [] = refl
bad_digits (b ∷ l) = bad_digits l

-- no number is None
never : {A : Type 0} (w : ℕ) → None ≡ Some w → A
never w e = let z : ◌≡◌ {A = ℕ} 0 1 = cc in absurd (omega arith)

-- a byte behind the key is a digit's
digit_line : (key : List ℕ) (a v b : ℕ) → length key ≤ a → a - length key < 16 → line_of key a v b ≡ pick (ltb (nibble_of b) 16) (got.More (a + 1) (push_of v (nibble_of b))) got.Unfit
unfolding line_of
digit_line key a v b h i = simp (le-ltb _ _ h, lt-ltb _ _ i)

-- a byte that is a digit leads on, and no other is in a number
digit_case : (key l rest : List ℕ) (a v d w : ℕ) (t : Bool) → foldl digit_of (pick t (Some (push_of v d)) None) l ≡ Some w
    → (foldl digit_of (Some (push_of v d)) l ≡ Some w → taken_of key (a + 1) (push_of v d) (l ++ rest) ≡ taken_of key (a + suc (length l)) w rest)
    → after (pick t (got.More (a + 1) (push_of v d)) got.Unfit) (λ b x. taken_of key b x (l ++ rest)) (l ++ rest) ≡ taken_of key (a + suc (length l)) w rest
digit_case key l rest a v d w true e on = on e
digit_case key l rest a v d w false e on = never w (sym (bad_digits l) ∙ e)

-- digits lead on with their number
digits_taken : (key l rest : List ℕ) (a v w : ℕ) → length key ≤ a → a + length l ≤ length key + 16 → foldl digit_of (Some v) l ≡ Some w
    → taken_of key a v (l ++ rest) ≡ taken_of key (a + length l) w rest
unfolding taken_of digit_of
digits_taken key [] rest a v w h i e =
    let n : v ≡ w = cc in
    rw (n, add-zero)
digits_taken key (b ∷ l) rest a v w h i e =
    let r : a - length key < 16 = omega arith in
    let n : a + 1 + length l ≡ a + suc (length l) = omega arith in
    ap (λ (g : Got). after g (λ c x. taken_of key c x (l ++ rest)) (l ++ rest)) (digit_line key a v b h r)
    ∙ digit_case key l rest a v (nibble_of b) w (ltb (nibble_of b) 16) e
    (λ f. digits_taken key l rest (a + 1) (push_of v (nibble_of b)) w (omega arith) (omega arith) f ∙ ap (λ (k : ℕ). taken_of key k w rest) n)

-- the byte behind sixteen digits
end_line : (key : List ℕ) (w : ℕ) → line_of key (length key + 16) w 10 ≡ got.Whole w
unfolding line_of
end_line key w =
    let h : length key ≤ length key + 16 = omega arith in
    let i : 16 ≤ length key + 16 - length key = omega arith in
    simp (le-ltb _ _ h, le-ltb _ _ i)

-- LF behind sixteen digits ends the line
end_taken : (key rest : List ℕ) (w : ℕ) → taken_of key (length key + 16) w (10 ∷ rest) ≡ record { got = got.Whole w; left = rest }
unfolding taken_of
end_taken key rest w = ap (λ (g : Got). after g (λ a x. taken_of key a x rest) rest) (end_line key w)

-- a key, sixteen digits and LF are a line
line_taken : (key ds rest : List ℕ) (w : ℕ) → length ds ≡ 16 → foldl digit_of (Some 0) ds ≡ Some w
    → taken_of key 0 0 (key ++ (ds ++ 10 ∷ rest)) ≡ record { got = got.Whole w; left = rest }
line_taken key ds rest w n e =
    key_taken key [] key (ds ++ 10 ∷ rest) 0 refl
    ∙ digits_taken key ds (10 ∷ rest) (length key) 0 w (omega arith) (omega arith) e
    ∙ ap (λ (k : ℕ). taken_of key (length key + k) w (10 ∷ rest)) n
    ∙ end_taken key rest w

-- one byte alike, and the rest
begins_both : (b x : ℕ) (key s : List ℕ) (t : Bool) → eqb b x ≡ t → (u : Bool) → begins key s ≡ u → and t u ≡ true
    → (begins key s ≡ true → s ≡ key ++ drop (length key) s) → b ∷ s ≡ x ∷ (key ++ drop (length key) s)
begins_both b x key s true p true q f on = ap (λ (n : ℕ). n ∷ s) (eqb-true b x p) ∙ ap (λ (l : List ℕ). x ∷ l) (on q)
begins_both b x key s true p false q f on = let z : ◌≡◌ {A = ℕ} 0 1 = cc in absurd (omega arith)
begins_both b x key s false p u q f on = let z : ◌≡◌ {A = ℕ} 0 1 = cc in absurd (omega arith)

-- bytes that begin with the key are the key and the bytes behind it
begins_split : (key s : List ℕ) → begins key s ≡ true → s ≡ key ++ drop (length key) s
begins_split [] s e = refl
begins_split (x ∷ key) [] e = let z : ◌≡◌ {A = ℕ} 0 1 = cc in absurd (omega arith)
begins_split (x ∷ key) (b ∷ s) e = begins_both b x key s (eqb b x) refl (begins key s) refl e (begins_split key s)

-- before any byte is compared, and after each
pub begins_next : (key s : List ℕ) (i : ℕ) → i < length key → i < length s → get_or s i 0 ≡ get_or key i 0
    → begins (drop i key) (drop i s) ≡ begins (drop (i + 1) key) (drop (i + 1) s)
begins_next key s i h k e = rw (add-one, drop-cons key i 0, drop-cons s i 0) (simp (eq-eqb _ _ e))

-- a byte that is another
pub begins_not : (key s : List ℕ) (i : ℕ) → i < length key → i < length s → (get_or s i 0 ≡ get_or key i 0 → ⊥) → false ≡ begins (drop i key) (drop i s)
begins_not key s i h k e = rw (drop-cons key i 0, drop-cons s i 0) (simp (ne_eqb _ _ e))

-- none is left
pub begins_all : (key s : List ℕ) (i : ℕ) → length key ≤ i → true ≡ begins (drop i key) (drop i s)
begins_all key s i h = rw (drop_of_length-le key h)

-- sixteen bytes, the byte behind them, and the rest
sixteen_split : (l : List ℕ) → 17 ≤ length l → l ≡ take 16 l ++ (get_or l 16 0 ∷ drop 17 l)
sixteen_split l h = sym (take-append-drop 16 l) ∙ ap (λ (r : List ℕ). take 16 l ++ r) (drop-cons l 16 0 (omega arith))

-- sixteen digits are a number
hex_fold : (l : List ℕ) (w : ℕ) → length l ≡ 16 → hex_of l ≡ Some w → foldl digit_of (Some 0) l ≡ Some w
unfolding hex_of
hex_fold l w n e = simp (eq-eqb _ _ n) at e

-- a line that lies whole in the slice
whole_taken : (key s : List ℕ) (w : ℕ) → length key ≤ length s → 17 ≤ length s - length key → begins key s ≡ true → get_or s (length key + 16) 0 ≡ 10
    → hex_of (take 16 (drop (length key) s)) ≡ Some w → taken_of key 0 0 s ≡ record { got = got.Whole w; left = drop (length key + 17) s }
whole_taken key s w h k b f e =
    let d : length (drop (length key) s) ≡ length s - length key = length-drop (length key) s in
    let n : length (take 16 (drop (length key) s)) ≡ 16 = length-take-le 16 (drop (length key) s) (omega arith) in
    let g : get_or (drop (length key) s) 16 0 ≡ 10 = get_or-drop (length key) s 16 0 ∙ f in
    let split : s ≡ key ++ (take 16 (drop (length key) s) ++ 10 ∷ drop 17 (drop (length key) s)) =
    begins_split key s b
    ∙ ap (λ (l : List ℕ). key ++ l) (sixteen_split (drop (length key) s) (omega arith) ∙ ap (λ (x : ℕ). take 16 (drop (length key) s) ++ x ∷ drop 17 (drop (length key) s)) g)
    in
    ap (taken_of key 0 0) split
    ∙ line_taken key (take 16 (drop (length key) s)) (drop 17 (drop (length key) s)) w n (hex_fold (take 16 (drop (length key) s)) w n e)
    ∙ ap (λ (l : List ℕ). record { got = got.Whole w; left = l }) (drop-drop 17 (length key) s)

-- the same as the reader promises it
pub spelled_read : (key : List ℕ) (at v : ℕ) (s : List ℕ) (n w : ℕ) → at ≡ 0 → v ≡ 0 → Spelled key s (Some n)
    → get_or s (n + 16) 0 ≡ 10 → hex_of (take 16 (drop n s)) ≡ Some w → Read key at v s (record { got = got.Whole w; next = n + 17 })
spelled_read key at v s n w a z q f e =
    let m : n ≡ length key = q.0 in
    let l : n + 17 ≤ length s = q.1 in
    record {
      high = l;
      moves = λ k. omega arith;
      reads =
          ap (λ (k : ℕ). taken_of key k v s) a
          ∙ ap (λ (k : ℕ). taken_of key 0 k s) z
          ∙ whole_taken key s w (omega arith) (omega arith) q.2
          (subst (λ (k : ℕ). get_or s (k + 16) 0 ≡ 10) m f)
          (subst (λ (k : ℕ). hex_of (take 16 (drop k s)) ≡ Some w) m e)
          ∙ ap (λ (k : ℕ). record { got = got.Whole w; left = drop (k + 17) s }) (sym m);
    }

-- a key that is another's text
pub spelled_some : (k key s : List ℕ) (r : Option ℕ) (n : ℕ) → Spelled k s r → k ≡ key → r ≡ Some n → Spelled key s (Some n)
spelled_some k key s r n h e f = subst (λ (m : List ℕ). Spelled m s (Some n)) e (subst (λ (o : Option ℕ). Spelled k s o) f h)

-- the four bytes from i * 4 up to i * 4 + 4
pub spelled_four : (keys : List ℕ) (i : ℕ) (s : List ℕ) (r : Option ℕ) → Spelled (take (i * 4 + 4 - i * 4) (drop (i * 4) keys)) s r → Spelled (four_at keys i) s r
spelled_four keys i s r h =
    let n : i * 4 + 4 - i * 4 ≡ 4 = omega arith in
    subst (λ (k : ℕ). Spelled (take k (drop (i * 4) keys)) s r) n h

-- the key stands there
pub spelled_key : (key s : List ℕ) → 17 ≤ length s → length key ≤ length s - 17 → begins key s ≡ true → Spelled key s (Some (length key))
spelled_key key s h k b = (refl, omega arith, b)

-- the library's test is whether they begin with it
eqb_both : (x b : ℕ) (t u : Bool) → eqb b x ≡ u → nat_eq x b && t ≡ and (eqb b x) t
eqb_both x b t true e = rw (e, eq-eqb x b (sym (eqb-true b x e)))
eqb_both x b t false e = rw (e, ne_eqb x b (λ h. eqb-false b x e (sym h)))

pub begins_starts : (key s : List ℕ) → starts_with nat_eq s key ≡ begins key s
begins_starts [] s = refl
begins_starts (x ∷ key) [] = refl
begins_starts (x ∷ key) (b ∷ s) = rw (begins_starts key s) (eqb_both x b (begins key s) (eqb b x) refl)

-- a byte that is a digit, and one that is none
digit_by : (t : Bool) (n d : ℕ) → ltb n 16 ≡ t → pick t (Some n) None ≡ Some d → (n ≡ d) × (ltb d 16 ≡ true)
digit_by true n d h e = let k : n ≡ d = cc in (k, subst (λ (m : ℕ). ltb m 16 ≡ true) k h)
digit_by false n d h e = never d e

none_by : (t : Bool) (n : ℕ) → pick t (Some n) None ≡ None → t ≡ false
none_by true n e = never n (sym e)
none_by false n e = refl

pub digit_some : (b d : ℕ) → digit_in b ≡ Some d → (nibble_of b ≡ d) × (ltb d 16 ≡ true)
unfolding digit_in
digit_some b d e = digit_by (ltb (nibble_of b) 16) (nibble_of b) d refl e

pub digit_none : (b : ℕ) → digit_in b ≡ None → ltb (nibble_of b) 16 ≡ false
unfolding digit_in
digit_none b e = none_by (ltb (nibble_of b) 16) (nibble_of b) e

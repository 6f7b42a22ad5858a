-- What the line reader promises: the bytes of a slice taken one by one, to the line's end, to one that does not fit, or
-- to the slice's end.
use Rattle.std.specs.Prelude.{ℕ, Option, IfSome, ◌+◌, ◌≤◌, ◌<◌, Bool, true, false, List, [], ◌∷◌, ◌≡◌, eqb, drop, length}
use Rattle.isa_types.specs.Pick.{and}
use Rattle.replay_scope.specs.declared.Got.{Got}
use Rattle.replay_scope.specs.declared.Got.TheVariants as got
use Rattle.replay_scope.specs.Lines.{line_of}
use Rattle.replay_lines.specs.declared.Part.{Part}

-- what was got of a line, and the bytes after it
pub record Taken : Type 0 where
  pub got : Got
  pub left : List ℕ

-- a byte that fits leads on; the last byte of a line, or one that does not fit, ends the reading
abbrev pub after : Got → (ℕ → ℕ → Taken) → List ℕ → Taken
after (got.More a w) on l = on a w
after (got.Whole w) on l = record { got = got.Whole w; left = l }
after got.Unfit on l = record { got = got.Unfit; left = l }

-- a line read on from where it stands
unfoldable pub taken_of : List ℕ → ℕ → ℕ → List ℕ → Taken
taken_of key at v [] = record { got = got.More at v; left = [] }
taken_of key at v (b ∷ l) = after (line_of key at v b) (λ a w. taken_of key a w l) l

-- what reading on in a slice gives
pub record Read (key : List ℕ) (at v : ℕ) (s : List ℕ) (r : Part) : Type 0 where
  pub high : r.next ≤ length s
  pub moves : 0 < length s → 0 < r.next
  pub reads : taken_of key at v s ≡ record { got = r.got; left = drop r.next s }

-- the bytes begin with the key
abbrev pub begins : List ℕ → List ℕ → Bool
begins [] l = true
begins (x ∷ key) [] = false
begins (x ∷ key) (b ∷ l) = and (eqb b x) (begins key l)

-- if there is one, the number is the length of the key, with which the bytes begin, and they are long enough for its line
abbrev pub Spelled : List ℕ → List ℕ → Option ℕ → Type 0
Spelled key s r = IfSome r (λ n. (n ≡ length key) × (n + 17 ≤ length s) × (begins key s ≡ true))

-- What sixteen bytes are as lowercase hex digits: the digit reader's promise. 01, Replay program.
use Rattle.std.specs.Prelude.{ℕ, Option, Some, None, eqb, ltb, length}
use mathlib.Core.List.{List, foldl}
use Rattle.isa_types.specs.Pick.{pick}
use Rattle.replay_scope.specs.Lines.{nibble_of, push_of}

-- a byte as a digit
unfoldable pub digit_in : ℕ → Option ℕ
digit_in b = pick (ltb (nibble_of b) 16) (Some (nibble_of b)) None

-- one byte more behind what was read; nothing is behind a byte that is no digit
unfoldable pub digit_of : Option ℕ → ℕ → Option ℕ
digit_of (Some v) b = pick (ltb (nibble_of b) 16) (Some (push_of v (nibble_of b))) None
digit_of None b = None

-- the number of sixteen digits
unfoldable pub hex_of : List ℕ → Option ℕ
hex_of l = pick (eqb (length l) 16) (foldl digit_of (Some 0) l) None

-- Lists of numbers compared, by computing.
-- tools/definitions.py listed writes this file.
use Rattle.std.specs.Prelude.{ℕ, Bool, true, false, List, [], ◌∷◌, eqb}

abbrev pub both : Bool → Bool → Bool
both true b = b
both false b = false

abbrev pub equal : List ℕ → List ℕ → Bool
equal [] [] = true
equal [] (b ∷ bs) = false
equal (a ∷ ls) [] = false
equal (a ∷ ls) (b ∷ bs) = both (eqb a b) (equal ls bs)

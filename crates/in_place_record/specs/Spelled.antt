-- A list of known length, written out: on it every write and the view compute.
use Rattle.std.specs.Prelude.{ℕ, zero, suc, List, [], ◌∷◌, get_or}

-- n elements from i on
abbrev pub spelled : ℕ → ℕ → List ℕ → List ℕ
spelled zero i l = []
spelled (suc n) i l = get_or l i 0 ∷ spelled n (suc i) l

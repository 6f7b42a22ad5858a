-- A list of known length, written out: on it every write and the view compute.
use Rattle.std.specs.Prelude.{ℕ, zero, suc, ◌+◌, List, ◌∷◌, ◌≡◌, drop, get_or, length}
use Rattle.std.proofs.Common.{ap, sym, ◌∙◌, add-zero, arith, drop-cons}
use Rattle.std.proofs.Math.Seq.{drop-length}
use Rattle.in_place_record.specs.Spelled.{spelled}

pub spelled_drop : (n i : ℕ) (l : List ℕ) → i + n ≡ length l → spelled n i l ≡ drop i l
spelled_drop zero i l e = sym (ap (λ (k : ℕ). drop k l) (sym (add-zero i) ∙ e) ∙ drop-length l)
spelled_drop (suc n) i l e =
    ap (λ (m : List ℕ). get_or l i 0 ∷ m) (spelled_drop n (suc i) l (omega arith))
    ∙ sym (drop-cons l i 0 (omega arith))

-- 58 words are the 58 words that they are
pub spelled_out : (r : List ℕ) → length r ≡ 58 → spelled 58 0 r ≡ r
spelled_out r e = spelled_drop 58 0 r (omega arith)

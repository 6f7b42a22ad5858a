-- One read behind the bytes that were read before.
use Rattle.std.proofs.Common.{◌≡◌, ℕ, ◌+◌, ◌≤◌, List, ◌++◌, Option, length, take, drop, sym, ap, ◌∙◌, subst, le_refl, drop_at, length-take-le}
use Rattle.std.proofs.KnownBytes.{Consumes-trans}
use Rattle.std.proofs.lemmas.List.{take-append-le}
use Rattle.std.proofs.lemmas.Slice.{take-put_mid_below}
use Rattle.std.specs.Io.KnownBytes.{Consumes}
use borrow.Rule.Slice.PartMut.{put_mid, post_of}
use Rattle.std.proofs.Math.Seq.{take-add}

-- the buffer, whose part from a on was read anew, begins with the bytes before and the n that were read
both_parts : (a k n : ℕ) (old new : List ℕ) → a ≤ length old → n ≤ length new → take (a + n) (put_mid a k old new) ≡ take a old ++ take n new
both_parts a k n old new within fits =
    let after = post_of a k old in
    take-add a n (put_mid a k old new)
    ∙ ap (λ (l : List ℕ). l ++ take n (drop a (put_mid a k old new))) (take-put_mid_below a k old new a (le_refl a) within)
    ∙ ap (λ (l : List ℕ). take a old ++ take n l) (drop_at (take a old) (new ++ after) a (length-take-le a old within))
    ∙ ap (λ (l : List ℕ). take a old ++ l) (take-append-le n new after fits)

pub read_more : (before between after : Option (List ℕ)) (a k n : ℕ) (old new : List ℕ) → a ≤ length old → n ≤ length new
    → Consumes before between (take a old) → Consumes between after (take n new) → Consumes before after (take (a + n) (put_mid a k old new))
read_more before between after a k n old new within fits h w = subst (Consumes before after) (sym (both_parts a k n old new within fits)) (Consumes-trans before between after (take a old) (take n new) h w)

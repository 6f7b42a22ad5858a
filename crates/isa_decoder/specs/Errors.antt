-- When the decoder finds no instruction, as laws for its callers. 01, Guest page fault; Refusals and errors by number.
use Rattle.std.specs.Prelude.{ℕ, ◌/◌, ◌%◌, ◌^◌, Bool, true, false, ◌≡◌, refl, eqb}
use Rattle.isa_types.specs.Pick.{pick, or, and, not}
use Rattle.isa_decoder.specs.declared.Trapped.{Trapped}
use Rattle.isa_decoder.specs.declared.Trapped.TheVariants as trapped
use Rattle.isa_decoder.specs.declared.Decoded.{Decoded}
use Rattle.isa_decoder.specs.Length.{htinst_of, transformed_of, fetched_of}

-- an access of the page-table walk
unfoldable pub is_pseudo : Trapped → Bool
is_pseudo trapped.Absent = false
is_pseudo trapped.Pseudo = true
is_pseudo trapped.Unfit = false
is_pseudo (trapped.Instruction op n) = false

-- no length that is taken
unfoldable pub is_unfit : Trapped → Bool
is_unfit trapped.Absent = false
is_unfit trapped.Pseudo = false
is_unfit trapped.Unfit = true
is_unfit (trapped.Instruction op n) = false

-- htinst is not 0 and its low 32 bits are one of the two pseudo words
unfoldable pub pseudo_word : ℕ → Bool
pseudo_word h = and (not (eqb h 0)) (or (eqb (h % 2 ^ 32) 0x3000) (eqb (h % 2 ^ 32) 0x3020))

-- htinst is not 0, no pseudo word, and its low two bits are neither 01 nor 11
unfoldable pub unfit_word : ℕ → Bool
unfit_word h =
    and (not (eqb h 0))
    (and (not (or (eqb (h % 2 ^ 32) 0x3000) (eqb (h % 2 ^ 32) 0x3020)))
    (not (or (eqb (h % 2 ^ 32 % 4) 1) (eqb (h % 2 ^ 32 % 4) 3))))

-- a fetched word's low two bits are 11 and bits 4..2 are 111
unfoldable pub long_word : ℕ → Bool
long_word w = and (eqb (w % 4) 3) (eqb (w / 4 % 8) 7)

pseudo_by : (z a b one three : Bool) (op : Decoded)
    → is_pseudo (pick z trapped.Absent (pick a trapped.Pseudo (pick b trapped.Pseudo (pick one (trapped.Instruction op 2) (pick three (trapped.Instruction op 4) trapped.Unfit)))))
    ≡ and (not z) (or a b)
unfolding is_pseudo
pseudo_by true a b one three op = refl
pseudo_by false true b one three op = refl
pseudo_by false false true one three op = refl
pseudo_by false false false true three op = refl
pseudo_by false false false false true op = refl
pseudo_by false false false false false op = refl

pub htinst_pseudo : (h : ℕ) → is_pseudo (htinst_of h) ≡ pseudo_word h
unfolding htinst_of transformed_of pseudo_word
htinst_pseudo h = pseudo_by (eqb h 0) (eqb (h % 2 ^ 32) 0x3000) (eqb (h % 2 ^ 32) 0x3020) (eqb (h % 2 ^ 32 % 4) 1) (eqb (h % 2 ^ 32 % 4) 3) _

unfit_by : (z a b one three : Bool) (op : Decoded)
    → is_unfit (pick z trapped.Absent (pick a trapped.Pseudo (pick b trapped.Pseudo (pick one (trapped.Instruction op 2) (pick three (trapped.Instruction op 4) trapped.Unfit)))))
    ≡ and (not z) (and (not (or a b)) (not (or one three)))
unfolding is_unfit
unfit_by true a b one three op = refl
unfit_by false true b one three op = refl
unfit_by false false true one three op = refl
unfit_by false false false true three op = refl
unfit_by false false false false true op = refl
unfit_by false false false false false op = refl

pub htinst_unfit : (h : ℕ) → is_unfit (htinst_of h) ≡ unfit_word h
unfolding htinst_of transformed_of unfit_word
htinst_unfit h = unfit_by (eqb h 0) (eqb (h % 2 ^ 32) 0x3000) (eqb (h % 2 ^ 32) 0x3020) (eqb (h % 2 ^ 32 % 4) 1) (eqb (h % 2 ^ 32 % 4) 3) _

long_by : (a b : Bool) (op op' : Decoded)
    → is_unfit (pick a (pick b trapped.Unfit (trapped.Instruction op 4)) (trapped.Instruction op' 2)) ≡ and a b
unfolding is_unfit
long_by true true op op' = refl
long_by true false op op' = refl
long_by false b op op' = refl

pub fetched_unfit : (w : ℕ) → is_unfit (fetched_of w) ≡ long_word w
unfolding fetched_of long_word
fetched_unfit w = long_by (eqb (w % 4) 3) (eqb (w / 4 % 8) 7) _ _

real_by : (a b : Bool) (op op' : Decoded)
    → is_pseudo (pick a (pick b trapped.Unfit (trapped.Instruction op 4)) (trapped.Instruction op' 2)) ≡ false
unfolding is_pseudo
real_by true true op op' = refl
real_by true false op op' = refl
real_by false b op op' = refl

-- the pseudo test is for htinst alone
pub fetched_real : (w : ℕ) → is_pseudo (fetched_of w) ≡ false
unfolding fetched_of
fetched_real w = real_by (eqb (w % 4) 3) (eqb (w / 4 % 8) 7) _ _

-- What a load of any width leaves in its register, as laws. ISA, 'Load and Store Instructions'.
use Rattle.std.specs.Prelude.{◌≡◌, ℕ, ◌+◌, ◌-◌, ◌^◌, true, false, nat_lt, refl}
use Rattle.isa_types.specs.declared.Width.{Width}
use Rattle.isa_extension.specs.Extend.{cut_of, extend_by, extend_of, signed_by, width_bits}

-- an unsigned load extends nothing: it writes what was read, cut to its width
pub unsigned_cuts : (w : Width) (n : ℕ) → extend_of w false n ≡ cut_of w n
unfolding extend_of extend_by cut_of
unsigned_cuts w n = refl

-- a signed load whose top bit is 0 writes the same
pub positive_cuts : (w : Width) (n : ℕ) → nat_lt (cut_of w n) (2 ^ (width_bits w - 1)) ≡ true → extend_of w true n ≡ cut_of w n
unfolding extend_of extend_by signed_by cut_of
positive_cuts w n h = simp (h)

-- a signed load whose top bit is 1 writes that with every bit above the width set
pub negative_fills : (w : Width) (n : ℕ) → nat_lt (cut_of w n) (2 ^ (width_bits w - 1)) ≡ false → extend_of w true n ≡ cut_of w n + (2 ^ 64 - 2 ^ width_bits w)
unfolding extend_of extend_by signed_by cut_of
negative_fills w n h = simp (h)

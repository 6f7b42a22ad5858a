use mathlib.Core.Path.{refl}
use Rattle.replay_digits.specs.Words.{glyphs_of, in_each, to_sixteen}
use Prim.Native.Nat.{◌+◌}
use native.Mathlib.Omega.{arith}
use lib.Bits.{and_le_r, bit_and}
use Rattle.replay_digits.proofs.glyphs.Goals as goal

pub overflow_add-result : goal.overflow_add-result
unfolding glyphs_of
overflow_add-result c = omega (arith, and_le_r c.args.v (in_each 15))

pub overflow_add-result-2 : goal.overflow_add-result-2
unfolding glyphs_of
overflow_add-result-2 c = omega (arith, and_le_r c.args.v (in_each 15))

pub overflow_mul-result : goal.overflow_mul-result
unfolding glyphs_of
overflow_mul-result c = omega (arith, and_le_r (bit_and c.args.v (in_each 15) + in_each to_sixteen) (in_each 16))

pub overflow_add-result-3 : goal.overflow_add-result-3
unfolding glyphs_of
overflow_add-result-3 c = omega (arith, and_le_r c.args.v (in_each 15), and_le_r (bit_and c.args.v (in_each 15) + in_each to_sixteen) (in_each 16))

pub returns : goal.returns
unfolding glyphs_of
returns c = refl

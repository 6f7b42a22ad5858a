use mathlib.Core.Path.{refl}
use Rattle.replay_digits.specs.Words.{values_of, in_each}
use native.Mathlib.Omega.{arith}
use lib.Bits.{and_le_r}
use Rattle.replay_digits.proofs.values.Goals as goal

pub overflow_mul-result : goal.overflow_mul-result
unfolding values_of
overflow_mul-result c = omega (arith, and_le_r c.args.w (in_each 64))

pub overflow_add-result : goal.overflow_add-result
unfolding values_of
overflow_add-result c = omega (arith, and_le_r c.args.w (in_each 15), and_le_r c.args.w (in_each 64))

pub returns : goal.returns
unfolding values_of
returns c = refl

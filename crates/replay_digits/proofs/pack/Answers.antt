use mathlib.Core.Path.{refl}
use Rattle.replay_digits.specs.Words.{pack_of, in_each, pairs_of}
use Prim.Native.Nat.{◌+◌, ◌*◌, ◌/◌}
use native.Mathlib.Omega.{arith}
use lib.Bits.{and_le_r, bit_and}
use Rattle.replay_digits.proofs.pack.Goals as goal

pub overflow_mul-pairs : goal.overflow_mul-pairs
unfolding pack_of
overflow_mul-pairs c = omega (arith, and_le_r c.args.v (in_each 15))

pub overflow_add-pairs : goal.overflow_add-pairs
unfolding pack_of
overflow_add-pairs c = omega (arith, and_le_r c.args.v (in_each 15))

pub overflow_mul-fours : goal.overflow_mul-fours
unfolding pack_of
overflow_mul-fours c = omega (arith, and_le_r (bit_and c.args.v (in_each 15) * 16 + bit_and c.args.v (in_each 15) / 256) 0x00ff00ff00ff00ff)

pub overflow_add-fours : goal.overflow_add-fours
unfolding pack_of
overflow_add-fours c = omega (arith, and_le_r (bit_and c.args.v (in_each 15) * 16 + bit_and c.args.v (in_each 15) / 256) 0x00ff00ff00ff00ff)

pub overflow_mul-result : goal.overflow_mul-result
unfolding pack_of
overflow_mul-result c = omega (arith, and_le_r (pairs_of c.args.v * 256 + pairs_of c.args.v / 65536) 0x0000ffff0000ffff)

pub overflow_add-result : goal.overflow_add-result
unfolding pack_of
overflow_add-result c = omega (arith, and_le_r (pairs_of c.args.v * 256 + pairs_of c.args.v / 65536) 0x0000ffff0000ffff)

pub returns : goal.returns
unfolding pack_of
returns c = refl

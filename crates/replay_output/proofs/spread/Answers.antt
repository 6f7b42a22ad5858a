use Rattle.replay_output.specs.Eight.{spread_of, fours_apart}
use Prim.Native.Nat.{◌*◌, ◌/◌}
use native.Mathlib.Omega.{arith}
use lib.Bits.{and_le_r, bit_or}
use borrow.Author.Rules.{rules}
use Rattle.replay_output.proofs.spread.Goals as goal

pub overflow_mul-result : goal.overflow_mul-result
unfolding spread_of
overflow_mul-result c = omega (arith, and_le_r (bit_or (fours_apart c.args.v / 256) (fours_apart c.args.v * 65536)) 0x00ff00ff00ff00ff)

pub returns : goal.returns
unfolding spread_of
returns c = search rules

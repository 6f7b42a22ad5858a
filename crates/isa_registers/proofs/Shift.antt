-- What a shift left by 2 drops can be dropped before it.
use Prim.Native.Nat.{ℕ, ◌*◌, ◌%◌, ◌^◌}
use native.Mathlib.Omega.{arith}
use mathlib.Core.Path.{◌≡◌}

pub cut_first : (h : ℕ) → h * 2 ^ 2 % 2 ^ 64 ≡ h % 2 ^ 62 * 4
cut_first h = omega arith

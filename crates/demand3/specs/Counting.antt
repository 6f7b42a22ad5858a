-- Each of the nine counts is, modulo 2^64, its start plus the traps of its kind so far. 01, Each call's promise.
use Prim.Native.Nat.{ℕ, ◌<◌, ◌^◌}
use Rattle.std.specs.Prelude.{List, ◌≡◌}
use Rattle.std.proofs.Math.ListN.{get_or, length}

-- the counts of a record: nine numbers below 2^64
pub record Counted (k : List ℕ) : Type 0 where
  pub nine : length k ≡ 9
  pub below : (i : ℕ) → i < 9 → get_or k i 0 < 2 ^ 64

-- Choosing by a test, and 64-bit numbers.
use Rattle.std.specs.Prelude.{ℕ, ◌%◌, ◌^◌, Bool, true, false, ◌≡◌}
use Rattle.std.proofs.Common.{arith}

-- the first where the test holds, else the second
abbrev pub pick : {A : Type 0} → Bool → A → A → A
pick true a b = a
pick false a b = b

abbrev pub or : Bool → Bool → Bool
or true b = true
or false b = b

abbrev pub and : Bool → Bool → Bool
and true b = b
and false b = false

abbrev pub not : Bool → Bool
not true = false
not false = true

-- a test that holds and fails
pub never : {A : Type 0} → true ≡ false → A
never h = let z : ◌≡◌ {A = ℕ} 0 1 = cc in absurd (omega arith)

-- modulo 2^64
abbrev pub wrapped : ℕ → ℕ
wrapped n = n % 2 ^ 64

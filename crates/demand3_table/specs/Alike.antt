-- Two records alike except in one general register.
use Rattle.std.specs.Prelude.{ℕ, List, ◌≡◌, get_or, length}
use Rattle.scope.specs.declared.machine.Vcpu.{Vcpu}

-- two files of 32 registers that agree everywhere but in r
pub record Files (r : ℕ) (x y : List ℕ) : Type 0 where
  pub long : length x ≡ 32
  pub long' : length y ≡ 32
  pub agree : (i : ℕ) → (i ≡ r → ⊥) → get_or x i 0 ≡ get_or y i 0

-- the CSRs, the counts, the waiting part and the other registers agree
pub record Alike (r : ℕ) (v w : Vcpu) : Type 0 where
  pub files : Files r v.x w.x
  pub csrs : v.csrs ≡ w.csrs
  pub counts : v.counts ≡ w.counts
  pub waiting : v.waiting ≡ w.waiting

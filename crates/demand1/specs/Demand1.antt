-- What demand 1 says of a call that asks; the demand, a sentence each, of every call, is in proofs/Demand1.antt.
use Rattle.std.specs.Prelude.{◌≡◌}
use Rattle.scope.specs.declared.traps.Ask.{Ask}
use Rattle.scope.specs.declared.machine.Vcpu.{Vcpu}
use Rattle.demand1.specs.Leaves.{Waits}

-- an ask leaves exactly that ask waiting, and no register and no CSR changed
pub record Pending (v : Vcpu) (a : Ask) (u : Vcpu) : Type 0 where
  pub waits : Waits a u.waiting
  pub x : u.x ≡ v.x
  pub csrs : u.csrs ≡ v.csrs

-- What the thin entry leaves in the host's record, and what it gives back. 01, Which shape goes where.
use Rattle.std.specs.Prelude.{◌≡◌}
use Rattle.scope.specs.declared.machine.Outcome.{Outcome}
use Rattle.scope.specs.declared.machine.Vcpu.{Vcpu}
use Rattle.scope.specs.declared.hosts.HostCall.{HostCall}
use Rattle.scope.specs.Calls.{called_of}
use Rattle.by_value_lent.specs.declared.Given.{Given}

-- an outcome less its record
abbrev pub rest_of : Outcome → Given
rest_of o = record { reply = o.reply; args = o.args }

-- the entry's promise: from record v, call c leaves record w and gives g
abbrev pub Stored : Vcpu → HostCall → Vcpu → Given → Type 0
Stored v c w g = (w ≡ (called_of v c).vcpu) × (g ≡ rest_of (called_of v c))

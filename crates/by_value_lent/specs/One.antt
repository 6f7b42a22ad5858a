-- Only one outcome fits the entry's promise.
use Rattle.std.specs.Prelude.{◌≡◌}
use Rattle.std.proofs.Common.{sym, ◌∙◌}
use Rattle.scope.specs.declared.machine.Vcpu.{Vcpu}
use Rattle.by_value_lent.specs.declared.Given.{Given}
use Rattle.scope.specs.declared.hosts.HostCall.{HostCall}
use Rattle.by_value_lent.specs.Lent.{Stored}

-- two records at exit that meet the promise are equal, and so is what is given beside them
pub lent_one_outcome : (v : Vcpu) (c : HostCall) (w₁ w₂ : Vcpu) (g₁ g₂ : Given) → Stored v c w₁ g₁ → Stored v c w₂ g₂ → (w₁ ≡ w₂) × (g₁ ≡ g₂)
lent_one_outcome v c w₁ w₂ g₁ g₂ s₁ s₂ = (s₁.0 ∙ sym s₂.0, s₁.1 ∙ sym s₂.1)

-- Only one outcome fits the promise over a lent record.
use Rattle.std.specs.Prelude.{List, ◌≡◌}
use Rattle.std.proofs.Common.{sym, ◌∙◌}
use Rattle.scope.specs.declared.hosts.Post.{Post}
use Rattle.scope.specs.declared.hosts.Posted.{Posted}
use Rattle.scope.specs.declared.machine.Vcpu.{Vcpu}
use Rattle.by_value_posts.specs.Lent.{StoredRow}

-- two records at exit that meet the promise are equal, and so is what is given beside them
pub lent_one_row : (v : Vcpu) (ps : List Post) (w₁ w₂ : Vcpu) (g₁ g₂ : Posted) → StoredRow v ps w₁ g₁ → StoredRow v ps w₂ g₂ → (w₁ ≡ w₂) × (g₁ ≡ g₂)
lent_one_row v ps w₁ w₂ g₁ g₂ s₁ s₂ = (s₁.0 ∙ sym s₂.0, s₁.1 ∙ sym s₂.1)

-- Only one outcome fits the promise.
use Rattle.std.specs.Prelude.{List, ◌≡◌}
use Rattle.std.proofs.Common.{sym, ◌∙◌}
use Rattle.scope.specs.declared.hosts.Post.{Post}
use Rattle.scope.specs.declared.hosts.Posted.{Posted}
use Rattle.scope.specs.declared.machine.Record.{Record}
use Rattle.words_entry_posts.specs.Words.{ExportedRow}

-- two records at exit that meet the promise are equal, and so is what is given beside them
pub words_one_row : (r : Record) (ps : List Post) (s₁ s₂ : Record) (g₁ g₂ : Posted) → ExportedRow r ps s₁ g₁ → ExportedRow r ps s₂ g₂ → (s₁ ≡ s₂) × (g₁ ≡ g₂)
words_one_row r ps s₁ s₂ g₁ g₂ e₁ e₂ = (e₁.0 ∙ sym e₂.0, e₁.1 ∙ sym e₂.1)

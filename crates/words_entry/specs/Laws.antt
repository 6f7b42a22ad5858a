-- Only one outcome fits the exported entry's promise.
use Rattle.std.specs.Prelude.{◌≡◌}
use Rattle.std.proofs.Common.{sym, ◌∙◌}
use Rattle.scope.specs.declared.machine.Record.{Record}
use Rattle.words_call.specs.declared.CallWords.{CallWords}
use Rattle.words_call.specs.declared.ReplyWords.{ReplyWords}
use Rattle.words_entry.specs.Words.{Exported}

-- two records at exit that meet the promise are equal, and so is what is given beside them
pub words_one_outcome : (r : Record) (c : CallWords) (s₁ s₂ : Record) (g₁ g₂ : ReplyWords) → Exported r c s₁ g₁ → Exported r c s₂ g₂ → (s₁ ≡ s₂) × (g₁ ≡ g₂)
words_one_outcome r c s₁ s₂ g₁ g₂ e₁ e₂ = (e₁.0 ∙ sym e₂.0, e₁.1 ∙ sym e₂.1)

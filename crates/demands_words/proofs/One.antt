-- Only one outcome fits the promises in place: two that meet one are equal, in all 58 words.
use Rattle.std.specs.Prelude.{ℕ, List, ◌≡◌, length}
use Rattle.std.proofs.Common.{sym, ◌∙◌}
use Rattle.scope.specs.declared.hosts.HostCall.{HostCall}
use Rattle.scope.specs.declared.hosts.Post.{Post}
use Rattle.scope.specs.declared.hosts.Posted.{Posted}
use Rattle.in_place_record.specs.View.{Done, Made, MadeRow}
use Rattle.demands_words.specs.Places.{does, gives, posts, use_turn}
use Rattle.demands_words.proofs.Places.{leads, one_place}

pub one_made : (entry : List ℕ) (c : HostCall) (r₁ r₂ p₁ p₂ : List ℕ) (w₁ w₂ : ℕ) → length entry ≡ 58
    → Made entry c r₁ p₁ w₁ → Made entry c r₂ p₂ w₂ → (r₁ ≡ r₂) × (p₁ ≡ p₂) × (w₁ ≡ w₂)
unfolding use_turn
one_made entry c r₁ r₂ p₁ p₂ w₁ w₂ e m₁ m₂ =
    let l₁ = leads e (gives m₁) in
    let l₂ = leads e (gives m₂) in
    (one_place r₁ r₂ l₁.sized l₂.sized (l₁.left ∙ sym l₂.left), m₁.gives ∙ sym m₂.gives, m₁.says ∙ sym m₂.says)

pub one_done : (entry : List ℕ) (c : HostCall) (r₁ r₂ : List ℕ) (w₁ w₂ : ℕ) → length entry ≡ 58
    → Done entry c r₁ w₁ → Done entry c r₂ w₂ → (r₁ ≡ r₂) × (w₁ ≡ w₂)
unfolding use_turn
one_done entry c r₁ r₂ w₁ w₂ e d₁ d₂ =
    let l₁ = leads e (does d₁) in
    let l₂ = leads e (does d₂) in
    (one_place r₁ r₂ l₁.sized l₂.sized (l₁.left ∙ sym l₂.left), d₁.says ∙ sym d₂.says)

pub one_row : (entry : List ℕ) (ps : List Post) (r₁ r₂ : List ℕ) (g₁ g₂ : Posted) → length entry ≡ 58
    → MadeRow entry ps r₁ g₁ → MadeRow entry ps r₂ g₂ → (r₁ ≡ r₂) × (g₁ ≡ g₂)
unfolding use_turn
one_row entry ps r₁ r₂ g₁ g₂ e m₁ m₂ =
    let l₁ = leads e (posts m₁) in
    let l₂ = leads e (posts m₂) in
    (one_place r₁ r₂ l₁.sized l₂.sized (l₁.left ∙ sym l₂.left), m₁.says ∙ sym m₂.says)

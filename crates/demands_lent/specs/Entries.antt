-- Sequences of calls and rows of posts through the entry, by its promises alone.
use Rattle.std.specs.Prelude.{List, [], ◌∷◌}
use Rattle.scope.specs.declared.hosts.HostCall.{HostCall}
use Rattle.scope.specs.declared.hosts.Post.{Post}
use Rattle.scope.specs.declared.hosts.Posted.{Posted}
use Rattle.scope.specs.declared.machine.Vcpu.{Vcpu}
use Rattle.by_value_lent.specs.declared.Given.{Given}
use Rattle.by_value_lent.specs.Lent.{Stored}
use Rattle.by_value_posts.specs.Lent.{StoredRow}
use Rattle.demand3_table.specs.Turns.{Turn, call, post, print}
use Rattle.demand3_table.specs.Runs.{Sight}

-- what is given back: of a call its reply and array, of a row how many were applied and what stopped it
pub data Back : Type 0 where
  replied : Given → Back
  posted : Posted → Back

-- the record v after these turns through the entry is u, and these were given back: each step meets the entry's promise
pub data Entries : Vcpu → List Turn → List Back → Vcpu → Type 0 where
  none : {v : Vcpu} → Entries v [] [] v
  next : {v w u : Vcpu} {c : HostCall} {g : Given} {cs : List Turn} {gs : List Back} → Stored v c w g → Entries w cs gs u → Entries v (call c ∷ cs) (replied g ∷ gs) u
  row : {v w u : Vcpu} {ps : List Post} {g : Posted} {cs : List Turn} {gs : List Back} → StoredRow v ps w g → Entries w cs gs u → Entries v (post ps ∷ cs) (posted g ∷ gs) u

-- what the entry gives back, of what a host sees. (The bytes to print are told by another function.)
unfoldable pub back_of : Turn → Sight → Back
back_of (call c) s = replied (record { reply = s.reply; args = s.args })
back_of (print buffer) s = replied (record { reply = s.reply; args = s.args })
back_of (post ps) s = posted s.posted

unfoldable pub given_for : List Turn → List Sight → List Back
given_for [] ss = []
given_for (c ∷ cs) [] = []
given_for (c ∷ cs) (s ∷ ss) = back_of c s ∷ given_for cs ss

-- Sequences of turns on a record: the later record, what the host sees, and which registers are touched.
use Rattle.std.specs.Prelude.{ℕ, Bool, true, false, List, [], ◌∷◌, ◌≡◌, eqb, ltb}
use Rattle.demand3_table.specs.Turns.{Turn, call, print, post}
use Rattle.isa_types.specs.Pick.{pick, or}
use Rattle.scope.specs.declared.hosts.HostCall.TheVariants as host_call
use Rattle.scope.specs.declared.hosts.HostCall.{HostCall}
use Rattle.scope.specs.declared.hosts.Posted.{Posted}
use Rattle.scope.specs.declared.traps.Reply.{Reply}
use Rattle.scope.specs.declared.traps.Reply.TheVariants as reply
use Rattle.scope.specs.declared.machine.Vcpu.{Vcpu}
use Rattle.scope.specs.declared.machine.Writes.{Writes}
use Rattle.scope.specs.declared.machine.Writes.TheVariants as writes
use Rattle.scope.specs.Posts.{posted_of}
use Rattle.scope.specs.Record.{listed, no_args}
use Rattle.scope.specs.Calls.{printed_of, called_of, effect_of}
use Rattle.demand3_table.specs.Table.{names_of, reads_of}

-- what a host sees of a turn: the exit, ask, refusal or register; the hypercall array; the bytes printed; how many posts of a row
-- were applied, and the refusal that stopped it
pub record Sight : Type 0 where
  pub reply : Reply
  pub args : List ℕ
  pub bytes : List ℕ
  pub posted : Posted

-- of a turn that is no row
abbrev pub no_posts : Posted
no_posts = record { applied = 0; refusal = 0 }

-- a call and a row by the one definition that their promises cite; printing gives bytes and leaves the record
unfoldable pub sight_of : Vcpu → Turn → Sight
sight_of v (call c) = record { reply = (called_of v c).reply; args = (called_of v c).args; bytes = []; posted = no_posts }
sight_of v (print buffer) = record { reply = reply.Done; args = listed no_args; bytes = printed_of v buffer; posted = no_posts }
sight_of v (post ps) = record { reply = reply.Done; args = listed no_args; bytes = []; posted = (posted_of v ps).posted }

-- the record after a turn
unfoldable pub step_of : Vcpu → Turn → Vcpu
step_of v (call c) = (called_of v c).vcpu
step_of v (print buffer) = v
step_of v (post ps) = (posted_of v ps).vcpu

-- the record after a sequence
unfoldable pub run_of : Vcpu → List Turn → Vcpu
run_of v [] = v
run_of v (c ∷ cs) = run_of (step_of v c) cs

-- all that the host sees of a sequence
unfoldable pub seen_of : Vcpu → List Turn → List Sight
seen_of v [] = []
seen_of v (c ∷ cs) = sight_of v c ∷ seen_of (step_of v c) cs

-- r is one of a list
abbrev pub among : ℕ → List ℕ → Bool
among r [] = false
among r (k ∷ ks) = or (eqb k r) (among r ks)

-- r is none of a list
pub record Apart (r : ℕ) (l : List ℕ) : Type 0 where
  pub free : among r l ≡ false

-- no trap in the sequence names r, and no call reads it out
unfoldable pub Untouched : ℕ → Vcpu → List Turn → Type 0
Untouched r v [] = Unit {0}
Untouched r v (c ∷ cs) = (Apart r (names_of v c)) × (Apart r (reads_of c)) × (Untouched r (step_of v c) cs)

-- the call makes a new record
unfoldable pub renews : HostCall → Bool
renews (host_call.New hart tree) = true
renews host_call.Setup = false
renews (host_call.SetEntry at) = false
renews (host_call.GetGpr index) = false
renews (host_call.SetGpr index value) = false
renews (host_call.SetReturnValue value) = false
renews (host_call.SetNestedPageTable levels mode root) = false
renews (host_call.SetPending vector level) = false
renews (host_call.LatchHvip bits) = false
renews (host_call.CompleteIpi abi completion) = false
renews (host_call.Start t) = false
renews (host_call.Answer a) = false
renews (host_call.CompleteLoad n) = false
renews (host_call.ToPrint length) = false

-- the writes reach r; x0 is never written
unfoldable pub wrote : ℕ → Writes → Bool
wrote r writes.Keep = false
wrote r (writes.One i n) = pick (eqb i 0) false (pick (ltb i 32) (eqb r i) false)
wrote r (writes.Pair e v) = or (eqb r 10) (eqb r 11)

-- the turn writes r; a new record is written whole
unfoldable pub wrote_by : ℕ → Vcpu → Turn → Bool
wrote_by r v (call c) = or (renews c) (wrote r (effect_of v c).writes)
wrote_by r v (print buffer) = false
wrote_by r v (post ps) = false

-- some turn of the sequence writes r
unfoldable pub written : ℕ → Vcpu → List Turn → Bool
written r v [] = false
written r v (c ∷ cs) = or (wrote_by r v c) (written r (step_of v c) cs)

-- no turn of the sequence makes a new record
unfoldable pub turn_renews : Turn → Bool
turn_renews (call c) = renews c
turn_renews (print buffer) = false
turn_renews (post ps) = false

unfoldable pub Lasting : List Turn → Type 0
Lasting [] = Unit {0}
Lasting (c ∷ cs) = (turn_renews c ≡ false) × (Lasting cs)

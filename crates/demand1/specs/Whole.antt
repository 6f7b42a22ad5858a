-- A whole trap: its start and the answers that carry it on. 01, One trap; Refusals and errors by number.
use Rattle.std.specs.Prelude.{ℕ, Bool, true, false, List, [], ◌∷◌, ◌≡◌, eqb}
use Rattle.scope.specs.declared.hosts.HostCall.TheVariants as host_call
use Rattle.scope.specs.declared.traps.Answer.{Answer}
use Rattle.scope.specs.declared.traps.Error.{Error}
use Rattle.scope.specs.declared.traps.Reply.{Reply}
use Rattle.scope.specs.declared.traps.Reply.TheVariants as reply
use Rattle.scope.specs.declared.traps.Trap.{Trap}
use Rattle.scope.specs.declared.machine.Event.TheVariants as event
use Rattle.scope.specs.declared.machine.Outcome.{Outcome}
use Rattle.scope.specs.declared.machine.Vcpu.{Vcpu}
use Rattle.scope.specs.declared.machine.Waiting.TheVariants as waiting
use Rattle.scope.specs.declared.hosts.Post.{Post}
use Rattle.scope.specs.Posts.{posted_of}
use Rattle.scope.specs.Record.{counted, waiting_ask}
use Rattle.demand3_table.specs.Runs.{step_of}
use Rattle.demand3_table.specs.Turns.{Turn, call, post, print}
use Rattle.scope.specs.Calls.{called_of}
use Rattle.scope.specs.Refusals.{refusal, refuses}
use Rattle.isa_types.specs.Pick.{not}
use Rattle.scope.specs.declared.hosts.HostCall.{HostCall}

-- turns made one after the other; the trap's reply stays where a turn has none of its own
unfoldable pub after_turn : Outcome → Turn → Outcome
after_turn o (call c) = called_of o.vcpu c
after_turn o (print buffer) = o
after_turn o (post ps) = record { vcpu = (posted_of o.vcpu ps).vcpu; reply = o.reply; args = o.args }

unfoldable pub carried : Outcome → List Turn → Outcome
carried o [] = o
carried o (c ∷ l) = carried (after_turn o c) l

-- a start and the turns after it
unfoldable pub whole_of : Vcpu → Trap → List Turn → Outcome
whole_of v t l = carried (called_of v (host_call.Start t)) l

-- a turn in the middle of a trap: an answer, in turn or not; any call that is refused, and a row of posts while an ask waits; a read;
-- printing
pub data Middle (u : Vcpu) : Turn → Type 0 where
  answer : (a : Answer) → Middle u (call (host_call.Answer a))
  refused : {c : HostCall} → refuses (called_of u c).reply ≡ true → Middle u (call c)
  row : (ps : List Post) → eqb (waiting_ask u.waiting) 0 ≡ false → Middle u (post ps)
  read : (i : ℕ) → Middle u (call (host_call.GetGpr i))
  count : (n : ℕ) → Middle u (call (host_call.ToPrint n))
  bytes : (buffer : List ℕ) → Middle u (print buffer)

unfoldable pub Middles : Vcpu → List Turn → Type 0
Middles u [] = Unit {0}
Middles u (c ∷ l) = (Middle u c) × (Middles (step_of u c) l)

-- errors 3 to 6 end a trap; 1, 2 and 7 are refusals
unfoldable pub ends_trap : Error → Bool
ends_trap e = not (refusal e)

unfoldable pub in_error : Reply → Bool
in_error (reply.Exit x) = false
in_error (reply.Ask a) = false
in_error reply.Done = false
in_error (reply.Value n) = false
in_error (reply.Error e) = ends_trap e

-- the counts as they were, or with one more of event 2
pub data Tallied (k : List ℕ) : List ℕ → Type 0 where
  same : Tallied k k
  illegal : Tallied k (counted k event.IllegalInsn)

-- the record u after a trap on v that ended in an error: no register and no CSR changed, nothing waits
pub record Over (v u : Vcpu) : Type 0 where
  pub x : u.x ≡ v.x
  pub csrs : u.csrs ≡ v.csrs
  pub waiting : u.waiting ≡ waiting.Idle
  pub counts : Tallied v.counts u.counts

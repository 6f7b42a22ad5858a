-- A row of posts, each a vector and a level, in one call. 02, W4.
use Rattle.std.specs.Prelude.{ℕ, ◌+◌, List, [], ◌∷◌, eqb}
use Rattle.isa_types.specs.Pick.{pick}
use Rattle.scope.specs.declared.hosts.HostCall.TheVariants as host_call
use Rattle.scope.specs.declared.hosts.HostCall.{HostCall}
use Rattle.scope.specs.declared.hosts.Post.{Post}
use Rattle.scope.specs.declared.machine.Record.{Record}
use Rattle.scope.specs.declared.machine.RowOutcome.{RowOutcome}
use Rattle.scope.specs.declared.machine.Vcpu.{Vcpu}
use Rattle.scope.specs.declared.traps.Error.TheVariants as error
use Rattle.scope.specs.Calls.{called_of}
use Rattle.scope.specs.Record.{waiting_ask}
use Rattle.scope.specs.Refusals.{error_number, refuses}
use Rattle.scope.specs.ReplyWords.{reply_number}
use Rattle.scope.specs.Words.{laid_with, tested, unpack_of}

-- one post is 01's call for one interrupt; level 0 clears, any other sets
unfoldable pub post_call : Post → HostCall
post_call p = host_call.SetPending p.vector (tested p.level)

-- so many were applied, and the refusal of this number stopped the row; 0 is none
unfoldable pub row_of : Vcpu → ℕ → ℕ → RowOutcome
row_of v n refusal = record { vcpu = v; posted = record { applied = n; refusal = refusal } }

-- n were applied, and these are left: one by one in order; the first that is refused stops the row, changes nothing, and keeps
-- the earlier ones
unfoldable pub one_by_one : ℕ → Vcpu → List Post → RowOutcome
one_by_one n v [] = row_of v n 0
one_by_one n v (p ∷ ps) =
    pick (refuses (called_of v (post_call p)).reply)
    (row_of v n (reply_number (called_of v (post_call p)).reply))
    (one_by_one (n + 1) (called_of v (post_call p)).vcpu ps)

-- the whole outcome of a row: refusal 2 before the first post while an ask waits, for an empty row too, with 0 applied
unfoldable pub posted_of : Vcpu → List Post → RowOutcome
posted_of v ps = pick (eqb (waiting_ask v.waiting) 0) (one_by_one 0 v ps) (row_of v 0 (error_number error.BadState))

-- the words of a record after a row of posts on them; those of what waits stay, whatever they hold
unfoldable pub left_posted : Record → List Post → Record
left_posted r ps = laid_with (posted_of (unpack_of r) ps).vcpu r.waiting

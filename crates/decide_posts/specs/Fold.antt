-- A row of posts as a fold over hvip: 01, Which shape goes where. That this is the row one by one is in RowLaws.antt.
use Rattle.std.specs.Prelude.{ℕ, ◌+◌, Bool, List, [], ◌∷◌, None, Option, Some, eqb, is_some}
use Rattle.isa_registers.specs.Bits.{with_bits}
use Rattle.isa_types.specs.Pick.{pick}
use Rattle.scope.specs.declared.hosts.Post.{Post}
use Rattle.scope.specs.declared.hosts.Posted.{Posted}
use Rattle.scope.specs.declared.machine.RowOutcome.{RowOutcome}
use Rattle.scope.specs.declared.machine.Vcpu.{Vcpu}
use Rattle.scope.specs.declared.traps.Error.TheVariants as error
use Rattle.scope.specs.Host.{hvip_bit_of}
use Rattle.scope.specs.Posts.{row_of}
use Rattle.scope.specs.PostsLaws.{with_hvip}
use Rattle.scope.specs.Record.{waiting_ask}
use Rattle.scope.specs.Refusals.{error_number}
use Rattle.scope.specs.Words.{tested}
use Rattle.decide_posts.specs.declared.Row.{Row}

-- before the first post; ask is the number of the ask that waits, or 0
unfoldable pub begun_by : ℕ → ℕ → Row
begun_by hvip ask =
    record { hvip = hvip; applied = 0; refusal = pick (eqb ask 0) None (Some (error_number error.BadState)) }

unfoldable pub begun_of : Vcpu → Row
begun_of v = begun_by v.csrs.hs.hvip (waiting_ask v.waiting)

-- one post, by its bit of hvip
unfoldable pub applied_by : Row → ℕ → Bool → Row
applied_by s line on =
    pick (eqb line 0) (record { hvip = s.hvip; applied = s.applied; refusal = Some (error_number error.InvalidInput) })
    (record { hvip = with_bits s.hvip line on; applied = s.applied + 1; refusal = None })

-- one post; a row that was stopped stays
unfoldable pub post_taken : Row → Post → Row
post_taken s p = pick (is_some s.refusal) s (applied_by s (hvip_bit_of p.vector) (tested p.level))

-- the row, in order
unfoldable pub fold_of : Row → List Post → Row
fold_of s [] = s
fold_of s (p ∷ ps) = fold_of (post_taken s p) ps

-- a refusal's number; 0 is none
unfoldable pub refusal_number : Option ℕ → ℕ
refusal_number None = 0
refusal_number (Some n) = n

-- what the row gives
unfoldable pub given_of : Row → Posted
given_of s = record { applied = s.applied; refusal = refusal_number s.refusal }

-- the record with hvip as the row leaves it, and what the row gives
unfoldable pub ended_of : Vcpu → Row → RowOutcome
ended_of v s = row_of (with_hvip v s.hvip) s.applied (refusal_number s.refusal)

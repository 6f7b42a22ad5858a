-- What a call keeps, for any number of the CSRs: hvip in Hvip.antt, sstatus and hstatus in Mode.antt.
use Rattle.std.specs.Prelude.{ℕ, ◌≡◌}
use Rattle.isa_types.specs.declared.GuestPhysAddr.{GuestPhysAddr}
use Rattle.scope.specs.Host.{entry_csrs, table_csrs}
use Rattle.scope.specs.Record.{moved, timed}
use Rattle.scope.specs.declared.machine.Csrs.{Csrs}
use Rattle.scope.specs.declared.machine.Effect.{Effect}

-- a number of the CSRs that stays where sepc moves on or is the entry, and where vstimecmp or hgatp is written
pub record Steady (at : Csrs → ℕ) : Type 0 where
  pub moves : (c : Csrs) (n : ℕ) → at (moved c n) ≡ at c
  pub enters : (c : Csrs) (entry : GuestPhysAddr) → at (entry_csrs c entry) ≡ at c
  pub times : (c : Csrs) (d : ℕ) → at (timed c d) ≡ at c
  pub maps : (c : Csrs) (mode root : ℕ) → at (table_csrs c mode root) ≡ at c

-- an effect that leaves it
pub record Keeps (at : Csrs → ℕ) (c : Csrs) (e : Effect) : Type 0 where
  pub kept : at e.csrs ≡ at c

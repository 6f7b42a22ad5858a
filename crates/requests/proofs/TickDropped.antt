-- What setting the timer does to hvip, bit by bit.
use Rattle.std.specs.Prelude.{◌≡◌, get_or}
use Rattle.std.proofs.Common.{arith, ap, ◌∙◌}
use Rattle.isa_registers.specs.BitLaws.{bit_of, cleared_bit}
use Rattle.scope.specs.Ecalls.{set_timer_of}
use Rattle.scope.specs.Record.{moved, pended, timed}
use Rattle.scope.specs.Refusals.{finished_of}
use Rattle.scope.specs.declared.machine.Csrs.{Csrs}
use Rattle.scope.specs.declared.machine.Vcpu.{Vcpu}
use Rattle.scope.specs.declared.machine.Writes.{Writes}
use Rattle.requests.specs.SetTimer.{TickDropped}

pub dropped : (v u : Vcpu) (w : Writes) → u.csrs ≡ (set_timer_of v.csrs (get_or v.x 10 0) w).csrs → TickDropped v u
unfolding set_timer_of finished_of moved pended timed
dropped v u w e =
    record {
      timer = ap (λ (c : Csrs). c.vs.vstimecmp) e;
      bits = λ i h. ap (λ (c : Csrs). bit_of c.hs.hvip i) e ∙ cleared_bit v.csrs.hs.hvip 6 i (omega arith) h;
    }

use mathlib.Core.Path.{refl}
use Rattle.scope.specs.Words.{call_by, waiting_left}
use Rattle.in_place_record.specs.Steps.{host_leaves}
use Rattle.in_place_record.proofs.Cleared.{settled}
use Rattle.scope.specs.declared.hosts.HostCall.TheVariants as host_call
use Rattle.in_place_entry_interrupts.proofs.vcpu_complete_ipi.Goals as goal

pub returns : goal.returns
unfolding call_by host_leaves waiting_left
returns c = settled (host_call.CompleteIpi _ _) (λ o. refl) (simp (c.from_number-2.ensures, c.from_number.ensures) at c.complete_ipi.ensures)

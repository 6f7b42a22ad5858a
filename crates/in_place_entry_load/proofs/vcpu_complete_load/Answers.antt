use mathlib.Core.Path.{refl}
use Rattle.scope.specs.Words.{call_by, waiting_left}
use Rattle.in_place_record.specs.Steps.{trap_leaves}
use Rattle.in_place_record.proofs.Cleared.{settled}
use Rattle.scope.specs.declared.hosts.HostCall.TheVariants as host_call
use Rattle.in_place_entry_load.proofs.vcpu_complete_load.Goals as goal

pub returns : goal.returns
unfolding call_by trap_leaves waiting_left
returns c = settled (host_call.CompleteLoad _) (λ o. refl) c.complete_load.ensures

use mathlib.Core.Path.{refl}
use Rattle.scope.specs.Words.{call_by, waiting_left}
use Rattle.in_place_record.specs.Steps.{host_leaves}
use Rattle.in_place_record.proofs.Cleared.{cleared}
use Rattle.scope.specs.declared.hosts.HostCall.TheVariants as host_call
use Rattle.in_place_entry_gprs.proofs.vcpu_get_gpr.Goals as goal

pub returns : goal.returns
unfolding call_by host_leaves waiting_left
returns c = cleared (host_call.GetGpr _) (λ o. refl) c.get_gpr.ensures

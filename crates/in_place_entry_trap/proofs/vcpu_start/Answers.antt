use mathlib.Core.Path.{refl}
use Rattle.in_place_entry_trap.specs.Calls.{start_call}
use Rattle.in_place_record.specs.Steps.{trap_leaves}
use Rattle.scope.specs.Words.{waiting_left}
use Rattle.in_place_record.proofs.Cleared.{cleared}
use Rattle.scope.specs.declared.hosts.HostCall.TheVariants as host_call
use Rattle.in_place_entry_trap.proofs.vcpu_start.Goals as goal

pub returns : goal.returns
unfolding start_call trap_leaves waiting_left
returns c = cleared (host_call.Start _) (λ o. refl) (simp c.trap_of.ensures at c.start.ensures)

use mathlib.Core.Path.{refl}
use Rattle.in_place_entry_trap.specs.Calls.{answer_call}
use Rattle.in_place_record.specs.Steps.{trap_leaves}
use Rattle.scope.specs.Words.{waiting_left}
use Rattle.in_place_record.proofs.Cleared.{cleared}
use Rattle.scope.specs.declared.hosts.HostCall.TheVariants as host_call
use Rattle.in_place_entry_trap.proofs.vcpu_answer.Goals as goal

pub returns : goal.returns
unfolding answer_call trap_leaves waiting_left
returns c = cleared (host_call.Answer _) (λ o. refl) (rw c.from.ensures at c.answer.ensures)

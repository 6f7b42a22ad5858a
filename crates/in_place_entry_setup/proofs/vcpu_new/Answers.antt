use Rattle.scope.specs.Words.{call_by}
use Rattle.in_place_host_calls.specs.SetupLaws.{new_done}
use Rattle.in_place_entry_setup.proofs.vcpu_new.Goals as goal

pub returns : goal.returns
unfolding call_by
returns c = new_done _ _ _ _ c.new.ensures

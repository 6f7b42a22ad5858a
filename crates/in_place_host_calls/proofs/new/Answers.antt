use Rattle.in_place_host_calls.specs.SetupLaws.{new_shows}
use Rattle.in_place_host_calls.proofs.new.Goals as goal

pub returns : goal.returns
returns c = new_shows _ _

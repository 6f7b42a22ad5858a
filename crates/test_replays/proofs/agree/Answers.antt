use Rattle.test_replays.proofs.Alike.{alike}
use Rattle.test_replays.proofs.agree.Goals as goal

pub returns : goal.returns
returns c = alike _ _ _ c.equal_pairs.ensures

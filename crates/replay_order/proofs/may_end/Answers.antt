use Rattle.std.proofs.Common.{rules}
use Rattle.replay_scope.specs.Output.{may_end}
use Rattle.replay_order.proofs.may_end.Goals as goal

pub returns-in-Scause : goal.returns-in-Scause
unfolding may_end
returns-in-Scause c = search rules

pub returns-in_default : goal.returns-in_default
unfolding may_end
returns-in_default c = search rules

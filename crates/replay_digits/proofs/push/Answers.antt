use mathlib.Core.Path.{refl}
use Rattle.replay_scope.specs.Lines.{push_of}
use Rattle.replay_digits.proofs.push.Goals as goal

pub returns : goal.returns
unfolding push_of
returns c = refl

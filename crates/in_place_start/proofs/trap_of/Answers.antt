use mathlib.Core.Path.{refl}
use Rattle.in_place_start.specs.Words.{trap_words}
use Rattle.in_place_start.proofs.trap_of.Goals as goal

pub returns : goal.returns
unfolding trap_words
returns c = refl

-- The words that a trap is started with, in their order: what the hardware left, and the room of the lent buffer. 01, One trap.
use Rattle.std.specs.Prelude.{ℕ, List, get_or}
use Rattle.scope.specs.declared.traps.Trap.{Trap}

unfoldable pub trap_words : List ℕ → Trap
trap_words t =
    record { scause = get_or t 0 0; stval = get_or t 1 0; htval = get_or t 2 0; htinst = get_or t 3 0; room = get_or t 4 0 }

-- A pending interrupt is set by a host's own call.
use Rattle.std.specs.Prelude.{ℕ, Bool, eqb}
use Rattle.scope.specs.declared.traps.Error.TheVariants as error
use Rattle.scope.specs.declared.machine.Csrs.{Csrs}
use Rattle.scope.specs.declared.machine.Waiting.{Waiting}
use Rattle.scope.specs.declared.machine.Writes.TheVariants as writes
use Rattle.scope.specs.Record.{pended}
use Rattle.scope.specs.Host.{hvip_bit_of, pending_effect}
use Rattle.isa_registers.specs.Bits.{with_bits}
use Rattle.in_place_host.specs.Host.{Keeps}
use Rattle.in_place_host.specs.Laws.{done_keeps, pick_keeps, refused_keeps}

pub pending_keeps : (c : Csrs) (w : Waiting) (vector : ℕ) (on : Bool) → Keeps (pending_effect c w vector on) w
unfolding pending_effect
pending_keeps c w vector on =
    pick_keeps (eqb (hvip_bit_of vector) 0) (refused_keeps c w error.InvalidInput)
    (done_keeps (pended c (with_bits c.hs.hvip (hvip_bit_of vector) on)) writes.Keep w)

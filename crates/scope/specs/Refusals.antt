-- How a call ends: an exit, an ask, an error, a refusal. 01, Refusals and errors by number.
use Rattle.std.specs.Prelude.{ℕ, Bool, true, false, eqb}
use Rattle.isa_types.specs.Pick.{pick}
use Rattle.scope.specs.declared.machine.Csrs.{Csrs}
use Rattle.scope.specs.declared.machine.Effect.{Effect}
use Rattle.scope.specs.declared.machine.Event.TheVariants as event
use Rattle.scope.specs.declared.machine.Event.{Event}
use Rattle.scope.specs.declared.machine.Vcpu.{Vcpu}
use Rattle.scope.specs.declared.machine.Waiting.TheVariants as waiting
use Rattle.scope.specs.declared.machine.Waiting.{Waiting}
use Rattle.scope.specs.declared.machine.Writes.TheVariants as writes
use Rattle.scope.specs.declared.machine.Writes.{Writes}
use Rattle.scope.specs.declared.traps.Ask.{Ask}
use Rattle.scope.specs.declared.traps.Error.TheVariants as error
use Rattle.scope.specs.declared.traps.Error.{Error}
use Rattle.scope.specs.declared.traps.Exit.{Exit}
use Rattle.scope.specs.declared.traps.Reply.TheVariants as reply
use Rattle.scope.specs.declared.traps.Reply.{Reply}
use Rattle.scope.specs.Record.{no_args, waiting_ask}

-- 01, Refusals and errors by number
unfoldable pub error_number : Error → ℕ
error_number error.InvalidInput = 1
error_number error.BadState = 2
error_number error.Unsupported = 3
error_number error.InvalidTrap = 4
error_number error.DecodeFailed = 5
error_number error.GuestMemoryFault = 6
error_number error.WrongAnswer = 7

-- 1, 2 and 7 are refusals; 3 to 6 end a trap
unfoldable pub refusal : Error → Bool
refusal error.InvalidInput = true
refusal error.BadState = true
refusal error.Unsupported = false
refusal error.InvalidTrap = false
refusal error.DecodeFailed = false
refusal error.GuestMemoryFault = false
refusal error.WrongAnswer = true

-- the call was refused
unfoldable pub refuses : Reply → Bool
refuses (reply.Exit x) = false
refuses (reply.Ask a) = false
refuses reply.Done = false
refuses (reply.Value n) = false
refuses (reply.Error e) = refusal e

-- a trap finished with an exit: nothing waits
unfoldable pub finished_of : Csrs → Event → Writes → Exit → Effect
finished_of c e w x =
    record { csrs = c; event = e; writes = w; waiting = waiting.Idle; reply = reply.Exit x; args = no_args }

-- an ask: no register is written
unfoldable pub asking_of : Csrs → Event → Waiting → Ask → Effect
asking_of c e n a = record { csrs = c; event = e; writes = writes.Keep; waiting = n; reply = reply.Ask a; args = no_args }

-- a trap that ends in error 3 to 6: nothing waits, no register is written
unfoldable pub failed_of : Csrs → Event → Error → Effect
failed_of c e x =
    record { csrs = c; event = e; writes = writes.Keep; waiting = waiting.Idle; reply = reply.Error x; args = no_args }

-- all unchanged, and this reply
unfoldable pub leaves_of : Csrs → Waiting → Reply → Effect
leaves_of c n r =
    record { csrs = c; event = event.Quiet; writes = writes.Keep; waiting = n; reply = r; args = no_args }

-- a refusal: all unchanged
unfoldable pub refused_of : Csrs → Waiting → Error → Effect
refused_of c n x = leaves_of c n (reply.Error x)

-- a call that gives nothing; n is what waits after it
unfoldable pub done_of : Csrs → Writes → Waiting → Effect
done_of c w n =
    record { csrs = c; event = event.Quiet; writes = w; waiting = n; reply = reply.Done; args = no_args }

-- any changing call but an answer while an ask waits: refusal 2. It stands around each call's own test, so 2 goes before 1.
-- (A start has its own rule, start_effect in Classes.antt, and a load's completion too, completed_of in GuestPageFault.antt.)
unfoldable pub unless_asking : Vcpu → Effect → Effect
unless_asking v e = pick (eqb (waiting_ask v.waiting) 0) e (refused_of v.csrs v.waiting error.BadState)

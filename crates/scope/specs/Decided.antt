-- What was decided of an ecall or of the answer to its ask, done. Both entries share the decisions, so these stand apart from
-- the rows; decide_ecall::decide and decide_answers::decide promise that doing what they give is the row of Ecalls.antt.
use Rattle.std.specs.Prelude.{ℕ}
use Rattle.scope.specs.declared.decided.Answered.TheVariants as answered
use Rattle.scope.specs.declared.decided.Answered.{Answered}
use Rattle.scope.specs.declared.decided.SbiCall.TheVariants as call
use Rattle.scope.specs.declared.decided.SbiCall.{SbiCall}
use Rattle.scope.specs.declared.machine.Csrs.{Csrs}
use Rattle.scope.specs.declared.machine.EcallAsk.TheVariants as asked
use Rattle.scope.specs.declared.machine.Effect.{Effect}
use Rattle.scope.specs.declared.machine.Writes.TheVariants as writes
use Rattle.scope.specs.declared.traps.Args.{Args}
use Rattle.scope.specs.declared.traps.Ask.TheVariants as ask
use Rattle.scope.specs.declared.traps.Exit.TheVariants as exit
use Rattle.scope.specs.Ecalls.{returns_of, moves_of, gives_of, stays_of, asks_of, set_timer_of, clear_ipi_of, hypercall_of, forward_effect}

-- an SBI call
unfoldable pub call_effect : Csrs → ℕ → ℕ → Args → SbiCall → Effect
call_effect c eid fid a (call.Returns e v) = returns_of c e v
call_effect c eid fid a call.Moves = moves_of c exit.Nothing
-- legacy 0: then a0 = 0
call_effect c eid fid a (call.LegacyTimer d) = set_timer_of c d (writes.One 10 0)
-- TIME fid 0: return 0, 0
call_effect c eid fid a (call.SetTimer d) = set_timer_of c d (writes.Pair 0 0)
call_effect c eid fid a call.ClearIpi = clear_ipi_of c
call_effect c eid fid a (call.PutChar n) = asks_of c asked.PutChar (ask.Emit n)
call_effect c eid fid a call.GetChar = asks_of c asked.GetChar ask.GetChar
call_effect c eid fid a (call.CopyMask at) = asks_of c asked.CopyMask (ask.CopyMask at)
call_effect c eid fid a (call.SendIpi r) = moves_of c (exit.SendIpi r)
call_effect c eid fid a (call.CpuUp target entry arg) = moves_of c (exit.CpuUp target entry arg)
call_effect c eid fid a call.CpuDown = stays_of c (exit.CpuDown 0)
call_effect c eid fid a call.Halt = stays_of c exit.Halt
call_effect c eid fid a call.SystemDown = stays_of c exit.SystemDown
call_effect c eid fid a call.Hypercall = hypercall_of c fid a
call_effect c eid fid a (call.CopyIn at n) = asks_of c (asked.CopyIn n) (ask.CopyIn at n)
call_effect c eid fid a (call.ReadConsole at n) = asks_of c (asked.ReadConsole n at) (ask.ReadConsole n)
call_effect c eid fid a (call.PutByte n) = asks_of c asked.PutByte (ask.Emit n)
call_effect c eid fid a (call.Forward e) = forward_effect c e eid fid a

-- the answer to an ecall's ask
unfoldable pub answered_effect : Csrs → Answered → Effect
answered_effect c answered.Moves = moves_of c exit.Nothing
answered_effect c (answered.Gives n) = gives_of c n
answered_effect c (answered.Returns e v) = returns_of c e v
answered_effect c (answered.SendIpi r) = moves_of c (exit.SendIpi r)
answered_effect c (answered.Print n) = asks_of c (asked.Print n) (ask.Print n)
answered_effect c (answered.CopyOut at n) = asks_of c (asked.CopyOut n) (ask.CopyOut at n)

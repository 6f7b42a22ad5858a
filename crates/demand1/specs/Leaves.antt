-- What each reply of a call leaves in the record. 01, Refusals and errors by number; One trap.
use Rattle.std.specs.Prelude.{ℕ, Bool, ◌≡◌}
use Rattle.scope.specs.declared.traps.Args.{Args}
use Rattle.scope.specs.declared.traps.Ask.{Ask}
use Rattle.scope.specs.declared.traps.Ask.TheVariants as ask
use Rattle.scope.specs.declared.traps.Access.{Access}
use Rattle.scope.specs.declared.traps.Error.{Error}
use Rattle.scope.specs.declared.traps.Error.TheVariants as error
use Rattle.scope.specs.declared.traps.Exit.{Exit}
use Rattle.scope.specs.declared.traps.Exit.TheVariants as exit
use Rattle.isa_types.specs.declared.GuestPhysAddr.{GuestPhysAddr}
use Rattle.isa_types.specs.declared.GuestVirtAddr.{GuestVirtAddr}
use Rattle.scope.specs.declared.traps.Reply.{Reply}
use Rattle.scope.specs.declared.traps.Reply.TheVariants as reply
use Rattle.isa_types.specs.declared.Width.{Width}
use Rattle.scope.specs.declared.machine.Csrs.{Csrs}
use Rattle.scope.specs.declared.machine.Effect.{Effect}
use Rattle.scope.specs.declared.machine.Event.{Event}
use Rattle.scope.specs.declared.machine.Event.TheVariants as event
use Rattle.scope.specs.declared.machine.Waiting.{Waiting}
use Rattle.scope.specs.declared.machine.Waiting.TheVariants as waiting
use Rattle.scope.specs.declared.machine.Writes.TheVariants as writes
use Rattle.scope.specs.declared.machine.EcallAsk.TheVariants as asked

-- all unchanged: no CSR, no count, no register, and what waits goes on waiting
pub record Unchanged (c : Csrs) (n : Waiting) (e : Effect) : Type 0 where
  pub csrs : e.csrs ≡ c
  pub event : e.event ≡ event.Quiet
  pub writes : e.writes ≡ writes.Keep
  pub waiting : e.waiting ≡ n

-- the trap is over, and no CSR and no register changed
pub record Ended (c : Csrs) (e : Effect) : Type 0 where
  pub csrs : e.csrs ≡ c
  pub writes : e.writes ≡ writes.Keep
  pub waiting : e.waiting ≡ waiting.Idle

-- nothing is counted, or event 2
pub data AtMostIllegal : Event → Type 0 where
  quiet : AtMostIllegal event.Quiet
  illegal : AtMostIllegal event.IllegalInsn

-- the ask that waits is the one that was asked, with the numbers that its trap still needs
pub data Waits : Ask → Waiting → Type 0 where
  fetch_csr : (at : GuestVirtAddr) (s : Bool) → Waits (ask.Fetch at s) waiting.FetchCsr
  fetch_fault : (at : GuestVirtAddr) (s : Bool) (a : GuestPhysAddr) (k : Access) → Waits (ask.Fetch at s) (waiting.FetchFault a k)
  copy_mask : (at : GuestVirtAddr) → Waits (ask.CopyMask at) (waiting.Ecall asked.CopyMask)
  copy_in : (at : GuestPhysAddr) (n : ℕ) → Waits (ask.CopyIn at n) (waiting.Ecall (asked.CopyIn n))
  print : (n : ℕ) → Waits (ask.Print n) (waiting.Ecall (asked.Print n))
  read_console : (n : ℕ) (at : GuestPhysAddr) → Waits (ask.ReadConsole n) (waiting.Ecall (asked.ReadConsole n at))
  copy_out : (at : GuestPhysAddr) (n : ℕ) → Waits (ask.CopyOut at n) (waiting.Ecall (asked.CopyOut n))
  put_char : (n : ℕ) → Waits (ask.Emit n) (waiting.Ecall asked.PutChar)
  put_byte : (n : ℕ) → Waits (ask.Emit n) (waiting.Ecall asked.PutByte)
  get_char : Waits ask.GetChar (waiting.Ecall asked.GetChar)
  forward : (eid fid : ℕ) (a : Args) → Waits (ask.Forward eid fid a) (waiting.Ecall asked.Forward)

-- an ask: no CSR and no register changed, and exactly that ask waits
pub record Asked (c : Csrs) (a : Ask) (e : Effect) : Type 0 where
  pub csrs : e.csrs ≡ c
  pub writes : e.writes ≡ writes.Keep
  pub waits : Waits a e.waiting

-- a load of this width waits
pub data Loads : Width → Waiting → Type 0 where
  load : (rd : ℕ) (w : Width) (s : Bool) → Loads w (waiting.Load rd w s)

-- nothing waits after an exit, but a load after MmioRead
unfoldable pub ExitLeaves : Exit → Waiting → Type 0
ExitLeaves exit.Nothing n = n ≡ waiting.Idle
ExitLeaves (exit.ExternalInterrupt v) n = n ≡ waiting.Idle
ExitLeaves (exit.SendIpi r) n = n ≡ waiting.Idle
ExitLeaves (exit.CpuUp t e a) n = n ≡ waiting.Idle
ExitLeaves (exit.CpuDown s) n = n ≡ waiting.Idle
ExitLeaves exit.Halt n = n ≡ waiting.Idle
ExitLeaves (exit.Hypercall k) n = n ≡ waiting.Idle
ExitLeaves exit.SystemDown n = n ≡ waiting.Idle
ExitLeaves (exit.NestedPageFault a k) n = n ≡ waiting.Idle
ExitLeaves (exit.MmioRead a w) n = Loads w n
ExitLeaves (exit.MmioWrite a w d) n = n ≡ waiting.Idle

-- 1, 2 and 7 leave all unchanged; 3 to 6 end the trap, and only an error 3 may count, event 2
unfoldable pub Failed : Csrs → Waiting → Effect → Error → Type 0
Failed c n e error.InvalidInput = Unchanged c n e
Failed c n e error.BadState = Unchanged c n e
Failed c n e error.Unsupported = (Ended c e) × (AtMostIllegal e.event)
Failed c n e error.InvalidTrap = (Ended c e) × (e.event ≡ event.Quiet)
Failed c n e error.DecodeFailed = (Ended c e) × (e.event ≡ event.Quiet)
Failed c n e error.GuestMemoryFault = (Ended c e) × (e.event ≡ event.Quiet)
Failed c n e error.WrongAnswer = Unchanged c n e

unfoldable pub Says : Csrs → Waiting → Effect → Reply → Type 0
Says c n e (reply.Exit x) = ExitLeaves x e.waiting
Says c n e (reply.Ask a) = Asked c a e
Says c n e reply.Done = Unit {0}
Says c n e (reply.Value k) = Unit {0}
Says c n e (reply.Error x) = Failed c n e x

-- a call on a record with these CSRs and this waiting part leaves what its reply says
pub record Sound (c : Csrs) (n : Waiting) (e : Effect) : Type 0 where
  pub says : Says c n e e.reply

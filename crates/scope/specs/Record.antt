-- The record: its parts read and written, and the whole outcome of an effect. 01, The record.
use Rattle.std.specs.Prelude.{ℕ, ◌+◌, ◌-◌, Bool, true, false, List, [], ◌∷◌, eqb, ltb, get_or, set}
use Rattle.isa_types.specs.Pick.{pick, wrapped}
use Rattle.scope.specs.declared.machine.Csrs.{Csrs}
use Rattle.scope.specs.declared.machine.EcallAsk.TheVariants as asked
use Rattle.scope.specs.declared.machine.EcallAsk.{EcallAsk}
use Rattle.scope.specs.declared.machine.Effect.{Effect}
use Rattle.scope.specs.declared.machine.Event.TheVariants as event
use Rattle.scope.specs.declared.machine.Event.{Event}
use Rattle.scope.specs.declared.machine.Outcome.{Outcome}
use Rattle.scope.specs.declared.machine.Vcpu.{Vcpu}
use Rattle.scope.specs.declared.machine.Waiting.TheVariants as waiting
use Rattle.scope.specs.declared.machine.Waiting.{Waiting}
use Rattle.scope.specs.declared.machine.Writes.TheVariants as writes
use Rattle.scope.specs.declared.machine.Writes.{Writes}
use Rattle.scope.specs.declared.traps.Args.{Args}

-- register i; x0 reads 0
unfoldable pub value_of : List ℕ → ℕ → ℕ
value_of x i = pick (eqb i 0) 0 (pick (ltb i 32) (get_or x i 0) 0)

-- the registers after a write; x0 is never written, and a0, a1 are x10, x11
unfoldable pub stored : List ℕ → Writes → List ℕ
stored x writes.Keep = x
stored x (writes.One i n) = pick (eqb i 0) x (pick (ltb i 32) (set x i n) x)
stored x (writes.Pair a0 a1) = set (set x 10 a0) 11 a1

-- sepc moves on by n modulo 2^64
unfoldable pub moved : Csrs → ℕ → Csrs
moved c n =
    record {
      guest = record { sepc = wrapped (c.guest.sepc + n); sstatus = c.guest.sstatus; hstatus = c.guest.hstatus };
      vs = c.vs;
      hs = c.hs;
    }

-- vstimecmp is the deadline
unfoldable pub timed : Csrs → ℕ → Csrs
timed c d =
    record {
      guest = c.guest;
      vs =
          record {
            vsstatus = c.vs.vsstatus;
            vstvec = c.vs.vstvec;
            vsepc = c.vs.vsepc;
            vscause = c.vs.vscause;
            vstval = c.vs.vstval;
            vstimecmp = d;
          };
      hs = c.hs;
    }

-- hvip is the number
unfoldable pub pended : Csrs → ℕ → Csrs
pended c n =
    record {
      guest = c.guest;
      vs = c.vs;
      hs = record { hie = c.hs.hie; hvip = n; hgeie = c.hs.hgeie; hgatp = c.hs.hgatp };
    }

-- 01, Ecalls and Virtual instruction: events 1 to 9; 0 is none
unfoldable pub event_number : Event → ℕ
event_number event.Quiet = 0
event_number event.SetTimer = 1
event_number event.IllegalInsn = 2
event_number event.FenceI = 3
event_number event.SfenceVma = 4
event_number event.SfenceVmaAsid = 5
event_number event.HfenceGvmaVmid = 6
event_number event.HfenceGvma = 7
event_number event.HfenceVvmaAsid = 8
event_number event.HfenceVvma = 9

-- the counts with one more, modulo 2^64, for event number n
unfoldable pub bumped : List ℕ → ℕ → List ℕ
bumped k n = pick (eqb n 0) k (pick (ltb n 10) (set k (n - 1) (wrapped (get_or k (n - 1) 0 + 1))) k)

unfoldable pub counted : List ℕ → Event → List ℕ
counted k e = bumped k (event_number e)

-- 01, One trap: the number of an ecall's ask
unfoldable pub ecall_ask_number : EcallAsk → ℕ
ecall_ask_number asked.CopyMask = 2
ecall_ask_number (asked.CopyIn n) = 3
ecall_ask_number (asked.Print n) = 4
ecall_ask_number (asked.ReadConsole n a) = 5
ecall_ask_number (asked.CopyOut n) = 6
ecall_ask_number asked.PutChar = 7
ecall_ask_number asked.PutByte = 7
ecall_ask_number asked.GetChar = 8
ecall_ask_number asked.Forward = 9

-- the number of the ask that waits; 0 where none does
unfoldable pub waiting_ask : Waiting → ℕ
waiting_ask waiting.Idle = 0
waiting_ask (waiting.Load r w s) = 0
waiting_ask waiting.FetchCsr = 1
waiting_ask (waiting.FetchFault a k) = 1
waiting_ask (waiting.Ecall a) = ecall_ask_number a

-- neither an ask nor a load waits
unfoldable pub is_idle : Waiting → Bool
is_idle waiting.Idle = true
is_idle (waiting.Load r w s) = false
is_idle waiting.FetchCsr = false
is_idle (waiting.FetchFault a k) = false
is_idle (waiting.Ecall a) = false

-- the six arguments in order
unfoldable pub listed : Args → List ℕ
listed a = a.a0 ∷ a.a1 ∷ a.a2 ∷ a.a3 ∷ a.a4 ∷ a.a5 ∷ []

-- the whole later record, the reply, and the array beside it
unfoldable pub applied : Vcpu → Effect → Outcome
applied v e =
    record {
      vcpu =
          record {
            x = stored v.x e.writes;
            csrs = e.csrs;
            counts = counted v.counts e.event;
            waiting = e.waiting;
          };
      reply = e.reply;
      args = listed e.args;
    }

-- the array beside every reply but a hypercall
unfoldable pub no_args : Args
no_args = record { a0 = 0; a1 = 0; a2 = 0; a3 = 0; a4 = 0; a5 = 0 }

-- What the closed examples show, and the records that they start from.
use Rattle.std.specs.Prelude.{ℕ, ◌+◌, Bool, true, false, List, [], ◌∷◌, ◌++◌, ◌≡◌, get_or, set, replicate, eqb}
use Rattle.demand3_table.specs.Turns.{Turn}
use Rattle.isa_types.specs.Pick.{pick, and, or}
use Rattle.scope.specs.OneTrap.{exit_number, ask_number}
use Rattle.scope.specs.Refusals.{error_number}
use Rattle.scope.specs.declared.traps.Ask.{Ask}
use Rattle.scope.specs.declared.traps.Ask.TheVariants as ask
use Rattle.scope.specs.declared.traps.Exit.{Exit}
use Rattle.scope.specs.declared.traps.Exit.TheVariants as exit
use Rattle.scope.specs.declared.traps.Reply.{Reply}
use Rattle.scope.specs.declared.traps.Reply.TheVariants as reply
use Rattle.isa_consts.specs.Csr.{setup_sstatus, setup_hstatus, setup_hie}
use Rattle.scope.specs.declared.machine.Vcpu.{Vcpu}
use Rattle.scope.specs.declared.machine.Waiting.TheVariants as waiting
use Rattle.scope.specs.Record.{listed}
use Rattle.demand3_table.specs.Table.{names_of}
use Rattle.demand3_table.specs.Runs.{Sight, run_of, seen_of, step_of, among, Untouched, written}
use Rattle.demand3_table.specs.Alike.{Alike}
use Rattle.scope.specs.declared.machine.Waiting.{Waiting}

-- a record after setup, with sepc 0x80000000, vstimecmp 7 and these registers
abbrev pub example_record : List ℕ → Vcpu
example_record x =
    record {
      x = x;
      csrs =
          record {
            guest = record { sepc = 0x8000_0000; sstatus = setup_sstatus; hstatus = setup_hstatus };
            vs = record { vsstatus = 0; vstvec = 0; vsepc = 0; vscause = 0; vstval = 0; vstimecmp = 7 };
            hs = record { hie = setup_hie; hvip = 0; hgeie = 0; hgatp = 0 };
          };
      counts = replicate 9 0;
      waiting = waiting.Idle;
    }

-- the record with another content of register r
abbrev pub other : ℕ → ℕ → Vcpu → Vcpu
other r n v = record { x = set v.x r n; csrs = v.csrs; counts = v.counts; waiting = v.waiting }

-- the replies among what a host saw
abbrev pub replies : List Sight → List Reply
replies [] = []
replies (s ∷ ss) = s.reply ∷ replies ss

-- of each row of posts that was stopped or applied anything: how many were applied, and the refusal
unfoldable pub rows_given : List Sight → List ℕ
rows_given [] = []
rows_given (s ∷ ss) =
    pick (eqb (s.posted.applied + s.posted.refusal) 0) (rows_given ss) (s.posted.applied ∷ s.posted.refusal ∷ rows_given ss)

-- the premises of demand 3 hold of a record, its other one with n in r, and a sequence that gives these replies; r differs
-- before and after
pub record Met (r n : ℕ) (v : Vcpu) (cs : List Turn) (rs : List Reply) : Type 0 where
  pub alike : Alike r v (other r n v)
  pub untouched : Untouched r v cs
  pub seen : replies (seen_of v cs) ≡ rs
  pub before : eqb (get_or v.x r 0) (get_or (other r n v).x r 0) ≡ false
  pub after : eqb (get_or (run_of v cs).x r 0) (get_or (run_of (other r n v) cs).x r 0) ≡ false

-- the same where a call of the sequence writes r: it differs before, and the registers are the same after
pub record Joined (r n : ℕ) (v : Vcpu) (cs : List Turn) (rs : List Reply) : Type 0 where
  pub alike : Alike r v (other r n v)
  pub untouched : Untouched r v cs
  pub seen : replies (seen_of v cs) ≡ rs
  pub before : eqb (get_or v.x r 0) (get_or (other r n v).x r 0) ≡ false
  pub writes : written r v cs ≡ true
  pub after : (run_of v cs).x ≡ (run_of (other r n v) cs).x

-- the record with this waiting
abbrev pub waits : Waiting → Vcpu → Vcpu
waits w v = record { x = v.x; csrs = v.csrs; counts = v.counts; waiting = w }

-- an exit, ask or reply as numbers: its own in 01, then its data
unfoldable pub exit_numbers : Exit → List ℕ
exit_numbers exit.Nothing = []
exit_numbers (exit.ExternalInterrupt v) = v ∷ []
exit_numbers (exit.SendIpi q) = q.mask ∷ q.base ∷ []
exit_numbers (exit.CpuUp t e a) = t ∷ e.0 ∷ a ∷ []
exit_numbers (exit.CpuDown s) = s ∷ []
exit_numbers exit.Halt = []
exit_numbers (exit.Hypercall n) = n ∷ []
exit_numbers exit.SystemDown = []
exit_numbers (exit.NestedPageFault a k) = a.0 ∷ []
exit_numbers (exit.MmioRead a w) = a.0 ∷ []
exit_numbers (exit.MmioWrite a w d) = a.0 ∷ d ∷ []

unfoldable pub ask_numbers : Ask → List ℕ
ask_numbers (ask.Fetch a s) = a.0 ∷ []
ask_numbers (ask.CopyMask a) = a.0 ∷ []
ask_numbers (ask.CopyIn a n) = a.0 ∷ n ∷ []
ask_numbers (ask.Print n) = n ∷ []
ask_numbers (ask.ReadConsole n) = n ∷ []
ask_numbers (ask.CopyOut a n) = a.0 ∷ n ∷ []
ask_numbers (ask.Emit n) = n ∷ []
ask_numbers ask.GetChar = []
ask_numbers (ask.Forward e f a) = e ∷ f ∷ listed a

unfoldable pub reply_numbers : Reply → List ℕ
reply_numbers (reply.Exit e) = exit_number e ∷ exit_numbers e
reply_numbers (reply.Ask a) = ask_number a ∷ ask_numbers a
reply_numbers reply.Done = []
reply_numbers (reply.Value n) = n ∷ []
reply_numbers (reply.Error e) = error_number e ∷ []

unfoldable pub sight_numbers : List Sight → List ℕ
sight_numbers [] = []
sight_numbers (s ∷ ss) = reply_numbers s.reply ++ (s.args ++ (s.posted.applied ∷ s.posted.refusal ∷ sight_numbers ss))

-- what tells two runs apart: the timer, then all that the host saw
unfoldable pub told_of : Vcpu → List Turn → List ℕ
told_of v cs = (run_of v cs).csrs.vs.vstimecmp ∷ sight_numbers (seen_of v cs)

unfoldable pub same_list : List ℕ → List ℕ → Bool
same_list [] [] = true
same_list [] (m ∷ ms) = false
same_list (n ∷ ns) [] = false
same_list (n ∷ ns) (m ∷ ms) = and (eqb n m) (same_list ns ms)

-- a call of the sequence names the register
unfoldable pub named : ℕ → Vcpu → List Turn → Bool
named r v [] = false
named r v (c ∷ cs) = or (among r (names_of v c)) (named r (step_of v c) cs)

-- a row of the table at work: a register, another content of it, a record and a sequence
pub record Row : Type 0 where
  pub register : ℕ
  pub content : ℕ
  pub before : Vcpu
  pub calls : List Turn

-- the sequence names the register, and what the runs tell differs
unfoldable pub matters : Row → Bool
matters k =
    and (named k.register k.before k.calls)
    (pick (same_list (told_of k.before k.calls) (told_of (other k.register k.content k.before) k.calls)) false true)

unfoldable pub all_matter : List Row → Bool
all_matter [] = true
all_matter (k ∷ ks) = and (matters k) (all_matter ks)

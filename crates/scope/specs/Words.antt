-- What the words of a record and of a call mean, where they cross the boundary of the library. Not of 01: docs/DECISIONS.md.
-- What crosses back is in ReplyWords.antt.
use Rattle.std.specs.Prelude.{ℕ, Bool, true, false, List, [], ◌∷◌, eqb, get_or, take}
use Rattle.std.proofs.lemmas.List.Edits.{sets}
use Rattle.isa_types.specs.declared.Width.TheVariants as width
use Rattle.isa_types.specs.declared.Width.{Width}
use Rattle.isa_types.specs.Pick.{pick}
use Rattle.scope.specs.declared.decided.IpiCompletion.TheVariants as completion
use Rattle.scope.specs.declared.decided.IpiCompletion.{IpiCompletion}
use Rattle.scope.specs.declared.hosts.HostCall.TheVariants as host_call
use Rattle.scope.specs.declared.hosts.HostCall.{HostCall}
use Rattle.scope.specs.declared.machine.Csrs.{Csrs}
use Rattle.scope.specs.declared.machine.EcallAsk.TheVariants as asked
use Rattle.scope.specs.declared.machine.EcallAsk.{EcallAsk}
use Rattle.scope.specs.declared.machine.Outcome.{Outcome}
use Rattle.scope.specs.declared.machine.Record.{Record}
use Rattle.scope.specs.declared.machine.Vcpu.{Vcpu}
use Rattle.scope.specs.declared.machine.Waiting.TheVariants as waiting
use Rattle.scope.specs.declared.machine.Waiting.{Waiting}
use Rattle.scope.specs.declared.traps.Access.TheVariants as access
use Rattle.scope.specs.declared.traps.Access.{Access}
use Rattle.scope.specs.declared.traps.IpiAbi.TheVariants as abi
use Rattle.scope.specs.declared.traps.IpiAbi.{IpiAbi}
use Rattle.scope.specs.declared.traps.Reply.{Reply}
use Rattle.scope.specs.Calls.{called_of}
use Rattle.scope.specs.Ecalls.{completion_number}
use Rattle.scope.specs.OneTrap.{abi_number, access_number, answer_for, flag_of, numbered, width_bytes}
use Rattle.scope.specs.Refusals.{refuses}

-- 0 is no, every other word yes
unfoldable pub tested : ℕ → Bool
tested n = pick (eqb n (flag_of false)) false true

-- a width by its bytes; any number but those of the first three is 8
unfoldable pub width_of : ℕ → Width
width_of n = numbered width_bytes n width.Byte (numbered width_bytes n width.Half (numbered width_bytes n width.Word width.Double))

-- an access by its flag; any number but those of the first two is EXECUTE
unfoldable pub access_of : ℕ → Access
access_of n = numbered access_number n access.Read (numbered access_number n access.Write access.Execute)

-- a calling convention by its number; any but legacy's is v0.2
unfoldable pub abi_of : ℕ → IpiAbi
abi_of n = numbered abi_number n abi.Legacy abi.SbiV02

-- an IPI result by 01's number, 0, -3 or -1; any other is a failure
unfoldable pub completion_of : ℕ → IpiCompletion
completion_of n = numbered completion_number n completion.Success (numbered completion_number n completion.InvalidParameter completion.Failed)

-- the words of an ecall's ask: its kind, and three numbers
unfoldable pub asked_words : EcallAsk → List ℕ
asked_words asked.CopyMask = 4 ∷ 0 ∷ 0 ∷ 0 ∷ []
asked_words (asked.CopyIn n) = 5 ∷ n ∷ 0 ∷ 0 ∷ []
asked_words (asked.Print n) = 6 ∷ n ∷ 0 ∷ 0 ∷ []
asked_words (asked.ReadConsole n a) = 7 ∷ n ∷ a.0 ∷ 0 ∷ []
asked_words (asked.CopyOut n) = 8 ∷ n ∷ 0 ∷ 0 ∷ []
asked_words asked.PutChar = 9 ∷ 0 ∷ 0 ∷ 0 ∷ []
asked_words asked.PutByte = 10 ∷ 0 ∷ 0 ∷ 0 ∷ []
asked_words asked.GetChar = 11 ∷ 0 ∷ 0 ∷ 0 ∷ []
asked_words asked.Forward = 12 ∷ 0 ∷ 0 ∷ 0 ∷ []

-- the words of what waits
unfoldable pub waiting_words : Waiting → List ℕ
waiting_words waiting.Idle = 0 ∷ 0 ∷ 0 ∷ 0 ∷ []
waiting_words (waiting.Load r w s) = 1 ∷ r ∷ width_bytes w ∷ flag_of s ∷ []
waiting_words waiting.FetchCsr = 2 ∷ 0 ∷ 0 ∷ 0 ∷ []
waiting_words (waiting.FetchFault a k) = 3 ∷ a.0 ∷ access_number k ∷ 0 ∷ []
waiting_words (waiting.Ecall a) = asked_words a

-- the kind of what waits
unfoldable pub kind_word : Waiting → ℕ
kind_word w = get_or (waiting_words w) 0 0

-- what waits, by its kind and numbers; an unknown kind is nothing waiting
unfoldable pub waiting_by : ℕ → ℕ → ℕ → ℕ → Waiting
waiting_by kind a b c =
    numbered kind_word kind (waiting.Load a (width_of b) (tested c))
    (numbered kind_word kind waiting.FetchCsr
    (numbered kind_word kind (waiting.FetchFault (record { 0 = a }) (access_of b))
    (numbered kind_word kind (waiting.Ecall asked.CopyMask)
    (numbered kind_word kind (waiting.Ecall (asked.CopyIn a))
    (numbered kind_word kind (waiting.Ecall (asked.Print a))
    (numbered kind_word kind (waiting.Ecall (asked.ReadConsole a (record { 0 = b })))
    (numbered kind_word kind (waiting.Ecall (asked.CopyOut a))
    (numbered kind_word kind (waiting.Ecall asked.PutChar)
    (numbered kind_word kind (waiting.Ecall asked.PutByte)
    (numbered kind_word kind (waiting.Ecall asked.GetChar)
    (numbered kind_word kind (waiting.Ecall asked.Forward) waiting.Idle)))))))))))

-- the waiting part that words stand for: a kind and three numbers
unfoldable pub waiting_of : List ℕ → Waiting
waiting_of w = waiting_by (get_or w 0 0) (get_or w 1 0) (get_or w 2 0) (get_or w 3 0)

-- the CSRs in the order of the record's own groups
unfoldable pub csrs_of : List ℕ → Csrs
csrs_of c =
    record {
      guest = record { sepc = get_or c 0 0; sstatus = get_or c 1 0; hstatus = get_or c 2 0 };
      vs =
          record {
            vsstatus = get_or c 3 0;
            vstvec = get_or c 4 0;
            vsepc = get_or c 5 0;
            vscause = get_or c 6 0;
            vstval = get_or c 7 0;
            vstimecmp = get_or c 8 0;
          };
      hs = record { hie = get_or c 9 0; hvip = get_or c 10 0; hgeie = get_or c 11 0; hgatp = get_or c 12 0 };
    }

-- the words of the CSRs, in the same order
unfoldable pub csrs_words : Csrs → List ℕ
csrs_words c =
    c.guest.sepc ∷ c.guest.sstatus ∷ c.guest.hstatus ∷ c.vs.vsstatus ∷ c.vs.vstvec ∷ c.vs.vsepc
    ∷ c.vs.vscause ∷ c.vs.vstval ∷ c.vs.vstimecmp ∷ c.hs.hie ∷ c.hs.hvip ∷ c.hs.hgeie ∷ c.hs.hgatp ∷ []

-- the record that words stand for
unfoldable pub unpack_of : Record → Vcpu
unpack_of r =
    record { x = r.x; csrs = csrs_of r.csrs; counts = r.counts; waiting = waiting_of r.waiting }

-- how many of the four waiting words a kind has a use for: its own, and the numbers that it carries
unfoldable pub asked_word_count : EcallAsk → ℕ
asked_word_count asked.CopyMask = 1
asked_word_count (asked.CopyIn n) = 2
asked_word_count (asked.Print n) = 2
asked_word_count (asked.ReadConsole n a) = 3
asked_word_count (asked.CopyOut n) = 2
asked_word_count asked.PutChar = 1
asked_word_count asked.PutByte = 1
asked_word_count asked.GetChar = 1
asked_word_count asked.Forward = 1

unfoldable pub waiting_count : Waiting → ℕ
waiting_count waiting.Idle = 1
waiting_count (waiting.Load r w s) = 4
waiting_count waiting.FetchCsr = 1
waiting_count (waiting.FetchFault a k) = 3
waiting_count (waiting.Ecall a) = asked_word_count a

-- the waiting words that a trap, an answer or a load's completion leaves of w, by its reply and what waits then: a refusal
-- leaves them as they were; else those that the kind has a use for are written, and the others stay
unfoldable pub trap_left : List ℕ → Reply → Waiting → List ℕ
trap_left w p n = pick (refuses p) w (sets w 0 (take (waiting_count n) (waiting_words n)))

-- the waiting words that a call leaves of w; a host's own call leaves them as they were, whatever they hold
unfoldable pub waiting_left : HostCall → List ℕ → Reply → Waiting → List ℕ
waiting_left (host_call.New hart tree) w p n = waiting_words n
waiting_left host_call.Setup w p n = w
waiting_left (host_call.SetEntry at) w p n = w
waiting_left (host_call.GetGpr index) w p n = w
waiting_left (host_call.SetGpr index value) w p n = w
waiting_left (host_call.SetReturnValue value) w p n = w
waiting_left (host_call.SetNestedPageTable levels mode root) w p n = w
waiting_left (host_call.SetPending vector level) w p n = w
waiting_left (host_call.LatchHvip bits) w p n = w
waiting_left (host_call.CompleteIpi abi completion) w p n = w
waiting_left (host_call.Start t) w p n = trap_left w p n
waiting_left (host_call.Answer a) w p n = trap_left w p n
waiting_left (host_call.CompleteLoad number) w p n = trap_left w p n
waiting_left (host_call.ToPrint length) w p n = w

-- the words of a record, but these four for what waits
unfoldable pub laid_with : Vcpu → List ℕ → Record
laid_with v w = record { x = v.x; csrs = csrs_words v.csrs; counts = v.counts; waiting = w }

-- the words of a record after a call on them, from its outcome
unfoldable pub left_by : Record → HostCall → Outcome → Record
left_by r c o = laid_with o.vcpu (waiting_left c r.waiting o.reply o.vcpu.waiting)

unfoldable pub left_of : Record → HostCall → Record
left_of r c = left_by r c (called_of (unpack_of r) c)

-- what is no call: the read of a register that isn't there, which is refusal 1
abbrev pub no_call : HostCall
no_call = host_call.GetGpr 32

-- the call by its kind, from its numbers in order
unfoldable pub call_by : ℕ → ℕ → ℕ → ℕ → ℕ → ℕ → HostCall
call_by kind a b d e f =
    pick (eqb kind 1) host_call.Setup
    (pick (eqb kind 2) (host_call.SetEntry (record { 0 = a }))
    (pick (eqb kind 3) (host_call.GetGpr a)
    (pick (eqb kind 4) (host_call.SetGpr a b)
    (pick (eqb kind 5) (host_call.SetReturnValue a)
    (pick (eqb kind 6) (host_call.SetNestedPageTable a b d)
    (pick (eqb kind 7) (host_call.SetPending a (tested b))
    (pick (eqb kind 8) (host_call.LatchHvip a)
    (pick (eqb kind 9) (host_call.CompleteIpi (abi_of a) (completion_of b))
    (pick (eqb kind 10) (host_call.Start (record { scause = a; stval = b; htval = d; htinst = e; room = f }))
    (pick (eqb kind 11) (host_call.Answer (answer_for a b d))
    (pick (eqb kind 12) (host_call.CompleteLoad a)
    (pick (eqb kind 13) (host_call.ToPrint a)
    (pick (eqb kind 14) (host_call.New a b) no_call)))))))))))))

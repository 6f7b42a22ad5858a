-- The numbers of a case are its own, and the words of any record read back as it.
use Rattle.std.specs.Prelude.{◌<◌, ◌^◌, Bool, true, false, ◌≡◌, refl, get_or}
use Rattle.std.proofs.Common.{mod-eq_of_lt, ap}
use Rattle.isa_types.specs.declared.Width.TheVariants as width
use Rattle.isa_types.specs.declared.Width.{Width}
use Rattle.scope.specs.declared.machine.Csrs.{Csrs}
use Rattle.scope.specs.declared.machine.EcallAsk.TheVariants as asked
use Rattle.scope.specs.declared.machine.EcallAsk.{EcallAsk}
use Rattle.scope.specs.declared.machine.Vcpu.{Vcpu}
use Rattle.scope.specs.declared.machine.Waiting.TheVariants as waiting
use Rattle.scope.specs.declared.machine.Waiting.{Waiting}
use Rattle.scope.specs.declared.traps.Access.TheVariants as access
use Rattle.scope.specs.declared.traps.Access.{Access}
use Rattle.scope.specs.declared.decided.IpiCompletion.TheVariants as completion
use Rattle.scope.specs.declared.decided.IpiCompletion.{IpiCompletion}
use Rattle.scope.specs.declared.traps.Answer.TheVariants as answer
use Rattle.scope.specs.declared.traps.Answer.{Answer}
use Rattle.scope.specs.declared.traps.Fetch.TheVariants as fetch
use Rattle.scope.specs.declared.traps.Fetch.{Fetch}
use Rattle.scope.specs.declared.traps.IpiAbi.TheVariants as abi
use Rattle.scope.specs.declared.traps.IpiAbi.{IpiAbi}
use Rattle.scope.specs.Ecalls.{completion_number}
use Rattle.scope.specs.OneTrap.{abi_number, access_number, answer_for, answer_number, answer_values, fetch_number, fetch_of, fetch_value, flag_of, width_bytes}
use Rattle.scope.specs.Words.{abi_of, completion_of, kind_word, asked_words, width_of, access_of, tested, waiting_by, waiting_of, waiting_words, csrs_of, csrs_words, laid_with, unpack_of}

-- a width is that of its bytes
pub width_back : (w : Width) → width_of (width_bytes w) ≡ w
unfolding width_of width_bytes
width_back width.Byte = refl
width_back width.Half = refl
width_back width.Word = refl
width_back width.Double = refl

-- an access is that of its flag
pub access_back : (a : Access) → access_of (access_number a) ≡ a
unfolding access_of access_number
access_back access.Read = refl
access_back access.Write = refl
access_back access.Execute = refl

-- a test is that of its word
pub flag_back : (b : Bool) → tested (flag_of b) ≡ b
unfolding tested flag_of
flag_back true = refl
flag_back false = refl

-- a calling convention is that of its number
pub abi_back : (a : IpiAbi) → abi_of (abi_number a) ≡ a
unfolding abi_of abi_number
abi_back abi.Legacy = refl
abi_back abi.SbiV02 = refl

-- an IPI result is that of its number
pub completion_back : (c : IpiCompletion) → completion_of (completion_number c) ≡ c
unfolding completion_of completion_number
completion_back completion.Success = refl
completion_back completion.InvalidParameter = refl
completion_back completion.Failed = refl

-- a fetch's result is that of its value and number, if its word has 32 bits
unfoldable pub Narrow : Fetch → Type 0
Narrow (fetch.Word w) = w < 2 ^ 32
Narrow (fetch.Page a) = Unit {0}
Narrow (fetch.Access a) = Unit {0}
Narrow (fetch.Misaligned a) = Unit {0}
Narrow (fetch.GuestPage a) = Unit {0}
Narrow fetch.Unhandled = Unit {0}

pub fetch_back : (f : Fetch) → Narrow f → fetch_of (fetch_value f) (fetch_number f) ≡ f
unfolding fetch_of fetch_value fetch_number Narrow
fetch_back (fetch.Word w) h = ap fetch.Word (mod-eq_of_lt h)
fetch_back (fetch.Page a) h = refl
fetch_back (fetch.Access a) h = refl
fetch_back (fetch.Misaligned a) h = refl
fetch_back (fetch.GuestPage a) h = refl
fetch_back fetch.Unhandled h = refl

-- an answer is that of its number and values
pub answer_back : (a : Answer) → ((f : Fetch) → a ≡ answer.Fetched f → Narrow f) → answer_for (answer_number a) (get_or (answer_values a) 0 0) (get_or (answer_values a) 1 0) ≡ a
unfolding answer_for answer_number answer_values
answer_back (answer.Fetched f) h = ap answer.Fetched (fetch_back f (h f refl))
answer_back (answer.MaskCopied n b) h = refl
answer_back (answer.CopiedIn n) h = refl
answer_back (answer.Printed e v) h = refl
answer_back (answer.ConsoleRead e v) h = refl
answer_back (answer.CopiedOut n) h = refl
answer_back answer.Emitted h = refl
answer_back (answer.Char n) h = refl
answer_back (answer.Forwarded e v) h = refl
answer_back answer.Other h = refl

-- whatever waits, its words read back as it
asked_back : (a : EcallAsk) → waiting_of (asked_words a) ≡ waiting.Ecall a
unfolding waiting_of kind_word waiting_words asked_words waiting_by
asked_back asked.CopyMask = refl
asked_back (asked.CopyIn n) = refl
asked_back (asked.Print n) = refl
asked_back (asked.ReadConsole n a) = refl
asked_back (asked.CopyOut n) = refl
asked_back asked.PutChar = refl
asked_back asked.PutByte = refl
asked_back asked.GetChar = refl
asked_back asked.Forward = refl

pub waiting_back : (w : Waiting) → waiting_of (waiting_words w) ≡ w
unfolding waiting_of kind_word waiting_words asked_words waiting_by
waiting_back waiting.Idle = refl
waiting_back (waiting.Load r w s) = λ i. waiting.Load r (width_back w i) (flag_back s i)
waiting_back waiting.FetchCsr = refl
waiting_back (waiting.FetchFault a k) = λ i. waiting.FetchFault a (access_back k i)
waiting_back (waiting.Ecall a) = asked_back a

-- the CSRs are those of their words
pub csrs_back : (c : Csrs) → csrs_of (csrs_words c) ≡ c
unfolding csrs_of csrs_words
csrs_back c = refl

-- a record that comes from words of a record is that record
pub record_back : (v : Vcpu) → unpack_of (laid_with v (waiting_words v.waiting)) ≡ v
unfolding unpack_of laid_with
record_back v = λ i. record { x = v.x; csrs = csrs_back v.csrs i; counts = v.counts; waiting = waiting_back v.waiting i }

-- One trap: the numbers that document 01 gives to exits, asks and answers, and what each carries. 01, One trap and Replay
-- program. (What an answer does is in Answers.antt.)
use Rattle.std.specs.Prelude.{ℕ, ◌%◌, ◌^◌, Bool, true, false, List, [], ◌∷◌, eqb}
use Rattle.isa_types.specs.Pick.{pick}
use Rattle.isa_types.specs.declared.Width.TheVariants as width
use Rattle.isa_types.specs.declared.Width.{Width}
use Rattle.scope.specs.declared.traps.Access.TheVariants as access
use Rattle.scope.specs.declared.traps.Access.{Access}
use Rattle.scope.specs.declared.traps.Answer.TheVariants as answer
use Rattle.scope.specs.declared.traps.Answer.{Answer}
use Rattle.scope.specs.declared.traps.Ask.TheVariants as ask
use Rattle.scope.specs.declared.traps.Ask.{Ask}
use Rattle.scope.specs.declared.traps.Exit.TheVariants as exit
use Rattle.scope.specs.declared.traps.Exit.{Exit}
use Rattle.scope.specs.declared.traps.Fetch.TheVariants as fetch
use Rattle.scope.specs.declared.traps.Fetch.{Fetch}
use Rattle.scope.specs.declared.traps.IpiAbi.TheVariants as abi
use Rattle.scope.specs.declared.traps.IpiAbi.{IpiAbi}

-- ISA, 'Load and Store Instructions': bytes moved
unfoldable pub width_bytes : Width → ℕ
width_bytes width.Byte = 1
width_bytes width.Half = 2
width_bytes width.Word = 4
width_bytes width.Double = 8

-- READ, WRITE and EXECUTE, as the flags of the published types
unfoldable pub access_number : Access → ℕ
access_number access.Read = 1
access_number access.Write = 2
access_number access.Execute = 4

-- 01, Replay program: exits in order from 0
unfoldable pub exit_number : Exit → ℕ
exit_number exit.Nothing = 0
exit_number (exit.ExternalInterrupt v) = 1
exit_number (exit.SendIpi r) = 2
exit_number (exit.CpuUp t e a) = 3
exit_number (exit.CpuDown s) = 4
exit_number exit.Halt = 5
exit_number (exit.Hypercall n) = 6
exit_number exit.SystemDown = 7
exit_number (exit.NestedPageFault a k) = 8
exit_number (exit.MmioRead a w) = 9
exit_number (exit.MmioWrite a w d) = 10

-- 01, One trap: the asks
unfoldable pub ask_number : Ask → ℕ
ask_number (ask.Fetch a s) = 1
ask_number (ask.CopyMask a) = 2
ask_number (ask.CopyIn a n) = 3
ask_number (ask.Print n) = 4
ask_number (ask.ReadConsole n) = 5
ask_number (ask.CopyOut a n) = 6
ask_number (ask.Emit n) = 7
ask_number ask.GetChar = 8
ask_number (ask.Forward e f a) = 9

-- 01, One trap: an answer carries its ask's number; one that is no ask's has the first number beyond them
unfoldable pub answer_number : Answer → ℕ
answer_number (answer.Fetched f) = 1
answer_number (answer.MaskCopied n b) = 2
answer_number (answer.CopiedIn n) = 3
answer_number (answer.Printed e v) = 4
answer_number (answer.ConsoleRead e v) = 5
answer_number (answer.CopiedOut n) = 6
answer_number answer.Emitted = 7
answer_number (answer.Char n) = 8
answer_number (answer.Forwarded e v) = 9
answer_number answer.Other = 10

-- 01, Replay program: 0 for a word, 1 to 5 for the faults in order
unfoldable pub fetch_number : Fetch → ℕ
fetch_number (fetch.Word w) = 0
fetch_number (fetch.Page a) = 1
fetch_number (fetch.Access a) = 2
fetch_number (fetch.Misaligned a) = 3
fetch_number (fetch.GuestPage a) = 4
fetch_number fetch.Unhandled = 5

-- legacy 0, v0.2 1
unfoldable pub abi_number : IpiAbi → ℕ
abi_number abi.Legacy = 0
abi_number abi.SbiV02 = 1

-- yes 1, no 0
unfoldable pub flag_of : Bool → ℕ
flag_of true = 1
flag_of false = 0

-- an exit: up to three
unfoldable pub exit_values : Exit → List ℕ
exit_values exit.Nothing = 0 ∷ 0 ∷ 0 ∷ []
exit_values (exit.ExternalInterrupt vector) = vector ∷ 0 ∷ 0 ∷ []
exit_values (exit.SendIpi r) = r.mask ∷ r.base ∷ abi_number r.abi ∷ []
exit_values (exit.CpuUp target entry arg) = target ∷ entry.0 ∷ arg ∷ []
exit_values (exit.CpuDown state) = state ∷ 0 ∷ 0 ∷ []
exit_values exit.Halt = 0 ∷ 0 ∷ 0 ∷ []
exit_values (exit.Hypercall nr) = nr ∷ 0 ∷ 0 ∷ []
exit_values exit.SystemDown = 0 ∷ 0 ∷ 0 ∷ []
exit_values (exit.NestedPageFault addr k) = addr.0 ∷ access_number k ∷ 0 ∷ []
exit_values (exit.MmioRead addr w) = addr.0 ∷ width_bytes w ∷ 0 ∷ []
exit_values (exit.MmioWrite addr w d) = addr.0 ∷ width_bytes w ∷ d ∷ []

-- an ask: up to eight
unfoldable pub ask_values : Ask → List ℕ
ask_values (ask.Fetch at s) = at.0 ∷ flag_of s ∷ 0 ∷ 0 ∷ 0 ∷ 0 ∷ 0 ∷ 0 ∷ []
ask_values (ask.CopyMask at) = at.0 ∷ 0 ∷ 0 ∷ 0 ∷ 0 ∷ 0 ∷ 0 ∷ 0 ∷ []
ask_values (ask.CopyIn at n) = at.0 ∷ n ∷ 0 ∷ 0 ∷ 0 ∷ 0 ∷ 0 ∷ 0 ∷ []
ask_values (ask.Print n) = n ∷ 0 ∷ 0 ∷ 0 ∷ 0 ∷ 0 ∷ 0 ∷ 0 ∷ []
ask_values (ask.ReadConsole n) = n ∷ 0 ∷ 0 ∷ 0 ∷ 0 ∷ 0 ∷ 0 ∷ 0 ∷ []
ask_values (ask.CopyOut at n) = at.0 ∷ n ∷ 0 ∷ 0 ∷ 0 ∷ 0 ∷ 0 ∷ 0 ∷ []
ask_values (ask.Emit n) = n ∷ 0 ∷ 0 ∷ 0 ∷ 0 ∷ 0 ∷ 0 ∷ 0 ∷ []
ask_values ask.GetChar = 0 ∷ 0 ∷ 0 ∷ 0 ∷ 0 ∷ 0 ∷ 0 ∷ 0 ∷ []
ask_values (ask.Forward eid fid a) = eid ∷ fid ∷ a.a0 ∷ a.a1 ∷ a.a2 ∷ a.a3 ∷ a.a4 ∷ a.a5 ∷ []

-- a fetch's result: the word, or the address of the fault
unfoldable pub fetch_value : Fetch → ℕ
fetch_value (fetch.Word w) = w
fetch_value (fetch.Page a) = a.0
fetch_value (fetch.Access a) = a.0
fetch_value (fetch.Misaligned a) = a.0
fetch_value (fetch.GuestPage a) = a.0
fetch_value fetch.Unhandled = 0

-- an answer: word and more of the replay program
unfoldable pub answer_values : Answer → List ℕ
answer_values (answer.Fetched f) = fetch_value f ∷ fetch_number f ∷ []
answer_values (answer.MaskCopied n b) = n ∷ b ∷ []
answer_values (answer.CopiedIn n) = n ∷ 0 ∷ []
answer_values (answer.Printed e v) = e ∷ v ∷ []
answer_values (answer.ConsoleRead e v) = e ∷ v ∷ []
answer_values (answer.CopiedOut n) = n ∷ 0 ∷ []
answer_values answer.Emitted = 0 ∷ 0 ∷ []
answer_values (answer.Char n) = n ∷ 0 ∷ []
answer_values (answer.Forwarded e v) = e ∷ v ∷ []
answer_values answer.Other = 0 ∷ 0 ∷ []

-- a case by its number: this one, if it has it; else the next
abbrev pub numbered : {A : Type 0} → (A → ℕ) → ℕ → A → A → A
numbered number n a next = pick (eqb n (number a)) a next

-- a fetch's result from its value and its number (a word's low 32 bits); any other number is unhandled. (Replay takes 5 alone
-- for that: pair_taken.)
unfoldable pub fetch_of : ℕ → ℕ → Fetch
fetch_of word more =
    numbered fetch_number more (fetch.Word (word % 2 ^ 32))
    (numbered fetch_number more (fetch.Page (record { 0 = word }))
    (numbered fetch_number more (fetch.Access (record { 0 = word }))
    (numbered fetch_number more (fetch.Misaligned (record { 0 = word }))
    (numbered fetch_number more (fetch.GuestPage (record { 0 = word })) fetch.Unhandled))))

-- an answer from its number and its values
unfoldable pub answer_for : ℕ → ℕ → ℕ → Answer
answer_for ask word more =
    numbered answer_number ask (answer.Fetched (fetch_of word more))
    (numbered answer_number ask (answer.MaskCopied word more)
    (numbered answer_number ask (answer.CopiedIn word)
    (numbered answer_number ask (answer.Printed word more)
    (numbered answer_number ask (answer.ConsoleRead word more)
    (numbered answer_number ask (answer.CopiedOut word)
    (numbered answer_number ask answer.Emitted
    (numbered answer_number ask (answer.Char word)
    (numbered answer_number ask (answer.Forwarded word more) answer.Other))))))))

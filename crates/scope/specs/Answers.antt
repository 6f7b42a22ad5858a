-- How the host's answer carries a trap on. 01, One trap.
use Rattle.std.specs.Prelude.{ℕ, List, eqb, get_or}
use Rattle.isa_decoder.specs.Length.{fetched_of}
use Rattle.isa_fields.specs.Fields.{rs1_field}
use Rattle.isa_types.specs.Pick.{pick}
use Rattle.scope.specs.declared.machine.Csrs.{Csrs}
use Rattle.scope.specs.declared.machine.Effect.{Effect}
use Rattle.scope.specs.declared.machine.Waiting.TheVariants as waiting
use Rattle.scope.specs.declared.machine.Waiting.{Waiting}
use Rattle.scope.specs.declared.traps.Answer.TheVariants as answer
use Rattle.scope.specs.declared.traps.Answer.{Answer}
use Rattle.scope.specs.declared.traps.Error.TheVariants as error
use Rattle.scope.specs.declared.traps.Fetch.TheVariants as fetch
use Rattle.scope.specs.declared.traps.Fetch.{Fetch}
use Rattle.scope.specs.Ecalls.{ecall_answer}
use Rattle.scope.specs.GuestPageFault.{mmio_of}
use Rattle.scope.specs.OneTrap.{answer_number, answer_values}
use Rattle.scope.specs.Record.{value_of, waiting_ask}
use Rattle.scope.specs.Refusals.{refused_of}
use Rattle.scope.specs.VirtualInstruction.{missed_effect, missed_of, stimecmp_effect, stimecmp_word}

-- the word that was fetched: a CSR instruction with its rs1, or a load or store. (Nothing else waits for a fetch, so the
-- other rows are not met by answer_effect; they say 7 as it does.)
unfoldable pub word_effect : List ℕ → Csrs → Waiting → ℕ → Effect
word_effect x c waiting.FetchCsr w =
    stimecmp_effect c (stimecmp_word w c.vs.vstimecmp (value_of x (rs1_field w)))
word_effect x c (waiting.FetchFault at k) w = mmio_of x c at k (fetched_of w)
word_effect x c waiting.Idle w = refused_of c waiting.Idle error.WrongAnswer
word_effect x c (waiting.Load rd width s) w = refused_of c (waiting.Load rd width s) error.WrongAnswer
word_effect x c (waiting.Ecall a) w = refused_of c (waiting.Ecall a) error.WrongAnswer

-- a fetch's answer is a word, or a fault that is handled
unfoldable pub fetch_effect : List ℕ → Csrs → Waiting → Fetch → Effect
fetch_effect x c n (fetch.Word w) = word_effect x c n w
fetch_effect x c n (fetch.Page a) = missed_effect c (missed_of (fetch.Page a))
fetch_effect x c n (fetch.Access a) = missed_effect c (missed_of (fetch.Access a))
fetch_effect x c n (fetch.Misaligned a) = missed_effect c (missed_of (fetch.Misaligned a))
fetch_effect x c n (fetch.GuestPage a) = missed_effect c (missed_of (fetch.GuestPage a))
fetch_effect x c n fetch.Unhandled = missed_effect c (missed_of fetch.Unhandled)

-- the numbers of any other answer go to the ecall that waits. (Asks 2 to 9 are an ecall's, so the other rows are not met
-- by answer_effect either.)
unfoldable pub numbers_effect : Csrs → Waiting → ℕ → ℕ → Effect
numbers_effect c (waiting.Ecall a) word more = ecall_answer c a word more
numbers_effect c waiting.Idle word more = refused_of c waiting.Idle error.WrongAnswer
numbers_effect c (waiting.Load rd width s) word more = refused_of c (waiting.Load rd width s) error.WrongAnswer
numbers_effect c waiting.FetchCsr word more = refused_of c waiting.FetchCsr error.WrongAnswer
numbers_effect c (waiting.FetchFault at k) word more = refused_of c (waiting.FetchFault at k) error.WrongAnswer

-- the two values of any answer but a fetch's
unfoldable pub values_effect : Csrs → Waiting → Answer → Effect
values_effect c n a = numbers_effect c n (get_or (answer_values a) 0 0) (get_or (answer_values a) 1 0)

-- an answer of the right kind. (Other is of no ask's kind, so it is not met by answer_effect.)
unfoldable pub fitting_effect : List ℕ → Csrs → Waiting → Answer → Effect
fitting_effect x c n (answer.Fetched f) = fetch_effect x c n f
fitting_effect x c n (answer.MaskCopied count bytes) = values_effect c n (answer.MaskCopied count bytes)
fitting_effect x c n (answer.CopiedIn count) = values_effect c n (answer.CopiedIn count)
fitting_effect x c n (answer.Printed error value) = values_effect c n (answer.Printed error value)
fitting_effect x c n (answer.ConsoleRead error value) = values_effect c n (answer.ConsoleRead error value)
fitting_effect x c n (answer.CopiedOut count) = values_effect c n (answer.CopiedOut count)
fitting_effect x c n answer.Emitted = values_effect c n answer.Emitted
fitting_effect x c n (answer.Char number) = values_effect c n (answer.Char number)
fitting_effect x c n (answer.Forwarded error value) = values_effect c n (answer.Forwarded error value)
fitting_effect x c n answer.Other = refused_of c n error.WrongAnswer

-- no ask waits (0, which is no answer's number), or the answer is of another ask's kind: refusal 7
unfoldable pub answer_effect : List ℕ → Csrs → Waiting → Answer → Effect
answer_effect x c n a =
    pick (eqb (waiting_ask n) (answer_number a)) (fitting_effect x c n a) (refused_of c n error.WrongAnswer)

-- What the steps of a call in place do: the words that an effect leaves, and a reply written over what out held.
use Rattle.std.specs.Prelude.{ℕ, List, [], ◌≡◌, eqb, drop, set, take}
use Rattle.std.proofs.lemmas.List.Edits.{sets}
use Rattle.isa_types.specs.Pick.{pick}
use Rattle.scope.specs.OneTrap.{ask_values, exit_number, exit_values}
use Rattle.scope.specs.declared.machine.Outcome.{Outcome}
use Rattle.scope.specs.declared.traps.Ask.TheVariants as ask
use Rattle.scope.specs.declared.traps.Ask.{Ask}
use Rattle.scope.specs.declared.traps.Exit.TheVariants as exit
use Rattle.scope.specs.declared.traps.Exit.{Exit}
use Rattle.scope.specs.declared.traps.Reply.TheVariants as reply
use Rattle.scope.specs.declared.traps.Reply.{Reply}
use Rattle.scope.specs.ReplyWords.{reply_word}
use Rattle.scope.specs.Words.{trap_left}
use Rattle.in_place_record.specs.View.{view_of}

-- how many of its values an exit carries
unfoldable pub exit_count : Exit → ℕ
exit_count exit.Nothing = 0
exit_count (exit.ExternalInterrupt v) = 1
exit_count (exit.SendIpi r) = 3
exit_count (exit.CpuUp t e a) = 3
exit_count (exit.CpuDown s) = 1
exit_count exit.Halt = 0
exit_count (exit.Hypercall n) = 1
exit_count exit.SystemDown = 0
exit_count (exit.NestedPageFault a k) = 2
exit_count (exit.MmioRead a w) = 2
exit_count (exit.MmioWrite a w d) = 3

-- how many of its values an ask carries
unfoldable pub ask_count : Ask → ℕ
ask_count (ask.Fetch a s) = 2
ask_count (ask.CopyMask a) = 1
ask_count (ask.CopyIn a n) = 2
ask_count (ask.Print n) = 1
ask_count (ask.ReadConsole n) = 1
ask_count (ask.CopyOut a n) = 2
ask_count (ask.Emit n) = 1
ask_count ask.GetChar = 0
ask_count (ask.Forward e f a) = 8

-- a hypercall's arguments stand beside it
unfoldable pub beside_of : Exit → List ℕ → List ℕ
beside_of e args = pick (eqb (exit_number e) 6) args []

-- the values that the reply carries, from word 0 on; a hypercall's arguments from word 2 on; every other word stays. Over zeros
-- it is out_of: proofs/Cleared.antt
unfoldable pub out_over : List ℕ → Reply → List ℕ → List ℕ
out_over out (reply.Exit e) args = sets (sets out 0 (take (exit_count e) (exit_values e))) 2 (beside_of e args)
out_over out (reply.Ask a) args = sets out 0 (take (ask_count a) (ask_values a))
out_over out reply.Done args = out
out_over out (reply.Value n) args = set out 0 n
out_over out (reply.Error e) args = out

-- the waiting words that a trap, an answer or a load's completion leaves of 58, and those of a host's own call
unfoldable pub trap_leaves : List ℕ → Outcome → List ℕ
trap_leaves entry outcome = trap_left (drop 54 entry) outcome.reply outcome.vcpu.waiting

unfoldable pub host_leaves : List ℕ → Outcome → List ℕ
host_leaves entry outcome = drop 54 entry

-- a step in place: the words r show the outcome's record, its waiting words are those that the rule leaves, the word is the
-- reply's, and the reply is laid over what out held
pub record Laid (leaves : Outcome → List ℕ) (before : List ℕ) (outcome : Outcome) (r out : List ℕ) (word : ℕ) : Type 0 where
  pub shows : view_of r ≡ outcome.vcpu
  pub waits : drop 54 r ≡ leaves outcome
  pub says : word ≡ reply_word outcome.reply
  pub gives : out ≡ out_over before outcome.reply outcome.args

-- the same of a step whose reply carries nothing
pub record Settled (leaves : Outcome → List ℕ) (outcome : Outcome) (r : List ℕ) (word : ℕ) : Type 0 where
  pub shows : view_of r ≡ outcome.vcpu
  pub waits : drop 54 r ≡ leaves outcome
  pub says : word ≡ reply_word outcome.reply

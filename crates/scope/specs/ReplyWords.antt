-- What comes back of a call, in words: by kind and number, and as the one word that an entry in place returns with eight beside
-- it. Not of 01: docs/DECISIONS.md.
use Rattle.std.specs.Prelude.{ℕ, ◌+◌, List, [], ◌∷◌, eqb, get_or}
use Rattle.isa_types.specs.Pick.{pick}
use Rattle.scope.specs.declared.traps.Reply.TheVariants as reply
use Rattle.scope.specs.declared.traps.Reply.{Reply}
use Rattle.scope.specs.OneTrap.{ask_number, ask_values, exit_number, exit_values}
use Rattle.scope.specs.Refusals.{error_number}

-- exit 0, ask 1, done 2, value 3, error 4
unfoldable pub reply_kind : Reply → ℕ
reply_kind (reply.Exit e) = 0
reply_kind (reply.Ask a) = 1
reply_kind reply.Done = 2
reply_kind (reply.Value n) = 3
reply_kind (reply.Error e) = 4

-- 01's number of the exit, ask or error
unfoldable pub reply_number : Reply → ℕ
reply_number (reply.Exit e) = exit_number e
reply_number (reply.Ask a) = ask_number a
reply_number reply.Done = 0
reply_number (reply.Value n) = 0
reply_number (reply.Error e) = error_number e

-- three numbers and five zeros
abbrev pub widened : List ℕ → List ℕ
widened l = get_or l 0 0 ∷ get_or l 1 0 ∷ get_or l 2 0 ∷ 0 ∷ 0 ∷ 0 ∷ 0 ∷ 0 ∷ []

-- the numbers that it carries, in order, and 0 for each that it lacks
unfoldable pub reply_values : Reply → List ℕ
reply_values (reply.Exit e) = widened (exit_values e)
reply_values (reply.Ask a) = ask_values a
reply_values reply.Done = 0 ∷ 0 ∷ 0 ∷ 0 ∷ 0 ∷ 0 ∷ 0 ∷ 0 ∷ []
reply_values (reply.Value n) = n ∷ 0 ∷ 0 ∷ 0 ∷ 0 ∷ 0 ∷ 0 ∷ 0 ∷ []
reply_values (reply.Error e) = 0 ∷ 0 ∷ 0 ∷ 0 ∷ 0 ∷ 0 ∷ 0 ∷ 0 ∷ []

-- exit n: n; ask n: 0x20 + n; done 0x40; value 0x41; error or refusal n: 0x100 + n
unfoldable pub reply_word : Reply → ℕ
reply_word (reply.Exit e) = exit_number e
reply_word (reply.Ask a) = 32 + ask_number a
reply_word reply.Done = 64
reply_word (reply.Value n) = 65
reply_word (reply.Error e) = 256 + error_number e

-- the eight words beside it: its numbers and zeros; beside a hypercall its arguments from word 2 on
unfoldable pub out_of : Reply → List ℕ → List ℕ
out_of r args = pick (eqb (reply_word r) 6) (get_or (reply_values r) 0 0 ∷ 0 ∷ args) (reply_values r)

-- What a register read gives, as a reply.
use Rattle.std.specs.Prelude.{ℕ, Result, Ok, Err}
use Rattle.scope.specs.declared.traps.Error.{Error}
use Rattle.scope.specs.declared.traps.Reply.TheVariants as reply
use Rattle.scope.specs.declared.traps.Reply.{Reply}

-- the register's content, or the refusal
abbrev pub reply_of : Result ℕ Error → Reply
reply_of (Ok n) = reply.Value n
reply_of (Err e) = reply.Error e

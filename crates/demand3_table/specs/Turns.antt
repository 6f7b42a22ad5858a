-- What a host does with a record, turn by turn: a call on it, the bytes to print of its lent buffer, or a row of posts. (new takes no
-- record.) This is the type of all calls: HostCall's cases hold no buffer and no row.
use Rattle.std.specs.Prelude.{ℕ, List}
use Rattle.scope.specs.declared.hosts.HostCall.{HostCall}
use Rattle.scope.specs.declared.hosts.Post.{Post}

pub data Turn : Type 0 where
  call : HostCall → Turn
  print : List ℕ → Turn
  post : List Post → Turn

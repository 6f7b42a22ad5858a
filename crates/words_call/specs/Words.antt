-- What the words of a call and of what comes of it mean.
use Rattle.std.specs.Prelude.{get_or}
use Rattle.scope.specs.declared.hosts.HostCall.{HostCall}
use Rattle.scope.specs.declared.machine.Outcome.{Outcome}
use Rattle.scope.specs.ReplyWords.{reply_kind, reply_number, reply_values}
use Rattle.scope.specs.Words.{call_by}
use Rattle.words_call.specs.declared.CallWords.{CallWords}
use Rattle.words_call.specs.declared.ReplyWords.{ReplyWords}

-- the call that words stand for
unfoldable pub call_of : CallWords → HostCall
call_of c =
    call_by c.kind (get_or c.numbers 0 0) (get_or c.numbers 1 0) (get_or c.numbers 2 0) (get_or c.numbers 3 0)
    (get_or c.numbers 4 0)

-- what an outcome gives beside the record
unfoldable pub reply_words_of : Outcome → ReplyWords
reply_words_of o =
    record {
      kind = reply_kind o.reply;
      number = reply_number o.reply;
      values = reply_values o.reply;
      args = o.args;
    }

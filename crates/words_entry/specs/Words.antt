-- What the exported entry does.
use Rattle.std.specs.Prelude.{◌≡◌}
use Rattle.scope.specs.Calls.{called_of}
use Rattle.scope.specs.declared.machine.Record.{Record}
use Rattle.scope.specs.Words.{left_of, unpack_of}
use Rattle.words_call.specs.declared.CallWords.{CallWords}
use Rattle.words_call.specs.declared.ReplyWords.{ReplyWords}
use Rattle.words_call.specs.Words.{call_of, reply_words_of}

-- what the exported call leaves and gives: the call that its words stand for, on the record that its words stand for
unfoldable pub exported_of : Record → CallWords → Record × ReplyWords
exported_of r c = (left_of r (call_of c), reply_words_of (called_of (unpack_of r) (call_of c)))

-- the exported entry's promise: from record r, call c leaves record s and gives g
abbrev pub Exported : Record → CallWords → Record → ReplyWords → Type 0
Exported r c s g = (s ≡ (exported_of r c).0) × (g ≡ (exported_of r c).1)

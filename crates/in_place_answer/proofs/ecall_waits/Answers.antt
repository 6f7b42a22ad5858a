use mathlib.Core.Path.{refl}
use Rattle.in_place_record.specs.View.{view_of}
use Rattle.scope.specs.Record.{ecall_ask_number}
use Rattle.in_place_answer.specs.Laws.{known}
use Rattle.in_place_answer.proofs.ecall_waits.Goals as goal

pub returns-in-CopyMask : goal.returns-in-CopyMask
unfolding view_of ecall_ask_number
returns-in-CopyMask c = λ e. c.answered.ensures (known c.in-CopyMask.is e) refl

pub returns-in-CopyIn : goal.returns-in-CopyIn
unfolding view_of ecall_ask_number
returns-in-CopyIn c = λ e. c.answered-in-CopyIn.ensures (known c.in-CopyIn.is e) refl

pub returns-in-Print : goal.returns-in-Print
unfolding view_of ecall_ask_number
returns-in-Print c = λ e. c.answered-in-Print.ensures (known c.in-Print.is e) refl

pub returns-in-ReadConsole : goal.returns-in-ReadConsole
unfolding view_of ecall_ask_number
returns-in-ReadConsole c = λ e. c.answered-in-ReadConsole.ensures (known c.in-ReadConsole.is e) refl

pub returns-in-CopyOut : goal.returns-in-CopyOut
unfolding view_of ecall_ask_number
returns-in-CopyOut c = λ e. c.answered-in-CopyOut.ensures (known c.in-CopyOut.is e) refl

pub returns-in-PutChar : goal.returns-in-PutChar
unfolding view_of ecall_ask_number
returns-in-PutChar c = λ e. c.answered-in-PutChar.ensures (known c.in-PutChar.is e) refl

pub returns-in-PutByte : goal.returns-in-PutByte
unfolding view_of ecall_ask_number
returns-in-PutByte c = λ e. c.answered-in-PutByte.ensures (known c.in-PutByte.is e) refl

pub returns-in-GetChar : goal.returns-in-GetChar
unfolding view_of ecall_ask_number
returns-in-GetChar c = λ e. c.answered-in-GetChar.ensures (known c.in-GetChar.is e) refl

pub returns-in-Forward : goal.returns-in-Forward
unfolding view_of ecall_ask_number
returns-in-Forward c = λ e. c.answered-in-Forward.ensures (known c.in-Forward.is e) refl

-- What waits has the number of the ask that was asked. 01, One trap.
use Rattle.std.specs.Prelude.{◌≡◌, refl}
use Rattle.scope.specs.OneTrap.{ask_number}
use Rattle.scope.specs.declared.traps.Ask.{Ask}
use Rattle.scope.specs.declared.machine.Waiting.{Waiting}
use Rattle.scope.specs.Record.{waiting_ask, ecall_ask_number}
use Rattle.demand1.specs.Leaves.{Waits, copy_in, copy_mask, copy_out, fetch_csr, fetch_fault, get_char, put_byte, put_char, read_console, print, forward}

-- what waits has the number of the ask that was asked, and an answer fits by that number alone
pub waits_number : {a : Ask} {n : Waiting} → Waits a n → waiting_ask n ≡ ask_number a
unfolding waiting_ask ecall_ask_number ask_number
waits_number (fetch_csr at s) = refl
waits_number (fetch_fault at s a k) = refl
waits_number (copy_mask at) = refl
waits_number (copy_in at n) = refl
waits_number (print n) = refl
waits_number (read_console n at) = refl
waits_number (copy_out at n) = refl
waits_number (put_char n) = refl
waits_number (put_byte n) = refl
waits_number get_char = refl
waits_number (forward eid fid a) = refl

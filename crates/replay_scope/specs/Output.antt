-- The whole output of a capture: the state between two bytes, the order of the lines, what each does, and what the
-- output gets. 01, Replay program.
use Rattle.std.specs.Prelude.{ℕ, ◌+◌, ◌-◌, Bool, true, false, List, [], ◌∷◌, ◌++◌, eqb, ltb, get_or}
use Rattle.isa_types.specs.Pick.{and, pick, wrapped}
use Rattle.scope.specs.declared.hosts.HostCall.TheVariants as host_call
use Rattle.scope.specs.declared.machine.Outcome.{Outcome}
use Rattle.scope.specs.declared.machine.Vcpu.{Vcpu}
use Rattle.scope.specs.declared.traps.Reply.{Reply}
use Rattle.scope.specs.declared.traps.Reply.TheVariants as reply
use Rattle.scope.specs.Calls.{called_of, new_of}
use Rattle.scope.specs.Record.{is_idle, timed, waiting_ask}
use Rattle.scope.specs.Refusals.{error_number}
use Rattle.scope.specs.OneTrap.{answer_for, exit_number}
use Rattle.replay_scope.specs.declared.Gives.{Gives}
use Rattle.replay_scope.specs.declared.Gives.TheVariants as gives
use Rattle.replay_scope.specs.declared.Got.{Got}
use Rattle.replay_scope.specs.declared.Got.TheVariants as got
use Rattle.replay_scope.specs.declared.Kept.{Kept}
use Rattle.replay_scope.specs.declared.Line.{Line}
use Rattle.replay_scope.specs.declared.Place.{Place}
use Rattle.replay_scope.specs.declared.Place.TheVariants as place
use Rattle.replay_scope.specs.declared.Progress.{Progress}
use Rattle.replay_scope.specs.declared.State.{State}
use Rattle.replay_scope.specs.declared.Step.{Step}
use Rattle.replay_scope.specs.Lines.{bytes, key_of, line_of, line_text}

-- the line at a place, of which no byte is read
abbrev pub unread : Place → Line
unread k = record { place = k; at = 0; value = 0 }

-- the line at this place follows, and its number is one more
unfoldable pub followed_by : Progress → Place → Progress
followed_by p k =
    record { line = unread k; number = wrapped (p.number + 1); kept = p.kept; exit = p.exit; over = p.over }

-- more is read of the same line: so many bytes, with that number
unfoldable pub read_to : Progress → ℕ → ℕ → Progress
read_to p at v =
    record {
      line = record { place = p.line.place; at = at; value = v };
      number = p.number;
      kept = p.kept;
      exit = p.exit;
      over = p.over;
    }

-- these numbers are kept for a later line
unfoldable pub keeping : Progress → Kept → Progress
keeping p k = record { line = p.line; number = p.number; kept = k; exit = p.exit; over = p.over }

-- the trap's `exit` line will say this
unfoldable pub saying : Progress → ℕ → Progress
saying p exit = record { line = p.line; number = p.number; kept = p.kept; exit = exit; over = p.over }

-- the capture's rest is ignored
unfoldable pub over_at : Progress → Progress
over_at p =
    record { line = unread p.line.place; number = p.number; kept = p.kept; exit = p.exit; over = true }

-- the output gets nothing
abbrev pub silent : Vcpu → Progress → Step
silent v p = record { state = record { vcpu = v; progress = p }; gives = gives.Nothing }

-- 01, Replay program: before the first byte a zero record after setup, and line 1 is sepc
unfoldable pub begun : State
begun =
    record {
      vcpu = (called_of (new_of 0 0) host_call.Setup).vcpu;
      progress =
          record {
            line = unread (place.Header 0);
            number = 1;
            kept = record { scause = 0; stval = 0; htval = 0; word = 0 };
            exit = 0;
            over = false;
          };
    }

-- 01, Replay program: the header's numbers are sepc, vstimecmp, x01 to x31
unfoldable pub headed_of : Vcpu → ℕ → ℕ → Vcpu
headed_of v i n =
    pick (eqb i 0) (called_of v (host_call.SetEntry (record { 0 = n }))).vcpu
    (pick (eqb i 1) (record { x = v.x; csrs = timed v.csrs n; counts = v.counts; waiting = v.waiting })
    (called_of v (host_call.SetGpr (i - 1) n)).vcpu)

-- behind line i of the header: its next line, or behind the last the first trap
unfoldable pub after_header : ℕ → Place
after_header i = pick (ltb i 32) (place.Header (i + 1)) place.Scause

-- 01, Replay program: exits by their number, errors by 0x100 plus theirs; an ask and a load's completion leave what was
-- to be said
unfoldable pub exit_said : ℕ → Reply → ℕ
exit_said before (reply.Exit e) = exit_number e
exit_said before (reply.Ask a) = before
exit_said before reply.Done = before
exit_said before (reply.Value n) = before
exit_said before (reply.Error e) = 256 + error_number e

-- after a call: where nothing waits the trap is over, the output gets its four lines and the next trap follows;
-- otherwise `word` follows
unfoldable pub settled_by : Vcpu → Progress → Step
settled_by v p =
    pick (is_idle v.waiting)
    (record {
      state = record { vcpu = v; progress = followed_by p place.Scause };
      gives = gives.Trap p.exit v.csrs.guest.sepc (get_or v.x 10 0) (get_or v.x 11 0);
    })
    (silent v (followed_by p place.Word))

-- the same of the call's outcome
unfoldable pub settled_of : Progress → Outcome → Step
settled_of p o = settled_by o.vcpu (saying p (exit_said p.exit o.reply))

-- 01, Replay program: the first unfit line prints `bad=` with its number, and ends
unfoldable pub unfit_of : State → Step
unfit_of s =
    record {
      state = record { vcpu = s.vcpu; progress = over_at s.progress };
      gives = gives.Bad s.progress.number;
    }

-- 01, Replay program: a trap's four numbers start it; room is 4,096
unfoldable pub trap_started : State → ℕ → Step
trap_started s htinst =
    settled_of s.progress
    (called_of s.vcpu (host_call.Start (record {
      scause = s.progress.kept.scause;
      stval = s.progress.kept.stval;
      htval = s.progress.kept.htval;
      htinst = htinst;
      room = 4096;
    })))

-- 01, Replay program: word and more are what the ask that waits takes, or a load's completion where none does; for a
-- fetch, more above 5 is unfit
unfoldable pub pair_taken : State → ℕ → Step
pair_taken s more =
    pick (eqb (waiting_ask s.vcpu.waiting) 0)
    (settled_of s.progress (called_of s.vcpu (host_call.CompleteLoad s.progress.kept.word)))
    (pick (and (eqb (waiting_ask s.vcpu.waiting) 1) (ltb 5 more)) (unfit_of s)
    (settled_of s.progress
    (called_of s.vcpu (host_call.Answer (answer_for (waiting_ask s.vcpu.waiting) s.progress.kept.word more)))))

-- the numbers kept, with one of them new
abbrev pub with_scause : Kept → ℕ → Kept
with_scause k n = record { scause = n; stval = k.stval; htval = k.htval; word = k.word }

abbrev pub with_stval : Kept → ℕ → Kept
with_stval k n = record { scause = k.scause; stval = n; htval = k.htval; word = k.word }

abbrev pub with_htval : Kept → ℕ → Kept
with_htval k n = record { scause = k.scause; stval = k.stval; htval = n; word = k.word }

abbrev pub with_word : Kept → ℕ → Kept
with_word k n = record { scause = k.scause; stval = k.stval; htval = k.htval; word = n }

-- 01, Replay program: what the line at each place does with its number n, and the line that follows it
unfoldable pub line_does : Place → State → ℕ → Step
line_does (place.Header i) s n = silent (headed_of s.vcpu i n) (followed_by s.progress (after_header i))
line_does place.Scause s n = silent s.vcpu (followed_by (keeping s.progress (with_scause s.progress.kept n)) place.Stval)
line_does place.Stval s n = silent s.vcpu (followed_by (keeping s.progress (with_stval s.progress.kept n)) place.Htval)
line_does place.Htval s n = silent s.vcpu (followed_by (keeping s.progress (with_htval s.progress.kept n)) place.Htinst)
line_does place.Htinst s n = trap_started s n
line_does place.Word s n = silent s.vcpu (followed_by (keeping s.progress (with_word s.progress.kept n)) place.More)
line_does place.More s n = pair_taken s n

-- the line being read has this number
unfoldable pub number_taken : State → ℕ → Step
number_taken s n = line_does s.progress.line.place s n

-- what a reading of the line gave
unfoldable pub got_of : State → Got → Step
got_of s (got.More at v) = silent s.vcpu (read_to s.progress at v)
got_of s (got.Whole n) = number_taken s n
got_of s got.Unfit = unfit_of s

-- one byte; after an unfit line, nothing
unfoldable pub byte_of : State → ℕ → Step
byte_of s b =
    pick s.progress.over (record { state = s; gives = gives.Nothing })
    (got_of s (line_of (key_of s.progress.line.place) s.progress.line.at s.progress.line.value b))

-- a trap may begin with the line at this place, so that a capture may end before it
unfoldable pub may_end : Place → Bool
may_end (place.Header i) = false
may_end place.Scause = true
may_end place.Stval = false
may_end place.Htval = false
may_end place.Htinst = false
may_end place.Word = false
may_end place.More = false

-- the end: sound where a trap may begin, else that line is missing
unfoldable pub end_gives : Progress → Gives
end_gives p =
    pick p.over gives.Nothing
    (pick (and (may_end p.line.place) (eqb p.line.at 0)) gives.Nothing (gives.Bad p.number))

-- 01, Replay program: the output's lines
unfoldable pub text_of : Gives → List ℕ
text_of gives.Nothing = []
text_of (gives.Trap exit sepc a0 a1) =
    line_text (bytes "exit=") exit
    ++ (line_text (bytes "sepc=") sepc ++ (line_text (bytes "a0=") a0 ++ line_text (bytes "a1=") a1))
text_of (gives.Bad n) = line_text (bytes "bad=") n

-- the state after bytes
unfoldable pub state_after : State → List ℕ → State
state_after s [] = s
state_after s (b ∷ l) = state_after (byte_of s b).state l

-- the output of bytes
unfoldable pub output_of : State → List ℕ → List ℕ
output_of s [] = []
output_of s (b ∷ l) = text_of (byte_of s b).gives ++ output_of (byte_of s b).state l

-- 01, Replay program: the whole output of a capture
unfoldable pub replay_of : List ℕ → List ℕ
replay_of l = output_of begun l ++ text_of (end_gives (state_after begun l).progress)

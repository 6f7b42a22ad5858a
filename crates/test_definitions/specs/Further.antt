-- What no list runs, by document 01's own words and the numbers of the published Rust: one table, computed by the checker.
use Rattle.std.specs.Prelude.{ℕ, Option, Some, None, ◌+◌, Bool, true, false, List, [], ◌∷◌, ◌++◌, eqb, T, replicate}
use Rattle.isa_types.specs.Pick.{and}
use Rattle.scope.specs.OneTrap.{abi_number, access_number, answer_number, ask_number, exit_number, fetch_number, flag_of, width_bytes, answer_values, ask_values, exit_values, fetch_value}
use Rattle.scope.specs.Refusals.{error_number, refusal, refuses}
use Rattle.scope.specs.declared.traps.Access.TheVariants as access
use Rattle.scope.specs.declared.traps.Answer.{Answer}
use Rattle.scope.specs.declared.traps.Answer.TheVariants as answer
use Rattle.scope.specs.declared.traps.Ask.TheVariants as ask
use Rattle.scope.specs.declared.traps.Error.TheVariants as error
use Rattle.scope.specs.declared.traps.Exit.TheVariants as exit
use Rattle.scope.specs.declared.traps.Fetch.TheVariants as fetch
use Rattle.scope.specs.declared.traps.IpiAbi.TheVariants as abi
use Rattle.scope.specs.declared.traps.Reply.{Reply}
use Rattle.scope.specs.declared.traps.Reply.TheVariants as reply
use Rattle.isa_types.specs.declared.Width.TheVariants as width
use Rattle.isa_consts.specs.Sbi.{eid_pmu}
use Rattle.isa_registers.specs.Values.{delegated_exceptions, delegated_interrupts}
use Rattle.scope.specs.declared.hosts.HostCall.{HostCall}
use Rattle.scope.specs.declared.hosts.HostCall.TheVariants as host_call
use Rattle.scope.specs.declared.machine.EcallAsk.TheVariants as asked
use Rattle.scope.specs.declared.machine.Vcpu.{Vcpu}
use Rattle.scope.specs.declared.machine.Waiting.{Waiting}
use Rattle.scope.specs.declared.machine.Waiting.TheVariants as waiting
use Rattle.scope.specs.Calls.{asked_count, fitted, new_of, print_count, printable, printed_of}
use Rattle.scope.specs.ReplyWords.{out_of, reply_values, reply_word}
use Rattle.scope.specs.Words.{asked_word_count, asked_words, call_by, trap_left, waiting_count, waiting_left, waiting_words}
use Rattle.replay_scope.specs.Lines.{bytes, line_of, nibble_of, push_of}
use Rattle.replay_digits.specs.Hex.{digit_of, hex_of}
use Rattle.replay_lines.specs.Read.{Taken, begins, taken_of}
use Rattle.replay_output.specs.Put.{put_at}
use Rattle.replay_scope.specs.declared.Got.{Got}
use Rattle.replay_scope.specs.declared.Got.TheVariants as got

-- an answer: its ask's number, word and more
abbrev pair : Answer → List ℕ
pair a = answer_number a ∷ answer_values a

-- a record in which this waits
unfoldable holding : Waiting → Vcpu
holding w = record { x = (new_of 0 0).x; csrs = (new_of 0 0).csrs; counts = (new_of 0 0).counts; waiting = w }

-- the eight words of a reply, with 1 to 6 in the array beside it
abbrev over : Reply → List ℕ
over r = out_of r (1 ∷ 2 ∷ 3 ∷ 4 ∷ 5 ∷ 6 ∷ [])

-- the words that a reply has no number for
abbrev blanks : ℕ → List ℕ
blanks n = replicate n 0

-- waiting words, and a trap on them that leaves this waiting and replies so
abbrev marked : List ℕ
marked = 21 ∷ 22 ∷ 23 ∷ 24 ∷ []

abbrev left : Waiting → Reply → List ℕ
left w r = trap_left marked r w

abbrev stays : Waiting → List ℕ
stays w = left w (reply.Exit exit.Nothing)

-- the register that a call reads
unfoldable register_read : HostCall → List ℕ
register_read host_call.Setup = []
register_read (host_call.SetEntry a) = []
register_read (host_call.GetGpr i) = i ∷ []
register_read (host_call.SetGpr i n) = []
register_read (host_call.SetReturnValue n) = []
register_read (host_call.SetNestedPageTable l m r) = []
register_read (host_call.SetPending n l) = []
register_read (host_call.LatchHvip n) = []
register_read (host_call.CompleteIpi k c) = []
register_read (host_call.Start t) = []
register_read (host_call.Answer a) = []
register_read (host_call.CompleteLoad n) = []
register_read (host_call.ToPrint n) = []
register_read (host_call.New a b) = []

-- how a line was read: its number, where it stands and the bytes that are left
unfoldable got_numbers : Got → List ℕ
got_numbers (got.More at v) = 0 ∷ at ∷ v ∷ []
got_numbers (got.Whole v) = 1 ∷ v ∷ []
got_numbers got.Unfit = 2 ∷ []

unfoldable digit_numbers : Option ℕ → List ℕ
digit_numbers (Some v) = 1 ∷ v ∷ []
digit_numbers None = 2 ∷ []

unfoldable taken : Taken → List ℕ
taken t = got_numbers t.got ++ t.left

-- what was got, beside what is right
record Row : Type 0 where
  got : List ℕ
  wanted : List ℕ

row : List ℕ → List ℕ → Row
row g w = record { got = g; wanted = w }

further : List Row
further =
    -- 01, Replay program: for a fetch, more is 0 for a word, 1 to 5 for the faults in order; a fault's address is word
    row (pair (answer.Fetched (fetch.Word 0x14D2_92F3))) (1 ∷ 0x14D2_92F3 ∷ 0 ∷ [])
    ∷ row (pair (answer.Fetched (fetch.Page (record { 0 = 0x1000 })))) (1 ∷ 0x1000 ∷ 1 ∷ [])
    ∷ row (pair (answer.Fetched (fetch.Access (record { 0 = 0x1004 })))) (1 ∷ 0x1004 ∷ 2 ∷ [])
    ∷ row (pair (answer.Fetched (fetch.Misaligned (record { 0 = 0x1002 })))) (1 ∷ 0x1002 ∷ 3 ∷ [])
    ∷ row (pair (answer.Fetched (fetch.GuestPage (record { 0 = 0x1008 })))) (1 ∷ 0x1008 ∷ 4 ∷ [])
    ∷ row (pair (answer.Fetched fetch.Unhandled)) (1 ∷ 0 ∷ 5 ∷ [])
    -- a pair is error, value; ask 2 is count, bytes; any single number is word
    ∷ row (pair (answer.MaskCopied 8 6)) (2 ∷ 8 ∷ 6 ∷ [])
    ∷ row (pair (answer.CopiedIn 7)) (3 ∷ 7 ∷ 0 ∷ [])
    ∷ row (pair (answer.Printed 8 6)) (4 ∷ 8 ∷ 6 ∷ [])
    ∷ row (pair (answer.ConsoleRead 8 6)) (5 ∷ 8 ∷ 6 ∷ [])
    ∷ row (pair (answer.CopiedOut 7)) (6 ∷ 7 ∷ 0 ∷ [])
    ∷ row (pair answer.Emitted) (7 ∷ 0 ∷ 0 ∷ [])
    ∷ row (pair (answer.Char 7)) (8 ∷ 7 ∷ 0 ∷ [])
    ∷ row (pair (answer.Forwarded 8 6)) (9 ∷ 8 ∷ 6 ∷ [])
    -- 01, One trap: the bytes to print are the buffer's first n under ask 4 if it has n, otherwise the empty part
    ∷ row (printed_of (holding (waiting.Ecall (asked.Print 2))) (7 ∷ 8 ∷ 9 ∷ [])) (7 ∷ 8 ∷ [])
    ∷ row (printed_of (holding (waiting.Ecall (asked.Print 3))) (7 ∷ 8 ∷ 9 ∷ [])) (7 ∷ 8 ∷ 9 ∷ [])
    ∷ row (printed_of (holding (waiting.Ecall (asked.Print 4))) (7 ∷ 8 ∷ 9 ∷ [])) []
    ∷ row (printed_of (holding (waiting.Ecall (asked.CopyIn 2))) (7 ∷ 8 ∷ 9 ∷ [])) []
    ∷ row (printed_of (holding waiting.Idle) (7 ∷ 8 ∷ 9 ∷ [])) []
    -- 01, One trap, Ecalls and Guest page fault: what each exit and ask carries; every other word of `out` is 0
    ∷ row (over (reply.Exit exit.Nothing)) (blanks 8)
    ∷ row (over (reply.Exit (exit.ExternalInterrupt 7))) (7 ∷ blanks 7)
    ∷ row (over (reply.Exit (exit.SendIpi (record { mask = 7; base = 8; abi = abi.SbiV02 })))) (7 ∷ 8 ∷ 1 ∷ blanks 5)
    ∷ row (over (reply.Exit (exit.CpuUp 7 (record { 0 = 8 }) 9))) (7 ∷ 8 ∷ 9 ∷ blanks 5)
    ∷ row (over (reply.Exit (exit.CpuDown 0))) (0 ∷ blanks 7)
    ∷ row (over (reply.Exit exit.Halt)) (blanks 8)
    ∷ row (over (reply.Exit (exit.Hypercall 7))) (7 ∷ 0 ∷ 1 ∷ 2 ∷ 3 ∷ 4 ∷ 5 ∷ 6 ∷ [])
    ∷ row (over (reply.Exit exit.SystemDown)) (blanks 8)
    ∷ row (over (reply.Exit (exit.NestedPageFault (record { 0 = 7 }) access.Write))) (7 ∷ 2 ∷ blanks 6)
    ∷ row (over (reply.Exit (exit.MmioRead (record { 0 = 7 }) width.Word))) (7 ∷ 4 ∷ blanks 6)
    ∷ row (over (reply.Exit (exit.MmioWrite (record { 0 = 7 }) width.Half 9))) (7 ∷ 2 ∷ 9 ∷ blanks 5)
    ∷ row (over (reply.Ask (ask.Fetch (record { 0 = 7 }) true))) (7 ∷ 1 ∷ blanks 6)
    ∷ row (over (reply.Ask (ask.CopyMask (record { 0 = 7 })))) (7 ∷ blanks 7)
    ∷ row (over (reply.Ask (ask.CopyIn (record { 0 = 7 }) 8))) (7 ∷ 8 ∷ blanks 6)
    ∷ row (over (reply.Ask (ask.Print 7))) (7 ∷ blanks 7)
    ∷ row (over (reply.Ask (ask.ReadConsole 7))) (7 ∷ blanks 7)
    ∷ row (over (reply.Ask (ask.CopyOut (record { 0 = 7 }) 8))) (7 ∷ 8 ∷ blanks 6)
    ∷ row (over (reply.Ask (ask.Emit 7))) (7 ∷ blanks 7)
    ∷ row (over (reply.Ask ask.GetChar)) (blanks 8)
    ∷ row (over (reply.Ask (ask.Forward 7 8 (record { a0 = 10; a1 = 11; a2 = 12; a3 = 13; a4 = 14; a5 = 15 })))) (7 ∷ 8 ∷ 10 ∷ 11 ∷ 12 ∷ 13 ∷ 14 ∷ 15 ∷ [])
    ∷ row (over reply.Done) (blanks 8)
    ∷ row (over (reply.Value 7)) (7 ∷ blanks 7)
    ∷ row (over (reply.Error error.BadState)) (blanks 8)
    -- 01, Ecalls: PMU 0x504D55; registers.rs: the delegation masks, as oracle/diff reads them off the published Rust
    ∷ row (eid_pmu ∷ delegated_exceptions ∷ delegated_interrupts ∷ []) (0x50_4D55 ∷ 0xB10D ∷ 0x444 ∷ [])
    -- 01, Replay program: a line is its key, 16 lowercase hex digits and LF
    ∷ row (taken (taken_of (bytes "a0=") 0 0 (bytes "a0=00000000000001f9\nx"))) (1 ∷ 0x1f9 ∷ 120 ∷ [])
    ∷ row (taken (taken_of (bytes "a0=") 0 0 (bytes "a0=00000000000001f9"))) (0 ∷ 19 ∷ 0x1f9 ∷ [])
    ∷ row (taken (taken_of (bytes "a0=") 0 0 (bytes "a0=00000000000001F9\nx"))) (2 ∷ bytes "9\nx")
    ∷ row (taken (taken_of (bytes "a0=") 0 0 (bytes "a1=0"))) (2 ∷ bytes "=0")
    ∷ row (taken (taken_of (bytes "a0=") 2 5 (bytes "=0"))) (0 ∷ 4 ∷ 0x50 ∷ [])
    ∷ row (digit_numbers (hex_of (bytes "00000000000001f9"))) (1 ∷ 0x1f9 ∷ [])
    ∷ row (digit_numbers (hex_of (bytes "fedcba9876543210"))) (1 ∷ 0xFEDC_BA98_7654_3210 ∷ [])
    ∷ row (digit_numbers (hex_of (bytes "fedcba987654321"))) (2 ∷ [])
    ∷ row (digit_numbers (hex_of (bytes "fedcba98765432100"))) (2 ∷ [])
    ∷ row (digit_numbers (hex_of (bytes "fedcba987654321F"))) (2 ∷ [])
    ∷ row (digit_numbers (hex_of (bytes "gedcba9876543210"))) (2 ∷ [])
    -- each key is compared byte for byte with its fixed spelling
    ∷ row (flag_of (begins (bytes "a0=") (bytes "a0=1")) ∷ flag_of (begins (bytes "a0=") (bytes "a0=")) ∷ []) (1 ∷ 1 ∷ [])
    ∷ row (flag_of (begins (bytes "a0=") (bytes "a0")) ∷ flag_of (begins (bytes "a0=") (bytes "b0=")) ∷ flag_of (begins (bytes "a0=") (bytes "a1=")) ∷ []) (0 ∷ 0 ∷ 0 ∷ [])
    -- a text at a place of a buffer: the bytes around it stay
    ∷ row (put_at (1 ∷ 2 ∷ 3 ∷ 4 ∷ 5 ∷ []) 1 (8 ∷ 9 ∷ [])) (1 ∷ 8 ∷ 9 ∷ 4 ∷ 5 ∷ [])
    -- refusals are 1, 2 and 7
    ∷ row (flag_of (refuses (reply.Error error.InvalidInput)) ∷ flag_of (refuses (reply.Error error.BadState)) ∷ flag_of (refuses (reply.Error error.WrongAnswer)) ∷ []) (1 ∷ 1 ∷ 1 ∷ [])
    ∷ row (flag_of (refuses (reply.Exit exit.Nothing)) ∷ flag_of (refuses reply.Done) ∷ flag_of (refuses (reply.Value 1)) ∷ flag_of (refuses (reply.Ask ask.GetChar)) ∷ []) (0 ∷ 0 ∷ 0 ∷ 0 ∷ [])
    ∷ row (flag_of (refuses (reply.Error error.Unsupported)) ∷ flag_of (refuses (reply.Error error.InvalidTrap)) ∷ flag_of (refuses (reply.Error error.DecodeFailed)) ∷ flag_of (refuses (reply.Error error.GuestMemoryFault)) ∷ []) (0 ∷ 0 ∷ 0 ∷ 0 ∷ [])
    -- the waiting words that a trap leaves: its kind and what the kind carries; the others stay
    ∷ row (stays waiting.Idle) (0 ∷ 22 ∷ 23 ∷ 24 ∷ [])
    ∷ row (stays (waiting.Load 5 width.Half true)) (1 ∷ 5 ∷ 2 ∷ 1 ∷ [])
    ∷ row (stays waiting.FetchCsr) (2 ∷ 22 ∷ 23 ∷ 24 ∷ [])
    ∷ row (stays (waiting.FetchFault (record { 0 = 6 }) access.Write)) (3 ∷ 6 ∷ 2 ∷ 24 ∷ [])
    ∷ row (stays (waiting.Ecall asked.CopyMask)) (4 ∷ 22 ∷ 23 ∷ 24 ∷ [])
    ∷ row (stays (waiting.Ecall (asked.CopyIn 6))) (5 ∷ 6 ∷ 23 ∷ 24 ∷ [])
    ∷ row (stays (waiting.Ecall (asked.Print 6))) (6 ∷ 6 ∷ 23 ∷ 24 ∷ [])
    ∷ row (stays (waiting.Ecall (asked.ReadConsole 6 (record { 0 = 7 })))) (7 ∷ 6 ∷ 7 ∷ 24 ∷ [])
    ∷ row (stays (waiting.Ecall (asked.CopyOut 6))) (8 ∷ 6 ∷ 23 ∷ 24 ∷ [])
    ∷ row (stays (waiting.Ecall asked.PutChar)) (9 ∷ 22 ∷ 23 ∷ 24 ∷ [])
    ∷ row (stays (waiting.Ecall asked.PutByte)) (10 ∷ 22 ∷ 23 ∷ 24 ∷ [])
    ∷ row (stays (waiting.Ecall asked.GetChar)) (11 ∷ 22 ∷ 23 ∷ 24 ∷ [])
    ∷ row (stays (waiting.Ecall asked.Forward)) (12 ∷ 22 ∷ 23 ∷ 24 ∷ [])
    -- a refusal leaves them as they were, an error does not; a host's own call leaves them as they were
    ∷ row (left waiting.Idle (reply.Error error.WrongAnswer)) (21 ∷ 22 ∷ 23 ∷ 24 ∷ [])
    ∷ row (left waiting.Idle (reply.Error error.Unsupported)) (0 ∷ 22 ∷ 23 ∷ 24 ∷ [])
    ∷ row (waiting_left host_call.Setup marked reply.Done waiting.Idle) (21 ∷ 22 ∷ 23 ∷ 24 ∷ [])
    ∷ row (waiting_left (host_call.CompleteLoad 0) marked reply.Done waiting.Idle) (0 ∷ 22 ∷ 23 ∷ 24 ∷ [])
    ∷ row (waiting_left (host_call.New 1 2) marked reply.Done waiting.Idle) (0 ∷ 0 ∷ 0 ∷ 0 ∷ [])
    -- docs/DECISIONS.md: a call of no known kind reads a register that isn't there
    ∷ row (register_read (call_by 0 1 2 3 4 5)) (32 ∷ [])
    ∷ row (register_read (call_by 15 1 2 3 4 5)) (32 ∷ [])
    ∷ []

equal : List ℕ → List ℕ → Bool
equal [] [] = true
equal [] (b ∷ bs) = false
equal (a ∷ ls) [] = false
equal (a ∷ ls) (b ∷ bs) = and (eqb a b) (equal ls bs)

all : List Row → Bool
all [] = true
all (r ∷ rs) = and (equal r.got r.wanted) (all rs)

-- the whole table
table : T (all further)
unfolding all equal further row holding register_read call_by got_numbers digit_numbers taken answer_number answer_values fetch_number fetch_value flag_of fitted printable new_of print_count asked_count printed_of delegated_exceptions delegated_interrupts taken_of line_of digit_of nibble_of push_of hex_of out_of reply_values trap_left waiting_left waiting_count asked_word_count waiting_words asked_words refusal refuses reply_word error_number put_at exit_values ask_values exit_number ask_number access_number abi_number width_bytes
table = tt

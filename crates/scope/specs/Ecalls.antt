-- Ecalls: each SBI call by its numbers, with its effect, and what the answers to its asks do. 01, Ecalls.
-- eid is a7, fid a6. c is the CSRs, a the arguments a0 to a5.
use Rattle.std.specs.Prelude.{ℕ, ◌%◌, false, Bool, true, eqb, leb, None, Option, Some}
use Rattle.isa_types.specs.declared.GuestPhysAddr.{GuestPhysAddr}
use Rattle.isa_consts.specs.Csr.{vssip, vstip, console_room}
use Rattle.isa_consts.specs.Sbi.{hart_mask_bytes, success, failed, invalid_param, not_supported, legacy_set_timer, legacy_putchar, legacy_getchar, legacy_clear_ipi, legacy_send_ipi, legacy_fence_i, legacy_sfence_vma, legacy_sfence_vma_asid, legacy_shutdown, eid_time, eid_spi, eid_hsm, eid_hvc, eid_srst, eid_dbcn, eid_rfnc}
use Rattle.isa_registers.specs.Bits.{with_bits}
use Rattle.isa_types.specs.Pick.{pick}
use Rattle.scope.specs.declared.decided.IpiCompletion.TheVariants as completion
use Rattle.scope.specs.declared.decided.IpiCompletion.{IpiCompletion}
use Rattle.scope.specs.declared.machine.Csrs.{Csrs}
use Rattle.scope.specs.declared.machine.EcallAsk.TheVariants as asked
use Rattle.scope.specs.declared.machine.EcallAsk.{EcallAsk}
use Rattle.scope.specs.declared.machine.Effect.{Effect}
use Rattle.scope.specs.declared.machine.Event.TheVariants as event
use Rattle.scope.specs.declared.machine.Event.{Event}
use Rattle.scope.specs.declared.machine.Waiting.TheVariants as waiting
use Rattle.scope.specs.declared.machine.Writes.TheVariants as writes
use Rattle.scope.specs.declared.machine.Writes.{Writes}
use Rattle.scope.specs.declared.traps.Args.{Args}
use Rattle.scope.specs.declared.traps.Ask.TheVariants as ask
use Rattle.scope.specs.declared.traps.Ask.{Ask}
use Rattle.scope.specs.declared.traps.Exit.TheVariants as exit
use Rattle.scope.specs.declared.traps.Exit.{Exit}
use Rattle.scope.specs.declared.traps.IpiAbi.TheVariants as abi
use Rattle.scope.specs.declared.traps.IpiRequest.{IpiRequest}
use Rattle.scope.specs.declared.traps.Reply.TheVariants as reply
use Rattle.scope.specs.Record.{moved, timed, pended}
use Rattle.scope.specs.Refusals.{finished_of, asking_of}

-- "return e, v": a0 = e, a1 = v; sepc moves on by 4; exit Nothing
unfoldable pub returns_of : Csrs → ℕ → ℕ → Effect
returns_of c e v = finished_of (moved c 4) event.Quiet (writes.Pair e v) exit.Nothing

-- sepc moves on by 4, no register written
unfoldable pub moves_of : Csrs → Exit → Effect
moves_of c x = finished_of (moved c 4) event.Quiet writes.Keep x

-- a0 is the number, sepc moves on by 4
unfoldable pub gives_of : Csrs → ℕ → Effect
gives_of c n = finished_of (moved c 4) event.Quiet (writes.One 10 n) exit.Nothing

-- sepc unmoved
unfoldable pub stays_of : Csrs → Exit → Effect
stays_of c x = finished_of c event.Quiet writes.Keep x

-- an ask, which waits with what its answer needs
unfoldable pub asks_of : Csrs → EcallAsk → Ask → Effect
asks_of c n a = asking_of c event.Quiet (waiting.Ecall n) a

-- 01, Ecalls; 02, W1. Event 1, vstimecmp = deadline, clear hvip bit 6, then the registers; sepc moves on by 4
unfoldable pub set_timer_of : Csrs → ℕ → Writes → Effect
set_timer_of c deadline w =
    finished_of (moved (pended (timed c deadline) (with_bits c.hs.hvip vstip false)) 4) event.SetTimer w exit.Nothing

-- legacy 3: clear hvip bit 2, a0 = 0
unfoldable pub clear_ipi_of : Csrs → Effect
clear_ipi_of c =
    finished_of (moved (pended c (with_bits c.hs.hvip vssip false)) 4) event.Quiet (writes.One 10 0) exit.Nothing

-- move on, Hypercall(a6; a0 to a5)
unfoldable pub hypercall_of : Csrs → ℕ → Args → Effect
hypercall_of c fid a =
    record {
      csrs = moved c 4;
      event = event.Quiet;
      writes = writes.Keep;
      waiting = waiting.Idle;
      reply = reply.Exit (exit.Hypercall fid);
      args = a;
    }

unfoldable pub lesser_of : ℕ → ℕ → ℕ
lesser_of a b = pick (leb a b) a b

-- "other fids": return NOT_SUPPORTED, 0
unfoldable pub not_supported_effect : Csrs → Effect
not_supported_effect c = returns_of c not_supported 0

-- ask 9 with the call's numbers; the event is counted before the ask
unfoldable pub forward_effect : Csrs → Event → ℕ → ℕ → Args → Effect
forward_effect c e eid fid a = asking_of c e (waiting.Ecall asked.Forward) (ask.Forward eid fid a)

-- SBI, 'Timer Extension'; 02, W1. fid 0: event 1, vstimecmp = a0, clear hvip bit 6, return 0, 0
unfoldable pub time_effect : Csrs → ℕ → Args → Effect
time_effect c fid a = pick (eqb fid 0) (set_timer_of c a.a0 (writes.Pair 0 0)) (not_supported_effect c)

-- an IPI request of extension sPI: mask and base as given
unfoldable pub standard_request : ℕ → ℕ → IpiRequest
standard_request mask base = record { mask = mask; base = base; abi = abi.SbiV02 }

-- SBI, 'IPI Extension'. fid 0: move on, SendIpi(a0, a1, v0.2)
unfoldable pub spi_effect : Csrs → ℕ → Args → Effect
spi_effect c fid a = pick (eqb fid 0) (moves_of c (exit.SendIpi (standard_request a.a0 a.a1))) (not_supported_effect c)

-- SBI, 'Hart State Management Extension'. fid 0: move on, CpuUp(a0, a1, a2); 1: CpuDown(0) and 3: Halt, sepc unmoved
unfoldable pub hsm_effect : Csrs → ℕ → Args → Effect
hsm_effect c fid a =
    pick (eqb fid 0) (moves_of c (exit.CpuUp a.a0 (record { 0 = a.a1 }) a.a2))
    (pick (eqb fid 1) (stays_of c (exit.CpuDown 0))
    (pick (eqb fid 3) (stays_of c exit.Halt)
    (not_supported_effect c)))

-- SBI, 'System Reset Extension'. fid 0 with a0 = 0: SystemDown, sepc unmoved; other a0: return NOT_SUPPORTED, 0
unfoldable pub srst_effect : Csrs → ℕ → Args → Effect
srst_effect c fid a =
    pick (eqb fid 0) (pick (eqb a.a0 0) (stays_of c exit.SystemDown) (not_supported_effect c)) (not_supported_effect c)

-- n bytes at an address: none returns 0, 0; else ask 3 for a write, ask 5 for a read
unfoldable pub span_effect : Csrs → Bool → GuestPhysAddr → ℕ → Effect
span_effect c write at n =
    pick (eqb n 0) (returns_of c success 0)
    (pick write (asks_of c (asked.CopyIn n) (ask.CopyIn at n))
    (asks_of c (asked.ReadConsole n at) (ask.ReadConsole n)))

-- a0 = 0 returns 0, 0 and asks nothing; then a2 not 0 returns INVALID_PARAM, 0; n is the lesser of a0 and room
unfoldable pub console_effect : Csrs → Bool → Args → ℕ → Effect
console_effect c write a room =
    pick (eqb a.a0 0) (returns_of c success 0)
    (pick (eqb a.a2 0) (span_effect c write (record { 0 = a.a1 }) (lesser_of a.a0 room))
    (returns_of c invalid_param 0))

-- SBI, 'Debug Console Extension'. fid 0: write; 1: read; 2: ask 7 with a0 mod 256
unfoldable pub dbcn_effect : Csrs → ℕ → Args → ℕ → Effect
dbcn_effect c fid a room =
    pick (eqb fid 0) (console_effect c true a room)
    (pick (eqb fid 1) (console_effect c false a room)
    (pick (eqb fid 2) (asks_of c asked.PutByte (ask.Emit (a.a0 % 256)))
    (not_supported_effect c)))

-- SBI, 'RFENCE Extension'. fids 0 to 6 count events 3 to 9 in order; with any fid, ask 9
unfoldable pub rfnc_effect : Csrs → ℕ → ℕ → Args → Effect
rfnc_effect c eid fid a =
    pick (eqb fid 0) (forward_effect c event.FenceI eid fid a)
    (pick (eqb fid 1) (forward_effect c event.SfenceVma eid fid a)
    (pick (eqb fid 2) (forward_effect c event.SfenceVmaAsid eid fid a)
    (pick (eqb fid 3) (forward_effect c event.HfenceGvmaVmid eid fid a)
    (pick (eqb fid 4) (forward_effect c event.HfenceGvma eid fid a)
    (pick (eqb fid 5) (forward_effect c event.HfenceVvmaAsid eid fid a)
    (pick (eqb fid 6) (forward_effect c event.HfenceVvma eid fid a)
    (forward_effect c event.Quiet eid fid a)))))))

-- the whole list by eid, legacy 0 to 8 first: 0 set timer; 1 ask 7; 2 ask 8; 3 clear hvip bit 2; 4 ask 2 at a0; 5, 6, 7 no
-- register written; 8 SystemDown. PMU and all other eids: ask 9. Room above 4,096 counts as 4,096
unfoldable pub ecall_effect : Csrs → ℕ → ℕ → Args → ℕ → Effect
ecall_effect c eid fid a room =
    pick (eqb eid legacy_set_timer) (set_timer_of c a.a0 (writes.One 10 0))
    (pick (eqb eid legacy_putchar) (asks_of c asked.PutChar (ask.Emit a.a0))
    (pick (eqb eid legacy_getchar) (asks_of c asked.GetChar ask.GetChar)
    (pick (eqb eid legacy_clear_ipi) (clear_ipi_of c)
    (pick (eqb eid legacy_send_ipi) (asks_of c asked.CopyMask (ask.CopyMask (record { 0 = a.a0 })))
    (pick (eqb eid legacy_fence_i) (moves_of c exit.Nothing)
    (pick (eqb eid legacy_sfence_vma) (moves_of c exit.Nothing)
    (pick (eqb eid legacy_sfence_vma_asid) (moves_of c exit.Nothing)
    (pick (eqb eid legacy_shutdown) (stays_of c exit.SystemDown)
    (pick (eqb eid eid_time) (time_effect c fid a)
    (pick (eqb eid eid_spi) (spi_effect c fid a)
    (pick (eqb eid eid_hsm) (hsm_effect c fid a)
    (pick (eqb eid eid_hvc) (hypercall_of c fid a)
    (pick (eqb eid eid_srst) (srst_effect c fid a)
    (pick (eqb eid eid_dbcn) (dbcn_effect c fid a (lesser_of room console_room))
    (pick (eqb eid eid_rfnc) (rfnc_effect c eid fid a)
    (forward_effect c event.Quiet eid fid a))))))))))))))))

-- legacy 4, ask 2: a count of 8 is a mask with base 0; any other count is a short read, and there is no request
unfoldable pub legacy_request : ℕ → ℕ → Option IpiRequest
legacy_request count bytes =
    pick (eqb count hart_mask_bytes) (Some (record { mask = bytes; base = 0; abi = abi.Legacy })) None

-- SendIpi(mask, base 0, legacy); a short read returns FAILED, 0
unfoldable pub mask_effect : Csrs → Option IpiRequest → Effect
mask_effect c (Some r) = moves_of c (exit.SendIpi r)
mask_effect c None = returns_of c failed 0

-- DBCN fid 0, ask 3: count n leads to ask 4; else FAILED, 0
unfoldable pub copied_effect : Csrs → ℕ → ℕ → Effect
copied_effect c n got = pick (eqb got n) (asks_of c (asked.Print n) (ask.Print n)) (returns_of c failed 0)

-- DBCN fid 1, ask 5: error 0 and a value from 1 to n leads to ask 6; every other pair is returned as given
unfoldable pub console_read_effect : Csrs → ℕ → GuestPhysAddr → ℕ → ℕ → Effect
console_read_effect c n at error value =
    pick (eqb error 0)
    (pick (eqb value 0) (returns_of c error value)
    (pick (leb value n) (asks_of c (asked.CopyOut value) (ask.CopyOut at value))
    (returns_of c error value)))
    (returns_of c error value)

-- DBCN fid 1, ask 6: count v returns 0, v; other counts FAILED, 0
unfoldable pub copied_out_effect : Csrs → ℕ → ℕ → Effect
copied_out_effect c v got = pick (eqb got v) (returns_of c success v) (returns_of c failed 0)

-- the answer to an ecall's ask, by its two numbers: ask 2 count and bytes; 3 and 6 count; 4, 5 and 9 error and value; 7 none;
-- 8 the number
unfoldable pub ecall_answer : Csrs → EcallAsk → ℕ → ℕ → Effect
ecall_answer c asked.CopyMask word more = mask_effect c (legacy_request word more)
ecall_answer c (asked.CopyIn n) word more = copied_effect c n word
ecall_answer c (asked.Print n) word more = returns_of c word more
ecall_answer c (asked.ReadConsole n at) word more = console_read_effect c n at word more
ecall_answer c (asked.CopyOut v) word more = copied_out_effect c v word
-- legacy 1: no register written
ecall_answer c asked.PutChar word more = moves_of c exit.Nothing
-- DBCN fid 2: return 0, 0
ecall_answer c asked.PutByte word more = returns_of c success 0
-- legacy 2: into a0
ecall_answer c asked.GetChar word more = gives_of c word
-- forwarded: the pair is returned
ecall_answer c asked.Forward word more = returns_of c word more

-- IPI completion: 0, -3, -1
unfoldable pub completion_number : IpiCompletion → ℕ
completion_number completion.Success = success
completion_number completion.InvalidParameter = invalid_param
completion_number completion.Failed = failed

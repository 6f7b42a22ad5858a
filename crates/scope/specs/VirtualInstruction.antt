-- CSR instructions on stimecmp; fetching the guest's instruction, and what a failed fetch does. 01, Virtual instruction; 02, W5.
use Rattle.std.specs.Prelude.{ℕ, ◌%◌, ◌^◌, ◌*◌, ◌/◌, true, false, eqb}
use Rattle.isa_consts.specs.Csr.{system_opcode, stimecmp}
use Rattle.isa_consts.specs.Traps.{instruction_page_fault, instruction_access_fault, instruction_misaligned}
use Rattle.isa_fields.specs.Fields.{rd_field, funct3_field, rs1_field, opcode_field, csr_field}
use Rattle.isa_registers.specs.Bits.{with_bits, spvp_of, sie_of}
use Rattle.isa_types.specs.Pick.{pick}
use Rattle.isa_types.specs.declared.GuestVirtAddr.{GuestVirtAddr}
use Rattle.scope.specs.declared.decided.Stimecmp.TheVariants as csr
use Rattle.scope.specs.declared.decided.Stimecmp.{Stimecmp}
use Rattle.scope.specs.declared.decided.Missed.TheVariants as missed
use Rattle.scope.specs.declared.decided.Missed.{Missed}
use Rattle.scope.specs.declared.machine.Csrs.{Csrs}
use Rattle.scope.specs.declared.machine.Effect.{Effect}
use Rattle.scope.specs.declared.machine.Event.TheVariants as event
use Rattle.scope.specs.declared.machine.Waiting.TheVariants as waiting
use Rattle.scope.specs.declared.machine.Waiting.{Waiting}
use Rattle.scope.specs.declared.machine.Writes.TheVariants as writes
use Rattle.scope.specs.declared.traps.Access.TheVariants as access
use Rattle.scope.specs.declared.traps.Ask.TheVariants as ask
use Rattle.scope.specs.declared.traps.Error.TheVariants as error
use Rattle.scope.specs.declared.traps.Exit.TheVariants as exit
use Rattle.scope.specs.declared.traps.Fetch.TheVariants as fetch
use Rattle.scope.specs.declared.traps.Fetch.{Fetch}
use Rattle.scope.specs.Record.{moved, timed}
use Rattle.scope.specs.Refusals.{finished_of, failed_of, asking_of}

-- ask 1 at sepc; supervisor = hstatus bit 8
unfoldable pub ask_fetch_of : Csrs → Waiting → Effect
ask_fetch_of c n =
    asking_of c event.Quiet n (ask.Fetch (record { 0 = c.guest.sepc }) (spvp_of c.guest.hstatus))

-- old OR bits; with field 0 no write
unfoldable pub set_bits : ℕ → ℕ → ℕ → ℕ
set_bits field old bits = pick (eqb field 0) old (with_bits old bits true)

-- old AND NOT bits; with field 0 no write
unfoldable pub clear_bits : ℕ → ℕ → ℕ → ℕ
clear_bits field old bits = pick (eqb field 0) old (with_bits old bits false)

-- by funct3, the new timer: rs1, old OR rs1, old AND NOT rs1; 5, 6, 7 likewise with the field as a number
unfoldable pub stimecmp_by : ℕ → ℕ → ℕ → ℕ → ℕ → Stimecmp
stimecmp_by funct3 rd field old rs1 =
    pick (eqb funct3 1) (csr.Write rd rs1)
    (pick (eqb funct3 2) (csr.Write rd (set_bits field old rs1))
    (pick (eqb funct3 3) (csr.Write rd (clear_bits field old rs1))
    (pick (eqb funct3 5) (csr.Write rd field)
    (pick (eqb funct3 6) (csr.Write rd (set_bits field old field))
    (pick (eqb funct3 7) (csr.Write rd (clear_bits field old field))
    csr.Illegal)))))

-- a word: it must end in 0x73 and its CSR field be 0x14d
unfoldable pub stimecmp_word : ℕ → ℕ → ℕ → Stimecmp
stimecmp_word w old rs1 =
    pick (eqb (opcode_field w) system_opcode)
    (pick (eqb (csr_field w) stimecmp) (stimecmp_by (funct3_field w) (rd_field w) (rs1_field w) old rs1) csr.Illegal)
    csr.Illegal

-- the word is stval's low 32 bits if its low 7 bits are 0x73; else ask 1 at sepc
unfoldable pub stimecmp_stval : ℕ → ℕ → ℕ → Stimecmp
stimecmp_stval stval old rs1 =
    pick (eqb (opcode_field (stval % 2 ^ 32)) system_opcode) (stimecmp_word (stval % 2 ^ 32) old rs1) csr.Fetch

-- illegal: event 2 and error 3. Else rd, unless 0 (stored, Record.antt), gets the old timer; move on by 4; exit Nothing. A form
-- that doesn't write has the old timer for the new
unfoldable pub stimecmp_effect : Csrs → Stimecmp → Effect
stimecmp_effect c csr.Illegal = failed_of c event.IllegalInsn error.Unsupported
stimecmp_effect c csr.Fetch = ask_fetch_of c waiting.FetchCsr
stimecmp_effect c (csr.Write rd timer) =
    finished_of (moved (timed c timer) 4) event.Quiet (writes.One rd c.vs.vstimecmp) exit.Nothing

-- a virtual instruction, with the content of its rs1
unfoldable pub virtual_effect : Csrs → ℕ → ℕ → Effect
virtual_effect c stval rs1 = stimecmp_effect c (stimecmp_stval stval c.vs.vstimecmp rs1)

-- "Fetch faults, here and below"

-- page 12, access 1, misaligned 0 are injected; guest-page: NestedPageFault; unhandled: error 6. (A word is no fault.)
unfoldable pub missed_of : Fetch → Missed
missed_of (fetch.Word w) = missed.Unhandled
missed_of (fetch.Page a) = missed.Inject instruction_page_fault a
missed_of (fetch.Access a) = missed.Inject instruction_access_fault a
missed_of (fetch.Misaligned a) = missed.Inject instruction_misaligned a
missed_of (fetch.GuestPage a) = missed.Nested a
missed_of fetch.Unhandled = missed.Unhandled

-- vsstatus: SPIE (bit 5) = SIE (bit 1), SIE = 0, SPP (bit 8) = hstatus bit 8
unfoldable pub trap_status_of : ℕ → ℕ → ℕ
trap_status_of vsstatus hstatus =
    with_bits (with_bits (with_bits vsstatus (2 ^ 5) (sie_of vsstatus)) (2 ^ 1) false) (2 ^ 8) (spvp_of hstatus)

-- vsepc = sepc, vscause, vstval = address, sepc = vstvec with low two bits 0; and sstatus SPP (bit 8) is set, so that the return goes to
-- supervisor mode; hstatus stays (02, W5; PRIV, 'Hypervisor Extension', trap return)
unfoldable pub injected_of : Csrs → ℕ → GuestVirtAddr → Csrs
injected_of c cause addr =
    record {
      guest = record { sepc = c.vs.vstvec / 4 * 4; sstatus = with_bits c.guest.sstatus (2 ^ 8) true; hstatus = c.guest.hstatus };
      vs =
          record {
            vsstatus = trap_status_of c.vs.vsstatus c.guest.hstatus;
            vstvec = c.vs.vstvec;
            vsepc = c.guest.sepc;
            vscause = cause;
            vstval = addr.0;
            vstimecmp = c.vs.vstimecmp;
          };
      hs = c.hs;
    }

-- injected: exit Nothing; guest-page: NestedPageFault(address, EXECUTE); unhandled: error 6
unfoldable pub missed_effect : Csrs → Missed → Effect
missed_effect c (missed.Inject cause addr) = finished_of (injected_of c cause addr) event.Quiet writes.Keep exit.Nothing
missed_effect c (missed.Nested addr) = finished_of c event.Quiet writes.Keep (exit.NestedPageFault addr access.Execute)
missed_effect c missed.Unhandled = failed_of c event.Quiet error.GuestMemoryFault

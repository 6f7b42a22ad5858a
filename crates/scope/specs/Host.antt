-- The host's calls: setup, registers, page table, interrupts, IPI completion. 01, The record.
use Rattle.std.specs.Prelude.{ℕ, ◌%◌, ◌^◌, Bool, ltb, eqb}
use Rattle.isa_types.specs.declared.GuestPhysAddr.{GuestPhysAddr}
use Rattle.isa_consts.specs.Csr.{setup_sstatus, setup_hstatus, setup_hie, no_timer, vssip, vstip, vseip}
use Rattle.isa_consts.specs.Traps.{supervisor_soft, supervisor_timer, supervisor_external}
use Rattle.isa_registers.specs.Bits.{with_bits}
use Rattle.isa_registers.specs.Values.{hgatp_of}
use Rattle.isa_types.specs.Pick.{pick}
use Rattle.scope.specs.declared.machine.Csrs.{Csrs}
use Rattle.scope.specs.declared.machine.Effect.{Effect}
use Rattle.scope.specs.declared.machine.Waiting.{Waiting}
use Rattle.scope.specs.declared.machine.Writes.TheVariants as writes
use Rattle.scope.specs.declared.machine.Writes.{Writes}
use Rattle.scope.specs.declared.traps.Error.TheVariants as error
use Rattle.scope.specs.declared.traps.IpiAbi.TheVariants as abi
use Rattle.scope.specs.declared.traps.IpiAbi.{IpiAbi}
use Rattle.scope.specs.Record.{timed, pended}
use Rattle.scope.specs.Refusals.{done_of, refused_of}

-- setup: sstatus 0x2100, hstatus 0x200000180, hie 0x444, vstimecmp 2^64 - 1, hvip and hgeie 0; the rest stays
unfoldable pub setup_csrs : Csrs → Csrs
setup_csrs c =
    record {
      guest = record { sepc = c.guest.sepc; sstatus = setup_sstatus; hstatus = setup_hstatus };
      vs = (timed c no_timer).vs;
      hs = record { hie = setup_hie; hvip = 0; hgeie = 0; hgatp = c.hs.hgatp };
    }

-- sepc is the entry
unfoldable pub entry_csrs : Csrs → GuestPhysAddr → Csrs
entry_csrs c entry =
    record {
      guest = record { sepc = entry.0; sstatus = c.guest.sstatus; hstatus = c.guest.hstatus };
      vs = c.vs;
      hs = c.hs;
    }

-- register write: an index above 31 is refusal 1
unfoldable pub write_effect : Csrs → Waiting → ℕ → ℕ → Effect
write_effect c w index value =
    pick (ltb index 32) (done_of c (writes.One index value) w) (refused_of c w error.InvalidInput)

-- hgatp from mode and root
unfoldable pub table_csrs : Csrs → ℕ → ℕ → Csrs
table_csrs c mode root =
    record {
      guest = c.guest;
      vs = c.vs;
      hs = record { hie = c.hs.hie; hvip = c.hs.hvip; hgeie = c.hs.hgeie; hgatp = hgatp_of mode root };
    }

-- the mode must be the wanted one, and root & 0x3fff must be 0
unfoldable pub paging_by : Csrs → Waiting → ℕ → ℕ → ℕ → Effect
paging_by c w wanted mode root =
    pick (eqb mode wanted)
    (pick (eqb (root % 2 ^ 14) 0) (done_of (table_csrs c mode root) writes.Keep w) (refused_of c w error.InvalidInput))
    (refused_of c w error.InvalidInput)

-- page table: levels 3 need mode 8, levels 4 mode 9
unfoldable pub paging_effect : Csrs → Waiting → ℕ → ℕ → ℕ → Effect
paging_effect c w levels mode root =
    pick (eqb levels 3) (paging_by c w 8 mode root)
    (pick (eqb levels 4) (paging_by c w 9 mode root)
    (refused_of c w error.InvalidInput))

-- the bit of hvip that a vector stands for: 2^63+1 is bit 2, 2^63+5 bit 6, 9 and 2^63+9 bit 10; any other vector stands for none, 0
unfoldable pub hvip_bit_of : ℕ → ℕ
hvip_bit_of vector =
    pick (eqb vector supervisor_soft) vssip
    (pick (eqb vector supervisor_timer) vstip
    (pick (supervisor_external vector) vseip
    0))

-- interrupt pending: the vector's bit is set or cleared; a vector that stands for none is refusal 1
unfoldable pub pending_effect : Csrs → Waiting → ℕ → Bool → Effect
pending_effect c w vector on =
    pick (eqb (hvip_bit_of vector) 0) (refused_of c w error.InvalidInput)
    (done_of (pended c (with_bits c.hs.hvip (hvip_bit_of vector) on)) writes.Keep w)

-- IPI completion: legacy writes a0; v0.2 writes a0 and a1 = 0
unfoldable pub ipi_writes : IpiAbi → ℕ → Writes
ipi_writes abi.Legacy e = writes.One 10 e
ipi_writes abi.SbiV02 e = writes.Pair e 0

-- Values of hypervisor CSRs. PRIV, 'Hypervisor Extension': hgatp, htval, hedeleg, hideleg; 01, The record and Guest page fault.
use Rattle.std.specs.Prelude.{ℕ, ◌+◌, ◌*◌, ◌/◌, ◌%◌, ◌^◌}
use Rattle.std.specs.Int.Bits.{bit_or}
use Rattle.isa_types.specs.declared.GuestPhysAddr.{GuestPhysAddr}

-- hgatp: MODE in bits 63..60, bits 59..58 are 0, VMID 0 in bits 57..44, in bits 43..0 the root's page number, cut to 44 bits
unfoldable pub hgatp_of : ℕ → ℕ → ℕ
hgatp_of mode root = mode % 2 ^ 4 * 2 ^ 60 + root / 2 ^ 12 % 2 ^ 44

-- htval has the address shifted right by 2; stval has its low two bits
unfoldable pub guest_page_fault_addr : ℕ → ℕ → GuestPhysAddr
guest_page_fault_addr htval stval = record { 0 = bit_or (htval * 2 ^ 2 % 2 ^ 64) (stval % 2 ^ 2) }

-- instruction misaligned 0, illegal instruction 2, breakpoint 3, ecall from user mode 8, and the page faults 12, 13, 15
unfoldable pub delegated_exceptions : ℕ
delegated_exceptions = 2 ^ 0 + 2 ^ 2 + 2 ^ 3 + 2 ^ 8 + 2 ^ 12 + 2 ^ 13 + 2 ^ 15

-- the guest's software 2, timer 6 and external 10 interrupt
unfoldable pub delegated_interrupts : ℕ
delegated_interrupts = 2 ^ 2 + 2 ^ 6 + 2 ^ 10

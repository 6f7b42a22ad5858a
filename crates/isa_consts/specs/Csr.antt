-- Bits of CSRs, the word of a CSR instruction, and the console's bound. PRIV, 'Hypervisor Extension' and 'Sstc'; 01, The record.
use Rattle.std.specs.Prelude.{ℕ, ◌-◌, ◌^◌}

-- hvip: the guest's software (2), timer (6) and external (10) interrupt is pending
abbrev pub vssip : ℕ
vssip = 2 ^ 2

abbrev pub vstip : ℕ
vstip = 2 ^ 6

abbrev pub vseip : ℕ
vseip = 2 ^ 10

-- what setup leaves
abbrev pub setup_sstatus : ℕ
setup_sstatus = 0x2100

abbrev pub setup_hstatus : ℕ
setup_hstatus = 0x2_0000_0180

abbrev pub setup_hie : ℕ
setup_hie = 0x444

abbrev pub no_timer : ℕ
no_timer = 2 ^ 64 - 1

-- ISA, 'Zicsr': the opcode SYSTEM; PRIV, 'Sstc': the number of stimecmp
abbrev pub system_opcode : ℕ
system_opcode = 0x73

abbrev pub stimecmp : ℕ
stimecmp = 0x14d

-- 01, One trap: console room above this counts as this
abbrev pub console_room : ℕ
console_room = 4096

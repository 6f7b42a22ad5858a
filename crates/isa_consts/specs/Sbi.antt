-- SBI's extensions, functions and results. SBI, a chapter for each extension; 01, Ecalls.
use Rattle.std.specs.Prelude.{ℕ, ◌-◌, ◌^◌}

-- SBI, 'Legacy Extensions': 0 set timer, 1 put character, 2 get character, 3 clear IPI, 4 send IPI,
-- 5 to 7 remote fences, 8 shut down
abbrev pub legacy_set_timer : ℕ
legacy_set_timer = 0

abbrev pub legacy_putchar : ℕ
legacy_putchar = 1

abbrev pub legacy_getchar : ℕ
legacy_getchar = 2

abbrev pub legacy_clear_ipi : ℕ
legacy_clear_ipi = 3

abbrev pub legacy_send_ipi : ℕ
legacy_send_ipi = 4

abbrev pub legacy_fence_i : ℕ
legacy_fence_i = 5

abbrev pub legacy_sfence_vma : ℕ
legacy_sfence_vma = 6

abbrev pub legacy_sfence_vma_asid : ℕ
legacy_sfence_vma_asid = 7

abbrev pub legacy_shutdown : ℕ
legacy_shutdown = 8

-- extensions by number: TIME, sPI, HSM, SRST, DBCN, RFNC, PMU, and HVC of the hypervisor's own
abbrev pub eid_time : ℕ
eid_time = 0x5449_4D45

abbrev pub eid_spi : ℕ
eid_spi = 0x73_5049

abbrev pub eid_hsm : ℕ
eid_hsm = 0x48_534D

abbrev pub eid_hvc : ℕ
eid_hvc = 0x48_5643

abbrev pub eid_srst : ℕ
eid_srst = 0x5352_5354

abbrev pub eid_dbcn : ℕ
eid_dbcn = 0x4442_434E

abbrev pub eid_rfnc : ℕ
eid_rfnc = 0x5246_4E43

abbrev pub eid_pmu : ℕ
eid_pmu = 0x50_4D55

-- 01, Ecalls, legacy 4: the mask is 8 bytes long
abbrev pub hart_mask_bytes : ℕ
hart_mask_bytes = 8

-- SBI, 'Binary Encoding': the results as 64-bit numbers
abbrev pub success : ℕ
success = 0

abbrev pub failed : ℕ
failed = 2 ^ 64 - 1

abbrev pub not_supported : ℕ
not_supported = 2 ^ 64 - 2

abbrev pub invalid_param : ℕ
invalid_param = 2 ^ 64 - 3

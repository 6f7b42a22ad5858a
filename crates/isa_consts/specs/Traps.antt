-- Trap causes and interrupt vectors. PRIV, 'Supervisor Cause Register' and 'Hypervisor Extension'; 01, Classes.
use Rattle.std.specs.Prelude.{ℕ, ◌+◌, ◌-◌, ◌^◌, Bool, true, eqb, leb, ltb}
use Rattle.isa_types.specs.Pick.{pick, or}

-- scause: the interrupt bit
abbrev pub interrupt_bit : ℕ
interrupt_bit = 2 ^ 63

-- interrupts with a host's exit: supervisor software 1, timer 5, external 9
abbrev pub supervisor_soft : ℕ
supervisor_soft = 2 ^ 63 + 1

abbrev pub supervisor_timer : ℕ
supervisor_timer = 2 ^ 63 + 5

abbrev pub supervisor_ext : ℕ
supervisor_ext = 2 ^ 63 + 9

-- exceptions that are handled
abbrev pub env_call_from_vs : ℕ
env_call_from_vs = 10

abbrev pub load_guest_page_fault : ℕ
load_guest_page_fault = 21

abbrev pub virtual_instruction : ℕ
virtual_instruction = 22

abbrev pub store_guest_page_fault : ℕ
store_guest_page_fault = 23

-- exceptions that are injected into the guest
abbrev pub instruction_misaligned : ℕ
instruction_misaligned = 0

abbrev pub instruction_access_fault : ℕ
instruction_access_fault = 1

abbrev pub instruction_page_fault : ℕ
instruction_page_fault = 12

-- the vector is 9, with or without the interrupt bit
unfoldable pub supervisor_external : ℕ → Bool
supervisor_external v = or (eqb v 9) (eqb v supervisor_ext)

-- the known interrupt codes: 0 to 12
unfoldable pub known_interrupt : ℕ → Bool
known_interrupt code = leb code 12

-- the known exception codes that are not handled: 0 to 9, 11, 12, 13, 15 and 20
unfoldable pub known_exception : ℕ → Bool
known_exception code =
    pick (leb code 9) true
    (pick (eqb code 11) true
    (pick (eqb code 12) true
    (pick (eqb code 13) true
    (pick (eqb code 15) true
    (eqb code 20)))))

-- scause is a known code, with the interrupt bit or without, of an exception that is not handled or of an interrupt
unfoldable pub known_cause : ℕ → Bool
known_cause scause = pick (ltb scause interrupt_bit) (known_exception scause) (known_interrupt (scause - interrupt_bit))

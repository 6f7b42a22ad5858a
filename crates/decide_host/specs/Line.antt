-- The bit of hvip that a vector stands for, found without a jump: what the code computes is what 01 says.
use Rattle.std.specs.Prelude.{ℕ, Bool, true, false, ◌≡◌, refl, eqb}
use Rattle.std.proofs.Common.{sym, subst, eqb-true}
use Rattle.std.specs.Int.Bits.{bit_or}
use Rattle.isa_consts.specs.Csr.{vseip, vssip, vstip}
use Rattle.isa_consts.specs.Traps.{supervisor_external, supervisor_soft, supervisor_timer}
use Rattle.isa_types.specs.Pick.{pick}
use Rattle.scope.specs.Host.{hvip_bit_of}

-- the bit that a vector stands for, as one of three that are not 0 at once

soft_line : (v : ℕ) → v ≡ supervisor_soft → bit_or (bit_or (pick (eqb v supervisor_soft) vssip 0) (pick (eqb v supervisor_timer) vstip 0)) (pick (supervisor_external v) vseip 0) ≡ hvip_bit_of v
unfolding hvip_bit_of supervisor_external
soft_line v h =
    subst (λ (n : ℕ). bit_or (bit_or (pick (eqb n supervisor_soft) vssip 0) (pick (eqb n supervisor_timer) vstip 0)) (pick (supervisor_external n) vseip 0) ≡ hvip_bit_of n) (sym h) refl

timer_line : (v : ℕ) → v ≡ supervisor_timer → bit_or (bit_or (pick (eqb v supervisor_soft) vssip 0) (pick (eqb v supervisor_timer) vstip 0)) (pick (supervisor_external v) vseip 0) ≡ hvip_bit_of v
unfolding hvip_bit_of supervisor_external
timer_line v h =
    subst (λ (n : ℕ). bit_or (bit_or (pick (eqb n supervisor_soft) vssip 0) (pick (eqb n supervisor_timer) vstip 0)) (pick (supervisor_external n) vseip 0) ≡ hvip_bit_of n) (sym h) refl

other_line : (x : Bool) → bit_or (bit_or 0 0) (pick x vseip 0) ≡ pick x vseip 0
other_line true = refl
other_line false = refl

line_by : (v : ℕ) (s t : Bool) → eqb v supervisor_soft ≡ s → eqb v supervisor_timer ≡ t
    → bit_or (bit_or (pick (eqb v supervisor_soft) vssip 0) (pick (eqb v supervisor_timer) vstip 0)) (pick (supervisor_external v) vseip 0) ≡ hvip_bit_of v
unfolding hvip_bit_of
line_by v true t h k = soft_line v (eqb-true v supervisor_soft h)
line_by v false true h k = timer_line v (eqb-true v supervisor_timer k)
line_by v false false h k = rw (h, k) (other_line (supervisor_external v))

pub line_of_three : (v : ℕ) → bit_or (bit_or (pick (eqb v supervisor_soft) vssip 0) (pick (eqb v supervisor_timer) vstip 0)) (pick (supervisor_external v) vseip 0) ≡ hvip_bit_of v
line_of_three v = line_by v (eqb v supervisor_soft) (eqb v supervisor_timer) refl refl

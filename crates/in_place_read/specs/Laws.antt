-- What a decision takes of the record is read of its words.
use Rattle.std.specs.Prelude.{ℕ, List, ◌≡◌, get_or, length}
use Rattle.std.proofs.Common.{ap, subst, ◌∙◌}
use Rattle.scope.specs.declared.traps.Access.{Access}
use Rattle.isa_types.specs.declared.GuestPhysAddr.{GuestPhysAddr}
use Rattle.scope.specs.declared.machine.Csrs.{Csrs}
use Rattle.scope.specs.Record.{value_of}
use Rattle.scope.specs.declared.decided.Stimecmp.{Stimecmp}
use Rattle.scope.specs.VirtualInstruction.{stimecmp_effect}
use Rattle.scope.specs.GuestPageFault.{fault_effect, fault_of, mmio_of}
use Rattle.in_place_record.specs.View.{view_of}
use Rattle.in_place_record.specs.Rows.{csr_left, fault_left}
use Rattle.in_place_record.specs.Laws.{On}
use Rattle.in_place_record.proofs.Laws.{csr_made, csrs_words_lem, fault_made, read_shows}
use Rattle.scope.specs.declared.decided.Fault.{Fault}
use Rattle.isa_decoder.specs.declared.Trapped.{Trapped}
use Rattle.isa_decoder.specs.Length.{store_source}

-- a virtual instruction: the old timer and rs1 are read of the words

timer_words_lem : (r : List ℕ) → length r ≡ 58 → get_or r 40 0 ≡ (view_of r).csrs.vs.vstimecmp
timer_words_lem r e = ap (λ (c : Csrs). c.vs.vstimecmp) (csrs_words_lem r e)

pub csr_by : (r o : List ℕ) → length r ≡ 58 → (d : ℕ → ℕ → Stimecmp) (i : ℕ) → On r o (stimecmp_effect (view_of r).csrs (d (view_of r).csrs.vs.vstimecmp (value_of (view_of r).x i))) (csr_left r o (d (get_or r 40 0) (value_of r i)))
csr_by r o e d i =
    subst (λ (q : Stimecmp). On r o (stimecmp_effect (view_of r).csrs q) (csr_left r o (d (get_or r 40 0) (value_of r i))))
    (ap (λ (n : ℕ). d n (value_of r i)) (timer_words_lem r e) ∙ ap (λ (n : ℕ). d (view_of r).csrs.vs.vstimecmp n) (read_shows r i))
    (csr_made r o e (d (get_or r 40 0) (value_of r i)))

-- a guest page fault: a store's rs2 is read of the words
pub fault_by : (r o : List ℕ) → length r ≡ 58 → (at : GuestPhysAddr) (k : Access) (d : ℕ → Fault) (i : ℕ)
    → On r o (fault_effect (view_of r).csrs at k (d (value_of (view_of r).x i))) (fault_left r o at k (d (value_of r i)))
fault_by r o e at k d i =
    subst (λ (n : ℕ). On r o (fault_effect (view_of r).csrs at k (d n)) (fault_left r o at k (d (value_of r i))))
    (read_shows r i)
    (fault_made r o e at k (d (value_of r i)))

-- a load or store: a store's rs2 is read of the words
pub mmio_made : (r o : List ℕ) → length r ≡ 58 → (at : GuestPhysAddr) (k : Access) (i : Trapped)
    → On r o (mmio_of (view_of r).x (view_of r).csrs at k i) (fault_left r o at k (fault_of k i (value_of r (store_source i))))
unfolding mmio_of
mmio_made r o e at k i = fault_by r o e at k (λ n. fault_of k i n) (store_source i)

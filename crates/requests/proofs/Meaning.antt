-- What a load or store of a device means, once, over its decoded form: whatever its encoding, and whether htinst brought it or a
-- fetch. 01, Guest page fault; 02, W2. An encoding shows in nothing but the length, by which sepc moves on.
use Rattle.std.specs.Prelude.{ℕ, true, ◌≡◌, refl}
use Rattle.std.proofs.Common.{ap, sym, subst, ◌∙◌}
use Rattle.isa_decoder.specs.Examples.{absent}
use Rattle.isa_decoder.specs.Length.{fetched_of, htinst_of}
use Rattle.isa_decoder.specs.declared.Decoded.TheVariants as decoded
use Rattle.isa_decoder.specs.declared.Decoded.{Decoded}
use Rattle.isa_decoder.specs.declared.Trapped.TheVariants as trapped
use Rattle.isa_decoder.specs.declared.Trapped.{Trapped}
use Rattle.isa_registers.specs.Values.{guest_page_fault_addr}
use Rattle.isa_types.specs.declared.GuestPhysAddr.{GuestPhysAddr}
use Rattle.scope.specs.Answers.{answer_effect, fetch_effect, fitting_effect, word_effect}
use Rattle.scope.specs.Calls.{base_of, called_of, effect_of}
use Rattle.scope.specs.Classes.{class_effect, class_of, start_effect}
use Rattle.scope.specs.GuestPageFault.{fault_effect, fault_of, mmio_of, page_fault_of}
use Rattle.scope.specs.OneTrap.{answer_number}
use Rattle.scope.specs.Record.{applied, bumped, counted, event_number, is_idle, stored, waiting_ask}
use Rattle.scope.specs.Refusals.{asking_of}
use Rattle.scope.specs.VirtualInstruction.{ask_fetch_of}
use Rattle.scope.specs.declared.decided.Class.TheVariants as class
use Rattle.scope.specs.declared.hosts.HostCall.TheVariants as host_call
use Rattle.scope.specs.declared.machine.Vcpu.{Vcpu}
use Rattle.scope.specs.declared.machine.Waiting.TheVariants as waiting
use Rattle.scope.specs.declared.machine.Waiting.{Waiting}
use Rattle.scope.specs.declared.traps.Access.{Access}
use Rattle.scope.specs.declared.traps.Answer.TheVariants as answer
use Rattle.scope.specs.declared.traps.Fetch.TheVariants as fetch
use Rattle.scope.specs.declared.traps.Trap.{Trap}
use Rattle.requests.specs.Meaning.{Asks, Loads, Means, Nested, Stores, decided}
use Rattle.requests.proofs.Decided.{load_nested, loads, nested, store_nested, stores}

-- the meaning
pub means : (v : Vcpu) (at : GuestPhysAddr) (k : Access) (op : Decoded) (n : ℕ) → Means v (decided v at k op n) at k op n
means v at k op n =
    record {
      load = λ w s rd a e. subst (λ (p : Decoded). Loads v (decided v at k p n) at w s rd n) (sym e) (subst (λ (j : Access). Loads v (decided v at j (decoded.Load w s rd) n) at w s rd n) (sym a) (loads v at w s rd n));
      store = λ w rs2 a e. subst (λ (p : Decoded). Stores v (decided v at k p n) at w rs2 n) (sym e) (subst (λ (j : Access). Stores v (decided v at j (decoded.Store w rs2) n) at w rs2 n) (sym a) (stores v at w rs2 n));
      load_elsewhere = λ w s rd h e. subst (λ (p : Decoded). Nested v (decided v at k p n) at k) (sym e) (load_nested v at k w s rd n h);
      store_elsewhere = λ w rs2 h e. subst (λ (p : Decoded). Nested v (decided v at k p n) at k) (sym e) (store_nested v at k w rs2 n h);
      neither = λ e. subst (λ (p : Decoded). Nested v (decided v at k p n) at k) (sym e) (nested v at k n);
    }

pub asks : (v : Vcpu) (t : Trap) (k : Access) → is_idle v.waiting ≡ true → class_of t.scause ≡ class.PageFault k → t.htinst ≡ 0
    → Asks v (called_of v (host_call.Start t)) (guest_page_fault_addr t.htval t.stval) k
unfolding called_of base_of effect_of start_effect class_effect page_fault_of mmio_of fault_of fault_effect ask_fetch_of asking_of applied stored counted event_number bumped
asks v t k idle cause zero =
    rw (idle, cause, ap htinst_of zero ∙ absent)
    (record { says = refl; registers = refl; csrs = refl; counts = refl; waits = refl; beside = refl })

-- by htinst: the start of a guest page fault where nothing waits
pub by_htinst : (v : Vcpu) (t : Trap) (k : Access) (op : Decoded) (n : ℕ) → is_idle v.waiting ≡ true → class_of t.scause ≡ class.PageFault k
    → htinst_of t.htinst ≡ trapped.Instruction op n
    → Means v (called_of v (host_call.Start t)) (guest_page_fault_addr t.htval t.stval) k op n
unfolding called_of base_of effect_of start_effect class_effect page_fault_of
by_htinst v t k op n idle cause e =
    rw (idle, cause, e) (means v (guest_page_fault_addr t.htval t.stval) k op n)

-- by a fetch: the answer to the ask of a guest page fault
pub by_fetch : (v : Vcpu) (at : GuestPhysAddr) (k : Access) (word : ℕ) (op : Decoded) (n : ℕ) → v.waiting ≡ waiting.FetchFault at k
    → fetched_of word ≡ trapped.Instruction op n
    → Means v (called_of v (host_call.Answer (answer.Fetched (fetch.Word word)))) at k op n
unfolding called_of base_of effect_of answer_effect waiting_ask answer_number fitting_effect fetch_effect word_effect
by_fetch v at k word op n waits e =
    subst (λ (w : Waiting). Means v (applied v (answer_effect v.x v.csrs w (answer.Fetched (fetch.Word word)))) at k op n) (sym waits)
    (subst (λ (i : Trapped). Means v (applied v (mmio_of v.x v.csrs at k i)) at k op n) (sym e) (means v at k op n))

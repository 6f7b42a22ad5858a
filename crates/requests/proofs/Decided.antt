-- What is decided of a decoded load or store is its meaning, form by form.
use Rattle.std.specs.Prelude.{ℕ, Bool, ◌≡◌, refl}
use Rattle.std.proofs.Common.{ap}
use Rattle.isa_decoder.specs.Laws.{store_source_store}
use Rattle.isa_decoder.specs.declared.Decoded.TheVariants as decoded
use Rattle.isa_extension.specs.Extend.{cut_of}
use Rattle.isa_types.specs.declared.GuestPhysAddr.{GuestPhysAddr}
use Rattle.isa_types.specs.declared.Width.{Width}
use Rattle.scope.specs.Calls.{base_of, called_of, effect_of}
use Rattle.scope.specs.GuestPageFault.{completed_of, fault_effect, fault_of, load_under, mmio_of, store_under}
use Rattle.scope.specs.Record.{applied, bumped, counted, event_number, stored, value_of}
use Rattle.scope.specs.Refusals.{done_of, finished_of}
use Rattle.scope.specs.declared.machine.Vcpu.{Vcpu}
use Rattle.scope.specs.declared.traps.Access.TheVariants as access
use Rattle.scope.specs.declared.traps.Access.{Access}
use Rattle.scope.specs.declared.traps.Exit.TheVariants as exit
use Rattle.scope.specs.declared.traps.Reply.TheVariants as reply
use Rattle.requests.specs.Meaning.{Loads, Nested, Stores, decided}

pub loads : (v : Vcpu) (at : GuestPhysAddr) (w : Width) (s : Bool) (rd n : ℕ) → Loads v (decided v at access.Read (decoded.Load w s rd) n) at w s rd n
unfolding applied mmio_of fault_of load_under fault_effect stored counted event_number bumped called_of base_of effect_of completed_of done_of
loads v at w s rd n =
    record { says = refl; registers = refl; csrs = refl; counts = refl; waits = refl; beside = refl; completes = λ m. refl }

pub stores : (v : Vcpu) (at : GuestPhysAddr) (w : Width) (rs2 n : ℕ) → Stores v (decided v at access.Write (decoded.Store w rs2) n) at w rs2 n
unfolding applied mmio_of fault_of store_under fault_effect finished_of stored counted event_number bumped
stores v at w rs2 n =
    record {
      says = ap (λ (i : ℕ). reply.Exit (exit.MmioWrite at w (cut_of w (value_of v.x i)))) (store_source_store w rs2 n);
      registers = refl;
      csrs = refl;
      counts = refl;
      waits = refl;
      beside = refl;
    }

pub load_nested : (v : Vcpu) (at : GuestPhysAddr) (k : Access) (w : Width) (s : Bool) (rd n : ℕ) → (k ≡ access.Read → ⊥) → Nested v (decided v at k (decoded.Load w s rd) n) at k
unfolding applied mmio_of fault_of load_under fault_effect finished_of stored counted event_number bumped
load_nested v at access.Read w s rd n h = absurd (h refl)
load_nested v at access.Write w s rd n h = record { says = refl; registers = refl; csrs = refl; counts = refl; waits = refl; beside = refl }
load_nested v at access.Execute w s rd n h = record { says = refl; registers = refl; csrs = refl; counts = refl; waits = refl; beside = refl }

pub store_nested : (v : Vcpu) (at : GuestPhysAddr) (k : Access) (w : Width) (rs2 n : ℕ) → (k ≡ access.Write → ⊥) → Nested v (decided v at k (decoded.Store w rs2) n) at k
unfolding applied mmio_of fault_of store_under fault_effect finished_of stored counted event_number bumped
store_nested v at access.Read w rs2 n h = record { says = refl; registers = refl; csrs = refl; counts = refl; waits = refl; beside = refl }
store_nested v at access.Write w rs2 n h = absurd (h refl)
store_nested v at access.Execute w rs2 n h = record { says = refl; registers = refl; csrs = refl; counts = refl; waits = refl; beside = refl }

pub nested : (v : Vcpu) (at : GuestPhysAddr) (k : Access) (n : ℕ) → Nested v (decided v at k decoded.Neither n) at k
unfolding applied mmio_of fault_of fault_effect finished_of stored counted event_number bumped
nested v at k n = record { says = refl; registers = refl; csrs = refl; counts = refl; waits = refl; beside = refl }

-- The record that a call works on: a new one is the same whatever was there, and any other is the one that was there.
use Rattle.std.specs.Prelude.{ℕ, true, false, ◌≡◌, refl}
use Rattle.std.proofs.Common.{arith, sym}
use Rattle.scope.specs.Calls.{base_of, new_of}
use Rattle.scope.specs.declared.hosts.HostCall.TheVariants as host_call
use Rattle.scope.specs.declared.hosts.HostCall.{HostCall}
use Rattle.scope.specs.declared.machine.Vcpu.{Vcpu}
use Rattle.demand3_table.specs.Alike.{Alike}
use Rattle.demand3_table.specs.Runs.{renews}

never : {A : Type 0} → false ≡ true → A
never h = let z : ◌≡◌ {A = ℕ} 0 1 = cc in absurd (omega arith)

pub base_kept : (v : Vcpu) (c : HostCall) → renews c ≡ false → base_of v c ≡ v
unfolding base_of renews
base_kept v (host_call.New hart tree) h = never (sym h)
base_kept v host_call.Setup h = refl
base_kept v (host_call.SetEntry at) h = refl
base_kept v (host_call.GetGpr index) h = refl
base_kept v (host_call.SetGpr index value) h = refl
base_kept v (host_call.SetReturnValue value) h = refl
base_kept v (host_call.SetNestedPageTable levels mode root) h = refl
base_kept v (host_call.SetPending vector level) h = refl
base_kept v (host_call.LatchHvip bits) h = refl
base_kept v (host_call.CompleteIpi abi completion) h = refl
base_kept v (host_call.Start t) h = refl
base_kept v (host_call.Answer a) h = refl
base_kept v (host_call.CompleteLoad n) h = refl
base_kept v (host_call.ToPrint length) h = refl

pub base_new : (v w : Vcpu) (c : HostCall) → renews c ≡ true → base_of v c ≡ base_of w c
unfolding base_of renews
base_new v w (host_call.New hart tree) h = refl
base_new v w host_call.Setup h = never h
base_new v w (host_call.SetEntry at) h = never h
base_new v w (host_call.GetGpr index) h = never h
base_new v w (host_call.SetGpr index value) h = never h
base_new v w (host_call.SetReturnValue value) h = never h
base_new v w (host_call.SetNestedPageTable levels mode root) h = never h
base_new v w (host_call.SetPending vector level) h = never h
base_new v w (host_call.LatchHvip bits) h = never h
base_new v w (host_call.CompleteIpi abi completion) h = never h
base_new v w (host_call.Start t) h = never h
base_new v w (host_call.Answer a) h = never h
base_new v w (host_call.CompleteLoad n) h = never h
base_new v w (host_call.ToPrint length) h = never h

new_alike : (r hart tree : ℕ) → Alike r (new_of hart tree) (new_of hart tree)
unfolding new_of
new_alike r hart tree =
    record { files = record { long = refl; long' = refl; agree = λ i n. refl }; csrs = refl; counts = refl; waiting = refl }

pub base_alike : (r : ℕ) (v w : Vcpu) (c : HostCall) → Alike r v w → Alike r (base_of v c) (base_of w c)
unfolding base_of
base_alike r v w (host_call.New hart tree) a = new_alike r hart tree
base_alike r v w host_call.Setup a = a
base_alike r v w (host_call.SetEntry at) a = a
base_alike r v w (host_call.GetGpr index) a = a
base_alike r v w (host_call.SetGpr index value) a = a
base_alike r v w (host_call.SetReturnValue value) a = a
base_alike r v w (host_call.SetNestedPageTable levels mode root) a = a
base_alike r v w (host_call.SetPending vector level) a = a
base_alike r v w (host_call.LatchHvip bits) a = a
base_alike r v w (host_call.CompleteIpi abi completion) a = a
base_alike r v w (host_call.Start t) a = a
base_alike r v w (host_call.Answer q) a = a
base_alike r v w (host_call.CompleteLoad n) a = a
base_alike r v w (host_call.ToPrint length) a = a

-- Demand 3's premise may be checked on either of the two records.
use Prim.Native.Nat.{ℕ}
use mathlib.Core.List.{List, [], ◌∷◌}
use Rattle.std.specs.Prelude.{◌≡◌, get_or, eqb, leb}
use Rattle.std.proofs.Math.Path.{refl, ap}
use Rattle.std.proofs.Common.{subst, ◌∙◌}
use Rattle.demand3_table.specs.Turns.{Turn, call, print, post}
use Rattle.scope.specs.declared.traps.Trap.{Trap}
use Rattle.isa_consts.specs.Sbi.{legacy_set_timer, legacy_putchar, legacy_send_ipi, legacy_shutdown, eid_time, eid_spi, eid_hsm, eid_hvc, eid_srst, eid_dbcn, eid_rfnc, eid_pmu}
use Rattle.scope.specs.declared.machine.Vcpu.{Vcpu}
use Rattle.scope.specs.declared.machine.Waiting.{Waiting}
use Rattle.scope.specs.Record.{is_idle}
use Rattle.demand3_table.specs.Table.{a6, a7, time_names, srst_names, spi_names, hsm_names, dbcn_names, eid_names, ecall_names, answer_names, names_of, call_names, class_names}
use Rattle.demand3_table.specs.Runs.{step_of, Apart, Untouched}
use Rattle.demand3_table.specs.Alike.{Files, Alike}
use Rattle.demand3_table.proofs.Agree.{first, rest, parted}
use Rattle.demand3.proofs.Sequences.{next_alike}
use Rattle.scope.specs.declared.decided.Class.{Class}
use Rattle.scope.specs.declared.hosts.HostCall.{HostCall}
use Rattle.scope.specs.declared.decided.Class.TheVariants as class
use Rattle.scope.specs.Classes.{class_of}
use Rattle.scope.specs.declared.hosts.HostCall.TheVariants as host_call

-- the names of a call that does not name r are the same on both records

module _ {r : ℕ} {x y : List ℕ} (f : Files r x y) where
  abbrev same : List ℕ → List ℕ
  same l = l

  eid_names_lem : (e : ℕ) → Apart r (eid_names e (get_or x a6 0)) → eid_names e (get_or x a6 0) ≡ eid_names e (get_or y a6 0)
  unfolding eid_names
  eid_names_lem e h =
      parted (eqb e legacy_set_timer) same same h (λ h. refl)
      (λ h. parted (eqb e legacy_putchar) same same h (λ h. refl)
      (λ h. parted (eqb e legacy_send_ipi) same same h (λ h. refl)
      (λ h. parted (leb e legacy_shutdown) same same h (λ h. refl)
      (λ h. parted (eqb e eid_hvc) same same h (λ h. refl)
      (λ h. parted (eqb e eid_pmu) same same h (λ h. refl)
      (λ h. parted (eqb e eid_rfnc) same same h (λ h. refl)
      (λ h. parted (eqb e eid_time) same same h (fid_names time_names)
      (λ h. parted (eqb e eid_srst) same same h (fid_names srst_names)
      (λ h. parted (eqb e eid_spi) same same h (fid_names spi_names)
      (λ h. parted (eqb e eid_hsm) same same h (fid_names hsm_names)
      (λ h. parted (eqb e eid_dbcn) same same h (fid_names dbcn_names)
      (λ h. refl))))))))))))
    where
      fid_names : (names : ℕ → List ℕ) → Apart r (a6 ∷ names (get_or x a6 0)) → a6 ∷ names (get_or x a6 0) ≡ a6 ∷ names (get_or y a6 0)
      fid_names names h = ap (λ fid. a6 ∷ names fid) (f.agree a6 (first h))

  ecall_names_lem : Apart r (ecall_names x) → ecall_names x ≡ ecall_names y
  unfolding ecall_names
  ecall_names_lem h =
      ap (λ (l : List ℕ). a7 ∷ l) (eid_names_lem (get_or x a7 0) (rest h) ∙ ap (λ e. eid_names e (get_or y a6 0)) (f.agree a7 (first h)))

  class_names_lem : (k : Class) (t : Trap) → Apart r (class_names k x t) → class_names k x t ≡ class_names k y t
  unfolding class_names
  class_names_lem class.Ecall t h = ecall_names_lem h
  class_names_lem class.VirtualInstruction t h = refl
  class_names_lem (class.PageFault k) t h = refl
  class_names_lem class.Interrupt t h = refl
  class_names_lem class.NotHandled t h = refl
  class_names_lem class.Unknown t h = refl

call_names_lem : (r : ℕ) (v w : Vcpu) (c : HostCall) → Alike r v w → Apart r (call_names v c) → call_names v c ≡ call_names w c
unfolding call_names
call_names_lem r v w (host_call.Start t) a h =
    rw (← a.waiting) (parted (is_idle v.waiting) (λ l. l) (λ l. l) h (class_names_lem a.files (class_of t.scause) t) (λ h. refl))
call_names_lem r v w (host_call.Answer n) a h = ap (λ (k : Waiting). answer_names k n) a.waiting
call_names_lem r v w host_call.Setup a h = refl
call_names_lem r v w (host_call.SetEntry at) a h = refl
call_names_lem r v w (host_call.GetGpr index) a h = refl
call_names_lem r v w (host_call.SetGpr index value) a h = refl
call_names_lem r v w (host_call.SetReturnValue value) a h = refl
call_names_lem r v w (host_call.SetNestedPageTable levels mode root) a h = refl
call_names_lem r v w (host_call.SetPending vector level) a h = refl
call_names_lem r v w (host_call.LatchHvip bits) a h = refl
call_names_lem r v w (host_call.CompleteIpi abi completion) a h = refl
call_names_lem r v w (host_call.CompleteLoad n) a h = refl
call_names_lem r v w (host_call.ToPrint length) a h = refl
call_names_lem r v w (host_call.New hart tree) a h = refl

names_alike : (r : ℕ) (v w : Vcpu) (c : Turn) → Alike r v w → Apart r (names_of v c) → names_of v c ≡ names_of w c
unfolding names_of
names_alike r v w (call c) a h = call_names_lem r v w c a h
names_alike r v w (print buffer) a h = refl
names_alike r v w (post ps) a h = refl

-- a sequence that leaves r untouched on the one record does so on the other
pub untouched_alike : (r : ℕ) (v w : Vcpu) (cs : List Turn) → Alike r v w → Untouched r v cs → Untouched r w cs
unfolding Untouched
untouched_alike r v w [] a u = tt
untouched_alike r v w (c ∷ cs) a u =
    (subst (λ (l : List ℕ). Apart r l) (names_alike r v w c a u.0) u.0, u.1, untouched_alike r (step_of v c) (step_of w c) cs (next_alike r v w a c u.0 u.1) u.2)

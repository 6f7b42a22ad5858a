-- Demand 1, a sentence each, of every call.
use Rattle.std.specs.Prelude.{ℕ, Bool, true, false, ◌≡◌, refl}
use Rattle.std.proofs.Common.{arith, ap, subst, sym, ◌∙◌}
use Rattle.scope.specs.declared.traps.Ask.{Ask}
use Rattle.scope.specs.declared.traps.Error.TheVariants as error
use Rattle.scope.specs.declared.traps.Exit.{Exit}
use Rattle.scope.specs.declared.traps.Reply.{Reply}
use Rattle.scope.specs.declared.traps.Reply.TheVariants as reply
use Rattle.scope.specs.declared.machine.Effect.{Effect}
use Rattle.scope.specs.declared.machine.Vcpu.{Vcpu}
use Rattle.scope.specs.Record.{bumped, counted, event_number, stored, applied}
use Rattle.scope.specs.Calls.{base_of, called_of, effect_of}
use Rattle.scope.specs.Refusals.{done_of, refusal, refuses}
use Rattle.scope.specs.declared.hosts.HostCall.TheVariants as host_call
use Rattle.demand3_table.proofs.Bases.{base_kept}
use Rattle.demand3_table.specs.Runs.{renews}
use Rattle.demand1.specs.Leaves.{Asked, Failed, ExitLeaves, Says, Unchanged}
use Rattle.demand1.proofs.Sound.{effect_sound}
use Rattle.scope.specs.declared.hosts.HostCall.{HostCall}
use Rattle.demand1.specs.Demand1.{Pending}

never : {A : Type 0} → false ≡ true → A
never h = let z : ◌≡◌ {A = ℕ} 0 1 = cc in absurd (omega arith)

-- a refusal leaves the record as it was

unchanged_record : (v : Vcpu) (e : Effect) → Unchanged v.csrs v.waiting e → (applied v e).vcpu ≡ v
unfolding applied stored counted bumped event_number
unchanged_record v e u =
    let same : ◌≡◌ {A = Vcpu} (record { x = stored v.x e.writes; csrs = e.csrs; counts = counted v.counts e.event; waiting = e.waiting })
    (record { x = v.x; csrs = v.csrs; counts = v.counts; waiting = v.waiting })
    = rw (u.writes, u.csrs, u.event, u.waiting)
    in same

kept : (v : Vcpu) (e : Effect) (r : Reply) → Says v.csrs v.waiting e r → refuses r ≡ true → (applied v e).vcpu ≡ v
unfolding Says Failed refuses refusal
kept v e (reply.Exit x) s h = never h
kept v e (reply.Ask a) s h = never h
kept v e reply.Done s h = never h
kept v e (reply.Value n) s h = never h
kept v e (reply.Error error.InvalidInput) s h = unchanged_record v e s
kept v e (reply.Error error.BadState) s h = unchanged_record v e s
kept v e (reply.Error error.Unsupported) s h = never h
kept v e (reply.Error error.InvalidTrap) s h = never h
kept v e (reply.Error error.DecodeFailed) s h = never h
kept v e (reply.Error error.GuestMemoryFault) s h = never h
kept v e (reply.Error error.WrongAnswer) s h = unchanged_record v e s

-- a new record is done
renewed_done : (v : Vcpu) (c : HostCall) → renews c ≡ true → (called_of v c).reply ≡ reply.Done
unfolding called_of base_of effect_of done_of applied renews
renewed_done v (host_call.New hart tree) h = refl
renewed_done v host_call.Setup h = never h
renewed_done v (host_call.SetEntry at) h = never h
renewed_done v (host_call.GetGpr index) h = never h
renewed_done v (host_call.SetGpr index value) h = never h
renewed_done v (host_call.SetReturnValue value) h = never h
renewed_done v (host_call.SetNestedPageTable levels mode root) h = never h
renewed_done v (host_call.SetPending vector level) h = never h
renewed_done v (host_call.LatchHvip bits) h = never h
renewed_done v (host_call.CompleteIpi abi completion) h = never h
renewed_done v (host_call.Start t) h = never h
renewed_done v (host_call.Answer a) h = never h
renewed_done v (host_call.CompleteLoad n) h = never h
renewed_done v (host_call.ToPrint length) h = never h

-- a refusal of any call leaves the record as it was

kept_by : (v : Vcpu) (c : HostCall) (b : Bool) → renews c ≡ b → refuses (called_of v c).reply ≡ true → (called_of v c).vcpu ≡ v
unfolding called_of applied refuses
kept_by v c true h r = never (ap refuses (sym (renewed_done v c h)) ∙ r)
kept_by v c false h r =
    ap (λ (u : Vcpu). (applied u (effect_of v c)).vcpu) (base_kept v c h) ∙ kept v (effect_of v c) (effect_of v c).reply (effect_sound v c).says r

pub refusal_keeps_the_record : (v : Vcpu) (c : HostCall) → refuses (called_of v c).reply ≡ true → (called_of v c).vcpu ≡ v
refusal_keeps_the_record v c r = kept_by v c (renews c) refl r

-- nothing waits after an exit, but a load after MmioRead
pub exit_leaves : (v : Vcpu) (c : HostCall) (x : Exit) → (called_of v c).reply ≡ reply.Exit x → ExitLeaves x (called_of v c).vcpu.waiting
unfolding called_of applied Says
exit_leaves v c x r =
    subst (λ (y : Reply). Says v.csrs v.waiting (effect_of v c) y) r (effect_sound v c).says

asked_pending : (v : Vcpu) (a : Ask) (e : Effect) → Asked v.csrs a e → Pending v a (applied v e).vcpu
unfolding applied stored
asked_pending v a e s = record { waits = s.waits; x = ap (λ w. stored v.x w) s.writes; csrs = s.csrs }

asks : Reply → Bool
asks (reply.Exit x) = false
asks (reply.Ask a) = true
asks reply.Done = false
asks (reply.Value n) = false
asks (reply.Error e) = false

asks_by : (v : Vcpu) (c : HostCall) (a : Ask) (b : Bool) → renews c ≡ b → (called_of v c).reply ≡ reply.Ask a → Pending v a (called_of v c).vcpu
unfolding called_of applied Says asks
asks_by v c a true h r = never (ap asks (sym (renewed_done v c h) ∙ r))
asks_by v c a false h r =
    subst (λ (u : Vcpu). Pending v a (applied u (effect_of v c)).vcpu) (sym (base_kept v c h))
    (asked_pending v a (effect_of v c) (subst (λ (y : Reply). Says v.csrs v.waiting (effect_of v c) y) r (effect_sound v c).says))

pub ask_waits : (v : Vcpu) (c : HostCall) (a : Ask) → (called_of v c).reply ≡ reply.Ask a → Pending v a (called_of v c).vcpu
ask_waits v c a r = asks_by v c a (renews c) refl r

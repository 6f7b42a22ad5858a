-- Which calls touch hvip: every other case of HostCall leaves it. (A row of posts touches nothing else: Posts.antt.) 01, The record and
-- Ecalls; 02, W1.
use Rattle.std.specs.Prelude.{ℕ, Bool, true, false, ◌≡◌, eqb, get_or}
use Rattle.isa_consts.specs.Sbi.{eid_time, legacy_clear_ipi, legacy_set_timer}
use Rattle.isa_consts.specs.Traps.{env_call_from_vs}
use Rattle.isa_types.specs.Pick.{and, or}
use Rattle.scope.specs.Record.{is_idle}
use Rattle.scope.specs.declared.hosts.HostCall.TheVariants as host_call
use Rattle.scope.specs.declared.hosts.HostCall.{HostCall}
use Rattle.scope.specs.declared.machine.Vcpu.{Vcpu}

-- hvip is what it was
abbrev pub HvipKept : Vcpu → Vcpu → Type 0
HvipKept v u = u.csrs.hs.hvip ≡ v.csrs.hs.hvip

-- legacy 0 and TIME fid 0, which clear bit 6, and legacy 3, which clears bit 2
unfoldable pub ecall_touches : ℕ → ℕ → Bool
ecall_touches eid fid = or (eqb eid legacy_set_timer) (or (eqb eid legacy_clear_ipi) (and (eqb eid eid_time) (eqb fid 0)))

-- a new record and setup, which leave 0; an interrupt set pending or cleared, and latching; three ecalls, unless something waits and
-- the start is refused. eid is a7 (x17), fid a6 (x16)
unfoldable pub touches_hvip : Vcpu → HostCall → Bool
touches_hvip v (host_call.New hart tree) = true
touches_hvip v host_call.Setup = true
touches_hvip v (host_call.SetPending vector level) = true
touches_hvip v (host_call.LatchHvip bits) = true
touches_hvip v (host_call.Start t) =
    and (eqb t.scause env_call_from_vs) (and (is_idle v.waiting) (ecall_touches (get_or v.x 17 0) (get_or v.x 16 0)))
touches_hvip v (host_call.SetEntry at) = false
touches_hvip v (host_call.GetGpr index) = false
touches_hvip v (host_call.SetGpr index value) = false
touches_hvip v (host_call.SetReturnValue value) = false
touches_hvip v (host_call.SetNestedPageTable levels mode root) = false
touches_hvip v (host_call.CompleteIpi abi completion) = false
touches_hvip v (host_call.Answer a) = false
touches_hvip v (host_call.CompleteLoad n) = false
touches_hvip v (host_call.ToPrint length) = false

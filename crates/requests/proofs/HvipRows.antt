-- What the calls that touch hvip are not: every other ecall leaves it, row by row.
use Rattle.std.specs.Prelude.{ℕ, Bool, true, false, ◌≡◌, refl, eqb}
use Rattle.isa_consts.specs.Csr.{console_room}
use Rattle.isa_consts.specs.Sbi.{eid_dbcn, eid_hsm, eid_hvc, eid_rfnc, eid_spi, eid_srst, eid_time, legacy_clear_ipi, legacy_fence_i, legacy_getchar, legacy_putchar, legacy_send_ipi, legacy_set_timer, legacy_sfence_vma, legacy_sfence_vma_asid, legacy_shutdown}
use Rattle.isa_types.specs.Pick.{and, never, or, pick}
use Rattle.isa_types.specs.declared.GuestPhysAddr.{GuestPhysAddr}
use Rattle.scope.specs.Ecalls.{asks_of, console_effect, dbcn_effect, ecall_effect, forward_effect, hsm_effect, hypercall_of, lesser_of, moves_of, not_supported_effect, returns_of, rfnc_effect, span_effect, spi_effect, srst_effect, stays_of, time_effect}
use Rattle.scope.specs.Record.{moved}
use Rattle.scope.specs.Refusals.{asking_of, finished_of}
use Rattle.scope.specs.declared.machine.Csrs.{Csrs}
use Rattle.scope.specs.declared.machine.Effect.{Effect}
use Rattle.scope.specs.declared.traps.Args.{Args}
use Rattle.requests.specs.Kept.{Keeps}
use Rattle.requests.proofs.Kept.{either}
use Rattle.requests.specs.Hvip.{ecall_touches}

-- it does not move with sepc, vstimecmp or hgatp

abbrev pub hvip_of : Csrs → ℕ
hvip_of c = c.hs.hvip

abbrev pub KeepsHvip : Csrs → Effect → Type 0
KeepsHvip c e = Keeps hvip_of c e

one : {c : Csrs} (b : Bool) {e f : Effect} → KeepsHvip c e → KeepsHvip c f → KeepsHvip c (pick b e f)
one b k l = either hvip_of b k l

-- a test that fails
past : {c : Csrs} (b : Bool) (e : Effect) {f : Effect} → b ≡ false → KeepsHvip c f → KeepsHvip c (pick b e f)
past true e h k = never h
past false e h k = k

-- two that do not hold at once
past_both : {c : Csrs} (b d : Bool) (e : Effect) {f g : Effect} → and b d ≡ false → KeepsHvip c f → KeepsHvip c g → KeepsHvip c (pick b (pick d e f) g)
past_both true true e h k l = never h
past_both true false e h k l = k
past_both false d e h k l = l

left : (b d : Bool) → or b d ≡ false → b ≡ false
left true d h = never h
left false d h = refl

right : (b d : Bool) → or b d ≡ false → d ≡ false
right true d h = never h
right false d h = h

-- ecalls

span_keeps : (c : Csrs) (write : Bool) (at : GuestPhysAddr) (n : ℕ) → KeepsHvip c (span_effect c write at n)
unfolding span_effect returns_of asks_of finished_of asking_of moved
span_keeps c write at n =
    one (eqb n 0) (record { kept = refl }) (one write (record { kept = refl }) (record { kept = refl }))

console_keeps : (c : Csrs) (write : Bool) (a : Args) (room : ℕ) → KeepsHvip c (console_effect c write a room)
unfolding console_effect returns_of finished_of moved
console_keeps c write a room =
    one (eqb a.a0 0) (record { kept = refl }) (one (eqb a.a2 0) (span_keeps c write _ _) (record { kept = refl }))

dbcn_keeps : (c : Csrs) (fid : ℕ) (a : Args) (room : ℕ) → KeepsHvip c (dbcn_effect c fid a room)
unfolding dbcn_effect asks_of asking_of not_supported_effect returns_of finished_of moved
dbcn_keeps c fid a room =
    one (eqb fid 0) (console_keeps c true a room)
    (one (eqb fid 1) (console_keeps c false a room) (one (eqb fid 2) (record { kept = refl }) (record { kept = refl })))

rfnc_keeps : (c : Csrs) (eid fid : ℕ) (a : Args) → KeepsHvip c (rfnc_effect c eid fid a)
unfolding rfnc_effect forward_effect asking_of
rfnc_keeps c eid fid a =
    one (eqb fid 0) (record { kept = refl })
    (one (eqb fid 1) (record { kept = refl })
    (one (eqb fid 2) (record { kept = refl })
    (one (eqb fid 3) (record { kept = refl })
    (one (eqb fid 4) (record { kept = refl })
    (one (eqb fid 5) (record { kept = refl })
    (one (eqb fid 6) (record { kept = refl }) (record { kept = refl })))))))

pub ecall_keeps : (c : Csrs) (eid fid : ℕ) (a : Args) (room : ℕ) → ecall_touches eid fid ≡ false → KeepsHvip c (ecall_effect c eid fid a room)
unfolding ecall_touches ecall_effect asks_of asking_of moves_of stays_of finished_of moved time_effect spi_effect hsm_effect srst_effect hypercall_of forward_effect not_supported_effect returns_of
ecall_keeps c eid fid a room h =
    let rest = right (eqb eid legacy_set_timer) _ h in
    past (eqb eid legacy_set_timer) _ (left (eqb eid legacy_set_timer) _ h)
    (one (eqb eid legacy_putchar) (record { kept = refl })
    (one (eqb eid legacy_getchar) (record { kept = refl })
    (past (eqb eid legacy_clear_ipi) _ (left (eqb eid legacy_clear_ipi) _ rest)
    (one (eqb eid legacy_send_ipi) (record { kept = refl })
    (one (eqb eid legacy_fence_i) (record { kept = refl })
    (one (eqb eid legacy_sfence_vma) (record { kept = refl })
    (one (eqb eid legacy_sfence_vma_asid) (record { kept = refl })
    (one (eqb eid legacy_shutdown) (record { kept = refl })
    (past_both (eqb eid eid_time) (eqb fid 0) _ (right (eqb eid legacy_clear_ipi) _ rest) (record { kept = refl })
    (one (eqb eid eid_spi) (one (eqb fid 0) (record { kept = refl }) (record { kept = refl }))
    (one (eqb eid eid_hsm)
    (one (eqb fid 0) (record { kept = refl }) (one (eqb fid 1) (record { kept = refl }) (one (eqb fid 3) (record { kept = refl }) (record { kept = refl }))))
    (one (eqb eid eid_hvc) (record { kept = refl })
    (one (eqb eid eid_srst)
    (one (eqb fid 0) (one (eqb a.a0 0) (record { kept = refl }) (record { kept = refl })) (record { kept = refl }))
    (one (eqb eid eid_dbcn) (dbcn_keeps c fid a (lesser_of room console_room))
    (one (eqb eid eid_rfnc) (rfnc_keeps c eid fid a) (record { kept = refl }))))))))))))))))

-- 02, W1: legacy 0 and TIME fid 0 clear hvip bit 6 as well as set vstimecmp. A CSR write to stimecmp still changes no hvip bit.
use Rattle.std.specs.Prelude.{ℕ, Bool, false, List, ◌≡◌, refl, eqb, get_or}
use Rattle.std.proofs.Common.{ap, ap₂, sym, subst, ◌∙◌}
use Rattle.isa_consts.specs.Sbi.{eid_time, legacy_set_timer}
use Rattle.isa_consts.specs.Traps.{env_call_from_vs, virtual_instruction}
use Rattle.isa_types.specs.Pick.{and, pick}
use Rattle.scope.specs.Calls.{base_of, called_of, effect_of}
use Rattle.scope.specs.Classes.{arguments_of, class_effect, class_of, start_effect}
use Rattle.scope.specs.Ecalls.{ecall_effect, time_effect}
use Rattle.scope.specs.Record.{applied, is_idle}
use Rattle.scope.specs.Refusals.{refused_of}
use Rattle.scope.specs.Words.{unpack_of}
use Rattle.scope.specs.declared.hosts.HostCall.TheVariants as host_call
use Rattle.scope.specs.declared.hosts.HostCall.{HostCall}
use Rattle.scope.specs.declared.machine.Record.{Record}
use Rattle.scope.specs.declared.machine.Vcpu.{Vcpu}
use Rattle.scope.specs.declared.traps.Answer.{Answer}
use Rattle.scope.specs.declared.traps.Error.TheVariants as error
use Rattle.scope.specs.declared.traps.Trap.{Trap}
use Rattle.by_value_lent.specs.Lent.{Stored}
use Rattle.by_value_lent.specs.declared.Given.{Given}
use Rattle.words_call.specs.declared.CallWords.{CallWords}
use Rattle.words_call.specs.declared.ReplyWords.{ReplyWords}
use Rattle.words_call.specs.Words.{call_of}
use Rattle.words_entry.specs.Words.{Exported, exported_of}
use Rattle.in_place_record.specs.View.{Done, Made, view_of}
use Rattle.demands_words.specs.Left.{Sized}
use Rattle.demands_words.proofs.Left.{left_shows}
use Rattle.requests.specs.Hvip.{ecall_touches, touches_hvip}
use Rattle.requests.proofs.Hvip.{hvip_kept}
use Rattle.requests.specs.SetTimer.{Ecalls, TickDropped, W1}
use Rattle.requests.proofs.TickDropped.{dropped}

-- the two calls

called : (v : Vcpu) (t : Trap) → Ecalls v t
    → (called_of v (host_call.Start t)).vcpu.csrs ≡ (ecall_effect v.csrs (get_or v.x 17 0) (get_or v.x 16 0) (arguments_of v.x) t.room).csrs
unfolding called_of base_of effect_of applied start_effect class_of class_effect
called v t h =
    ap (λ (b : Bool). (pick b (class_effect (class_of t.scause) v.x v.csrs t) (refused_of v.csrs v.waiting error.BadState)).csrs) h.idle
    ∙ ap (λ (n : ℕ). (class_effect (class_of n) v.x v.csrs t).csrs) h.cause

legacy_0_drops : (v : Vcpu) (t : Trap) → Ecalls v t → get_or v.x 17 0 ≡ legacy_set_timer → TickDropped v (called_of v (host_call.Start t)).vcpu
unfolding ecall_effect arguments_of
legacy_0_drops v t h eid =
    dropped v (called_of v (host_call.Start t)).vcpu _
    (called v t h ∙ ap (λ (n : ℕ). (ecall_effect v.csrs n (get_or v.x 16 0) (arguments_of v.x) t.room).csrs) eid)

time_0_drops : (v : Vcpu) (t : Trap) → Ecalls v t → get_or v.x 17 0 ≡ eid_time → get_or v.x 16 0 ≡ 0 → TickDropped v (called_of v (host_call.Start t)).vcpu
unfolding ecall_effect time_effect arguments_of
time_0_drops v t h eid fid =
    dropped v (called_of v (host_call.Start t)).vcpu _
    (called v t h ∙ ap₂ (λ (n m : ℕ). (ecall_effect v.csrs n m (arguments_of v.x) t.room).csrs) eid fid)

-- a stimecmp instruction is none of the calls that touch hvip

virtual_elsewhere : (v : Vcpu) (t : Trap) → t.scause ≡ virtual_instruction → touches_hvip v (host_call.Start t) ≡ false
unfolding touches_hvip
virtual_elsewhere v t cause =
    ap (λ (n : ℕ). and (eqb n env_call_from_vs) (and (is_idle v.waiting) (ecall_touches (get_or v.x 17 0) (get_or v.x 16 0)))) cause

answer_elsewhere : (v : Vcpu) (a : Answer) → touches_hvip v (host_call.Answer a) ≡ false
unfolding touches_hvip
answer_elsewhere v a = refl

-- by value, for every record and call
pub w1 : (v : Vcpu) (c : HostCall) → W1 v (called_of v c).vcpu c
w1 v c =
    record {
      legacy_0 = λ t e h eid. subst (λ (c : HostCall). TickDropped v (called_of v c).vcpu) (sym e) (legacy_0_drops v t h eid);
      time_0 = λ t e h eid fid. subst (λ (c : HostCall). TickDropped v (called_of v c).vcpu) (sym e) (time_0_drops v t h eid fid);
      stval = λ t e cause. hvip_kept v c (ap (touches_hvip v) e ∙ virtual_elsewhere v t cause);
      fetched = λ a e. hvip_kept v c (ap (touches_hvip v) e ∙ answer_elsewhere v a);
      elsewhere = hvip_kept v c;
    }

-- over a lent record, by its promise
pub w1_lent : (v w : Vcpu) (c : HostCall) (g : Given) → Stored v c w g → W1 v w c
w1_lent v w c g s = subst (λ (u : Vcpu). W1 v u c) (sym s.0) (w1 v c)

-- over words, by its promise
pub w1_words : (r s : Record) (c : CallWords) (g : ReplyWords) → Sized r → Exported r c s g → W1 (unpack_of r) (unpack_of s) (call_of c)
unfolding exported_of
w1_words r s c g z x =
    subst (λ (u : Vcpu). W1 (unpack_of r) u (call_of c)) (sym (ap unpack_of x.0 ∙ left_shows r (call_of c) z)) (w1 (unpack_of r) (call_of c))

-- in place, by the promise of a call that is lent words for its reply, and of one that is not
pub w1_place : (r s p : List ℕ) (c : HostCall) (w : ℕ) → Made r c s p w → W1 (view_of r) (view_of s) c
w1_place r s p c w m = subst (λ (u : Vcpu). W1 (view_of r) u c) (sym m.shows) (w1 (view_of r) c)

pub w1_host : (r s : List ℕ) (c : HostCall) (w : ℕ) → Done r c s w → W1 (view_of r) (view_of s) c
w1_host r s c w d = subst (λ (u : Vcpu). W1 (view_of r) u c) (sym d.shows) (w1 (view_of r) c)

-- 02, W1: legacy 0 and TIME fid 0 clear hvip bit 6 as well as set vstimecmp. A CSR write to stimecmp still changes no hvip bit.
use Rattle.std.specs.Prelude.{ℕ, ◌<◌, true, false, ◌≡◌, eqb, get_or}
use Rattle.isa_consts.specs.Sbi.{eid_time, legacy_set_timer}
use Rattle.isa_consts.specs.Traps.{env_call_from_vs, virtual_instruction}
use Rattle.isa_registers.specs.BitLaws.{bit_of}
use Rattle.isa_types.specs.Pick.{pick}
use Rattle.scope.specs.Record.{is_idle}
use Rattle.scope.specs.declared.hosts.HostCall.TheVariants as host_call
use Rattle.scope.specs.declared.hosts.HostCall.{HostCall}
use Rattle.scope.specs.declared.machine.Vcpu.{Vcpu}
use Rattle.scope.specs.declared.traps.Answer.{Answer}
use Rattle.scope.specs.declared.traps.Trap.{Trap}
use Rattle.requests.specs.Hvip.{HvipKept, touches_hvip}

-- from record v to record u: vstimecmp is a0, hvip bit 6 is 0, and every other of its 64 bits is what it was
pub record TickDropped (v u : Vcpu) : Type 0 where
  pub timer : u.csrs.vs.vstimecmp ≡ get_or v.x 10 0
  pub bits : (i : ℕ) → i < 64 → bit_of u.csrs.hs.hvip i ≡ pick (eqb i 6) 0 (bit_of v.csrs.hs.hvip i)

-- an ecall of the guest's, where no ask and no load waits (else its start is refused)
pub record Ecalls (v : Vcpu) (t : Trap) : Type 0 where
  pub idle : is_idle v.waiting ≡ true
  pub cause : t.scause ≡ env_call_from_vs

-- the request, of any call c on any record v that leaves u. eid is a7 (x17), fid a6 (x16). A stimecmp instruction comes in stval, or is
-- fetched: the two lines about it hold of every virtual instruction and every answer. "Nothing else moves": the last line says that no
-- call touches hvip but those that `touches_hvip` lists; that their own rows stayed is seen from the change alone
pub record W1 (v u : Vcpu) (c : HostCall) : Type 0 where
  pub legacy_0 : (t : Trap) → c ≡ host_call.Start t → Ecalls v t → get_or v.x 17 0 ≡ legacy_set_timer → TickDropped v u
  pub time_0 : (t : Trap) → c ≡ host_call.Start t → Ecalls v t → get_or v.x 17 0 ≡ eid_time → get_or v.x 16 0 ≡ 0 → TickDropped v u
  pub stval : (t : Trap) → c ≡ host_call.Start t → t.scause ≡ virtual_instruction → HvipKept v u
  pub fetched : (a : Answer) → c ≡ host_call.Answer a → HvipKept v u
  pub elsewhere : touches_hvip v c ≡ false → HvipKept v u

-- 01, Marked cases: one table, computed by the checker over the definitions that the calls are proved equal to.
use Rattle.std.specs.Prelude.{ℕ, ◌+◌, ◌-◌, ◌^◌, Bool, true, false, List, [], ◌∷◌, get_or, set, replicate, eqb, T}
use Rattle.isa_types.specs.Pick.{and}
use Rattle.scope.specs.declared.hosts.HostCall.TheVariants as host_call
use Rattle.scope.specs.Ecalls.{ecall_effect, time_effect, spi_effect, hsm_effect, srst_effect, span_effect, console_effect, dbcn_effect, rfnc_effect, forward_effect, not_supported_effect, moves_of, set_timer_of, stays_of}
use Rattle.scope.specs.OneTrap.{abi_number, access_number, answer_number, ask_number, exit_number, width_bytes, exit_values}
use Rattle.scope.specs.Refusals.{error_number, asking_of, done_of, failed_of, finished_of, refused_of, unless_asking, leaves_of}
use Rattle.scope.specs.declared.traps.Answer.TheVariants as answer
use Rattle.scope.specs.declared.traps.Fetch.TheVariants as fetch
use Rattle.scope.specs.declared.traps.Reply.{Reply}
use Rattle.scope.specs.declared.traps.Reply.TheVariants as reply
use Rattle.scope.specs.declared.traps.Trap.{Trap}
use Rattle.isa_consts.specs.Traps.{known_cause, known_exception, known_interrupt}
use Rattle.isa_registers.specs.Bits.{sie_of, spvp_of, with_bits}
use Rattle.isa_registers.specs.Values.{guest_page_fault_addr, hgatp_of}
use Rattle.isa_fields.specs.Fields.{csr_field, funct3_field, opcode_field, rd_field, rs1_field, rs2_field}
use Rattle.isa_decoder.specs.Decode as decode
use Rattle.isa_decoder.specs.Length as length_rule
use Rattle.isa_extension.specs.Extend.{cut_of, extend_by, extend_of, signed_by, width_bits}
use Rattle.scope.specs.declared.machine.Outcome.{Outcome}
use Rattle.scope.specs.declared.machine.Vcpu.{Vcpu}
use Rattle.scope.specs.Record.{bumped, counted, event_number, is_idle, listed, moved, pended, stored, timed, value_of, waiting_ask, applied, no_args, ecall_ask_number}
use Rattle.scope.specs.VirtualInstruction.{ask_fetch_of, injected_of, missed_effect, missed_of, trap_status_of, virtual_effect, clear_bits, set_bits, stimecmp_by, stimecmp_effect, stimecmp_stval, stimecmp_word}
use Rattle.scope.specs.GuestPageFault.{fault_effect, fault_of, load_under, store_under, completed_of, mmio_of, page_fault_of}
use Rattle.scope.specs.Host.{paging_by, paging_effect, setup_csrs, table_csrs}
use Rattle.scope.specs.Classes.{arguments_of, start_effect, class_of, class_effect}
use Rattle.scope.specs.Answers.{values_effect, answer_effect, fitting_effect, fetch_effect, word_effect}
use Rattle.scope.specs.Calls.{base_of, new_of, called_of, effect_of}

-- a record as new and setup leave it, but for sepc, the timer and the registers given
unfoldable base : ℕ → ℕ → List ℕ → Vcpu
base sepc timer x =
    let v = (called_of (new_of 0 0) host_call.Setup).vcpu in
    record {
      x = x;
      csrs =
          record {
            guest = record { sepc = sepc; sstatus = v.csrs.guest.sstatus; hstatus = v.csrs.guest.hstatus };
            vs = (timed v.csrs timer).vs;
            hs = v.csrs.hs;
          };
      counts = v.counts;
      waiting = v.waiting;
    }

-- registers of zeros but for one
abbrev one : ℕ → ℕ → List ℕ
one i n = set (replicate 32 0) i n

-- an ecall with this eid and a0
abbrev ecall : ℕ → ℕ → List ℕ
ecall eid a0 = set (one 17 eid) 10 a0

abbrev trap : ℕ → ℕ → ℕ → ℕ → Trap
trap scause stval htval htinst = record { scause = scause; stval = stval; htval = htval; htinst = htinst; room = 4096 }

-- an exit's number and what it carries; an error as 0x100 plus its number, an ask as 0x200 plus its number
unfoldable code : Reply → List ℕ
code (reply.Exit x) = exit_number x ∷ exit_values x
code (reply.Ask a) = (0x200 + ask_number a) ∷ []
code reply.Done = 0x300 ∷ []
code (reply.Value n) = 0x400 ∷ n ∷ []
code (reply.Error e) = (0x100 + error_number e) ∷ []

-- sepc, vstimecmp, and the reply
unfoldable shown : Outcome → List ℕ
shown o = o.vcpu.csrs.guest.sepc ∷ o.vcpu.csrs.vs.vstimecmp ∷ code o.reply

-- vsstatus, sstatus and hstatus before these
abbrev status : Outcome → List ℕ
status o = o.vcpu.csrs.vs.vsstatus ∷ o.vcpu.csrs.guest.sstatus ∷ o.vcpu.csrs.guest.hstatus ∷ shown o

abbrev register : Outcome → ℕ → ℕ
register o i = get_or o.vcpu.x i 0

-- a virtual instruction, with vstimecmp 7
abbrev csr_trap : List ℕ → ℕ → Outcome
csr_trap x word = called_of (base 0x1000 7 x) (host_call.Start (trap 22 word 0 0))

-- a guest page fault at 0x10000000
abbrev fault : ℕ → List ℕ → ℕ → Outcome
fault scause x htinst = called_of (base 0x1000 7 x) (host_call.Start (trap scause 0 0x400_0000 htinst))

-- a load's completion
abbrev loaded : ℕ → Outcome
loaded htinst = called_of (fault 21 (replicate 32 0) htinst).vcpu (host_call.CompleteLoad 0x8000_0000)

-- the record of case 12, with this hstatus, before a virtual instruction whose word has to be fetched; sstatus bit 8 is clear
unfoldable twelve : ℕ → Vcpu
twelve hstatus =
    let v = base 0x1000 7 (replicate 32 0) in
    let c = v.csrs in
    record {
      x = v.x;
      csrs =
          record {
            guest = record { sepc = c.guest.sepc; sstatus = 0x2000; hstatus = hstatus };
            vs =
                record { vsstatus = 2; vstvec = 0x8020_0001; vsepc = 0; vscause = 0; vstval = 0; vstimecmp = c.vs.vstimecmp };
            hs = c.hs;
          };
      counts = v.counts;
      waiting = v.waiting;
    }

abbrev injected : ℕ → Outcome
injected hstatus = called_of (called_of (twelve hstatus) (host_call.Start (trap 22 0 0 0))).vcpu (host_call.Answer (answer.Fetched (fetch.Page (record { 0 = 0x1000 }))))

-- what was got, beside what 01 says
record Row : Type 0 where
  got : List ℕ
  wanted : List ℕ

row : List ℕ → List ℕ → Row
row g w = record { got = g; wanted = w }

marked : List Row
marked =
    -- 1. TIME, a0 = 5, sepc 2^64 - 4: vstimecmp 5, sepc 0
    row (shown (called_of (base (2 ^ 64 - 4) 7 (ecall 0x5449_4D45 5)) (host_call.Start (trap 10 0 0 0)))) (0 ∷ 5 ∷ 0 ∷ 0 ∷ 0 ∷ 0 ∷ [])
    -- 2. legacy 6: a0 kept
    ∷ row (register (called_of (base 0x1000 7 (ecall 6 77)) (host_call.Start (trap 10 0 0 0))) 10 ∷ []) (77 ∷ [])
    -- 3. legacy 8: SystemDown
    ∷ row (shown (called_of (base 0x1000 7 (ecall 8 0)) (host_call.Start (trap 10 0 0 0)))) (0x1000 ∷ 7 ∷ 7 ∷ 0 ∷ 0 ∷ 0 ∷ [])
    -- 4. 0x14D292F3, vstimecmp 7, x5 = 9: x5 = 7, vstimecmp 9
    ∷ row (register (csr_trap (one 5 9) 0x14D2_92F3) 5 ∷ shown (csr_trap (one 5 9) 0x14D2_92F3)) (7 ∷ 0x1004 ∷ 9 ∷ 0 ∷ 0 ∷ 0 ∷ 0 ∷ [])
    -- 5. 0x14D02373: x6 gets old, no write
    ∷ row (register (csr_trap (one 6 9) 0x14D0_2373) 6 ∷ shown (csr_trap (one 6 9) 0x14D0_2373)) (7 ∷ 0x1004 ∷ 7 ∷ 0 ∷ 0 ∷ 0 ∷ 0 ∷ [])
    -- 6. 0x14D1F073, vstimecmp 7: 4
    ∷ row (shown (csr_trap (replicate 32 0) 0x14D1_F073)) (0x1004 ∷ 4 ∷ 0 ∷ 0 ∷ 0 ∷ 0 ∷ [])
    -- 7. 0x14D04073: error 3, event 2
    ∷ row (get_or (csr_trap (replicate 32 0) 0x14D0_4073).vcpu.counts 1 0 ∷ shown (csr_trap (replicate 32 0) 0x14D0_4073)) (1 ∷ 0x1000 ∷ 7 ∷ 0x103 ∷ [])
    -- 8. htinst 0x3000: error 3; 0x2000: error 5
    ∷ row (shown (fault 21 (replicate 32 0) 0x3000)) (0x1000 ∷ 7 ∷ 0x103 ∷ [])
    ∷ row (shown (fault 21 (replicate 32 0) 0x2000)) (0x1000 ∷ 7 ∷ 0x105 ∷ [])
    -- 9. htinst 0x702023, x7 = 0xFFFFFFFF12345678: write 0x12345678, width 4, at 0x10000000; 0x702021 moves on 2
    ∷ row (shown (fault 23 (one 7 0xFFFF_FFFF_1234_5678) 0x70_2023)) (0x1004 ∷ 7 ∷ 10 ∷ 0x1000_0000 ∷ 4 ∷ 0x1234_5678 ∷ [])
    ∷ row (shown (fault 23 (one 7 0xFFFF_FFFF_1234_5678) 0x70_2021)) (0x1002 ∷ 7 ∷ 10 ∷ 0x1000_0000 ∷ 4 ∷ 0x1234_5678 ∷ [])
    -- 10. completion 0x80000000: 0x2383 gives x7 0xFFFFFFFF80000000, 0x6383 gives 0x80000000
    ∷ row (register (loaded 0x2383) 7 ∷ []) (0xFFFF_FFFF_8000_0000 ∷ [])
    ∷ row (register (loaded 0x6383) 7 ∷ []) (0x8000_0000 ∷ [])
    -- 11. levels 3, mode 8, root 0x80004000: hgatp 0x8000000000080004
    ∷ row ((called_of (base 0 0 (replicate 32 0)) (host_call.SetNestedPageTable 3 8 0x8000_4000)).vcpu.csrs.hs.hgatp ∷ []) (0x8000_0000_0008_0004 ∷ [])
    -- 12. vstvec 0x80200001, vsstatus 2, hstatus bit 8 set, page fault: vsstatus 0x120, sepc 0x80200000; sstatus bit 8 set (02, W5)
    ∷ row (status (injected 0x180)) (0x120 ∷ 0x2100 ∷ 0x180 ∷ 0x8020_0000 ∷ 7 ∷ 0 ∷ 0 ∷ 0 ∷ 0 ∷ [])
    -- the same of user code, hstatus bit 8 clear: vsstatus 0x20
    ∷ row (status (injected 0x80)) (0x20 ∷ 0x2100 ∷ 0x80 ∷ 0x8020_0000 ∷ 7 ∷ 0 ∷ 0 ∷ 0 ∷ 0 ∷ [])
    ∷ []

equal : List ℕ → List ℕ → Bool
equal [] [] = true
equal [] (b ∷ bs) = false
equal (a ∷ ls) [] = false
equal (a ∷ ls) (b ∷ bs) = and (eqb a b) (equal ls bs)

all : List Row → Bool
all [] = true
all (r ∷ rs) = and (equal r.got r.wanted) (all rs)

-- the whole table
cases : T (all marked)
unfolding all equal marked row shown code base twelve called_of base_of effect_of new_of unless_asking start_effect class_of class_effect ecall_effect virtual_effect mmio_of page_fault_of arguments_of answer_effect fitting_effect values_effect fetch_effect word_effect paging_by paging_effect setup_csrs table_csrs completed_of fault_effect fault_of load_under store_under ask_fetch_of injected_of missed_effect missed_of trap_status_of moves_of set_timer_of stays_of applied asking_of done_of failed_of finished_of no_args refused_of bumped counted event_number is_idle listed moved pended stored timed value_of waiting_ask cut_of extend_by extend_of signed_by width_bits decode.decode_of decode.decode_by decode.load_of decode.store_of length_rule.htinst_of length_rule.transformed_of length_rule.store_source length_rule.op_source csr_field funct3_field opcode_field rd_field rs1_field rs2_field sie_of spvp_of with_bits guest_page_fault_addr hgatp_of known_cause known_exception known_interrupt exit_values exit_number ask_number error_number answer_number access_number width_bytes abi_number time_effect spi_effect hsm_effect srst_effect span_effect console_effect dbcn_effect rfnc_effect forward_effect not_supported_effect stimecmp_stval stimecmp_word stimecmp_by set_bits clear_bits stimecmp_effect leaves_of ecall_ask_number
cases = tt

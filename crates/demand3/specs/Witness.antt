-- Demand 3 is not vacuous: closed examples, computed by the checker. Sequences meet its premises with r different before and
-- after, among them one that starts with an ask waiting, with a refused call and a register read out, and one whose fetch waits at
-- the start; in one r is written and agrees from then on; and in rows of the reading table two records that differ in a named
-- register come out differently.
use Rattle.std.specs.Prelude.{ℕ, true, List, [], ◌∷◌, ◌≡◌, refl, set, length, replicate}
use Rattle.std.proofs.Common.{sym, ◌∙◌, length-set, get_or-set_other}
use Rattle.scope.specs.Host.{pending_effect, hvip_bit_of}
use Rattle.isa_consts.specs.Traps.{supervisor_external}
use Rattle.scope.specs.Words.{tested}
use Rattle.scope.specs.Posts.{post_call, one_by_one, row_of, posted_of}
use Rattle.scope.specs.ReplyWords.{reply_number}
use Rattle.demand3_table.specs.Turns.{Turn, call, post, print}
use Rattle.scope.specs.Ecalls.{ecall_effect, time_effect, spi_effect, hsm_effect, srst_effect, span_effect, console_effect, dbcn_effect, rfnc_effect, forward_effect, not_supported_effect, standard_request, lesser_of, returns_of, moves_of, stays_of, asks_of, set_timer_of, hypercall_of, console_read_effect, copied_effect, copied_out_effect, ecall_answer, gives_of}
use Rattle.scope.specs.OneTrap.{answer_number, answer_values, exit_number, ask_number, flag_of}
use Rattle.scope.specs.Refusals.{error_number, finished_of, asking_of, failed_of, refused_of, done_of, leaves_of, unless_asking, refuses, refusal}
use Rattle.scope.specs.declared.traps.Access.TheVariants as access
use Rattle.scope.specs.declared.traps.Answer.TheVariants as answers
use Rattle.scope.specs.declared.traps.Ask.TheVariants as ask
use Rattle.scope.specs.declared.traps.Exit.TheVariants as exit
use Rattle.scope.specs.declared.traps.Fetch.TheVariants as fetch
use Rattle.scope.specs.declared.traps.Reply.TheVariants as reply
use Rattle.scope.specs.declared.traps.Trap.{Trap}
use Rattle.isa_types.specs.declared.Width.TheVariants as width
use Rattle.isa_consts.specs.Sbi.{eid_spi, eid_hsm, eid_hvc, eid_dbcn, eid_rfnc}
use Rattle.isa_registers.specs.Bits.{spvp_of, sie_of, with_bits}
use Rattle.isa_registers.specs.Values.{guest_page_fault_addr}
use Rattle.isa_decoder.specs.Laws.{store_source_absent, store_source_store}
use Rattle.isa_decoder.specs.Examples.{lw_x7, sw_x7, absent, c_lwsp_x7, c_sw_x9, c_sdsp_x7, long_5, long_6, cut_5, cut_6, csrrw_opcode, csrrw_csr, csrrw_funct3, csrrw_rs1, zero_opcode}
use Rattle.scope.specs.declared.machine.Vcpu.{Vcpu}
use Rattle.scope.specs.Record.{value_of, stored, moved, timed, pended, event_number, bumped, counted, waiting_ask, is_idle, listed, applied, no_args, ecall_ask_number}
use Rattle.scope.specs.VirtualInstruction.{ask_fetch_of, missed_of, trap_status_of, injected_of, missed_effect, virtual_effect, clear_bits, set_bits, stimecmp_by, stimecmp_effect, stimecmp_stval, stimecmp_word}
use Rattle.scope.specs.GuestPageFault.{load_under, store_under, fault_of, fault_effect, completed_of, mmio_of, page_fault_of}
use Rattle.scope.specs.Classes.{arguments_of, start_effect, class_of, class_effect}
use Rattle.scope.specs.Calls.{print_count, base_of, fitted, printable, printed_of, called_of, effect_of, asked_count, gpr_reply}
use Rattle.demand3_table.specs.Table.{a0, a1, a2, a5, a7, source_names, forward_names, time_names, srst_names, spi_names, hsm_names, console_names, byte_names, dbcn_names, eid_names, ecall_names, funct3_names, stimecmp_names, store_names, access_names, word_names, fetch_names, answer_names, names_of, reads_of, call_names, call_reads, class_names}
use Rattle.demand3_table.specs.Runs.{Lasting, turn_renews, sight_of, step_of, run_of, seen_of, Apart, Untouched, renews, wrote_by, written, wrote}
use Rattle.demand3_table.specs.Alike.{Alike}
use Rattle.demand3.specs.Shown.{example_record, other, Met, rows_given, exit_numbers, ask_numbers, reply_numbers, sight_numbers, told_of, same_list, Row, named, matters, all_matter, Joined, waits}
use Rattle.scope.specs.Answers.{answer_effect, fetch_effect, fitting_effect, numbers_effect, values_effect, word_effect}
use Rattle.scope.specs.declared.hosts.HostCall.TheVariants as host_call
use Rattle.scope.specs.declared.machine.EcallAsk.TheVariants as asked
use Rattle.scope.specs.declared.traps.Error.TheVariants as error
use Rattle.scope.specs.declared.machine.Waiting.TheVariants as waiting

other_alike : (r n : ℕ) (v : Vcpu) → length v.x ≡ 32 → Alike r v (other r n v)
other_alike r n v h =
    record {
      files = record { long = h; long' = length-set v.x r n ∙ h; agree = λ i d. sym (get_or-set_other v.x r i n 0 d) };
      csrs = refl;
      counts = refl;
      waiting = refl;
    }

-- one name that opens what a call goes through; the decoder stays shut
opened : ℕ
unfolding answer_number exit_number ask_number error_number spvp_of sie_of with_bits guest_page_fault_addr standard_request value_of stored moved timed pended event_number bumped counted waiting_ask is_idle listed applied no_args finished_of asking_of failed_of refused_of done_of lesser_of returns_of moves_of stays_of asks_of set_timer_of hypercall_of ask_fetch_of missed_of trap_status_of injected_of missed_effect set_bits clear_bits stimecmp_by stimecmp_word stimecmp_stval called_of base_of effect_of stimecmp_effect load_under store_under fault_of fault_effect copied_effect ecall_answer ecall_ask_number completed_of arguments_of ecall_effect virtual_effect mmio_of page_fault_of class_of class_effect start_effect word_effect fetch_effect numbers_effect values_effect answer_values fitting_effect answer_effect print_count fitted printable printed_of source_names forward_names time_names srst_names spi_names hsm_names console_names byte_names dbcn_names eid_names ecall_names funct3_names stimecmp_names store_names class_names access_names word_names fetch_names answer_names names_of reads_of sight_of step_of run_of seen_of Untouched exit_numbers ask_numbers reply_numbers sight_numbers told_of same_list named matters all_matter time_effect spi_effect hsm_effect srst_effect span_effect console_effect dbcn_effect rfnc_effect forward_effect not_supported_effect leaves_of unless_asking call_names call_reads asked_count gives_of console_read_effect copied_out_effect gpr_reply written renews wrote_by wrote pending_effect hvip_bit_of supervisor_external tested flag_of post_call one_by_one row_of posted_of reply_number refuses refusal rows_given
opened = 0

abbrev zeros : List ℕ
zeros = replicate 32 0

-- an ecall, and other traps by scause, stval and htinst
abbrev trapped : ℕ → ℕ → ℕ → Trap
trapped scause stval htinst = record { scause = scause; stval = stval; htval = 0x400_0000; htinst = htinst; room = 4096 }

abbrev ecall : Trap
ecall = trapped 10 0 0

apart : {r : ℕ} → Apart r []
apart = record { free = refl }

-- DBCN write with both asks, a row of posts in the middle, which is refused, and one behind it, which its second post stops; x5 is 1
-- and 2

abbrev dbcn : Vcpu
dbcn = example_record (set (set (set (set zeros 17 eid_dbcn) 10 3) 11 0x8000) 5 1)

abbrev dbcn_calls : List Turn
dbcn_calls =
    call (host_call.Start ecall)
    ∷ call (host_call.Answer (answers.CopiedIn 3))
    ∷ post (record { vector = 9; level = 1 } ∷ [])
    ∷ print (65 ∷ 66 ∷ 67 ∷ 68 ∷ [])
    ∷ call (host_call.Answer (answers.Printed 0 3))
    ∷ post (record { vector = 9; level = 1 } ∷ record { vector = 8; level = 1 } ∷ [])
    ∷ []

pub dbcn_met : Met 5 2 dbcn dbcn_calls (reply.Ask (ask.CopyIn (record { 0 = 0x8000 }) 3) ∷ reply.Ask (ask.Print 3) ∷ reply.Done ∷ reply.Done ∷ reply.Exit exit.Nothing ∷ reply.Done ∷ [])
unfolding opened
dbcn_met =
    record {
      alike = other_alike 5 2 dbcn refl;
      untouched = (record { free = refl }, apart, (apart, apart, (apart, apart, (apart, apart, (apart, apart, (apart, apart, tt))))));
      seen = refl;
      before = refl;
      after = refl;
    }

-- the rows gave refusal 2 with none applied, and one applied before refusal 1
pub dbcn_posted : rows_given (seen_of dbcn dbcn_calls) ≡ 0 ∷ 2 ∷ 1 ∷ 1 ∷ []
unfolding opened
dbcn_posted = refl

-- and none of its turns makes a new record, so the counts speak of it
pub dbcn_lasts : Lasting dbcn_calls
unfolding opened Lasting turn_renews
dbcn_lasts = (refl, (refl, (refl, (refl, (refl, (refl, tt))))))

-- a load with its completion, which writes x7

abbrev load : Vcpu
load = example_record (set zeros 5 1)

abbrev load_calls : List Turn
load_calls = call (host_call.Start (trapped 21 0 0x2383)) ∷ call (host_call.CompleteLoad 0x8000_0000) ∷ []

pub load_met : Met 5 2 load load_calls (reply.Exit (exit.MmioRead (record { 0 = 0x1000_0000 }) width.Word) ∷ reply.Done ∷ [])
unfolding opened
load_met =
    record {
      alike = other_alike 5 2 load refl;
      untouched = (apart, apart, (apart, apart, tt));
      seen = rw lw_x7;
      before = refl;
      after = rw lw_x7;
    }

-- a remote fence, counted and forwarded; its a0 to a5 are named, x5 is not

abbrev fence : Vcpu
fence = example_record (set (set (set zeros 17 eid_rfnc) 16 1) 5 1)

abbrev fence_calls : List Turn
fence_calls = call (host_call.Start ecall) ∷ call (host_call.Answer (answers.Forwarded 0 0)) ∷ []

pub fence_met : Met 5 2 fence fence_calls (reply.Ask (ask.Forward eid_rfnc 1 (record { a0 = 0; a1 = 0; a2 = 0; a3 = 0; a4 = 0; a5 = 0 })) ∷ reply.Exit exit.Nothing ∷ [])
unfolding opened
fence_met =
    record {
      alike = other_alike 5 2 fence refl;
      untouched = (record { free = refl }, apart, (apart, apart, tt));
      seen = refl;
      before = refl;
      after = refl;
    }

-- a virtual instruction that must be fetched, and the fetch's page fault is injected

abbrev missed : Vcpu
missed = example_record (set zeros 5 1)

abbrev missed_calls : List Turn
missed_calls = call (host_call.Start (trapped 22 0 0)) ∷ call (host_call.Answer (answers.Fetched (fetch.Page (record { 0 = 0x8000_0000 })))) ∷ []

pub missed_met : Met 5 2 missed missed_calls (reply.Ask (ask.Fetch (record { 0 = 0x8000_0000 }) true) ∷ reply.Exit exit.Nothing ∷ [])
unfolding opened
missed_met =
    record {
      alike = other_alike 5 2 missed refl;
      untouched = rw zero_opcode ((apart, apart, (apart, apart, tt)));
      seen = rw zero_opcode;
      before = refl;
      after = rw zero_opcode;
    }

-- legacy get character writes a0: before it the two records differ there, after it in nothing

abbrev reading : Vcpu
reading = example_record (set (set zeros 17 2) 10 1)

abbrev reading_calls : List Turn
reading_calls = call (host_call.Start ecall) ∷ call (host_call.Answer (answers.Char 65)) ∷ []

pub written_joined : Joined a0 2 reading reading_calls (reply.Ask ask.GetChar ∷ reply.Exit exit.Nothing ∷ [])
unfolding opened
written_joined =
    record {
      alike = other_alike a0 2 reading refl;
      untouched = (record { free = refl }, apart, (apart, apart, tt));
      seen = refl;
      before = refl;
      writes = refl;
      after = refl;
    }

-- ask 4 waits when the sequence starts; a start is refused, x6 is read out, and the answer ends the trap

abbrev printing : Vcpu
printing = waits (waiting.Ecall (asked.Print 3)) (example_record (set (set zeros 5 1) 6 8))

abbrev printing_calls : List Turn
printing_calls =
    call (host_call.Start ecall)
    ∷ call (host_call.GetGpr 6)
    ∷ print (65 ∷ 66 ∷ 67 ∷ [])
    ∷ call (host_call.Answer (answers.Printed 0 3))
    ∷ []

pub waiting_met : Met 5 2 printing printing_calls (reply.Error error.BadState ∷ reply.Value 8 ∷ reply.Done ∷ reply.Exit exit.Nothing ∷ [])
unfolding opened
waiting_met =
    record {
      alike = other_alike 5 2 printing refl;
      untouched = (apart, apart, (apart, record { free = refl }, (apart, apart, (apart, apart, tt))));
      seen = refl;
      before = refl;
      after = refl;
    }

-- in these rows the named register matters

abbrev calls : ℕ → ℕ → List ℕ
calls eid fid = set (set zeros 17 eid) 16 fid

abbrev row : ℕ → List ℕ → Row
row r x = record { register = r; content = 9; before = example_record x; calls = call (host_call.Start ecall) ∷ [] }

-- a7; legacy 0, a0; HVC, a5; sPI 0, a1; HSM 0, a2; DBCN 0, a2
abbrev rows : List Row
rows =
    row a7 (calls 2 0)
    ∷ row a0 (calls 0 0)
    ∷ row a5 (calls eid_hvc 0)
    ∷ row a1 (calls eid_spi 0)
    ∷ row a2 (calls eid_hsm 0)
    ∷ row a2 (set (calls eid_dbcn 0) 10 3)
    ∷ []

pub rows_matter : all_matter rows ≡ true
unfolding opened
rows_matter = refl

-- csrrw of x5
pub stimecmp_matters : matters (record { register = 5; content = 9; before = example_record zeros; calls = call (host_call.Start (trapped 22 0x14D292F3 0)) ∷ [] }) ≡ true
unfolding opened
stimecmp_matters = rw (csrrw_opcode, csrrw_csr, csrrw_funct3, csrrw_rs1)

-- sw of x7
pub store_matters : matters (record { register = 7; content = 6; before = example_record (set zeros 7 5); calls = call (host_call.Start (trapped 23 0 0x702023)) ∷ [] }) ≡ true
unfolding opened
store_matters = rw (sw_x7, store_source_store, cut_5, cut_6)

-- compressed stores: c.sw of x9, which its trap fetches, and c.sdsp of x7, whose fetch waits when the sequence starts

abbrev fetched : ℕ → Turn
fetched w = call (host_call.Answer (answers.Fetched (fetch.Word w)))

pub c_sw_matters : matters (record { register = 9; content = 6; before = example_record (set zeros 9 5); calls = call (host_call.Start (trapped 23 0 0)) ∷ fetched 0xc004 ∷ [] }) ≡ true
unfolding opened
c_sw_matters = rw (absent, store_source_absent, c_sw_x9, store_source_store, cut_5, cut_6)

abbrev storing : Vcpu
storing = waits (waiting.FetchFault (record { 0 = 0x1000_0000 }) access.Write) (example_record (set zeros 7 5))

pub c_sdsp_matters : matters (record { register = 7; content = 6; before = storing; calls = fetched 0xe01e ∷ [] }) ≡ true
unfolding opened
c_sdsp_matters = rw (c_sdsp_x7, store_source_store, long_5, long_6)

-- c.lwsp into x7, whose fetch waits when the sequence starts, and its completion: x5 is not touched

abbrev fetching : Vcpu
fetching = waits (waiting.FetchFault (record { 0 = 0x1000_0000 }) access.Read) (example_record (set zeros 5 1))

abbrev fetching_calls : List Turn
fetching_calls = fetched 0x4382 ∷ call (host_call.CompleteLoad 0x8000_0000) ∷ []

pub fetching_met : Met 5 2 fetching fetching_calls (reply.Exit (exit.MmioRead (record { 0 = 0x1000_0000 }) width.Word) ∷ reply.Done ∷ [])
unfolding opened
fetching_met =
    record {
      alike = other_alike 5 2 fetching refl;
      untouched = (apart, apart, (apart, apart, tt));
      seen = rw c_lwsp_x7;
      before = refl;
      after = rw c_lwsp_x7;
    }

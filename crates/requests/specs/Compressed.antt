-- 02, W2: the eight compressed loads and stores are decoded where the word is fetched, and sepc moves on by 2. Everything else that is
-- 16 bits long stays NestedPageFault: floating forms, C.LWSP and C.LDSP with rd 0, a load under 23, a store under 21.
use Rattle.std.specs.Prelude.{ℕ, ◌%◌, ◌^◌, true, false, [], ◌≡◌, eqb}
use Rattle.demand3_table.specs.Table.{call_names, source_names}
use Rattle.isa_decoder.specs.Compressed.{compressed_of}
use Rattle.isa_decoder.specs.CompressedLaws.{Encodes, c_store_funct3}
use Rattle.isa_consts.specs.Traps.{load_guest_page_fault, store_guest_page_fault}
use Rattle.isa_registers.specs.Values.{guest_page_fault_addr}
use Rattle.scope.specs.Record.{is_idle}
use Rattle.scope.specs.declared.traps.Trap.{Trap}
use Rattle.isa_decoder.specs.declared.Decoded.TheVariants as decoded
use Rattle.isa_fields.specs.Compressed.{c_rs2_field, prime_field, quadrant_field}
use Rattle.isa_fields.specs.Fields.{rd_field}
use Rattle.isa_types.specs.Pick.{pick}
use Rattle.isa_types.specs.declared.GuestPhysAddr.{GuestPhysAddr}
use Rattle.isa_types.specs.declared.Width.TheVariants as width
use Rattle.scope.specs.declared.hosts.HostCall.TheVariants as host_call
use Rattle.scope.specs.declared.hosts.HostCall.{HostCall}
use Rattle.scope.specs.declared.machine.Outcome.{Outcome}
use Rattle.scope.specs.declared.machine.Vcpu.{Vcpu}
use Rattle.scope.specs.declared.machine.Waiting.TheVariants as waiting
use Rattle.scope.specs.declared.traps.Access.TheVariants as access
use Rattle.scope.specs.declared.traps.Access.{Access}
use Rattle.scope.specs.declared.traps.Answer.TheVariants as answer
use Rattle.scope.specs.declared.traps.Fetch.TheVariants as fetch
use Rattle.requests.specs.Meaning.{Asks, Means, Nested}

-- the answer that c is: the word that a guest page fault of access k at an address had to have fetched, 16 bits long
pub record Fetched (v : Vcpu) (c : HostCall) (at : GuestPhysAddr) (k : Access) (word : ℕ) : Type 0 where
  pub waits : v.waiting ≡ waiting.FetchFault at k
  pub answers : c ≡ host_call.Answer (answer.Fetched (fetch.Word word))
  pub short : eqb (quadrant_field word) 3 ≡ false

-- a word that is none of the eight forms. C.LWSP and C.LDSP ask for an rd
pub record NoForm (word : ℕ) : Type 0 where
  pub not_c_lw : Encodes 0 2 word → ⊥
  pub not_c_ld : Encodes 0 3 word → ⊥
  pub not_c_sw : Encodes 0 6 word → ⊥
  pub not_c_sd : Encodes 0 7 word → ⊥
  pub not_c_lwsp : Encodes 2 2 word → eqb (rd_field word) 0 ≡ false → ⊥
  pub not_c_ldsp : Encodes 2 3 word → eqb (rd_field word) 0 ≡ false → ⊥
  pub not_c_swsp : Encodes 2 6 word → ⊥
  pub not_c_sdsp : Encodes 2 7 word → ⊥

-- the source of a compressed store: rs2' in quadrant 0, rs2 in quadrant 2; 0 where the word is none
abbrev pub source_field : ℕ → ℕ
source_field w = pick (eqb (quadrant_field w) 0) (pick (c_store_funct3 w) (prime_field w) 0) (pick (eqb (quadrant_field w) 2) (pick (c_store_funct3 w) (c_rs2_field w) 0) 0)

-- the request, of call c on record v with this outcome. Under 21 and 23 with htinst 0 the word is asked for. Then the eight forms by
-- quadrant and funct3, each with its register: `Means` has a load under a read and a store under a write, and NestedPageFault under
-- anything else. Then what stays NestedPageFault: the reserved and the floating forms, and every word that is none of the eight. The
-- upper 16 bits are not looked at. Last the reading table's row: under a write the answer names the source of a compressed store, x0
-- never, and under anything else nothing
pub record W2 (v : Vcpu) (o : Outcome) (c : HostCall) : Type 0 where
  pub asks_21 : (t : Trap) → c ≡ host_call.Start t → is_idle v.waiting ≡ true → t.scause ≡ load_guest_page_fault → t.htinst ≡ 0 → Asks v o (guest_page_fault_addr t.htval t.stval) access.Read
  pub asks_23 : (t : Trap) → c ≡ host_call.Start t → is_idle v.waiting ≡ true → t.scause ≡ store_guest_page_fault → t.htinst ≡ 0 → Asks v o (guest_page_fault_addr t.htval t.stval) access.Write
  pub c_lw : (at : GuestPhysAddr) (k : Access) (word : ℕ) → Fetched v c at k word → Encodes 0 2 word → Means v o at k (decoded.Load width.Word true (prime_field word)) 2
  pub c_ld : (at : GuestPhysAddr) (k : Access) (word : ℕ) → Fetched v c at k word → Encodes 0 3 word → Means v o at k (decoded.Load width.Double true (prime_field word)) 2
  pub c_sw : (at : GuestPhysAddr) (k : Access) (word : ℕ) → Fetched v c at k word → Encodes 0 6 word → Means v o at k (decoded.Store width.Word (prime_field word)) 2
  pub c_sd : (at : GuestPhysAddr) (k : Access) (word : ℕ) → Fetched v c at k word → Encodes 0 7 word → Means v o at k (decoded.Store width.Double (prime_field word)) 2
  pub c_lwsp : (at : GuestPhysAddr) (k : Access) (word : ℕ) → Fetched v c at k word → Encodes 2 2 word → eqb (rd_field word) 0 ≡ false → Means v o at k (decoded.Load width.Word true (rd_field word)) 2
  pub c_ldsp : (at : GuestPhysAddr) (k : Access) (word : ℕ) → Fetched v c at k word → Encodes 2 3 word → eqb (rd_field word) 0 ≡ false → Means v o at k (decoded.Load width.Double true (rd_field word)) 2
  pub c_swsp : (at : GuestPhysAddr) (k : Access) (word : ℕ) → Fetched v c at k word → Encodes 2 6 word → Means v o at k (decoded.Store width.Word (c_rs2_field word)) 2
  pub c_sdsp : (at : GuestPhysAddr) (k : Access) (word : ℕ) → Fetched v c at k word → Encodes 2 7 word → Means v o at k (decoded.Store width.Double (c_rs2_field word)) 2
  pub c_lwsp_x0 : (at : GuestPhysAddr) (k : Access) (word : ℕ) → Fetched v c at k word → Encodes 2 2 word → eqb (rd_field word) 0 ≡ true → Nested v o at k
  pub c_ldsp_x0 : (at : GuestPhysAddr) (k : Access) (word : ℕ) → Fetched v c at k word → Encodes 2 3 word → eqb (rd_field word) 0 ≡ true → Nested v o at k
  pub c_fld : (at : GuestPhysAddr) (k : Access) (word : ℕ) → Fetched v c at k word → Encodes 0 1 word → Nested v o at k
  pub c_fsd : (at : GuestPhysAddr) (k : Access) (word : ℕ) → Fetched v c at k word → Encodes 0 5 word → Nested v o at k
  pub c_fldsp : (at : GuestPhysAddr) (k : Access) (word : ℕ) → Fetched v c at k word → Encodes 2 1 word → Nested v o at k
  pub c_fsdsp : (at : GuestPhysAddr) (k : Access) (word : ℕ) → Fetched v c at k word → Encodes 2 5 word → Nested v o at k
  pub no_form : (at : GuestPhysAddr) (k : Access) (word : ℕ) → Fetched v c at k word → NoForm word → Nested v o at k
  pub low_half : (at : GuestPhysAddr) (k : Access) (word : ℕ) → Fetched v c at k word → Means v o at k (compressed_of (word % 2 ^ 16)) 2
  pub names_write : (at : GuestPhysAddr) (word : ℕ) → Fetched v c at access.Write word → call_names v c ≡ source_names (source_field word)
  pub names_else : (at : GuestPhysAddr) (k : Access) (word : ℕ) → Fetched v c at k word → (k ≡ access.Write → ⊥) → call_names v c ≡ []

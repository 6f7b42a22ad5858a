-- The rows of the fixed list of calls (docs/CALLS.md): what the definitions give on each. The plain Rust program of document 01 says what is right.
-- tools/definitions.py listed writes this file.
use Rattle.isa_consts.specs.Traps as theIsaConstsTraps
use Rattle.isa_decoder.specs.Decode as theIsaDecoderDecode
use Rattle.isa_decoder.specs.Compressed as theIsaDecoderCompressed
use Rattle.isa_decoder.specs.Length as theIsaDecoderLength
use Rattle.isa_extension.specs.Extend as theIsaExtensionExtend
use Rattle.isa_fields.specs.Compressed as theIsaFieldsCompressed
use Rattle.isa_fields.specs.Fields as theIsaFieldsFields
use Rattle.isa_registers.specs.Bits as theIsaRegistersBits
use Rattle.isa_registers.specs.Values as theIsaRegistersValues
use Rattle.scope.specs.OneTrap as theScopeOneTrap
use Rattle.scope.specs.Answers as theScopeAnswers
use Rattle.scope.specs.Refusals as theScopeRefusals
use Rattle.scope.specs.Record as theScopeRecord
use Rattle.scope.specs.Host as theScopeHost
use Rattle.scope.specs.Classes as theScopeClasses
use Rattle.scope.specs.Ecalls as theScopeEcalls
use Rattle.scope.specs.VirtualInstruction as theScopeVirtualInstruction
use Rattle.scope.specs.GuestPageFault as theScopeGuestPageFault
use Rattle.scope.specs.Calls as theScopeCalls
use Rattle.scope.specs.ReplyWords as theScopeReplyWords
use Rattle.scope.specs.Words as theScopeWords
use Rattle.scope.specs.Posts as theScopePosts
use Rattle.words_call.specs.Words as theWordsCallWords
use Rattle.words_entry.specs.Words as theWordsEntryWords
use Rattle.words_entry_posts.specs.Words as theWordsEntryPostsWords
use Rattle.in_place_answer.specs.Words as theInPlaceAnswerWords
use Rattle.in_place_entry_trap.specs.Calls as theInPlaceEntryTrapCalls
use Rattle.in_place_record.specs.View as theInPlaceRecordView
use Rattle.in_place_start.specs.Words as theInPlaceStartWords
use Rattle.scope.specs.declared.hosts.HostCall.{HostCall}
use Rattle.scope.specs.declared.machine.Outcome.{Outcome}
use Rattle.scope.specs.declared.machine.Record.{Record}
use Rattle.words_call.specs.declared.ReplyWords.{ReplyWords}
use Rattle.in_place_record.specs.View.{record_of, view_of}
use Rattle.scope.specs.ReplyWords.{out_of, reply_word}
use Rattle.scope.specs.Words.{call_by, left_by}
use Rattle.words_entry.specs.Words.{exported_of}
use Rattle.scope.specs.Calls.{called_of, printable}
use Rattle.in_place_entry_trap.specs.Calls.{answer_call, start_call}
use Rattle.scope.specs.declared.hosts.Post.{Post}
use Rattle.scope.specs.declared.hosts.Posted.{Posted}
use Rattle.scope.specs.Posts.{left_posted, posted_of}
use Rattle.words_entry_posts.specs.Words.{exported_row}
use Rattle.std.specs.Prelude.{drop, get_or, replicate, set, ℕ, ◌+◌, ◌-◌, ◌%◌, Bool, true, false, List, [], ◌∷◌, ◌++◌, eqb, ltb, T}
use Rattle.test_definitions.specs.Same.{both, equal}

-- the 58 words of a record
abbrev words : Record → List ℕ
words r = r.x ++ (r.csrs ++ (r.counts ++ r.waiting))

-- the word returned, the eight words given, the array beside the reply, the words of the record after it
abbrev left : List ℕ → HostCall → Outcome → List ℕ
left r c o = reply_word o.reply ∷ (out_of o.reply o.args ++ (o.args ++ words (left_by (record_of r) c o)))

-- the same of a call on 58 words
abbrev shown : List ℕ → HostCall → List ℕ
shown r c = left r c (called_of (view_of r) c)

-- 01: a hypercall's array stands beside the exit and is all 0 beside any other
abbrev beside : Bool → List ℕ → List ℕ
beside true out = drop 2 out
beside false out = replicate 6 0

-- what a line says
abbrev wanted : ℕ → List ℕ → List ℕ → List ℕ
wanted code out after = code ∷ (out ++ (beside (eqb code 6) out ++ after))

-- the same through the words of the exported entry: a reply's kind and number, its values, the array, the record
abbrev reported : Record × ReplyWords → List ℕ
reported a = a.1.kind ∷ a.1.number ∷ (a.1.values ++ (a.1.args ++ words a.0))

abbrev exported : ℕ → List ℕ → List ℕ → List ℕ
exported k c r = reported (exported_of (record_of r) (record { kind = k; numbers = c }))

abbrev choose : {A : Type 0} → Bool → A → A → A
choose true a b = a
choose false a b = b

-- exits are 0, asks 1, done 2, a value 3, errors 4
abbrev kind_of : ℕ → ℕ
kind_of n = choose (ltb n 0x20) 0 (choose (ltb n 0x40) 1 (choose (ltb n 0x41) 2 (choose (ltb n 0x100) 3 4)))

abbrev number_of : ℕ → ℕ
number_of n = choose (ltb n 0x40) (n % 0x20) (choose (ltb n 0x100) 0 (n - 0x100))

-- a hypercall's arguments are not among its values
abbrev told : ℕ → List ℕ → List ℕ → List ℕ
told code out after =
    kind_of code ∷ number_of code
    ∷ (choose (eqb code 6) (get_or out 0 0 ∷ replicate 7 0) out ++ (beside (eqb code 6) out ++ after))

-- the entry's call, and the count to print
abbrev called : ℕ → List ℕ → List ℕ → List ℕ
called k c r = shown r (call_by k (get_or c 0 0) (get_or c 1 0) (get_or c 2 0) (get_or c 3 0) (get_or c 4 0))

abbrev started : ℕ → List ℕ → List ℕ → List ℕ
started k c r = shown r (start_call c)

abbrev answered : ℕ → List ℕ → List ℕ → List ℕ
answered k c r = shown r (answer_call c)

abbrev printed : ℕ → List ℕ → List ℕ → List ℕ
printed k c r = wanted 0x41 (set (replicate 8 0) 0 (printable (view_of r).waiting (get_or c 0 0))) r

-- a row of posts, a vector and a level each
abbrev posts : List ℕ → List Post
posts [] = []
posts (v ∷ []) = []
posts (v ∷ l ∷ c) = record { vector = v; level = l } ∷ posts c

-- what it gives and leaves: the refusal in the word returned, how many were applied in the first word given
abbrev rowed : Posted → Record → List ℕ
rowed g r = wanted (choose (eqb g.refusal 0) 0x40 (0x100 + g.refusal)) (set (replicate 8 0) 0 g.applied) (words r)

abbrev posted : ℕ → List ℕ → List ℕ → List ℕ
posted k c r = rowed (posted_of (view_of r) (posts c)).posted (left_posted (record_of r) (posts c))

-- the same through the exported entry
abbrev row_out : Record × Posted → List ℕ
row_out a = rowed a.1 a.0

abbrev posted_out : ℕ → List ℕ → List ℕ → List ℕ
posted_out k c r = row_out (exported_row (record_of r) (posts c))

-- a record whose words are all different
abbrev spread : List ℕ
spread = 81985529216486895 ∷ 163971058432973790 ∷ 245956587649460685 ∷ 327942116865947580 ∷ 409927646082434475 ∷ 491913175298921370 ∷ 573898704515408265 ∷ 655884233731895160 ∷ 737869762948382055 ∷ 819855292164868950 ∷ 901840821381355845 ∷ 983826350597842740 ∷ 1065811879814329635 ∷ 1147797409030816530 ∷ 1229782938247303425 ∷ 1311768467463790320 ∷ 1393753996680277215 ∷ 1475739525896764110 ∷ 1557725055113251005 ∷ 1639710584329737900 ∷ 1721696113546224795 ∷ 1803681642762711690 ∷ 1885667171979198585 ∷ 1967652701195685480 ∷ 2049638230412172375 ∷ 2131623759628659270 ∷ 2213609288845146165 ∷ 2295594818061633060 ∷ 2377580347278119955 ∷ 2459565876494606850 ∷ 2541551405711093745 ∷ 2623536934927580640 ∷ 2705522464144067535 ∷ 2787507993360554430 ∷ 2869493522577041325 ∷ 2951479051793528220 ∷ 3033464581010015115 ∷ 3115450110226502010 ∷ 3197435639442988905 ∷ 3279421168659475800 ∷ 3361406697875962695 ∷ 3443392227092449590 ∷ 3525377756308936549 ∷ 3607363285525423380 ∷ 3689348814741910275 ∷ 3771334343958397170 ∷ 3853319873174884065 ∷ 3935305402391370960 ∷ 4017290931607857855 ∷ 4099276460824344750 ∷ 4181261990040831645 ∷ 4263247519257318540 ∷ 4345233048473805435 ∷ 4427218577690292330 ∷ 0 ∷ 4591189636123266120 ∷ 4673175165339753015 ∷ 4755160694556239910 ∷ []

-- places of the record, each with the word that stands there
abbrev put : List ℕ → List ℕ → List ℕ
put r [] = r
put r (i ∷ []) = []
put r (i ∷ w ∷ l) = put (set r i w) l

-- a call on the record with some words put: the word returned, the words given, and what it changes
abbrev gives : (List ℕ → List ℕ) → List ℕ → ℕ → List ℕ → List ℕ → Bool
gives call before code out after = equal (call (put spread before)) (wanted code (put (replicate 8 0) out) (put (put spread before) after))

-- the same, of the exported entry too
abbrev calls : (ℕ → List ℕ → List ℕ → List ℕ) → ℕ → List ℕ → List ℕ → ℕ → List ℕ → List ℕ → Bool
calls call kind numbers before code out after =
    both (gives (call kind numbers) before code out after)
    (equal (exported kind numbers (put spread before)) (told code (put (replicate 8 0) out) (put (put spread before) after)))

abbrev rows : (ℕ → List ℕ → List ℕ → List ℕ) → ℕ → List ℕ → List ℕ → ℕ → List ℕ → List ℕ → Bool
rows call kind numbers before code out after =
    both (gives (call kind numbers) before code out after) (gives (posted_out kind numbers) before code out after)

abbrev row_0 : Bool
row_0 = calls called 1 (0 ∷ 0 ∷ 0 ∷ 0 ∷ 0 ∷ []) ([]) 0x40 ([]) (33 ∷ 0x2100 ∷ 34 ∷ 0x200000180 ∷ 40 ∷ 0xffffffffffffffff ∷ 41 ∷ 0x444 ∷ 42 ∷ 0 ∷ 43 ∷ 0 ∷ [])

abbrev row_1 : Bool
row_1 = calls called 2 (0x80200000 ∷ 0 ∷ 0 ∷ 0 ∷ 0 ∷ []) ([]) 0x40 ([]) (32 ∷ 0x80200000 ∷ [])

abbrev row_2 : Bool
row_2 = calls called 3 (0 ∷ 0 ∷ 0 ∷ 0 ∷ 0 ∷ []) ([]) 0x41 ([]) ([])

abbrev row_3 : Bool
row_3 = calls called 4 (0 ∷ 7 ∷ 0 ∷ 0 ∷ 0 ∷ []) ([]) 0x40 ([]) ([])

abbrev row_4 : Bool
row_4 = calls called 3 (1 ∷ 0 ∷ 0 ∷ 0 ∷ 0 ∷ []) ([]) 0x41 (0 ∷ 0x2468acf13579bde ∷ []) ([])

abbrev row_5 : Bool
row_5 = calls called 4 (1 ∷ 7 ∷ 0 ∷ 0 ∷ 0 ∷ []) ([]) 0x40 ([]) (1 ∷ 7 ∷ [])

abbrev row_6 : Bool
row_6 = calls called 3 (0xa ∷ 0 ∷ 0 ∷ 0 ∷ 0 ∷ []) ([]) 0x41 (0 ∷ 0xc83fb72ea61d945 ∷ []) ([])

abbrev row_7 : Bool
row_7 = calls called 4 (0xa ∷ 7 ∷ 0 ∷ 0 ∷ 0 ∷ []) ([]) 0x40 ([]) (10 ∷ 7 ∷ [])

abbrev row_8 : Bool
row_8 = calls called 3 (0x1f ∷ 0 ∷ 0 ∷ 0 ∷ 0 ∷ []) ([]) 0x41 (0 ∷ 0x2468acf13579bde0 ∷ []) ([])

abbrev row_9 : Bool
row_9 = calls called 4 (0x1f ∷ 7 ∷ 0 ∷ 0 ∷ 0 ∷ []) ([]) 0x40 ([]) (31 ∷ 7 ∷ [])

abbrev row_10 : Bool
row_10 = calls called 3 (0x20 ∷ 0 ∷ 0 ∷ 0 ∷ 0 ∷ []) ([]) 0x101 ([]) ([])

abbrev row_11 : Bool
row_11 = calls called 4 (0x20 ∷ 7 ∷ 0 ∷ 0 ∷ 0 ∷ []) ([]) 0x101 ([]) ([])

abbrev row_12 : Bool
row_12 = calls called 3 (0x21 ∷ 0 ∷ 0 ∷ 0 ∷ 0 ∷ []) ([]) 0x101 ([]) ([])

abbrev row_13 : Bool
row_13 = calls called 4 (0x21 ∷ 7 ∷ 0 ∷ 0 ∷ 0 ∷ []) ([]) 0x101 ([]) ([])

abbrev row_14 : Bool
row_14 = calls called 5 (9 ∷ 0 ∷ 0 ∷ 0 ∷ 0 ∷ []) ([]) 0x40 ([]) (10 ∷ 9 ∷ [])

abbrev row_15 : Bool
row_15 = calls called 6 (3 ∷ 8 ∷ 0x80004000 ∷ 0 ∷ 0 ∷ []) ([]) 0x40 ([]) (44 ∷ 0x8000000000080004 ∷ [])

abbrev row_16 : Bool
row_16 = calls called 6 (3 ∷ 8 ∷ 0x80002000 ∷ 0 ∷ 0 ∷ []) ([]) 0x101 ([]) ([])

abbrev row_17 : Bool
row_17 = calls called 6 (3 ∷ 8 ∷ 0xff00000000004000 ∷ 0 ∷ 0 ∷ []) ([]) 0x40 ([]) (44 ∷ 0x8000000000000004 ∷ [])

abbrev row_18 : Bool
row_18 = calls called 6 (4 ∷ 9 ∷ 0x80004000 ∷ 0 ∷ 0 ∷ []) ([]) 0x40 ([]) (44 ∷ 0x9000000000080004 ∷ [])

abbrev row_19 : Bool
row_19 = calls called 6 (4 ∷ 9 ∷ 0x80002000 ∷ 0 ∷ 0 ∷ []) ([]) 0x101 ([]) ([])

abbrev row_20 : Bool
row_20 = calls called 6 (4 ∷ 9 ∷ 0xff00000000004000 ∷ 0 ∷ 0 ∷ []) ([]) 0x40 ([]) (44 ∷ 0x9000000000000004 ∷ [])

abbrev row_21 : Bool
row_21 = calls called 6 (3 ∷ 9 ∷ 0x80004000 ∷ 0 ∷ 0 ∷ []) ([]) 0x101 ([]) ([])

abbrev row_22 : Bool
row_22 = calls called 6 (3 ∷ 9 ∷ 0x80002000 ∷ 0 ∷ 0 ∷ []) ([]) 0x101 ([]) ([])

abbrev row_23 : Bool
row_23 = calls called 6 (3 ∷ 9 ∷ 0xff00000000004000 ∷ 0 ∷ 0 ∷ []) ([]) 0x101 ([]) ([])

abbrev row_24 : Bool
row_24 = calls called 6 (4 ∷ 8 ∷ 0x80004000 ∷ 0 ∷ 0 ∷ []) ([]) 0x101 ([]) ([])

abbrev row_25 : Bool
row_25 = calls called 6 (4 ∷ 8 ∷ 0x80002000 ∷ 0 ∷ 0 ∷ []) ([]) 0x101 ([]) ([])

abbrev row_26 : Bool
row_26 = calls called 6 (4 ∷ 8 ∷ 0xff00000000004000 ∷ 0 ∷ 0 ∷ []) ([]) 0x101 ([]) ([])

abbrev row_27 : Bool
row_27 = calls called 6 (2 ∷ 7 ∷ 0x80004000 ∷ 0 ∷ 0 ∷ []) ([]) 0x101 ([]) ([])

abbrev row_28 : Bool
row_28 = calls called 6 (2 ∷ 7 ∷ 0x80002000 ∷ 0 ∷ 0 ∷ []) ([]) 0x101 ([]) ([])

abbrev row_29 : Bool
row_29 = calls called 6 (2 ∷ 7 ∷ 0xff00000000004000 ∷ 0 ∷ 0 ∷ []) ([]) 0x101 ([]) ([])

abbrev row_30 : Bool
row_30 = calls called 6 (5 ∷ 0xa ∷ 0x80004000 ∷ 0 ∷ 0 ∷ []) ([]) 0x101 ([]) ([])

abbrev row_31 : Bool
row_31 = calls called 6 (5 ∷ 0xa ∷ 0x80002000 ∷ 0 ∷ 0 ∷ []) ([]) 0x101 ([]) ([])

abbrev row_32 : Bool
row_32 = calls called 6 (5 ∷ 0xa ∷ 0xff00000000004000 ∷ 0 ∷ 0 ∷ []) ([]) 0x101 ([]) ([])

abbrev row_33 : Bool
row_33 = calls called 7 (1 ∷ 1 ∷ 0 ∷ 0 ∷ 0 ∷ []) (42 ∷ 0 ∷ []) 0x101 ([]) ([])

abbrev row_34 : Bool
row_34 = calls called 7 (1 ∷ 0 ∷ 0 ∷ 0 ∷ 0 ∷ []) (42 ∷ 0 ∷ []) 0x101 ([]) ([])

abbrev row_35 : Bool
row_35 = calls called 7 (1 ∷ 1 ∷ 0 ∷ 0 ∷ 0 ∷ []) (42 ∷ 0xffffffffffffffff ∷ []) 0x101 ([]) ([])

abbrev row_36 : Bool
row_36 = calls called 7 (1 ∷ 0 ∷ 0 ∷ 0 ∷ 0 ∷ []) (42 ∷ 0xffffffffffffffff ∷ []) 0x101 ([]) ([])

abbrev row_37 : Bool
row_37 = calls called 7 (5 ∷ 1 ∷ 0 ∷ 0 ∷ 0 ∷ []) (42 ∷ 0 ∷ []) 0x101 ([]) ([])

abbrev row_38 : Bool
row_38 = calls called 7 (5 ∷ 0 ∷ 0 ∷ 0 ∷ 0 ∷ []) (42 ∷ 0 ∷ []) 0x101 ([]) ([])

abbrev row_39 : Bool
row_39 = calls called 7 (5 ∷ 1 ∷ 0 ∷ 0 ∷ 0 ∷ []) (42 ∷ 0xffffffffffffffff ∷ []) 0x101 ([]) ([])

abbrev row_40 : Bool
row_40 = calls called 7 (5 ∷ 0 ∷ 0 ∷ 0 ∷ 0 ∷ []) (42 ∷ 0xffffffffffffffff ∷ []) 0x101 ([]) ([])

abbrev row_41 : Bool
row_41 = calls called 7 (9 ∷ 1 ∷ 0 ∷ 0 ∷ 0 ∷ []) (42 ∷ 0 ∷ []) 0x40 ([]) (42 ∷ 0x400 ∷ [])

abbrev row_42 : Bool
row_42 = calls called 7 (9 ∷ 0 ∷ 0 ∷ 0 ∷ 0 ∷ []) (42 ∷ 0 ∷ []) 0x40 ([]) ([])

abbrev row_43 : Bool
row_43 = calls called 7 (9 ∷ 1 ∷ 0 ∷ 0 ∷ 0 ∷ []) (42 ∷ 0xffffffffffffffff ∷ []) 0x40 ([]) ([])

abbrev row_44 : Bool
row_44 = calls called 7 (9 ∷ 0 ∷ 0 ∷ 0 ∷ 0 ∷ []) (42 ∷ 0xffffffffffffffff ∷ []) 0x40 ([]) (42 ∷ 0xfffffffffffffbff ∷ [])

abbrev row_45 : Bool
row_45 = calls called 7 (0xa ∷ 1 ∷ 0 ∷ 0 ∷ 0 ∷ []) (42 ∷ 0 ∷ []) 0x101 ([]) ([])

abbrev row_46 : Bool
row_46 = calls called 7 (0xa ∷ 0 ∷ 0 ∷ 0 ∷ 0 ∷ []) (42 ∷ 0 ∷ []) 0x101 ([]) ([])

abbrev row_47 : Bool
row_47 = calls called 7 (0xa ∷ 1 ∷ 0 ∷ 0 ∷ 0 ∷ []) (42 ∷ 0xffffffffffffffff ∷ []) 0x101 ([]) ([])

abbrev row_48 : Bool
row_48 = calls called 7 (0xa ∷ 0 ∷ 0 ∷ 0 ∷ 0 ∷ []) (42 ∷ 0xffffffffffffffff ∷ []) 0x101 ([]) ([])

abbrev row_49 : Bool
row_49 = calls called 7 (0x8000000000000001 ∷ 1 ∷ 0 ∷ 0 ∷ 0 ∷ []) (42 ∷ 0 ∷ []) 0x40 ([]) (42 ∷ 4 ∷ [])

abbrev row_50 : Bool
row_50 = calls called 7 (0x8000000000000001 ∷ 0 ∷ 0 ∷ 0 ∷ 0 ∷ []) (42 ∷ 0 ∷ []) 0x40 ([]) ([])

abbrev row_51 : Bool
row_51 = calls called 7 (0x8000000000000001 ∷ 1 ∷ 0 ∷ 0 ∷ 0 ∷ []) (42 ∷ 0xffffffffffffffff ∷ []) 0x40 ([]) ([])

abbrev row_52 : Bool
row_52 = calls called 7 (0x8000000000000001 ∷ 0 ∷ 0 ∷ 0 ∷ 0 ∷ []) (42 ∷ 0xffffffffffffffff ∷ []) 0x40 ([]) (42 ∷ 0xfffffffffffffffb ∷ [])

abbrev row_53 : Bool
row_53 = calls called 7 (0x8000000000000002 ∷ 1 ∷ 0 ∷ 0 ∷ 0 ∷ []) (42 ∷ 0 ∷ []) 0x101 ([]) ([])

abbrev row_54 : Bool
row_54 = calls called 7 (0x8000000000000002 ∷ 0 ∷ 0 ∷ 0 ∷ 0 ∷ []) (42 ∷ 0 ∷ []) 0x101 ([]) ([])

abbrev row_55 : Bool
row_55 = calls called 7 (0x8000000000000002 ∷ 1 ∷ 0 ∷ 0 ∷ 0 ∷ []) (42 ∷ 0xffffffffffffffff ∷ []) 0x101 ([]) ([])

abbrev row_56 : Bool
row_56 = calls called 7 (0x8000000000000002 ∷ 0 ∷ 0 ∷ 0 ∷ 0 ∷ []) (42 ∷ 0xffffffffffffffff ∷ []) 0x101 ([]) ([])

abbrev row_57 : Bool
row_57 = calls called 7 (0x8000000000000005 ∷ 1 ∷ 0 ∷ 0 ∷ 0 ∷ []) (42 ∷ 0 ∷ []) 0x40 ([]) (42 ∷ 0x40 ∷ [])

abbrev row_58 : Bool
row_58 = calls called 7 (0x8000000000000005 ∷ 0 ∷ 0 ∷ 0 ∷ 0 ∷ []) (42 ∷ 0 ∷ []) 0x40 ([]) ([])

abbrev row_59 : Bool
row_59 = calls called 7 (0x8000000000000005 ∷ 1 ∷ 0 ∷ 0 ∷ 0 ∷ []) (42 ∷ 0xffffffffffffffff ∷ []) 0x40 ([]) ([])

abbrev row_60 : Bool
row_60 = calls called 7 (0x8000000000000005 ∷ 0 ∷ 0 ∷ 0 ∷ 0 ∷ []) (42 ∷ 0xffffffffffffffff ∷ []) 0x40 ([]) (42 ∷ 0xffffffffffffffbf ∷ [])

abbrev row_61 : Bool
row_61 = calls called 7 (0x8000000000000006 ∷ 1 ∷ 0 ∷ 0 ∷ 0 ∷ []) (42 ∷ 0 ∷ []) 0x101 ([]) ([])

abbrev row_62 : Bool
row_62 = calls called 7 (0x8000000000000006 ∷ 0 ∷ 0 ∷ 0 ∷ 0 ∷ []) (42 ∷ 0 ∷ []) 0x101 ([]) ([])

abbrev row_63 : Bool
row_63 = calls called 7 (0x8000000000000006 ∷ 1 ∷ 0 ∷ 0 ∷ 0 ∷ []) (42 ∷ 0xffffffffffffffff ∷ []) 0x101 ([]) ([])

abbrev row_64 : Bool
row_64 = calls called 7 (0x8000000000000006 ∷ 0 ∷ 0 ∷ 0 ∷ 0 ∷ []) (42 ∷ 0xffffffffffffffff ∷ []) 0x101 ([]) ([])

abbrev row_65 : Bool
row_65 = calls called 7 (0x8000000000000009 ∷ 1 ∷ 0 ∷ 0 ∷ 0 ∷ []) (42 ∷ 0 ∷ []) 0x40 ([]) (42 ∷ 0x400 ∷ [])

abbrev row_66 : Bool
row_66 = calls called 7 (0x8000000000000009 ∷ 0 ∷ 0 ∷ 0 ∷ 0 ∷ []) (42 ∷ 0 ∷ []) 0x40 ([]) ([])

abbrev row_67 : Bool
row_67 = calls called 7 (0x8000000000000009 ∷ 1 ∷ 0 ∷ 0 ∷ 0 ∷ []) (42 ∷ 0xffffffffffffffff ∷ []) 0x40 ([]) ([])

abbrev row_68 : Bool
row_68 = calls called 7 (0x8000000000000009 ∷ 0 ∷ 0 ∷ 0 ∷ 0 ∷ []) (42 ∷ 0xffffffffffffffff ∷ []) 0x40 ([]) (42 ∷ 0xfffffffffffffbff ∷ [])

abbrev row_69 : Bool
row_69 = calls called 7 (0x800000000000000a ∷ 1 ∷ 0 ∷ 0 ∷ 0 ∷ []) (42 ∷ 0 ∷ []) 0x101 ([]) ([])

abbrev row_70 : Bool
row_70 = calls called 7 (0x800000000000000a ∷ 0 ∷ 0 ∷ 0 ∷ 0 ∷ []) (42 ∷ 0 ∷ []) 0x101 ([]) ([])

abbrev row_71 : Bool
row_71 = calls called 7 (0x800000000000000a ∷ 1 ∷ 0 ∷ 0 ∷ 0 ∷ []) (42 ∷ 0xffffffffffffffff ∷ []) 0x101 ([]) ([])

abbrev row_72 : Bool
row_72 = calls called 7 (0x800000000000000a ∷ 0 ∷ 0 ∷ 0 ∷ 0 ∷ []) (42 ∷ 0xffffffffffffffff ∷ []) 0x101 ([]) ([])

abbrev row_73 : Bool
row_73 = calls called 8 (0x404 ∷ 0 ∷ 0 ∷ 0 ∷ 0 ∷ []) (42 ∷ 0x40 ∷ []) 0x40 ([]) (42 ∷ 0x444 ∷ [])

abbrev row_74 : Bool
row_74 = calls called 9 (0 ∷ 0 ∷ 0 ∷ 0 ∷ 0 ∷ []) ([]) 0x40 ([]) (10 ∷ 0 ∷ [])

abbrev row_75 : Bool
row_75 = calls called 9 (0 ∷ 0xfffffffffffffffd ∷ 0 ∷ 0 ∷ 0 ∷ []) ([]) 0x40 ([]) (10 ∷ 0xfffffffffffffffd ∷ [])

abbrev row_76 : Bool
row_76 = calls called 9 (0 ∷ 0xffffffffffffffff ∷ 0 ∷ 0 ∷ 0 ∷ []) ([]) 0x40 ([]) (10 ∷ 0xffffffffffffffff ∷ [])

abbrev row_77 : Bool
row_77 = calls called 9 (0 ∷ 1 ∷ 0 ∷ 0 ∷ 0 ∷ []) ([]) 0x40 ([]) (10 ∷ 0xffffffffffffffff ∷ [])

abbrev row_78 : Bool
row_78 = calls called 9 (0 ∷ 2 ∷ 0 ∷ 0 ∷ 0 ∷ []) ([]) 0x40 ([]) (10 ∷ 0xffffffffffffffff ∷ [])

abbrev row_79 : Bool
row_79 = calls called 9 (0 ∷ 0xfffffffffffffffe ∷ 0 ∷ 0 ∷ 0 ∷ []) ([]) 0x40 ([]) (10 ∷ 0xffffffffffffffff ∷ [])

abbrev row_80 : Bool
row_80 = calls called 9 (1 ∷ 0 ∷ 0 ∷ 0 ∷ 0 ∷ []) ([]) 0x40 ([]) (10 ∷ 0 ∷ 11 ∷ 0 ∷ [])

abbrev row_81 : Bool
row_81 = calls called 9 (1 ∷ 0xfffffffffffffffd ∷ 0 ∷ 0 ∷ 0 ∷ []) ([]) 0x40 ([]) (10 ∷ 0xfffffffffffffffd ∷ 11 ∷ 0 ∷ [])

abbrev row_82 : Bool
row_82 = calls called 9 (1 ∷ 0xffffffffffffffff ∷ 0 ∷ 0 ∷ 0 ∷ []) ([]) 0x40 ([]) (10 ∷ 0xffffffffffffffff ∷ 11 ∷ 0 ∷ [])

abbrev row_83 : Bool
row_83 = calls called 9 (1 ∷ 1 ∷ 0 ∷ 0 ∷ 0 ∷ []) ([]) 0x40 ([]) (10 ∷ 0xffffffffffffffff ∷ 11 ∷ 0 ∷ [])

abbrev row_84 : Bool
row_84 = calls called 9 (1 ∷ 2 ∷ 0 ∷ 0 ∷ 0 ∷ []) ([]) 0x40 ([]) (10 ∷ 0xffffffffffffffff ∷ 11 ∷ 0 ∷ [])

abbrev row_85 : Bool
row_85 = calls called 9 (1 ∷ 0xfffffffffffffffe ∷ 0 ∷ 0 ∷ 0 ∷ []) ([]) 0x40 ([]) (10 ∷ 0xffffffffffffffff ∷ 11 ∷ 0 ∷ [])

abbrev row_86 : Bool
row_86 = calls called 9 (2 ∷ 0 ∷ 0 ∷ 0 ∷ 0 ∷ []) ([]) 0x40 ([]) (10 ∷ 0 ∷ 11 ∷ 0 ∷ [])

abbrev row_87 : Bool
row_87 = calls called 9 (2 ∷ 0xfffffffffffffffd ∷ 0 ∷ 0 ∷ 0 ∷ []) ([]) 0x40 ([]) (10 ∷ 0xfffffffffffffffd ∷ 11 ∷ 0 ∷ [])

abbrev row_88 : Bool
row_88 = calls called 9 (2 ∷ 0xffffffffffffffff ∷ 0 ∷ 0 ∷ 0 ∷ []) ([]) 0x40 ([]) (10 ∷ 0xffffffffffffffff ∷ 11 ∷ 0 ∷ [])

abbrev row_89 : Bool
row_89 = calls called 9 (2 ∷ 1 ∷ 0 ∷ 0 ∷ 0 ∷ []) ([]) 0x40 ([]) (10 ∷ 0xffffffffffffffff ∷ 11 ∷ 0 ∷ [])

abbrev row_90 : Bool
row_90 = calls called 9 (2 ∷ 2 ∷ 0 ∷ 0 ∷ 0 ∷ []) ([]) 0x40 ([]) (10 ∷ 0xffffffffffffffff ∷ 11 ∷ 0 ∷ [])

abbrev row_91 : Bool
row_91 = calls called 9 (2 ∷ 0xfffffffffffffffe ∷ 0 ∷ 0 ∷ 0 ∷ []) ([]) 0x40 ([]) (10 ∷ 0xffffffffffffffff ∷ 11 ∷ 0 ∷ [])

abbrev row_92 : Bool
row_92 = calls called 14 (5 ∷ 6 ∷ 0 ∷ 0 ∷ 0 ∷ []) ([]) 0x40 ([]) (0 ∷ 0 ∷ 1 ∷ 0 ∷ 2 ∷ 0 ∷ 3 ∷ 0 ∷ 4 ∷ 0 ∷ 5 ∷ 0 ∷ 6 ∷ 0 ∷ 7 ∷ 0 ∷ 8 ∷ 0 ∷ 9 ∷ 0 ∷ 10 ∷ 5 ∷ 11 ∷ 6 ∷ 12 ∷ 0 ∷ 13 ∷ 0 ∷ 14 ∷ 0 ∷ 15 ∷ 0 ∷ 16 ∷ 0 ∷ 17 ∷ 0 ∷ 18 ∷ 0 ∷ 19 ∷ 0 ∷ 20 ∷ 0 ∷ 21 ∷ 0 ∷ 22 ∷ 0 ∷ 23 ∷ 0 ∷ 24 ∷ 0 ∷ 25 ∷ 0 ∷ 26 ∷ 0 ∷ 27 ∷ 0 ∷ 28 ∷ 0 ∷ 29 ∷ 0 ∷ 30 ∷ 0 ∷ 31 ∷ 0 ∷ 32 ∷ 0 ∷ 33 ∷ 0 ∷ 34 ∷ 0 ∷ 35 ∷ 0 ∷ 36 ∷ 0 ∷ 37 ∷ 0 ∷ 38 ∷ 0 ∷ 39 ∷ 0 ∷ 40 ∷ 0 ∷ 41 ∷ 0 ∷ 42 ∷ 0 ∷ 43 ∷ 0 ∷ 44 ∷ 0 ∷ 45 ∷ 0 ∷ 46 ∷ 0 ∷ 47 ∷ 0 ∷ 48 ∷ 0 ∷ 49 ∷ 0 ∷ 50 ∷ 0 ∷ 51 ∷ 0 ∷ 52 ∷ 0 ∷ 53 ∷ 0 ∷ 55 ∷ 0 ∷ 56 ∷ 0 ∷ 57 ∷ 0 ∷ [])

abbrev row_93 : Bool
row_93 = calls started 10 (0xa ∷ 1 ∷ 2 ∷ 3 ∷ 0x40 ∷ []) (10 ∷ 0x141 ∷ 12 ∷ 3 ∷ 16 ∷ 0 ∷ 17 ∷ 0 ∷ []) 0x0 ([]) (10 ∷ 0 ∷ 32 ∷ 0x258bf258bf258bd3 ∷ 40 ∷ 0x141 ∷ 42 ∷ 0x30eca8641fdb9725 ∷ 45 ∷ 0x3456789abcdf00f3 ∷ [])

abbrev row_94 : Bool
row_94 = calls started 10 (0xa ∷ 1 ∷ 2 ∷ 3 ∷ 0x40 ∷ []) (10 ∷ 0x141 ∷ 12 ∷ 3 ∷ 16 ∷ 0 ∷ 17 ∷ 1 ∷ []) 0x27 (0 ∷ 0x141 ∷ []) (54 ∷ 9 ∷ [])

abbrev row_95 : Bool
row_95 = calls started 10 (0xa ∷ 1 ∷ 2 ∷ 3 ∷ 0x40 ∷ []) (10 ∷ 0x141 ∷ 12 ∷ 3 ∷ 16 ∷ 0 ∷ 17 ∷ 2 ∷ []) 0x28 ([]) (54 ∷ 0xb ∷ [])

abbrev row_96 : Bool
row_96 = calls started 10 (0xa ∷ 1 ∷ 2 ∷ 3 ∷ 0x40 ∷ []) (10 ∷ 0x141 ∷ 12 ∷ 3 ∷ 16 ∷ 0 ∷ 17 ∷ 3 ∷ []) 0x0 ([]) (10 ∷ 0 ∷ 32 ∷ 0x258bf258bf258bd3 ∷ 42 ∷ 0x30eca8641fdb9761 ∷ [])

abbrev row_97 : Bool
row_97 = calls started 10 (0xa ∷ 1 ∷ 2 ∷ 3 ∷ 0x40 ∷ []) (10 ∷ 0x141 ∷ 12 ∷ 3 ∷ 16 ∷ 0 ∷ 17 ∷ 4 ∷ []) 0x22 (0 ∷ 0x141 ∷ []) (54 ∷ 4 ∷ [])

abbrev row_98 : Bool
row_98 = calls started 10 (0xa ∷ 1 ∷ 2 ∷ 3 ∷ 0x40 ∷ []) (10 ∷ 0x141 ∷ 12 ∷ 3 ∷ 16 ∷ 0 ∷ 17 ∷ 5 ∷ []) 0x0 ([]) (32 ∷ 0x258bf258bf258bd3 ∷ [])

abbrev row_99 : Bool
row_99 = calls started 10 (0xa ∷ 1 ∷ 2 ∷ 3 ∷ 0x40 ∷ []) (10 ∷ 0x141 ∷ 12 ∷ 3 ∷ 16 ∷ 0 ∷ 17 ∷ 6 ∷ []) 0x0 ([]) (32 ∷ 0x258bf258bf258bd3 ∷ [])

abbrev row_100 : Bool
row_100 = calls started 10 (0xa ∷ 1 ∷ 2 ∷ 3 ∷ 0x40 ∷ []) (10 ∷ 0x141 ∷ 12 ∷ 3 ∷ 16 ∷ 0 ∷ 17 ∷ 7 ∷ []) 0x0 ([]) (32 ∷ 0x258bf258bf258bd3 ∷ [])

abbrev row_101 : Bool
row_101 = calls started 10 (0xa ∷ 1 ∷ 2 ∷ 3 ∷ 0x40 ∷ []) (10 ∷ 0x141 ∷ 12 ∷ 3 ∷ 16 ∷ 0 ∷ 17 ∷ 8 ∷ []) 0x7 ([]) ([])

abbrev row_102 : Bool
row_102 = calls started 10 (0xa ∷ 1 ∷ 2 ∷ 3 ∷ 0x40 ∷ []) (10 ∷ 0x141 ∷ 12 ∷ 3 ∷ 16 ∷ 0 ∷ 17 ∷ 9 ∷ []) 0x29 (0 ∷ 9 ∷ 2 ∷ 0x141 ∷ 3 ∷ 0xda740da740da734 ∷ 4 ∷ 3 ∷ 5 ∷ 0xfedcba987654312 ∷ 6 ∷ 0x1111111111111101 ∷ 7 ∷ 0x123456789abcdef0 ∷ []) (54 ∷ 0xc ∷ [])

abbrev row_103 : Bool
row_103 = calls started 10 (0xa ∷ 1 ∷ 2 ∷ 3 ∷ 0x40 ∷ []) (10 ∷ 0x141 ∷ 12 ∷ 3 ∷ 16 ∷ 0 ∷ 17 ∷ 0x54494d45 ∷ []) 0x0 ([]) (10 ∷ 0 ∷ 11 ∷ 0 ∷ 32 ∷ 0x258bf258bf258bd3 ∷ 40 ∷ 0x141 ∷ 42 ∷ 0x30eca8641fdb9725 ∷ 45 ∷ 0x3456789abcdf00f3 ∷ [])

abbrev row_104 : Bool
row_104 = calls started 10 (0xa ∷ 1 ∷ 2 ∷ 3 ∷ 0x40 ∷ []) (10 ∷ 0x141 ∷ 12 ∷ 3 ∷ 16 ∷ 1 ∷ 17 ∷ 0x54494d45 ∷ []) 0x0 ([]) (10 ∷ 0xfffffffffffffffe ∷ 11 ∷ 0 ∷ 32 ∷ 0x258bf258bf258bd3 ∷ [])

abbrev row_105 : Bool
row_105 = calls started 10 (0xa ∷ 1 ∷ 2 ∷ 3 ∷ 0x40 ∷ []) (10 ∷ 0x141 ∷ 12 ∷ 3 ∷ 16 ∷ 0 ∷ 17 ∷ 0x735049 ∷ []) 0x2 (0 ∷ 0x141 ∷ 1 ∷ 0xda740da740da734 ∷ 2 ∷ 1 ∷ []) (32 ∷ 0x258bf258bf258bd3 ∷ [])

abbrev row_106 : Bool
row_106 = calls started 10 (0xa ∷ 1 ∷ 2 ∷ 3 ∷ 0x40 ∷ []) (10 ∷ 0x141 ∷ 12 ∷ 3 ∷ 16 ∷ 1 ∷ 17 ∷ 0x735049 ∷ []) 0x0 ([]) (10 ∷ 0xfffffffffffffffe ∷ 11 ∷ 0 ∷ 32 ∷ 0x258bf258bf258bd3 ∷ [])

abbrev row_107 : Bool
row_107 = calls started 10 (0xa ∷ 1 ∷ 2 ∷ 3 ∷ 0x40 ∷ []) (10 ∷ 0x141 ∷ 12 ∷ 3 ∷ 16 ∷ 0 ∷ 17 ∷ 0x48534d ∷ []) 0x3 (0 ∷ 0x141 ∷ 1 ∷ 0xda740da740da734 ∷ 2 ∷ 3 ∷ []) (32 ∷ 0x258bf258bf258bd3 ∷ [])

abbrev row_108 : Bool
row_108 = calls started 10 (0xa ∷ 1 ∷ 2 ∷ 3 ∷ 0x40 ∷ []) (10 ∷ 0x141 ∷ 12 ∷ 3 ∷ 16 ∷ 1 ∷ 17 ∷ 0x48534d ∷ []) 0x4 ([]) ([])

abbrev row_109 : Bool
row_109 = calls started 10 (0xa ∷ 1 ∷ 2 ∷ 3 ∷ 0x40 ∷ []) (10 ∷ 0x141 ∷ 12 ∷ 3 ∷ 16 ∷ 2 ∷ 17 ∷ 0x48534d ∷ []) 0x0 ([]) (10 ∷ 0xfffffffffffffffe ∷ 11 ∷ 0 ∷ 32 ∷ 0x258bf258bf258bd3 ∷ [])

abbrev row_110 : Bool
row_110 = calls started 10 (0xa ∷ 1 ∷ 2 ∷ 3 ∷ 0x40 ∷ []) (10 ∷ 0x141 ∷ 12 ∷ 3 ∷ 16 ∷ 3 ∷ 17 ∷ 0x48534d ∷ []) 0x5 ([]) ([])

abbrev row_111 : Bool
row_111 = calls started 10 (0xa ∷ 1 ∷ 2 ∷ 3 ∷ 0x40 ∷ []) (10 ∷ 0x141 ∷ 12 ∷ 3 ∷ 16 ∷ 4 ∷ 17 ∷ 0x48534d ∷ []) 0x0 ([]) (10 ∷ 0xfffffffffffffffe ∷ 11 ∷ 0 ∷ 32 ∷ 0x258bf258bf258bd3 ∷ [])

abbrev row_112 : Bool
row_112 = calls started 10 (0xa ∷ 1 ∷ 2 ∷ 3 ∷ 0x40 ∷ []) (10 ∷ 0x141 ∷ 12 ∷ 3 ∷ 16 ∷ 0 ∷ 17 ∷ 0x485643 ∷ []) 0x6 (2 ∷ 0x141 ∷ 3 ∷ 0xda740da740da734 ∷ 4 ∷ 3 ∷ 5 ∷ 0xfedcba987654312 ∷ 6 ∷ 0x1111111111111101 ∷ 7 ∷ 0x123456789abcdef0 ∷ []) (32 ∷ 0x258bf258bf258bd3 ∷ [])

abbrev row_113 : Bool
row_113 = calls started 10 (0xa ∷ 1 ∷ 2 ∷ 3 ∷ 0x40 ∷ []) (10 ∷ 0x141 ∷ 12 ∷ 3 ∷ 16 ∷ 1 ∷ 17 ∷ 0x485643 ∷ []) 0x6 (0 ∷ 1 ∷ 2 ∷ 0x141 ∷ 3 ∷ 0xda740da740da734 ∷ 4 ∷ 3 ∷ 5 ∷ 0xfedcba987654312 ∷ 6 ∷ 0x1111111111111101 ∷ 7 ∷ 0x123456789abcdef0 ∷ []) (32 ∷ 0x258bf258bf258bd3 ∷ [])

abbrev row_114 : Bool
row_114 = calls started 10 (0xa ∷ 1 ∷ 2 ∷ 3 ∷ 0x40 ∷ []) (10 ∷ 0x141 ∷ 12 ∷ 3 ∷ 16 ∷ 0 ∷ 17 ∷ 0x52464e43 ∷ []) 0x29 (0 ∷ 0x52464e43 ∷ 2 ∷ 0x141 ∷ 3 ∷ 0xda740da740da734 ∷ 4 ∷ 3 ∷ 5 ∷ 0xfedcba987654312 ∷ 6 ∷ 0x1111111111111101 ∷ 7 ∷ 0x123456789abcdef0 ∷ []) (47 ∷ 0x369d0369d0369cd1 ∷ 54 ∷ 0xc ∷ [])

abbrev row_115 : Bool
row_115 = calls started 10 (0xa ∷ 1 ∷ 2 ∷ 3 ∷ 0x40 ∷ []) (10 ∷ 0x141 ∷ 12 ∷ 3 ∷ 16 ∷ 1 ∷ 17 ∷ 0x52464e43 ∷ []) 0x29 (0 ∷ 0x52464e43 ∷ 1 ∷ 1 ∷ 2 ∷ 0x141 ∷ 3 ∷ 0xda740da740da734 ∷ 4 ∷ 3 ∷ 5 ∷ 0xfedcba987654312 ∷ 6 ∷ 0x1111111111111101 ∷ 7 ∷ 0x123456789abcdef0 ∷ []) (48 ∷ 0x37c048d159e26ac0 ∷ 54 ∷ 0xc ∷ [])

abbrev row_116 : Bool
row_116 = calls started 10 (0xa ∷ 1 ∷ 2 ∷ 3 ∷ 0x40 ∷ []) (10 ∷ 0x141 ∷ 12 ∷ 3 ∷ 16 ∷ 2 ∷ 17 ∷ 0x52464e43 ∷ []) 0x29 (0 ∷ 0x52464e43 ∷ 1 ∷ 2 ∷ 2 ∷ 0x141 ∷ 3 ∷ 0xda740da740da734 ∷ 4 ∷ 3 ∷ 5 ∷ 0xfedcba987654312 ∷ 6 ∷ 0x1111111111111101 ∷ 7 ∷ 0x123456789abcdef0 ∷ []) (49 ∷ 0x38e38e38e38e38af ∷ 54 ∷ 0xc ∷ [])

abbrev row_117 : Bool
row_117 = calls started 10 (0xa ∷ 1 ∷ 2 ∷ 3 ∷ 0x40 ∷ []) (10 ∷ 0x141 ∷ 12 ∷ 3 ∷ 16 ∷ 3 ∷ 17 ∷ 0x52464e43 ∷ []) 0x29 (0 ∷ 0x52464e43 ∷ 1 ∷ 3 ∷ 2 ∷ 0x141 ∷ 3 ∷ 0xda740da740da734 ∷ 4 ∷ 3 ∷ 5 ∷ 0xfedcba987654312 ∷ 6 ∷ 0x1111111111111101 ∷ 7 ∷ 0x123456789abcdef0 ∷ []) (50 ∷ 0x3a06d3a06d3a069e ∷ 54 ∷ 0xc ∷ [])

abbrev row_118 : Bool
row_118 = calls started 10 (0xa ∷ 1 ∷ 2 ∷ 3 ∷ 0x40 ∷ []) (10 ∷ 0x141 ∷ 12 ∷ 3 ∷ 16 ∷ 4 ∷ 17 ∷ 0x52464e43 ∷ []) 0x29 (0 ∷ 0x52464e43 ∷ 1 ∷ 4 ∷ 2 ∷ 0x141 ∷ 3 ∷ 0xda740da740da734 ∷ 4 ∷ 3 ∷ 5 ∷ 0xfedcba987654312 ∷ 6 ∷ 0x1111111111111101 ∷ 7 ∷ 0x123456789abcdef0 ∷ []) (51 ∷ 0x3b2a1907f6e5d48d ∷ 54 ∷ 0xc ∷ [])

abbrev row_119 : Bool
row_119 = calls started 10 (0xa ∷ 1 ∷ 2 ∷ 3 ∷ 0x40 ∷ []) (10 ∷ 0x141 ∷ 12 ∷ 3 ∷ 16 ∷ 5 ∷ 17 ∷ 0x52464e43 ∷ []) 0x29 (0 ∷ 0x52464e43 ∷ 1 ∷ 5 ∷ 2 ∷ 0x141 ∷ 3 ∷ 0xda740da740da734 ∷ 4 ∷ 3 ∷ 5 ∷ 0xfedcba987654312 ∷ 6 ∷ 0x1111111111111101 ∷ 7 ∷ 0x123456789abcdef0 ∷ []) (52 ∷ 0x3c4d5e6f8091a27c ∷ 54 ∷ 0xc ∷ [])

abbrev row_120 : Bool
row_120 = calls started 10 (0xa ∷ 1 ∷ 2 ∷ 3 ∷ 0x40 ∷ []) (10 ∷ 0x141 ∷ 12 ∷ 3 ∷ 16 ∷ 6 ∷ 17 ∷ 0x52464e43 ∷ []) 0x29 (0 ∷ 0x52464e43 ∷ 1 ∷ 6 ∷ 2 ∷ 0x141 ∷ 3 ∷ 0xda740da740da734 ∷ 4 ∷ 3 ∷ 5 ∷ 0xfedcba987654312 ∷ 6 ∷ 0x1111111111111101 ∷ 7 ∷ 0x123456789abcdef0 ∷ []) (53 ∷ 0x3d70a3d70a3d706b ∷ 54 ∷ 0xc ∷ [])

abbrev row_121 : Bool
row_121 = calls started 10 (0xa ∷ 1 ∷ 2 ∷ 3 ∷ 0x40 ∷ []) (10 ∷ 0x141 ∷ 12 ∷ 3 ∷ 16 ∷ 7 ∷ 17 ∷ 0x52464e43 ∷ []) 0x29 (0 ∷ 0x52464e43 ∷ 1 ∷ 7 ∷ 2 ∷ 0x141 ∷ 3 ∷ 0xda740da740da734 ∷ 4 ∷ 3 ∷ 5 ∷ 0xfedcba987654312 ∷ 6 ∷ 0x1111111111111101 ∷ 7 ∷ 0x123456789abcdef0 ∷ []) (54 ∷ 0xc ∷ [])

abbrev row_122 : Bool
row_122 = calls started 10 (0xa ∷ 1 ∷ 2 ∷ 3 ∷ 0x40 ∷ []) (10 ∷ 0x141 ∷ 12 ∷ 3 ∷ 16 ∷ 8 ∷ 17 ∷ 0x52464e43 ∷ []) 0x29 (0 ∷ 0x52464e43 ∷ 1 ∷ 8 ∷ 2 ∷ 0x141 ∷ 3 ∷ 0xda740da740da734 ∷ 4 ∷ 3 ∷ 5 ∷ 0xfedcba987654312 ∷ 6 ∷ 0x1111111111111101 ∷ 7 ∷ 0x123456789abcdef0 ∷ []) (54 ∷ 0xc ∷ [])

abbrev row_123 : Bool
row_123 = calls started 10 (0xa ∷ 1 ∷ 2 ∷ 3 ∷ 0x40 ∷ []) (10 ∷ 0x141 ∷ 12 ∷ 3 ∷ 16 ∷ 0 ∷ 17 ∷ 0x504d55 ∷ []) 0x29 (0 ∷ 0x504d55 ∷ 2 ∷ 0x141 ∷ 3 ∷ 0xda740da740da734 ∷ 4 ∷ 3 ∷ 5 ∷ 0xfedcba987654312 ∷ 6 ∷ 0x1111111111111101 ∷ 7 ∷ 0x123456789abcdef0 ∷ []) (54 ∷ 0xc ∷ [])

abbrev row_124 : Bool
row_124 = calls started 10 (0xa ∷ 1 ∷ 2 ∷ 3 ∷ 0x40 ∷ []) (10 ∷ 0x141 ∷ 12 ∷ 3 ∷ 16 ∷ 1 ∷ 17 ∷ 0x504d55 ∷ []) 0x29 (0 ∷ 0x504d55 ∷ 1 ∷ 1 ∷ 2 ∷ 0x141 ∷ 3 ∷ 0xda740da740da734 ∷ 4 ∷ 3 ∷ 5 ∷ 0xfedcba987654312 ∷ 6 ∷ 0x1111111111111101 ∷ 7 ∷ 0x123456789abcdef0 ∷ []) (54 ∷ 0xc ∷ [])

abbrev row_125 : Bool
row_125 = calls started 10 (0xa ∷ 1 ∷ 2 ∷ 3 ∷ 0x40 ∷ []) (10 ∷ 0x141 ∷ 12 ∷ 3 ∷ 16 ∷ 0 ∷ 17 ∷ 0x10 ∷ []) 0x29 (0 ∷ 0x10 ∷ 2 ∷ 0x141 ∷ 3 ∷ 0xda740da740da734 ∷ 4 ∷ 3 ∷ 5 ∷ 0xfedcba987654312 ∷ 6 ∷ 0x1111111111111101 ∷ 7 ∷ 0x123456789abcdef0 ∷ []) (54 ∷ 0xc ∷ [])

abbrev row_126 : Bool
row_126 = calls started 10 (0xa ∷ 1 ∷ 2 ∷ 3 ∷ 0x40 ∷ []) (10 ∷ 0x141 ∷ 12 ∷ 3 ∷ 16 ∷ 1 ∷ 17 ∷ 0x10 ∷ []) 0x29 (0 ∷ 0x10 ∷ 1 ∷ 1 ∷ 2 ∷ 0x141 ∷ 3 ∷ 0xda740da740da734 ∷ 4 ∷ 3 ∷ 5 ∷ 0xfedcba987654312 ∷ 6 ∷ 0x1111111111111101 ∷ 7 ∷ 0x123456789abcdef0 ∷ []) (54 ∷ 0xc ∷ [])

abbrev row_127 : Bool
row_127 = calls started 10 (0xa ∷ 1 ∷ 2 ∷ 3 ∷ 0x40 ∷ []) (10 ∷ 0 ∷ 12 ∷ 3 ∷ 16 ∷ 0 ∷ 17 ∷ 0x53525354 ∷ []) 0x7 ([]) ([])

abbrev row_128 : Bool
row_128 = calls started 10 (0xa ∷ 1 ∷ 2 ∷ 3 ∷ 0x40 ∷ []) (10 ∷ 1 ∷ 12 ∷ 3 ∷ 16 ∷ 0 ∷ 17 ∷ 0x53525354 ∷ []) 0x0 ([]) (10 ∷ 0xfffffffffffffffe ∷ 11 ∷ 0 ∷ 32 ∷ 0x258bf258bf258bd3 ∷ [])

abbrev row_129 : Bool
row_129 = calls started 10 (0xa ∷ 1 ∷ 2 ∷ 3 ∷ 0x40 ∷ []) (10 ∷ 0 ∷ 12 ∷ 3 ∷ 16 ∷ 1 ∷ 17 ∷ 0x53525354 ∷ []) 0x0 ([]) (10 ∷ 0xfffffffffffffffe ∷ 11 ∷ 0 ∷ 32 ∷ 0x258bf258bf258bd3 ∷ [])

abbrev row_130 : Bool
row_130 = calls started 10 (0xa ∷ 1 ∷ 2 ∷ 3 ∷ 0x40 ∷ []) (10 ∷ 0 ∷ 12 ∷ 1 ∷ 16 ∷ 0 ∷ 17 ∷ 0x4442434e ∷ []) 0x0 ([]) (11 ∷ 0 ∷ 32 ∷ 0x258bf258bf258bd3 ∷ [])

abbrev row_131 : Bool
row_131 = calls started 10 (0xa ∷ 1 ∷ 2 ∷ 3 ∷ 0x40 ∷ []) (10 ∷ 0xa ∷ 12 ∷ 1 ∷ 16 ∷ 0 ∷ 17 ∷ 0x4442434e ∷ []) 0x0 ([]) (10 ∷ 0xfffffffffffffffd ∷ 11 ∷ 0 ∷ 32 ∷ 0x258bf258bf258bd3 ∷ [])

abbrev row_132 : Bool
row_132 = calls started 10 (0xa ∷ 1 ∷ 2 ∷ 3 ∷ 0x40 ∷ []) (10 ∷ 0xa ∷ 12 ∷ 0 ∷ 16 ∷ 0 ∷ 17 ∷ 0x4442434e ∷ []) 0x23 (0 ∷ 0xda740da740da734 ∷ 1 ∷ 0xa ∷ []) (54 ∷ 5 ∷ 55 ∷ 0xa ∷ [])

abbrev row_133 : Bool
row_133 = calls started 10 (0xa ∷ 1 ∷ 2 ∷ 3 ∷ 9 ∷ []) (10 ∷ 0xa ∷ 12 ∷ 0 ∷ 16 ∷ 0 ∷ 17 ∷ 0x4442434e ∷ []) 0x23 (0 ∷ 0xda740da740da734 ∷ 1 ∷ 9 ∷ []) (54 ∷ 5 ∷ 55 ∷ 9 ∷ [])

abbrev row_134 : Bool
row_134 = calls started 10 (0xa ∷ 1 ∷ 2 ∷ 3 ∷ 0 ∷ []) (10 ∷ 0xa ∷ 12 ∷ 0 ∷ 16 ∷ 0 ∷ 17 ∷ 0x4442434e ∷ []) 0x0 ([]) (10 ∷ 0 ∷ 11 ∷ 0 ∷ 32 ∷ 0x258bf258bf258bd3 ∷ [])

abbrev row_135 : Bool
row_135 = calls started 10 (0xa ∷ 1 ∷ 2 ∷ 3 ∷ 0x1388 ∷ []) (10 ∷ 0x1770 ∷ 12 ∷ 0 ∷ 16 ∷ 0 ∷ 17 ∷ 0x4442434e ∷ []) 0x23 (0 ∷ 0xda740da740da734 ∷ 1 ∷ 0x1000 ∷ []) (54 ∷ 5 ∷ 55 ∷ 0x1000 ∷ [])

abbrev row_136 : Bool
row_136 = calls started 10 (0xa ∷ 1 ∷ 2 ∷ 3 ∷ 0x1000 ∷ []) (10 ∷ 0x1770 ∷ 12 ∷ 0 ∷ 16 ∷ 0 ∷ 17 ∷ 0x4442434e ∷ []) 0x23 (0 ∷ 0xda740da740da734 ∷ 1 ∷ 0x1000 ∷ []) (54 ∷ 5 ∷ 55 ∷ 0x1000 ∷ [])

abbrev row_137 : Bool
row_137 = calls started 10 (0xa ∷ 1 ∷ 2 ∷ 3 ∷ 0x1001 ∷ []) (10 ∷ 0x141 ∷ 12 ∷ 0 ∷ 16 ∷ 0 ∷ 17 ∷ 0x4442434e ∷ []) 0x23 (0 ∷ 0xda740da740da734 ∷ 1 ∷ 0x141 ∷ []) (54 ∷ 5 ∷ 55 ∷ 0x141 ∷ [])

abbrev row_138 : Bool
row_138 = calls started 10 (0xa ∷ 1 ∷ 2 ∷ 3 ∷ 0x40 ∷ []) (10 ∷ 0 ∷ 12 ∷ 1 ∷ 16 ∷ 1 ∷ 17 ∷ 0x4442434e ∷ []) 0x0 ([]) (11 ∷ 0 ∷ 32 ∷ 0x258bf258bf258bd3 ∷ [])

abbrev row_139 : Bool
row_139 = calls started 10 (0xa ∷ 1 ∷ 2 ∷ 3 ∷ 0x40 ∷ []) (10 ∷ 0xa ∷ 12 ∷ 1 ∷ 16 ∷ 1 ∷ 17 ∷ 0x4442434e ∷ []) 0x0 ([]) (10 ∷ 0xfffffffffffffffd ∷ 11 ∷ 0 ∷ 32 ∷ 0x258bf258bf258bd3 ∷ [])

abbrev row_140 : Bool
row_140 = calls started 10 (0xa ∷ 1 ∷ 2 ∷ 3 ∷ 0x40 ∷ []) (10 ∷ 0xa ∷ 12 ∷ 0 ∷ 16 ∷ 1 ∷ 17 ∷ 0x4442434e ∷ []) 0x25 (0 ∷ 0xa ∷ []) (54 ∷ 7 ∷ 55 ∷ 0xa ∷ 56 ∷ 0xda740da740da734 ∷ [])

abbrev row_141 : Bool
row_141 = calls started 10 (0xa ∷ 1 ∷ 2 ∷ 3 ∷ 9 ∷ []) (10 ∷ 0xa ∷ 12 ∷ 0 ∷ 16 ∷ 1 ∷ 17 ∷ 0x4442434e ∷ []) 0x25 (0 ∷ 9 ∷ []) (54 ∷ 7 ∷ 55 ∷ 9 ∷ 56 ∷ 0xda740da740da734 ∷ [])

abbrev row_142 : Bool
row_142 = calls started 10 (0xa ∷ 1 ∷ 2 ∷ 3 ∷ 0 ∷ []) (10 ∷ 0xa ∷ 12 ∷ 0 ∷ 16 ∷ 1 ∷ 17 ∷ 0x4442434e ∷ []) 0x0 ([]) (10 ∷ 0 ∷ 11 ∷ 0 ∷ 32 ∷ 0x258bf258bf258bd3 ∷ [])

abbrev row_143 : Bool
row_143 = calls started 10 (0xa ∷ 1 ∷ 2 ∷ 3 ∷ 0x1388 ∷ []) (10 ∷ 0x1770 ∷ 12 ∷ 0 ∷ 16 ∷ 1 ∷ 17 ∷ 0x4442434e ∷ []) 0x25 (0 ∷ 0x1000 ∷ []) (54 ∷ 7 ∷ 55 ∷ 0x1000 ∷ 56 ∷ 0xda740da740da734 ∷ [])

abbrev row_144 : Bool
row_144 = calls started 10 (0xa ∷ 1 ∷ 2 ∷ 3 ∷ 0x1000 ∷ []) (10 ∷ 0x1770 ∷ 12 ∷ 0 ∷ 16 ∷ 1 ∷ 17 ∷ 0x4442434e ∷ []) 0x25 (0 ∷ 0x1000 ∷ []) (54 ∷ 7 ∷ 55 ∷ 0x1000 ∷ 56 ∷ 0xda740da740da734 ∷ [])

abbrev row_145 : Bool
row_145 = calls started 10 (0xa ∷ 1 ∷ 2 ∷ 3 ∷ 0x1001 ∷ []) (10 ∷ 0x141 ∷ 12 ∷ 0 ∷ 16 ∷ 1 ∷ 17 ∷ 0x4442434e ∷ []) 0x25 (0 ∷ 0x141 ∷ []) (54 ∷ 7 ∷ 55 ∷ 0x141 ∷ 56 ∷ 0xda740da740da734 ∷ [])

abbrev row_146 : Bool
row_146 = calls started 10 (0xa ∷ 1 ∷ 2 ∷ 3 ∷ 0x40 ∷ []) (10 ∷ 0 ∷ 12 ∷ 1 ∷ 16 ∷ 2 ∷ 17 ∷ 0x4442434e ∷ []) 0x27 ([]) (54 ∷ 0xa ∷ [])

abbrev row_147 : Bool
row_147 = calls started 10 (0xa ∷ 1 ∷ 2 ∷ 3 ∷ 0x40 ∷ []) (10 ∷ 0xa ∷ 12 ∷ 1 ∷ 16 ∷ 2 ∷ 17 ∷ 0x4442434e ∷ []) 0x27 (0 ∷ 0xa ∷ []) (54 ∷ 0xa ∷ [])

abbrev row_148 : Bool
row_148 = calls started 10 (0xa ∷ 1 ∷ 2 ∷ 3 ∷ 0x40 ∷ []) (10 ∷ 0xa ∷ 12 ∷ 0 ∷ 16 ∷ 2 ∷ 17 ∷ 0x4442434e ∷ []) 0x27 (0 ∷ 0xa ∷ []) (54 ∷ 0xa ∷ [])

abbrev row_149 : Bool
row_149 = calls started 10 (0xa ∷ 1 ∷ 2 ∷ 3 ∷ 9 ∷ []) (10 ∷ 0xa ∷ 12 ∷ 0 ∷ 16 ∷ 2 ∷ 17 ∷ 0x4442434e ∷ []) 0x27 (0 ∷ 0xa ∷ []) (54 ∷ 0xa ∷ [])

abbrev row_150 : Bool
row_150 = calls started 10 (0xa ∷ 1 ∷ 2 ∷ 3 ∷ 0 ∷ []) (10 ∷ 0xa ∷ 12 ∷ 0 ∷ 16 ∷ 2 ∷ 17 ∷ 0x4442434e ∷ []) 0x27 (0 ∷ 0xa ∷ []) (54 ∷ 0xa ∷ [])

abbrev row_151 : Bool
row_151 = calls started 10 (0xa ∷ 1 ∷ 2 ∷ 3 ∷ 0x1388 ∷ []) (10 ∷ 0x1770 ∷ 12 ∷ 0 ∷ 16 ∷ 2 ∷ 17 ∷ 0x4442434e ∷ []) 0x27 (0 ∷ 0x70 ∷ []) (54 ∷ 0xa ∷ [])

abbrev row_152 : Bool
row_152 = calls started 10 (0xa ∷ 1 ∷ 2 ∷ 3 ∷ 0x1000 ∷ []) (10 ∷ 0x1770 ∷ 12 ∷ 0 ∷ 16 ∷ 2 ∷ 17 ∷ 0x4442434e ∷ []) 0x27 (0 ∷ 0x70 ∷ []) (54 ∷ 0xa ∷ [])

abbrev row_153 : Bool
row_153 = calls started 10 (0xa ∷ 1 ∷ 2 ∷ 3 ∷ 0x1001 ∷ []) (10 ∷ 0x141 ∷ 12 ∷ 0 ∷ 16 ∷ 2 ∷ 17 ∷ 0x4442434e ∷ []) 0x27 (0 ∷ 0x41 ∷ []) (54 ∷ 0xa ∷ [])

abbrev row_154 : Bool
row_154 = calls started 10 (0xa ∷ 1 ∷ 2 ∷ 3 ∷ 0x40 ∷ []) (10 ∷ 0 ∷ 12 ∷ 1 ∷ 16 ∷ 3 ∷ 17 ∷ 0x4442434e ∷ []) 0x0 ([]) (10 ∷ 0xfffffffffffffffe ∷ 11 ∷ 0 ∷ 32 ∷ 0x258bf258bf258bd3 ∷ [])

abbrev row_155 : Bool
row_155 = calls started 10 (0xa ∷ 1 ∷ 2 ∷ 3 ∷ 0x40 ∷ []) (10 ∷ 0xa ∷ 12 ∷ 1 ∷ 16 ∷ 3 ∷ 17 ∷ 0x4442434e ∷ []) 0x0 ([]) (10 ∷ 0xfffffffffffffffe ∷ 11 ∷ 0 ∷ 32 ∷ 0x258bf258bf258bd3 ∷ [])

abbrev row_156 : Bool
row_156 = calls started 10 (0xa ∷ 1 ∷ 2 ∷ 3 ∷ 0x40 ∷ []) (10 ∷ 0xa ∷ 12 ∷ 0 ∷ 16 ∷ 3 ∷ 17 ∷ 0x4442434e ∷ []) 0x0 ([]) (10 ∷ 0xfffffffffffffffe ∷ 11 ∷ 0 ∷ 32 ∷ 0x258bf258bf258bd3 ∷ [])

abbrev row_157 : Bool
row_157 = calls started 10 (0xa ∷ 1 ∷ 2 ∷ 3 ∷ 9 ∷ []) (10 ∷ 0xa ∷ 12 ∷ 0 ∷ 16 ∷ 3 ∷ 17 ∷ 0x4442434e ∷ []) 0x0 ([]) (10 ∷ 0xfffffffffffffffe ∷ 11 ∷ 0 ∷ 32 ∷ 0x258bf258bf258bd3 ∷ [])

abbrev row_158 : Bool
row_158 = calls started 10 (0xa ∷ 1 ∷ 2 ∷ 3 ∷ 0 ∷ []) (10 ∷ 0xa ∷ 12 ∷ 0 ∷ 16 ∷ 3 ∷ 17 ∷ 0x4442434e ∷ []) 0x0 ([]) (10 ∷ 0xfffffffffffffffe ∷ 11 ∷ 0 ∷ 32 ∷ 0x258bf258bf258bd3 ∷ [])

abbrev row_159 : Bool
row_159 = calls started 10 (0xa ∷ 1 ∷ 2 ∷ 3 ∷ 0x1388 ∷ []) (10 ∷ 0x1770 ∷ 12 ∷ 0 ∷ 16 ∷ 3 ∷ 17 ∷ 0x4442434e ∷ []) 0x0 ([]) (10 ∷ 0xfffffffffffffffe ∷ 11 ∷ 0 ∷ 32 ∷ 0x258bf258bf258bd3 ∷ [])

abbrev row_160 : Bool
row_160 = calls started 10 (0xa ∷ 1 ∷ 2 ∷ 3 ∷ 0x1000 ∷ []) (10 ∷ 0x1770 ∷ 12 ∷ 0 ∷ 16 ∷ 3 ∷ 17 ∷ 0x4442434e ∷ []) 0x0 ([]) (10 ∷ 0xfffffffffffffffe ∷ 11 ∷ 0 ∷ 32 ∷ 0x258bf258bf258bd3 ∷ [])

abbrev row_161 : Bool
row_161 = calls started 10 (0xa ∷ 1 ∷ 2 ∷ 3 ∷ 0x1001 ∷ []) (10 ∷ 0x141 ∷ 12 ∷ 0 ∷ 16 ∷ 3 ∷ 17 ∷ 0x4442434e ∷ []) 0x0 ([]) (10 ∷ 0xfffffffffffffffe ∷ 11 ∷ 0 ∷ 32 ∷ 0x258bf258bf258bd3 ∷ [])

abbrev row_162 : Bool
row_162 = calls started 10 (0x16 ∷ 0x123414e29373 ∷ 2 ∷ 3 ∷ 4 ∷ []) ([]) 0x103 ([]) (46 ∷ 0x3579be02468acee2 ∷ [])

abbrev row_163 : Bool
row_163 = calls answered 11 (1 ∷ 0x123414e29373 ∷ 0 ∷ 0 ∷ 0 ∷ []) (54 ∷ 2 ∷ []) 0x103 ([]) (46 ∷ 0x3579be02468acee2 ∷ 54 ∷ 0 ∷ [])

abbrev row_164 : Bool
row_164 = calls started 10 (0x16 ∷ 0x123414d29333 ∷ 2 ∷ 3 ∷ 4 ∷ []) ([]) 0x21 (0 ∷ 0x258bf258bf258bcf ∷ 1 ∷ 1 ∷ []) (54 ∷ 2 ∷ [])

abbrev row_165 : Bool
row_165 = calls answered 11 (1 ∷ 0x123414d29333 ∷ 0 ∷ 0 ∷ 0 ∷ []) (54 ∷ 2 ∷ []) 0x103 ([]) (46 ∷ 0x3579be02468acee2 ∷ 54 ∷ 0 ∷ [])

abbrev row_166 : Bool
row_166 = calls started 10 (0x16 ∷ 0x123414d29073 ∷ 2 ∷ 3 ∷ 4 ∷ []) ([]) 0x0 ([]) (32 ∷ 0x258bf258bf258bd3 ∷ 40 ∷ 0x6d3a06d3a06d39a ∷ [])

abbrev row_167 : Bool
row_167 = calls answered 11 (1 ∷ 0x123414d29073 ∷ 0 ∷ 0 ∷ 0 ∷ []) (54 ∷ 2 ∷ []) 0x0 ([]) (32 ∷ 0x258bf258bf258bd3 ∷ 40 ∷ 0x6d3a06d3a06d39a ∷ 54 ∷ 0 ∷ [])

abbrev row_168 : Bool
row_168 = calls started 10 (0x16 ∷ 0x123414df9ff3 ∷ 2 ∷ 3 ∷ 4 ∷ []) ([]) 0x0 ([]) (31 ∷ 0x2ea61d950c83fb47 ∷ 32 ∷ 0x258bf258bf258bd3 ∷ 40 ∷ 0x2468acf13579bde0 ∷ [])

abbrev row_169 : Bool
row_169 = calls answered 11 (1 ∷ 0x123414df9ff3 ∷ 0 ∷ 0 ∷ 0 ∷ []) (54 ∷ 2 ∷ []) 0x0 ([]) (31 ∷ 0x2ea61d950c83fb47 ∷ 32 ∷ 0x258bf258bf258bd3 ∷ 40 ∷ 0x2468acf13579bde0 ∷ 54 ∷ 0 ∷ [])

abbrev row_170 : Bool
row_170 = calls started 10 (0x16 ∷ 0x123414d28373 ∷ 2 ∷ 3 ∷ 4 ∷ []) ([]) 0x103 ([]) (46 ∷ 0x3579be02468acee2 ∷ [])

abbrev row_171 : Bool
row_171 = calls answered 11 (1 ∷ 0x123414d28373 ∷ 0 ∷ 0 ∷ 0 ∷ []) (54 ∷ 2 ∷ []) 0x103 ([]) (46 ∷ 0x3579be02468acee2 ∷ 54 ∷ 0 ∷ [])

abbrev row_172 : Bool
row_172 = calls started 10 (0x16 ∷ 0x123414d00373 ∷ 2 ∷ 3 ∷ 4 ∷ []) ([]) 0x103 ([]) (46 ∷ 0x3579be02468acee2 ∷ [])

abbrev row_173 : Bool
row_173 = calls answered 11 (1 ∷ 0x123414d00373 ∷ 0 ∷ 0 ∷ 0 ∷ []) (54 ∷ 2 ∷ []) 0x103 ([]) (46 ∷ 0x3579be02468acee2 ∷ 54 ∷ 0 ∷ [])

abbrev row_174 : Bool
row_174 = calls started 10 (0x16 ∷ 0x123414d29373 ∷ 2 ∷ 3 ∷ 4 ∷ []) ([]) 0x0 ([]) (6 ∷ 0x2ea61d950c83fb47 ∷ 32 ∷ 0x258bf258bf258bd3 ∷ 40 ∷ 0x6d3a06d3a06d39a ∷ [])

abbrev row_175 : Bool
row_175 = calls answered 11 (1 ∷ 0x123414d29373 ∷ 0 ∷ 0 ∷ 0 ∷ []) (54 ∷ 2 ∷ []) 0x0 ([]) (6 ∷ 0x2ea61d950c83fb47 ∷ 32 ∷ 0x258bf258bf258bd3 ∷ 40 ∷ 0x6d3a06d3a06d39a ∷ 54 ∷ 0 ∷ [])

abbrev row_176 : Bool
row_176 = calls started 10 (0x16 ∷ 0x123414d01373 ∷ 2 ∷ 3 ∷ 4 ∷ []) ([]) 0x0 ([]) (6 ∷ 0x2ea61d950c83fb47 ∷ 32 ∷ 0x258bf258bf258bd3 ∷ 40 ∷ 0 ∷ [])

abbrev row_177 : Bool
row_177 = calls answered 11 (1 ∷ 0x123414d01373 ∷ 0 ∷ 0 ∷ 0 ∷ []) (54 ∷ 2 ∷ []) 0x0 ([]) (6 ∷ 0x2ea61d950c83fb47 ∷ 32 ∷ 0x258bf258bf258bd3 ∷ 40 ∷ 0 ∷ 54 ∷ 0 ∷ [])

abbrev row_178 : Bool
row_178 = calls started 10 (0x16 ∷ 0x123414d2a373 ∷ 2 ∷ 3 ∷ 4 ∷ []) ([]) 0x0 ([]) (6 ∷ 0x2ea61d950c83fb47 ∷ 32 ∷ 0x258bf258bf258bd3 ∷ 40 ∷ 0x2ef7bdfd3e87fbdf ∷ [])

abbrev row_179 : Bool
row_179 = calls answered 11 (1 ∷ 0x123414d2a373 ∷ 0 ∷ 0 ∷ 0 ∷ []) (54 ∷ 2 ∷ []) 0x0 ([]) (6 ∷ 0x2ea61d950c83fb47 ∷ 32 ∷ 0x258bf258bf258bd3 ∷ 40 ∷ 0x2ef7bdfd3e87fbdf ∷ 54 ∷ 0 ∷ [])

abbrev row_180 : Bool
row_180 = calls started 10 (0x16 ∷ 0x123414d02373 ∷ 2 ∷ 3 ∷ 4 ∷ []) ([]) 0x0 ([]) (6 ∷ 0x2ea61d950c83fb47 ∷ 32 ∷ 0x258bf258bf258bd3 ∷ [])

abbrev row_181 : Bool
row_181 = calls answered 11 (1 ∷ 0x123414d02373 ∷ 0 ∷ 0 ∷ 0 ∷ []) (54 ∷ 2 ∷ []) 0x0 ([]) (6 ∷ 0x2ea61d950c83fb47 ∷ 32 ∷ 0x258bf258bf258bd3 ∷ 54 ∷ 0 ∷ [])

abbrev row_182 : Bool
row_182 = calls started 10 (0x16 ∷ 0x123414d2b373 ∷ 2 ∷ 3 ∷ 4 ∷ []) ([]) 0x0 ([]) (6 ∷ 0x2ea61d950c83fb47 ∷ 32 ∷ 0x258bf258bf258bd3 ∷ 40 ∷ 0x28241d9004812845 ∷ [])

abbrev row_183 : Bool
row_183 = calls answered 11 (1 ∷ 0x123414d2b373 ∷ 0 ∷ 0 ∷ 0 ∷ []) (54 ∷ 2 ∷ []) 0x0 ([]) (6 ∷ 0x2ea61d950c83fb47 ∷ 32 ∷ 0x258bf258bf258bd3 ∷ 40 ∷ 0x28241d9004812845 ∷ 54 ∷ 0 ∷ [])

abbrev row_184 : Bool
row_184 = calls started 10 (0x16 ∷ 0x123414d03373 ∷ 2 ∷ 3 ∷ 4 ∷ []) ([]) 0x0 ([]) (6 ∷ 0x2ea61d950c83fb47 ∷ 32 ∷ 0x258bf258bf258bd3 ∷ [])

abbrev row_185 : Bool
row_185 = calls answered 11 (1 ∷ 0x123414d03373 ∷ 0 ∷ 0 ∷ 0 ∷ []) (54 ∷ 2 ∷ []) 0x0 ([]) (6 ∷ 0x2ea61d950c83fb47 ∷ 32 ∷ 0x258bf258bf258bd3 ∷ 54 ∷ 0 ∷ [])

abbrev row_186 : Bool
row_186 = calls started 10 (0x16 ∷ 0x123414d2c373 ∷ 2 ∷ 3 ∷ 4 ∷ []) ([]) 0x103 ([]) (46 ∷ 0x3579be02468acee2 ∷ [])

abbrev row_187 : Bool
row_187 = calls answered 11 (1 ∷ 0x123414d2c373 ∷ 0 ∷ 0 ∷ 0 ∷ []) (54 ∷ 2 ∷ []) 0x103 ([]) (46 ∷ 0x3579be02468acee2 ∷ 54 ∷ 0 ∷ [])

abbrev row_188 : Bool
row_188 = calls started 10 (0x16 ∷ 0x123414d04373 ∷ 2 ∷ 3 ∷ 4 ∷ []) ([]) 0x103 ([]) (46 ∷ 0x3579be02468acee2 ∷ [])

abbrev row_189 : Bool
row_189 = calls answered 11 (1 ∷ 0x123414d04373 ∷ 0 ∷ 0 ∷ 0 ∷ []) (54 ∷ 2 ∷ []) 0x103 ([]) (46 ∷ 0x3579be02468acee2 ∷ 54 ∷ 0 ∷ [])

abbrev row_190 : Bool
row_190 = calls started 10 (0x16 ∷ 0x123414d2d373 ∷ 2 ∷ 3 ∷ 4 ∷ []) ([]) 0x0 ([]) (6 ∷ 0x2ea61d950c83fb47 ∷ 32 ∷ 0x258bf258bf258bd3 ∷ 40 ∷ 5 ∷ [])

abbrev row_191 : Bool
row_191 = calls answered 11 (1 ∷ 0x123414d2d373 ∷ 0 ∷ 0 ∷ 0 ∷ []) (54 ∷ 2 ∷ []) 0x0 ([]) (6 ∷ 0x2ea61d950c83fb47 ∷ 32 ∷ 0x258bf258bf258bd3 ∷ 40 ∷ 5 ∷ 54 ∷ 0 ∷ [])

abbrev row_192 : Bool
row_192 = calls started 10 (0x16 ∷ 0x123414d05373 ∷ 2 ∷ 3 ∷ 4 ∷ []) ([]) 0x0 ([]) (6 ∷ 0x2ea61d950c83fb47 ∷ 32 ∷ 0x258bf258bf258bd3 ∷ 40 ∷ 0 ∷ [])

abbrev row_193 : Bool
row_193 = calls answered 11 (1 ∷ 0x123414d05373 ∷ 0 ∷ 0 ∷ 0 ∷ []) (54 ∷ 2 ∷ []) 0x0 ([]) (6 ∷ 0x2ea61d950c83fb47 ∷ 32 ∷ 0x258bf258bf258bd3 ∷ 40 ∷ 0 ∷ 54 ∷ 0 ∷ [])

abbrev row_194 : Bool
row_194 = calls started 10 (0x16 ∷ 0x123414d2e373 ∷ 2 ∷ 3 ∷ 4 ∷ []) ([]) 0x0 ([]) (6 ∷ 0x2ea61d950c83fb47 ∷ 32 ∷ 0x258bf258bf258bd3 ∷ [])

abbrev row_195 : Bool
row_195 = calls answered 11 (1 ∷ 0x123414d2e373 ∷ 0 ∷ 0 ∷ 0 ∷ []) (54 ∷ 2 ∷ []) 0x0 ([]) (6 ∷ 0x2ea61d950c83fb47 ∷ 32 ∷ 0x258bf258bf258bd3 ∷ 54 ∷ 0 ∷ [])

abbrev row_196 : Bool
row_196 = calls started 10 (0x16 ∷ 0x123414d06373 ∷ 2 ∷ 3 ∷ 4 ∷ []) ([]) 0x0 ([]) (6 ∷ 0x2ea61d950c83fb47 ∷ 32 ∷ 0x258bf258bf258bd3 ∷ [])

abbrev row_197 : Bool
row_197 = calls answered 11 (1 ∷ 0x123414d06373 ∷ 0 ∷ 0 ∷ 0 ∷ []) (54 ∷ 2 ∷ []) 0x0 ([]) (6 ∷ 0x2ea61d950c83fb47 ∷ 32 ∷ 0x258bf258bf258bd3 ∷ 54 ∷ 0 ∷ [])

abbrev row_198 : Bool
row_198 = calls started 10 (0x16 ∷ 0x123414d2f373 ∷ 2 ∷ 3 ∷ 4 ∷ []) ([]) 0x0 ([]) (6 ∷ 0x2ea61d950c83fb47 ∷ 32 ∷ 0x258bf258bf258bd3 ∷ 40 ∷ 0x2ea61d950c83fb42 ∷ [])

abbrev row_199 : Bool
row_199 = calls answered 11 (1 ∷ 0x123414d2f373 ∷ 0 ∷ 0 ∷ 0 ∷ []) (54 ∷ 2 ∷ []) 0x0 ([]) (6 ∷ 0x2ea61d950c83fb47 ∷ 32 ∷ 0x258bf258bf258bd3 ∷ 40 ∷ 0x2ea61d950c83fb42 ∷ 54 ∷ 0 ∷ [])

abbrev row_200 : Bool
row_200 = calls started 10 (0x16 ∷ 0x123414d07373 ∷ 2 ∷ 3 ∷ 4 ∷ []) ([]) 0x0 ([]) (6 ∷ 0x2ea61d950c83fb47 ∷ 32 ∷ 0x258bf258bf258bd3 ∷ [])

abbrev row_201 : Bool
row_201 = calls answered 11 (1 ∷ 0x123414d07373 ∷ 0 ∷ 0 ∷ 0 ∷ []) (54 ∷ 2 ∷ []) 0x0 ([]) (6 ∷ 0x2ea61d950c83fb47 ∷ 32 ∷ 0x258bf258bf258bd3 ∷ 54 ∷ 0 ∷ [])

abbrev row_202 : Bool
row_202 = calls started 10 (0xa ∷ 1 ∷ 2 ∷ 3 ∷ 4 ∷ []) (10 ∷ 0 ∷ 16 ∷ 0 ∷ 17 ∷ 0 ∷ 42 ∷ 0 ∷ []) 0x0 ([]) (32 ∷ 0x258bf258bf258bd3 ∷ 40 ∷ 0 ∷ 45 ∷ 0x3456789abcdf00f3 ∷ [])

abbrev row_203 : Bool
row_203 = calls started 10 (0xa ∷ 1 ∷ 2 ∷ 3 ∷ 4 ∷ []) (10 ∷ 0xffffffffffffffff ∷ 16 ∷ 0 ∷ 17 ∷ 0 ∷ 42 ∷ 0 ∷ []) 0x0 ([]) (10 ∷ 0 ∷ 32 ∷ 0x258bf258bf258bd3 ∷ 40 ∷ 0xffffffffffffffff ∷ 45 ∷ 0x3456789abcdf00f3 ∷ [])

abbrev row_204 : Bool
row_204 = calls started 10 (0xa ∷ 1 ∷ 2 ∷ 3 ∷ 4 ∷ []) (10 ∷ 0 ∷ 16 ∷ 1 ∷ 17 ∷ 0 ∷ 42 ∷ 0 ∷ []) 0x0 ([]) (32 ∷ 0x258bf258bf258bd3 ∷ 40 ∷ 0 ∷ 45 ∷ 0x3456789abcdf00f3 ∷ [])

abbrev row_205 : Bool
row_205 = calls started 10 (0xa ∷ 1 ∷ 2 ∷ 3 ∷ 4 ∷ []) (10 ∷ 0xffffffffffffffff ∷ 16 ∷ 1 ∷ 17 ∷ 0 ∷ 42 ∷ 0 ∷ []) 0x0 ([]) (10 ∷ 0 ∷ 32 ∷ 0x258bf258bf258bd3 ∷ 40 ∷ 0xffffffffffffffff ∷ 45 ∷ 0x3456789abcdf00f3 ∷ [])

abbrev row_206 : Bool
row_206 = calls started 10 (0xa ∷ 1 ∷ 2 ∷ 3 ∷ 4 ∷ []) (10 ∷ 0 ∷ 16 ∷ 0 ∷ 17 ∷ 3 ∷ 42 ∷ 0 ∷ []) 0x0 ([]) (32 ∷ 0x258bf258bf258bd3 ∷ [])

abbrev row_207 : Bool
row_207 = calls started 10 (0xa ∷ 1 ∷ 2 ∷ 3 ∷ 4 ∷ []) (10 ∷ 0xffffffffffffffff ∷ 16 ∷ 0 ∷ 17 ∷ 3 ∷ 42 ∷ 0 ∷ []) 0x0 ([]) (10 ∷ 0 ∷ 32 ∷ 0x258bf258bf258bd3 ∷ [])

abbrev row_208 : Bool
row_208 = calls started 10 (0xa ∷ 1 ∷ 2 ∷ 3 ∷ 4 ∷ []) (10 ∷ 0 ∷ 16 ∷ 0 ∷ 17 ∷ 0x54494d45 ∷ 42 ∷ 0 ∷ []) 0x0 ([]) (11 ∷ 0 ∷ 32 ∷ 0x258bf258bf258bd3 ∷ 40 ∷ 0 ∷ 45 ∷ 0x3456789abcdf00f3 ∷ [])

abbrev row_209 : Bool
row_209 = calls started 10 (0xa ∷ 1 ∷ 2 ∷ 3 ∷ 4 ∷ []) (10 ∷ 0xffffffffffffffff ∷ 16 ∷ 0 ∷ 17 ∷ 0x54494d45 ∷ 42 ∷ 0 ∷ []) 0x0 ([]) (10 ∷ 0 ∷ 11 ∷ 0 ∷ 32 ∷ 0x258bf258bf258bd3 ∷ 40 ∷ 0xffffffffffffffff ∷ 45 ∷ 0x3456789abcdf00f3 ∷ [])

abbrev row_210 : Bool
row_210 = calls started 10 (0xa ∷ 1 ∷ 2 ∷ 3 ∷ 4 ∷ []) (10 ∷ 0 ∷ 16 ∷ 1 ∷ 17 ∷ 0x54494d45 ∷ 42 ∷ 0 ∷ []) 0x0 ([]) (10 ∷ 0xfffffffffffffffe ∷ 11 ∷ 0 ∷ 32 ∷ 0x258bf258bf258bd3 ∷ [])

abbrev row_211 : Bool
row_211 = calls started 10 (0xa ∷ 1 ∷ 2 ∷ 3 ∷ 4 ∷ []) (10 ∷ 0xffffffffffffffff ∷ 16 ∷ 1 ∷ 17 ∷ 0x54494d45 ∷ 42 ∷ 0 ∷ []) 0x0 ([]) (10 ∷ 0xfffffffffffffffe ∷ 11 ∷ 0 ∷ 32 ∷ 0x258bf258bf258bd3 ∷ [])

abbrev row_212 : Bool
row_212 = calls started 10 (0x16 ∷ 0x14d29373 ∷ 2 ∷ 3 ∷ 4 ∷ []) (42 ∷ 0 ∷ []) 0x0 ([]) (6 ∷ 0x2ea61d950c83fb47 ∷ 32 ∷ 0x258bf258bf258bd3 ∷ 40 ∷ 0x6d3a06d3a06d39a ∷ [])

abbrev row_213 : Bool
row_213 = calls answered 11 (1 ∷ 0x14d29373 ∷ 0 ∷ 0 ∷ 0 ∷ []) (42 ∷ 0 ∷ 54 ∷ 2 ∷ []) 0x0 ([]) (6 ∷ 0x2ea61d950c83fb47 ∷ 32 ∷ 0x258bf258bf258bd3 ∷ 40 ∷ 0x6d3a06d3a06d39a ∷ 54 ∷ 0 ∷ [])

abbrev row_214 : Bool
row_214 = calls started 10 (0x16 ∷ 0x14d2a373 ∷ 2 ∷ 3 ∷ 4 ∷ []) (42 ∷ 0 ∷ []) 0x0 ([]) (6 ∷ 0x2ea61d950c83fb47 ∷ 32 ∷ 0x258bf258bf258bd3 ∷ 40 ∷ 0x2ef7bdfd3e87fbdf ∷ [])

abbrev row_215 : Bool
row_215 = calls answered 11 (1 ∷ 0x14d2a373 ∷ 0 ∷ 0 ∷ 0 ∷ []) (42 ∷ 0 ∷ 54 ∷ 2 ∷ []) 0x0 ([]) (6 ∷ 0x2ea61d950c83fb47 ∷ 32 ∷ 0x258bf258bf258bd3 ∷ 40 ∷ 0x2ef7bdfd3e87fbdf ∷ 54 ∷ 0 ∷ [])

abbrev row_216 : Bool
row_216 = calls started 10 (0x16 ∷ 0x14d2b373 ∷ 2 ∷ 3 ∷ 4 ∷ []) (42 ∷ 0 ∷ []) 0x0 ([]) (6 ∷ 0x2ea61d950c83fb47 ∷ 32 ∷ 0x258bf258bf258bd3 ∷ 40 ∷ 0x28241d9004812845 ∷ [])

abbrev row_217 : Bool
row_217 = calls answered 11 (1 ∷ 0x14d2b373 ∷ 0 ∷ 0 ∷ 0 ∷ []) (42 ∷ 0 ∷ 54 ∷ 2 ∷ []) 0x0 ([]) (6 ∷ 0x2ea61d950c83fb47 ∷ 32 ∷ 0x258bf258bf258bd3 ∷ 40 ∷ 0x28241d9004812845 ∷ 54 ∷ 0 ∷ [])

abbrev row_218 : Bool
row_218 = calls started 10 (0x16 ∷ 0x14d2d373 ∷ 2 ∷ 3 ∷ 4 ∷ []) (42 ∷ 0 ∷ []) 0x0 ([]) (6 ∷ 0x2ea61d950c83fb47 ∷ 32 ∷ 0x258bf258bf258bd3 ∷ 40 ∷ 5 ∷ [])

abbrev row_219 : Bool
row_219 = calls answered 11 (1 ∷ 0x14d2d373 ∷ 0 ∷ 0 ∷ 0 ∷ []) (42 ∷ 0 ∷ 54 ∷ 2 ∷ []) 0x0 ([]) (6 ∷ 0x2ea61d950c83fb47 ∷ 32 ∷ 0x258bf258bf258bd3 ∷ 40 ∷ 5 ∷ 54 ∷ 0 ∷ [])

abbrev row_220 : Bool
row_220 = calls started 10 (0x16 ∷ 0x14d2e373 ∷ 2 ∷ 3 ∷ 4 ∷ []) (42 ∷ 0 ∷ []) 0x0 ([]) (6 ∷ 0x2ea61d950c83fb47 ∷ 32 ∷ 0x258bf258bf258bd3 ∷ [])

abbrev row_221 : Bool
row_221 = calls answered 11 (1 ∷ 0x14d2e373 ∷ 0 ∷ 0 ∷ 0 ∷ []) (42 ∷ 0 ∷ 54 ∷ 2 ∷ []) 0x0 ([]) (6 ∷ 0x2ea61d950c83fb47 ∷ 32 ∷ 0x258bf258bf258bd3 ∷ 54 ∷ 0 ∷ [])

abbrev row_222 : Bool
row_222 = calls started 10 (0x16 ∷ 0x14d2f373 ∷ 2 ∷ 3 ∷ 4 ∷ []) (42 ∷ 0 ∷ []) 0x0 ([]) (6 ∷ 0x2ea61d950c83fb47 ∷ 32 ∷ 0x258bf258bf258bd3 ∷ 40 ∷ 0x2ea61d950c83fb42 ∷ [])

abbrev row_223 : Bool
row_223 = calls answered 11 (1 ∷ 0x14d2f373 ∷ 0 ∷ 0 ∷ 0 ∷ []) (42 ∷ 0 ∷ 54 ∷ 2 ∷ []) 0x0 ([]) (6 ∷ 0x2ea61d950c83fb47 ∷ 32 ∷ 0x258bf258bf258bd3 ∷ 40 ∷ 0x2ea61d950c83fb42 ∷ 54 ∷ 0 ∷ [])

abbrev row_224 : Bool
row_224 = calls started 10 (0xa ∷ 1 ∷ 2 ∷ 3 ∷ 4 ∷ []) (10 ∷ 0 ∷ 16 ∷ 0 ∷ 17 ∷ 0 ∷ 42 ∷ 0x40 ∷ []) 0x0 ([]) (32 ∷ 0x258bf258bf258bd3 ∷ 40 ∷ 0 ∷ 42 ∷ 0 ∷ 45 ∷ 0x3456789abcdf00f3 ∷ [])

abbrev row_225 : Bool
row_225 = calls started 10 (0xa ∷ 1 ∷ 2 ∷ 3 ∷ 4 ∷ []) (10 ∷ 0xffffffffffffffff ∷ 16 ∷ 0 ∷ 17 ∷ 0 ∷ 42 ∷ 0x40 ∷ []) 0x0 ([]) (10 ∷ 0 ∷ 32 ∷ 0x258bf258bf258bd3 ∷ 40 ∷ 0xffffffffffffffff ∷ 42 ∷ 0 ∷ 45 ∷ 0x3456789abcdf00f3 ∷ [])

abbrev row_226 : Bool
row_226 = calls started 10 (0xa ∷ 1 ∷ 2 ∷ 3 ∷ 4 ∷ []) (10 ∷ 0 ∷ 16 ∷ 1 ∷ 17 ∷ 0 ∷ 42 ∷ 0x40 ∷ []) 0x0 ([]) (32 ∷ 0x258bf258bf258bd3 ∷ 40 ∷ 0 ∷ 42 ∷ 0 ∷ 45 ∷ 0x3456789abcdf00f3 ∷ [])

abbrev row_227 : Bool
row_227 = calls started 10 (0xa ∷ 1 ∷ 2 ∷ 3 ∷ 4 ∷ []) (10 ∷ 0xffffffffffffffff ∷ 16 ∷ 1 ∷ 17 ∷ 0 ∷ 42 ∷ 0x40 ∷ []) 0x0 ([]) (10 ∷ 0 ∷ 32 ∷ 0x258bf258bf258bd3 ∷ 40 ∷ 0xffffffffffffffff ∷ 42 ∷ 0 ∷ 45 ∷ 0x3456789abcdf00f3 ∷ [])

abbrev row_228 : Bool
row_228 = calls started 10 (0xa ∷ 1 ∷ 2 ∷ 3 ∷ 4 ∷ []) (10 ∷ 0 ∷ 16 ∷ 0 ∷ 17 ∷ 3 ∷ 42 ∷ 0x40 ∷ []) 0x0 ([]) (32 ∷ 0x258bf258bf258bd3 ∷ [])

abbrev row_229 : Bool
row_229 = calls started 10 (0xa ∷ 1 ∷ 2 ∷ 3 ∷ 4 ∷ []) (10 ∷ 0xffffffffffffffff ∷ 16 ∷ 0 ∷ 17 ∷ 3 ∷ 42 ∷ 0x40 ∷ []) 0x0 ([]) (10 ∷ 0 ∷ 32 ∷ 0x258bf258bf258bd3 ∷ [])

abbrev row_230 : Bool
row_230 = calls started 10 (0xa ∷ 1 ∷ 2 ∷ 3 ∷ 4 ∷ []) (10 ∷ 0 ∷ 16 ∷ 0 ∷ 17 ∷ 0x54494d45 ∷ 42 ∷ 0x40 ∷ []) 0x0 ([]) (11 ∷ 0 ∷ 32 ∷ 0x258bf258bf258bd3 ∷ 40 ∷ 0 ∷ 42 ∷ 0 ∷ 45 ∷ 0x3456789abcdf00f3 ∷ [])

abbrev row_231 : Bool
row_231 = calls started 10 (0xa ∷ 1 ∷ 2 ∷ 3 ∷ 4 ∷ []) (10 ∷ 0xffffffffffffffff ∷ 16 ∷ 0 ∷ 17 ∷ 0x54494d45 ∷ 42 ∷ 0x40 ∷ []) 0x0 ([]) (10 ∷ 0 ∷ 11 ∷ 0 ∷ 32 ∷ 0x258bf258bf258bd3 ∷ 40 ∷ 0xffffffffffffffff ∷ 42 ∷ 0 ∷ 45 ∷ 0x3456789abcdf00f3 ∷ [])

abbrev row_232 : Bool
row_232 = calls started 10 (0xa ∷ 1 ∷ 2 ∷ 3 ∷ 4 ∷ []) (10 ∷ 0 ∷ 16 ∷ 1 ∷ 17 ∷ 0x54494d45 ∷ 42 ∷ 0x40 ∷ []) 0x0 ([]) (10 ∷ 0xfffffffffffffffe ∷ 11 ∷ 0 ∷ 32 ∷ 0x258bf258bf258bd3 ∷ [])

abbrev row_233 : Bool
row_233 = calls started 10 (0xa ∷ 1 ∷ 2 ∷ 3 ∷ 4 ∷ []) (10 ∷ 0xffffffffffffffff ∷ 16 ∷ 1 ∷ 17 ∷ 0x54494d45 ∷ 42 ∷ 0x40 ∷ []) 0x0 ([]) (10 ∷ 0xfffffffffffffffe ∷ 11 ∷ 0 ∷ 32 ∷ 0x258bf258bf258bd3 ∷ [])

abbrev row_234 : Bool
row_234 = calls started 10 (0x16 ∷ 0x14d29373 ∷ 2 ∷ 3 ∷ 4 ∷ []) (42 ∷ 0x40 ∷ []) 0x0 ([]) (6 ∷ 0x2ea61d950c83fb47 ∷ 32 ∷ 0x258bf258bf258bd3 ∷ 40 ∷ 0x6d3a06d3a06d39a ∷ [])

abbrev row_235 : Bool
row_235 = calls answered 11 (1 ∷ 0x14d29373 ∷ 0 ∷ 0 ∷ 0 ∷ []) (42 ∷ 0x40 ∷ 54 ∷ 2 ∷ []) 0x0 ([]) (6 ∷ 0x2ea61d950c83fb47 ∷ 32 ∷ 0x258bf258bf258bd3 ∷ 40 ∷ 0x6d3a06d3a06d39a ∷ 54 ∷ 0 ∷ [])

abbrev row_236 : Bool
row_236 = calls started 10 (0x16 ∷ 0x14d2a373 ∷ 2 ∷ 3 ∷ 4 ∷ []) (42 ∷ 0x40 ∷ []) 0x0 ([]) (6 ∷ 0x2ea61d950c83fb47 ∷ 32 ∷ 0x258bf258bf258bd3 ∷ 40 ∷ 0x2ef7bdfd3e87fbdf ∷ [])

abbrev row_237 : Bool
row_237 = calls answered 11 (1 ∷ 0x14d2a373 ∷ 0 ∷ 0 ∷ 0 ∷ []) (42 ∷ 0x40 ∷ 54 ∷ 2 ∷ []) 0x0 ([]) (6 ∷ 0x2ea61d950c83fb47 ∷ 32 ∷ 0x258bf258bf258bd3 ∷ 40 ∷ 0x2ef7bdfd3e87fbdf ∷ 54 ∷ 0 ∷ [])

abbrev row_238 : Bool
row_238 = calls started 10 (0x16 ∷ 0x14d2b373 ∷ 2 ∷ 3 ∷ 4 ∷ []) (42 ∷ 0x40 ∷ []) 0x0 ([]) (6 ∷ 0x2ea61d950c83fb47 ∷ 32 ∷ 0x258bf258bf258bd3 ∷ 40 ∷ 0x28241d9004812845 ∷ [])

abbrev row_239 : Bool
row_239 = calls answered 11 (1 ∷ 0x14d2b373 ∷ 0 ∷ 0 ∷ 0 ∷ []) (42 ∷ 0x40 ∷ 54 ∷ 2 ∷ []) 0x0 ([]) (6 ∷ 0x2ea61d950c83fb47 ∷ 32 ∷ 0x258bf258bf258bd3 ∷ 40 ∷ 0x28241d9004812845 ∷ 54 ∷ 0 ∷ [])

abbrev row_240 : Bool
row_240 = calls started 10 (0x16 ∷ 0x14d2d373 ∷ 2 ∷ 3 ∷ 4 ∷ []) (42 ∷ 0x40 ∷ []) 0x0 ([]) (6 ∷ 0x2ea61d950c83fb47 ∷ 32 ∷ 0x258bf258bf258bd3 ∷ 40 ∷ 5 ∷ [])

abbrev row_241 : Bool
row_241 = calls answered 11 (1 ∷ 0x14d2d373 ∷ 0 ∷ 0 ∷ 0 ∷ []) (42 ∷ 0x40 ∷ 54 ∷ 2 ∷ []) 0x0 ([]) (6 ∷ 0x2ea61d950c83fb47 ∷ 32 ∷ 0x258bf258bf258bd3 ∷ 40 ∷ 5 ∷ 54 ∷ 0 ∷ [])

abbrev row_242 : Bool
row_242 = calls started 10 (0x16 ∷ 0x14d2e373 ∷ 2 ∷ 3 ∷ 4 ∷ []) (42 ∷ 0x40 ∷ []) 0x0 ([]) (6 ∷ 0x2ea61d950c83fb47 ∷ 32 ∷ 0x258bf258bf258bd3 ∷ [])

abbrev row_243 : Bool
row_243 = calls answered 11 (1 ∷ 0x14d2e373 ∷ 0 ∷ 0 ∷ 0 ∷ []) (42 ∷ 0x40 ∷ 54 ∷ 2 ∷ []) 0x0 ([]) (6 ∷ 0x2ea61d950c83fb47 ∷ 32 ∷ 0x258bf258bf258bd3 ∷ 54 ∷ 0 ∷ [])

abbrev row_244 : Bool
row_244 = calls started 10 (0x16 ∷ 0x14d2f373 ∷ 2 ∷ 3 ∷ 4 ∷ []) (42 ∷ 0x40 ∷ []) 0x0 ([]) (6 ∷ 0x2ea61d950c83fb47 ∷ 32 ∷ 0x258bf258bf258bd3 ∷ 40 ∷ 0x2ea61d950c83fb42 ∷ [])

abbrev row_245 : Bool
row_245 = calls answered 11 (1 ∷ 0x14d2f373 ∷ 0 ∷ 0 ∷ 0 ∷ []) (42 ∷ 0x40 ∷ 54 ∷ 2 ∷ []) 0x0 ([]) (6 ∷ 0x2ea61d950c83fb47 ∷ 32 ∷ 0x258bf258bf258bd3 ∷ 40 ∷ 0x2ea61d950c83fb42 ∷ 54 ∷ 0 ∷ [])

abbrev row_246 : Bool
row_246 = calls started 10 (0xa ∷ 1 ∷ 2 ∷ 3 ∷ 4 ∷ []) (10 ∷ 0 ∷ 16 ∷ 0 ∷ 17 ∷ 0 ∷ 42 ∷ 0xffffffffffffffff ∷ []) 0x0 ([]) (32 ∷ 0x258bf258bf258bd3 ∷ 40 ∷ 0 ∷ 42 ∷ 0xffffffffffffffbf ∷ 45 ∷ 0x3456789abcdf00f3 ∷ [])

abbrev row_247 : Bool
row_247 = calls started 10 (0xa ∷ 1 ∷ 2 ∷ 3 ∷ 4 ∷ []) (10 ∷ 0xffffffffffffffff ∷ 16 ∷ 0 ∷ 17 ∷ 0 ∷ 42 ∷ 0xffffffffffffffff ∷ []) 0x0 ([]) (10 ∷ 0 ∷ 32 ∷ 0x258bf258bf258bd3 ∷ 40 ∷ 0xffffffffffffffff ∷ 42 ∷ 0xffffffffffffffbf ∷ 45 ∷ 0x3456789abcdf00f3 ∷ [])

abbrev row_248 : Bool
row_248 = calls started 10 (0xa ∷ 1 ∷ 2 ∷ 3 ∷ 4 ∷ []) (10 ∷ 0 ∷ 16 ∷ 1 ∷ 17 ∷ 0 ∷ 42 ∷ 0xffffffffffffffff ∷ []) 0x0 ([]) (32 ∷ 0x258bf258bf258bd3 ∷ 40 ∷ 0 ∷ 42 ∷ 0xffffffffffffffbf ∷ 45 ∷ 0x3456789abcdf00f3 ∷ [])

abbrev row_249 : Bool
row_249 = calls started 10 (0xa ∷ 1 ∷ 2 ∷ 3 ∷ 4 ∷ []) (10 ∷ 0xffffffffffffffff ∷ 16 ∷ 1 ∷ 17 ∷ 0 ∷ 42 ∷ 0xffffffffffffffff ∷ []) 0x0 ([]) (10 ∷ 0 ∷ 32 ∷ 0x258bf258bf258bd3 ∷ 40 ∷ 0xffffffffffffffff ∷ 42 ∷ 0xffffffffffffffbf ∷ 45 ∷ 0x3456789abcdf00f3 ∷ [])

abbrev row_250 : Bool
row_250 = calls started 10 (0xa ∷ 1 ∷ 2 ∷ 3 ∷ 4 ∷ []) (10 ∷ 0 ∷ 16 ∷ 0 ∷ 17 ∷ 3 ∷ 42 ∷ 0xffffffffffffffff ∷ []) 0x0 ([]) (32 ∷ 0x258bf258bf258bd3 ∷ 42 ∷ 0xfffffffffffffffb ∷ [])

abbrev row_251 : Bool
row_251 = calls started 10 (0xa ∷ 1 ∷ 2 ∷ 3 ∷ 4 ∷ []) (10 ∷ 0xffffffffffffffff ∷ 16 ∷ 0 ∷ 17 ∷ 3 ∷ 42 ∷ 0xffffffffffffffff ∷ []) 0x0 ([]) (10 ∷ 0 ∷ 32 ∷ 0x258bf258bf258bd3 ∷ 42 ∷ 0xfffffffffffffffb ∷ [])

abbrev row_252 : Bool
row_252 = calls started 10 (0xa ∷ 1 ∷ 2 ∷ 3 ∷ 4 ∷ []) (10 ∷ 0 ∷ 16 ∷ 0 ∷ 17 ∷ 0x54494d45 ∷ 42 ∷ 0xffffffffffffffff ∷ []) 0x0 ([]) (11 ∷ 0 ∷ 32 ∷ 0x258bf258bf258bd3 ∷ 40 ∷ 0 ∷ 42 ∷ 0xffffffffffffffbf ∷ 45 ∷ 0x3456789abcdf00f3 ∷ [])

abbrev row_253 : Bool
row_253 = calls started 10 (0xa ∷ 1 ∷ 2 ∷ 3 ∷ 4 ∷ []) (10 ∷ 0xffffffffffffffff ∷ 16 ∷ 0 ∷ 17 ∷ 0x54494d45 ∷ 42 ∷ 0xffffffffffffffff ∷ []) 0x0 ([]) (10 ∷ 0 ∷ 11 ∷ 0 ∷ 32 ∷ 0x258bf258bf258bd3 ∷ 40 ∷ 0xffffffffffffffff ∷ 42 ∷ 0xffffffffffffffbf ∷ 45 ∷ 0x3456789abcdf00f3 ∷ [])

abbrev row_254 : Bool
row_254 = calls started 10 (0xa ∷ 1 ∷ 2 ∷ 3 ∷ 4 ∷ []) (10 ∷ 0 ∷ 16 ∷ 1 ∷ 17 ∷ 0x54494d45 ∷ 42 ∷ 0xffffffffffffffff ∷ []) 0x0 ([]) (10 ∷ 0xfffffffffffffffe ∷ 11 ∷ 0 ∷ 32 ∷ 0x258bf258bf258bd3 ∷ [])

abbrev row_255 : Bool
row_255 = calls started 10 (0xa ∷ 1 ∷ 2 ∷ 3 ∷ 4 ∷ []) (10 ∷ 0xffffffffffffffff ∷ 16 ∷ 1 ∷ 17 ∷ 0x54494d45 ∷ 42 ∷ 0xffffffffffffffff ∷ []) 0x0 ([]) (10 ∷ 0xfffffffffffffffe ∷ 11 ∷ 0 ∷ 32 ∷ 0x258bf258bf258bd3 ∷ [])

abbrev row_256 : Bool
row_256 = calls started 10 (0x16 ∷ 0x14d29373 ∷ 2 ∷ 3 ∷ 4 ∷ []) (42 ∷ 0xffffffffffffffff ∷ []) 0x0 ([]) (6 ∷ 0x2ea61d950c83fb47 ∷ 32 ∷ 0x258bf258bf258bd3 ∷ 40 ∷ 0x6d3a06d3a06d39a ∷ [])

abbrev row_257 : Bool
row_257 = calls answered 11 (1 ∷ 0x14d29373 ∷ 0 ∷ 0 ∷ 0 ∷ []) (42 ∷ 0xffffffffffffffff ∷ 54 ∷ 2 ∷ []) 0x0 ([]) (6 ∷ 0x2ea61d950c83fb47 ∷ 32 ∷ 0x258bf258bf258bd3 ∷ 40 ∷ 0x6d3a06d3a06d39a ∷ 54 ∷ 0 ∷ [])

abbrev row_258 : Bool
row_258 = calls started 10 (0x16 ∷ 0x14d2a373 ∷ 2 ∷ 3 ∷ 4 ∷ []) (42 ∷ 0xffffffffffffffff ∷ []) 0x0 ([]) (6 ∷ 0x2ea61d950c83fb47 ∷ 32 ∷ 0x258bf258bf258bd3 ∷ 40 ∷ 0x2ef7bdfd3e87fbdf ∷ [])

abbrev row_259 : Bool
row_259 = calls answered 11 (1 ∷ 0x14d2a373 ∷ 0 ∷ 0 ∷ 0 ∷ []) (42 ∷ 0xffffffffffffffff ∷ 54 ∷ 2 ∷ []) 0x0 ([]) (6 ∷ 0x2ea61d950c83fb47 ∷ 32 ∷ 0x258bf258bf258bd3 ∷ 40 ∷ 0x2ef7bdfd3e87fbdf ∷ 54 ∷ 0 ∷ [])

abbrev row_260 : Bool
row_260 = calls started 10 (0x16 ∷ 0x14d2b373 ∷ 2 ∷ 3 ∷ 4 ∷ []) (42 ∷ 0xffffffffffffffff ∷ []) 0x0 ([]) (6 ∷ 0x2ea61d950c83fb47 ∷ 32 ∷ 0x258bf258bf258bd3 ∷ 40 ∷ 0x28241d9004812845 ∷ [])

abbrev row_261 : Bool
row_261 = calls answered 11 (1 ∷ 0x14d2b373 ∷ 0 ∷ 0 ∷ 0 ∷ []) (42 ∷ 0xffffffffffffffff ∷ 54 ∷ 2 ∷ []) 0x0 ([]) (6 ∷ 0x2ea61d950c83fb47 ∷ 32 ∷ 0x258bf258bf258bd3 ∷ 40 ∷ 0x28241d9004812845 ∷ 54 ∷ 0 ∷ [])

abbrev row_262 : Bool
row_262 = calls started 10 (0x16 ∷ 0x14d2d373 ∷ 2 ∷ 3 ∷ 4 ∷ []) (42 ∷ 0xffffffffffffffff ∷ []) 0x0 ([]) (6 ∷ 0x2ea61d950c83fb47 ∷ 32 ∷ 0x258bf258bf258bd3 ∷ 40 ∷ 5 ∷ [])

abbrev row_263 : Bool
row_263 = calls answered 11 (1 ∷ 0x14d2d373 ∷ 0 ∷ 0 ∷ 0 ∷ []) (42 ∷ 0xffffffffffffffff ∷ 54 ∷ 2 ∷ []) 0x0 ([]) (6 ∷ 0x2ea61d950c83fb47 ∷ 32 ∷ 0x258bf258bf258bd3 ∷ 40 ∷ 5 ∷ 54 ∷ 0 ∷ [])

abbrev row_264 : Bool
row_264 = calls started 10 (0x16 ∷ 0x14d2e373 ∷ 2 ∷ 3 ∷ 4 ∷ []) (42 ∷ 0xffffffffffffffff ∷ []) 0x0 ([]) (6 ∷ 0x2ea61d950c83fb47 ∷ 32 ∷ 0x258bf258bf258bd3 ∷ [])

abbrev row_265 : Bool
row_265 = calls answered 11 (1 ∷ 0x14d2e373 ∷ 0 ∷ 0 ∷ 0 ∷ []) (42 ∷ 0xffffffffffffffff ∷ 54 ∷ 2 ∷ []) 0x0 ([]) (6 ∷ 0x2ea61d950c83fb47 ∷ 32 ∷ 0x258bf258bf258bd3 ∷ 54 ∷ 0 ∷ [])

abbrev row_266 : Bool
row_266 = calls started 10 (0x16 ∷ 0x14d2f373 ∷ 2 ∷ 3 ∷ 4 ∷ []) (42 ∷ 0xffffffffffffffff ∷ []) 0x0 ([]) (6 ∷ 0x2ea61d950c83fb47 ∷ 32 ∷ 0x258bf258bf258bd3 ∷ 40 ∷ 0x2ea61d950c83fb42 ∷ [])

abbrev row_267 : Bool
row_267 = calls answered 11 (1 ∷ 0x14d2f373 ∷ 0 ∷ 0 ∷ 0 ∷ []) (42 ∷ 0xffffffffffffffff ∷ 54 ∷ 2 ∷ []) 0x0 ([]) (6 ∷ 0x2ea61d950c83fb47 ∷ 32 ∷ 0x258bf258bf258bd3 ∷ 40 ∷ 0x2ea61d950c83fb42 ∷ 54 ∷ 0 ∷ [])

abbrev row_268 : Bool
row_268 = calls started 10 (0x15 ∷ 7 ∷ 0x4000000 ∷ 0 ∷ 4 ∷ []) ([]) 0x21 (0 ∷ 0x258bf258bf258bcf ∷ 1 ∷ 1 ∷ []) (54 ∷ 3 ∷ 55 ∷ 0x10000003 ∷ 56 ∷ 1 ∷ [])

abbrev row_269 : Bool
row_269 = calls started 10 (0x17 ∷ 6 ∷ 0xc400000000000000 ∷ 0 ∷ 4 ∷ []) ([]) 0x21 (0 ∷ 0x258bf258bf258bcf ∷ 1 ∷ 1 ∷ []) (54 ∷ 3 ∷ 55 ∷ 0x1000000000000002 ∷ 56 ∷ 2 ∷ [])

abbrev row_270 : Bool
row_270 = calls answered 11 (1 ∷ 0 ∷ 0 ∷ 0 ∷ 0 ∷ []) (54 ∷ 3 ∷ 55 ∷ 0x10000003 ∷ 56 ∷ 1 ∷ []) 0x8 (0 ∷ 0x10000003 ∷ 1 ∷ 1 ∷ []) (54 ∷ 0 ∷ [])

abbrev row_271 : Bool
row_271 = calls answered 11 (1 ∷ 0 ∷ 0 ∷ 0 ∷ 0 ∷ []) (54 ∷ 3 ∷ 55 ∷ 0x10000003 ∷ 56 ∷ 2 ∷ []) 0x8 (0 ∷ 0x10000003 ∷ 1 ∷ 2 ∷ []) (54 ∷ 0 ∷ [])

abbrev row_272 : Bool
row_272 = calls answered 11 (1 ∷ 0 ∷ 0 ∷ 0 ∷ 0 ∷ []) (54 ∷ 3 ∷ 55 ∷ 0x10000003 ∷ 56 ∷ 4 ∷ []) 0x8 (0 ∷ 0x10000003 ∷ 1 ∷ 4 ∷ []) (54 ∷ 0 ∷ [])

abbrev row_273 : Bool
row_273 = calls started 10 (0x15 ∷ 7 ∷ 0x4000000 ∷ 0x3000 ∷ 4 ∷ []) ([]) 0x103 ([]) ([])

abbrev row_274 : Bool
row_274 = calls started 10 (0x17 ∷ 6 ∷ 0xc400000000000000 ∷ 0x3000 ∷ 4 ∷ []) ([]) 0x103 ([]) ([])

abbrev row_275 : Bool
row_275 = calls answered 11 (1 ∷ 0x3000 ∷ 0 ∷ 0 ∷ 0 ∷ []) (54 ∷ 3 ∷ 55 ∷ 0x10000003 ∷ 56 ∷ 1 ∷ []) 0x8 (0 ∷ 0x10000003 ∷ 1 ∷ 1 ∷ []) (54 ∷ 0 ∷ [])

abbrev row_276 : Bool
row_276 = calls answered 11 (1 ∷ 0x3000 ∷ 0 ∷ 0 ∷ 0 ∷ []) (54 ∷ 3 ∷ 55 ∷ 0x10000003 ∷ 56 ∷ 2 ∷ []) 0x8 (0 ∷ 0x10000003 ∷ 1 ∷ 2 ∷ []) (54 ∷ 0 ∷ [])

abbrev row_277 : Bool
row_277 = calls answered 11 (1 ∷ 0x3000 ∷ 0 ∷ 0 ∷ 0 ∷ []) (54 ∷ 3 ∷ 55 ∷ 0x10000003 ∷ 56 ∷ 4 ∷ []) 0x8 (0 ∷ 0x10000003 ∷ 1 ∷ 4 ∷ []) (54 ∷ 0 ∷ [])

abbrev row_278 : Bool
row_278 = calls started 10 (0x15 ∷ 7 ∷ 0x4000000 ∷ 0x3020 ∷ 4 ∷ []) ([]) 0x103 ([]) ([])

abbrev row_279 : Bool
row_279 = calls started 10 (0x17 ∷ 6 ∷ 0xc400000000000000 ∷ 0x3020 ∷ 4 ∷ []) ([]) 0x103 ([]) ([])

abbrev row_280 : Bool
row_280 = calls answered 11 (1 ∷ 0x3020 ∷ 0 ∷ 0 ∷ 0 ∷ []) (54 ∷ 3 ∷ 55 ∷ 0x10000003 ∷ 56 ∷ 1 ∷ []) 0x8 (0 ∷ 0x10000003 ∷ 1 ∷ 1 ∷ []) (54 ∷ 0 ∷ [])

abbrev row_281 : Bool
row_281 = calls answered 11 (1 ∷ 0x3020 ∷ 0 ∷ 0 ∷ 0 ∷ []) (54 ∷ 3 ∷ 55 ∷ 0x10000003 ∷ 56 ∷ 2 ∷ []) 0x8 (0 ∷ 0x10000003 ∷ 1 ∷ 2 ∷ []) (54 ∷ 0 ∷ [])

abbrev row_282 : Bool
row_282 = calls answered 11 (1 ∷ 0x3020 ∷ 0 ∷ 0 ∷ 0 ∷ []) (54 ∷ 3 ∷ 55 ∷ 0x10000003 ∷ 56 ∷ 4 ∷ []) 0x8 (0 ∷ 0x10000003 ∷ 1 ∷ 4 ∷ []) (54 ∷ 0 ∷ [])

abbrev row_283 : Bool
row_283 = calls started 10 (0x15 ∷ 7 ∷ 0x4000000 ∷ 0x100003000 ∷ 4 ∷ []) ([]) 0x103 ([]) ([])

abbrev row_284 : Bool
row_284 = calls started 10 (0x17 ∷ 6 ∷ 0xc400000000000000 ∷ 0x100003000 ∷ 4 ∷ []) ([]) 0x103 ([]) ([])

abbrev row_285 : Bool
row_285 = calls answered 11 (1 ∷ 0x100003000 ∷ 0 ∷ 0 ∷ 0 ∷ []) (54 ∷ 3 ∷ 55 ∷ 0x10000003 ∷ 56 ∷ 1 ∷ []) 0x8 (0 ∷ 0x10000003 ∷ 1 ∷ 1 ∷ []) (54 ∷ 0 ∷ [])

abbrev row_286 : Bool
row_286 = calls answered 11 (1 ∷ 0x100003000 ∷ 0 ∷ 0 ∷ 0 ∷ []) (54 ∷ 3 ∷ 55 ∷ 0x10000003 ∷ 56 ∷ 2 ∷ []) 0x8 (0 ∷ 0x10000003 ∷ 1 ∷ 2 ∷ []) (54 ∷ 0 ∷ [])

abbrev row_287 : Bool
row_287 = calls answered 11 (1 ∷ 0x100003000 ∷ 0 ∷ 0 ∷ 0 ∷ []) (54 ∷ 3 ∷ 55 ∷ 0x10000003 ∷ 56 ∷ 4 ∷ []) 0x8 (0 ∷ 0x10000003 ∷ 1 ∷ 4 ∷ []) (54 ∷ 0 ∷ [])

abbrev row_288 : Bool
row_288 = calls started 10 (0x15 ∷ 7 ∷ 0x4000000 ∷ 0x100000000 ∷ 4 ∷ []) ([]) 0x105 ([]) ([])

abbrev row_289 : Bool
row_289 = calls started 10 (0x17 ∷ 6 ∷ 0xc400000000000000 ∷ 0x100000000 ∷ 4 ∷ []) ([]) 0x105 ([]) ([])

abbrev row_290 : Bool
row_290 = calls answered 11 (1 ∷ 0x100000000 ∷ 0 ∷ 0 ∷ 0 ∷ []) (54 ∷ 3 ∷ 55 ∷ 0x10000003 ∷ 56 ∷ 1 ∷ []) 0x8 (0 ∷ 0x10000003 ∷ 1 ∷ 1 ∷ []) (54 ∷ 0 ∷ [])

abbrev row_291 : Bool
row_291 = calls answered 11 (1 ∷ 0x100000000 ∷ 0 ∷ 0 ∷ 0 ∷ []) (54 ∷ 3 ∷ 55 ∷ 0x10000003 ∷ 56 ∷ 2 ∷ []) 0x8 (0 ∷ 0x10000003 ∷ 1 ∷ 2 ∷ []) (54 ∷ 0 ∷ [])

abbrev row_292 : Bool
row_292 = calls answered 11 (1 ∷ 0x100000000 ∷ 0 ∷ 0 ∷ 0 ∷ []) (54 ∷ 3 ∷ 55 ∷ 0x10000003 ∷ 56 ∷ 4 ∷ []) 0x8 (0 ∷ 0x10000003 ∷ 1 ∷ 4 ∷ []) (54 ∷ 0 ∷ [])

abbrev row_293 : Bool
row_293 = calls started 10 (0x15 ∷ 7 ∷ 0x4000000 ∷ 0x3010 ∷ 4 ∷ []) ([]) 0x105 ([]) ([])

abbrev row_294 : Bool
row_294 = calls started 10 (0x17 ∷ 6 ∷ 0xc400000000000000 ∷ 0x3010 ∷ 4 ∷ []) ([]) 0x105 ([]) ([])

abbrev row_295 : Bool
row_295 = calls answered 11 (1 ∷ 0x3010 ∷ 0 ∷ 0 ∷ 0 ∷ []) (54 ∷ 3 ∷ 55 ∷ 0x10000003 ∷ 56 ∷ 1 ∷ []) 0x8 (0 ∷ 0x10000003 ∷ 1 ∷ 1 ∷ []) (54 ∷ 0 ∷ [])

abbrev row_296 : Bool
row_296 = calls answered 11 (1 ∷ 0x3010 ∷ 0 ∷ 0 ∷ 0 ∷ []) (54 ∷ 3 ∷ 55 ∷ 0x10000003 ∷ 56 ∷ 2 ∷ []) 0x8 (0 ∷ 0x10000003 ∷ 1 ∷ 2 ∷ []) (54 ∷ 0 ∷ [])

abbrev row_297 : Bool
row_297 = calls answered 11 (1 ∷ 0x3010 ∷ 0 ∷ 0 ∷ 0 ∷ []) (54 ∷ 3 ∷ 55 ∷ 0x10000003 ∷ 56 ∷ 4 ∷ []) 0x8 (0 ∷ 0x10000003 ∷ 1 ∷ 4 ∷ []) (54 ∷ 0 ∷ [])

abbrev row_298 : Bool
row_298 = calls started 10 (0x15 ∷ 7 ∷ 0x4000000 ∷ 0x2000 ∷ 4 ∷ []) ([]) 0x105 ([]) ([])

abbrev row_299 : Bool
row_299 = calls started 10 (0x17 ∷ 6 ∷ 0xc400000000000000 ∷ 0x2000 ∷ 4 ∷ []) ([]) 0x105 ([]) ([])

abbrev row_300 : Bool
row_300 = calls answered 11 (1 ∷ 0x2000 ∷ 0 ∷ 0 ∷ 0 ∷ []) (54 ∷ 3 ∷ 55 ∷ 0x10000003 ∷ 56 ∷ 1 ∷ []) 0x8 (0 ∷ 0x10000003 ∷ 1 ∷ 1 ∷ []) (54 ∷ 0 ∷ [])

abbrev row_301 : Bool
row_301 = calls answered 11 (1 ∷ 0x2000 ∷ 0 ∷ 0 ∷ 0 ∷ []) (54 ∷ 3 ∷ 55 ∷ 0x10000003 ∷ 56 ∷ 2 ∷ []) 0x8 (0 ∷ 0x10000003 ∷ 1 ∷ 2 ∷ []) (54 ∷ 0 ∷ [])

abbrev row_302 : Bool
row_302 = calls answered 11 (1 ∷ 0x2000 ∷ 0 ∷ 0 ∷ 0 ∷ []) (54 ∷ 3 ∷ 55 ∷ 0x10000003 ∷ 56 ∷ 4 ∷ []) 0x8 (0 ∷ 0x10000003 ∷ 1 ∷ 4 ∷ []) (54 ∷ 0 ∷ [])

abbrev row_303 : Bool
row_303 = calls started 10 (0x15 ∷ 7 ∷ 0x4000000 ∷ 0x13 ∷ 4 ∷ []) ([]) 0x8 (0 ∷ 0x10000003 ∷ 1 ∷ 1 ∷ []) ([])

abbrev row_304 : Bool
row_304 = calls started 10 (0x17 ∷ 6 ∷ 0xc400000000000000 ∷ 0x13 ∷ 4 ∷ []) ([]) 0x8 (0 ∷ 0x1000000000000002 ∷ 1 ∷ 2 ∷ []) ([])

abbrev row_305 : Bool
row_305 = calls answered 11 (1 ∷ 0x13 ∷ 0 ∷ 0 ∷ 0 ∷ []) (54 ∷ 3 ∷ 55 ∷ 0x10000003 ∷ 56 ∷ 1 ∷ []) 0x8 (0 ∷ 0x10000003 ∷ 1 ∷ 1 ∷ []) (54 ∷ 0 ∷ [])

abbrev row_306 : Bool
row_306 = calls answered 11 (1 ∷ 0x13 ∷ 0 ∷ 0 ∷ 0 ∷ []) (54 ∷ 3 ∷ 55 ∷ 0x10000003 ∷ 56 ∷ 2 ∷ []) 0x8 (0 ∷ 0x10000003 ∷ 1 ∷ 2 ∷ []) (54 ∷ 0 ∷ [])

abbrev row_307 : Bool
row_307 = calls answered 11 (1 ∷ 0x13 ∷ 0 ∷ 0 ∷ 0 ∷ []) (54 ∷ 3 ∷ 55 ∷ 0x10000003 ∷ 56 ∷ 4 ∷ []) 0x8 (0 ∷ 0x10000003 ∷ 1 ∷ 4 ∷ []) (54 ∷ 0 ∷ [])

abbrev row_308 : Bool
row_308 = calls started 10 (0x15 ∷ 7 ∷ 0x4000000 ∷ 0x70201f ∷ 4 ∷ []) ([]) 0x8 (0 ∷ 0x10000003 ∷ 1 ∷ 1 ∷ []) ([])

abbrev row_309 : Bool
row_309 = calls started 10 (0x17 ∷ 6 ∷ 0xc400000000000000 ∷ 0x70201f ∷ 4 ∷ []) ([]) 0x8 (0 ∷ 0x1000000000000002 ∷ 1 ∷ 2 ∷ []) ([])

abbrev row_310 : Bool
row_310 = calls answered 11 (1 ∷ 0x70201f ∷ 0 ∷ 0 ∷ 0 ∷ []) (54 ∷ 3 ∷ 55 ∷ 0x10000003 ∷ 56 ∷ 1 ∷ []) 0x105 ([]) (54 ∷ 0 ∷ [])

abbrev row_311 : Bool
row_311 = calls answered 11 (1 ∷ 0x70201f ∷ 0 ∷ 0 ∷ 0 ∷ []) (54 ∷ 3 ∷ 55 ∷ 0x10000003 ∷ 56 ∷ 2 ∷ []) 0x105 ([]) (54 ∷ 0 ∷ [])

abbrev row_312 : Bool
row_312 = calls answered 11 (1 ∷ 0x70201f ∷ 0 ∷ 0 ∷ 0 ∷ []) (54 ∷ 3 ∷ 55 ∷ 0x10000003 ∷ 56 ∷ 4 ∷ []) 0x105 ([]) (54 ∷ 0 ∷ [])

abbrev row_313 : Bool
row_313 = calls started 10 (0x15 ∷ 7 ∷ 0x4000000 ∷ 0x70207f ∷ 4 ∷ []) ([]) 0x8 (0 ∷ 0x10000003 ∷ 1 ∷ 1 ∷ []) ([])

abbrev row_314 : Bool
row_314 = calls started 10 (0x17 ∷ 6 ∷ 0xc400000000000000 ∷ 0x70207f ∷ 4 ∷ []) ([]) 0x8 (0 ∷ 0x1000000000000002 ∷ 1 ∷ 2 ∷ []) ([])

abbrev row_315 : Bool
row_315 = calls answered 11 (1 ∷ 0x70207f ∷ 0 ∷ 0 ∷ 0 ∷ []) (54 ∷ 3 ∷ 55 ∷ 0x10000003 ∷ 56 ∷ 1 ∷ []) 0x105 ([]) (54 ∷ 0 ∷ [])

abbrev row_316 : Bool
row_316 = calls answered 11 (1 ∷ 0x70207f ∷ 0 ∷ 0 ∷ 0 ∷ []) (54 ∷ 3 ∷ 55 ∷ 0x10000003 ∷ 56 ∷ 2 ∷ []) 0x105 ([]) (54 ∷ 0 ∷ [])

abbrev row_317 : Bool
row_317 = calls answered 11 (1 ∷ 0x70207f ∷ 0 ∷ 0 ∷ 0 ∷ []) (54 ∷ 3 ∷ 55 ∷ 0x10000003 ∷ 56 ∷ 4 ∷ []) 0x105 ([]) (54 ∷ 0 ∷ [])

abbrev row_318 : Bool
row_318 = calls started 10 (0x15 ∷ 7 ∷ 0x4000000 ∷ 0xffffffff ∷ 4 ∷ []) ([]) 0x8 (0 ∷ 0x10000003 ∷ 1 ∷ 1 ∷ []) ([])

abbrev row_319 : Bool
row_319 = calls started 10 (0x17 ∷ 6 ∷ 0xc400000000000000 ∷ 0xffffffff ∷ 4 ∷ []) ([]) 0x8 (0 ∷ 0x1000000000000002 ∷ 1 ∷ 2 ∷ []) ([])

abbrev row_320 : Bool
row_320 = calls answered 11 (1 ∷ 0xffffffff ∷ 0 ∷ 0 ∷ 0 ∷ []) (54 ∷ 3 ∷ 55 ∷ 0x10000003 ∷ 56 ∷ 1 ∷ []) 0x105 ([]) (54 ∷ 0 ∷ [])

abbrev row_321 : Bool
row_321 = calls answered 11 (1 ∷ 0xffffffff ∷ 0 ∷ 0 ∷ 0 ∷ []) (54 ∷ 3 ∷ 55 ∷ 0x10000003 ∷ 56 ∷ 2 ∷ []) 0x105 ([]) (54 ∷ 0 ∷ [])

abbrev row_322 : Bool
row_322 = calls answered 11 (1 ∷ 0xffffffff ∷ 0 ∷ 0 ∷ 0 ∷ []) (54 ∷ 3 ∷ 55 ∷ 0x10000003 ∷ 56 ∷ 4 ∷ []) 0x105 ([]) (54 ∷ 0 ∷ [])

abbrev row_323 : Bool
row_323 = calls started 10 (0x15 ∷ 7 ∷ 0x4000000 ∷ 0x700483 ∷ 4 ∷ []) ([]) 0x9 (0 ∷ 0x10000003 ∷ 1 ∷ 1 ∷ []) (32 ∷ 0x258bf258bf258bd3 ∷ 54 ∷ 1 ∷ 55 ∷ 9 ∷ 56 ∷ 1 ∷ 57 ∷ 1 ∷ [])

abbrev row_324 : Bool
row_324 = calls started 10 (0x17 ∷ 6 ∷ 0xc400000000000000 ∷ 0x700483 ∷ 4 ∷ []) ([]) 0x8 (0 ∷ 0x1000000000000002 ∷ 1 ∷ 2 ∷ []) ([])

abbrev row_325 : Bool
row_325 = calls answered 11 (1 ∷ 0x700483 ∷ 0 ∷ 0 ∷ 0 ∷ []) (54 ∷ 3 ∷ 55 ∷ 0x10000003 ∷ 56 ∷ 1 ∷ []) 0x9 (0 ∷ 0x10000003 ∷ 1 ∷ 1 ∷ []) (32 ∷ 0x258bf258bf258bd3 ∷ 54 ∷ 1 ∷ 55 ∷ 9 ∷ 57 ∷ 1 ∷ [])

abbrev row_326 : Bool
row_326 = calls answered 11 (1 ∷ 0x700483 ∷ 0 ∷ 0 ∷ 0 ∷ []) (54 ∷ 3 ∷ 55 ∷ 0x10000003 ∷ 56 ∷ 2 ∷ []) 0x8 (0 ∷ 0x10000003 ∷ 1 ∷ 2 ∷ []) (54 ∷ 0 ∷ [])

abbrev row_327 : Bool
row_327 = calls answered 11 (1 ∷ 0x700483 ∷ 0 ∷ 0 ∷ 0 ∷ []) (54 ∷ 3 ∷ 55 ∷ 0x10000003 ∷ 56 ∷ 4 ∷ []) 0x8 (0 ∷ 0x10000003 ∷ 1 ∷ 4 ∷ []) (54 ∷ 0 ∷ [])

abbrev row_328 : Bool
row_328 = calls started 10 (0x15 ∷ 7 ∷ 0x4000000 ∷ 0x7004a3 ∷ 4 ∷ []) ([]) 0x8 (0 ∷ 0x10000003 ∷ 1 ∷ 1 ∷ []) ([])

abbrev row_329 : Bool
row_329 = calls started 10 (0x17 ∷ 6 ∷ 0xc400000000000000 ∷ 0x7004a3 ∷ 4 ∷ []) ([]) 0xa (0 ∷ 0x1000000000000002 ∷ 1 ∷ 1 ∷ 2 ∷ 0x78 ∷ []) (32 ∷ 0x258bf258bf258bd3 ∷ [])

abbrev row_330 : Bool
row_330 = calls answered 11 (1 ∷ 0x7004a3 ∷ 0 ∷ 0 ∷ 0 ∷ []) (54 ∷ 3 ∷ 55 ∷ 0x10000003 ∷ 56 ∷ 1 ∷ []) 0x8 (0 ∷ 0x10000003 ∷ 1 ∷ 1 ∷ []) (54 ∷ 0 ∷ [])

abbrev row_331 : Bool
row_331 = calls answered 11 (1 ∷ 0x7004a3 ∷ 0 ∷ 0 ∷ 0 ∷ []) (54 ∷ 3 ∷ 55 ∷ 0x10000003 ∷ 56 ∷ 2 ∷ []) 0xa (0 ∷ 0x10000003 ∷ 1 ∷ 1 ∷ 2 ∷ 0x78 ∷ []) (32 ∷ 0x258bf258bf258bd3 ∷ 54 ∷ 0 ∷ [])

abbrev row_332 : Bool
row_332 = calls answered 11 (1 ∷ 0x7004a3 ∷ 0 ∷ 0 ∷ 0 ∷ []) (54 ∷ 3 ∷ 55 ∷ 0x10000003 ∷ 56 ∷ 4 ∷ []) 0x8 (0 ∷ 0x10000003 ∷ 1 ∷ 4 ∷ []) (54 ∷ 0 ∷ [])

abbrev row_333 : Bool
row_333 = calls started 10 (0x15 ∷ 7 ∷ 0x4000000 ∷ 0x701483 ∷ 4 ∷ []) ([]) 0x9 (0 ∷ 0x10000003 ∷ 1 ∷ 2 ∷ []) (32 ∷ 0x258bf258bf258bd3 ∷ 54 ∷ 1 ∷ 55 ∷ 9 ∷ 56 ∷ 2 ∷ 57 ∷ 1 ∷ [])

abbrev row_334 : Bool
row_334 = calls started 10 (0x17 ∷ 6 ∷ 0xc400000000000000 ∷ 0x701483 ∷ 4 ∷ []) ([]) 0x8 (0 ∷ 0x1000000000000002 ∷ 1 ∷ 2 ∷ []) ([])

abbrev row_335 : Bool
row_335 = calls answered 11 (1 ∷ 0x701483 ∷ 0 ∷ 0 ∷ 0 ∷ []) (54 ∷ 3 ∷ 55 ∷ 0x10000003 ∷ 56 ∷ 1 ∷ []) 0x9 (0 ∷ 0x10000003 ∷ 1 ∷ 2 ∷ []) (32 ∷ 0x258bf258bf258bd3 ∷ 54 ∷ 1 ∷ 55 ∷ 9 ∷ 56 ∷ 2 ∷ 57 ∷ 1 ∷ [])

abbrev row_336 : Bool
row_336 = calls answered 11 (1 ∷ 0x701483 ∷ 0 ∷ 0 ∷ 0 ∷ []) (54 ∷ 3 ∷ 55 ∷ 0x10000003 ∷ 56 ∷ 2 ∷ []) 0x8 (0 ∷ 0x10000003 ∷ 1 ∷ 2 ∷ []) (54 ∷ 0 ∷ [])

abbrev row_337 : Bool
row_337 = calls answered 11 (1 ∷ 0x701483 ∷ 0 ∷ 0 ∷ 0 ∷ []) (54 ∷ 3 ∷ 55 ∷ 0x10000003 ∷ 56 ∷ 4 ∷ []) 0x8 (0 ∷ 0x10000003 ∷ 1 ∷ 4 ∷ []) (54 ∷ 0 ∷ [])

abbrev row_338 : Bool
row_338 = calls started 10 (0x15 ∷ 7 ∷ 0x4000000 ∷ 0x7014a3 ∷ 4 ∷ []) ([]) 0x8 (0 ∷ 0x10000003 ∷ 1 ∷ 1 ∷ []) ([])

abbrev row_339 : Bool
row_339 = calls started 10 (0x17 ∷ 6 ∷ 0xc400000000000000 ∷ 0x7014a3 ∷ 4 ∷ []) ([]) 0xa (0 ∷ 0x1000000000000002 ∷ 1 ∷ 2 ∷ 2 ∷ 0x6f78 ∷ []) (32 ∷ 0x258bf258bf258bd3 ∷ [])

abbrev row_340 : Bool
row_340 = calls answered 11 (1 ∷ 0x7014a3 ∷ 0 ∷ 0 ∷ 0 ∷ []) (54 ∷ 3 ∷ 55 ∷ 0x10000003 ∷ 56 ∷ 1 ∷ []) 0x8 (0 ∷ 0x10000003 ∷ 1 ∷ 1 ∷ []) (54 ∷ 0 ∷ [])

abbrev row_341 : Bool
row_341 = calls answered 11 (1 ∷ 0x7014a3 ∷ 0 ∷ 0 ∷ 0 ∷ []) (54 ∷ 3 ∷ 55 ∷ 0x10000003 ∷ 56 ∷ 2 ∷ []) 0xa (0 ∷ 0x10000003 ∷ 1 ∷ 2 ∷ 2 ∷ 0x6f78 ∷ []) (32 ∷ 0x258bf258bf258bd3 ∷ 54 ∷ 0 ∷ [])

abbrev row_342 : Bool
row_342 = calls answered 11 (1 ∷ 0x7014a3 ∷ 0 ∷ 0 ∷ 0 ∷ []) (54 ∷ 3 ∷ 55 ∷ 0x10000003 ∷ 56 ∷ 4 ∷ []) 0x8 (0 ∷ 0x10000003 ∷ 1 ∷ 4 ∷ []) (54 ∷ 0 ∷ [])

abbrev row_343 : Bool
row_343 = calls started 10 (0x15 ∷ 7 ∷ 0x4000000 ∷ 0x702483 ∷ 4 ∷ []) ([]) 0x9 (0 ∷ 0x10000003 ∷ 1 ∷ 4 ∷ []) (32 ∷ 0x258bf258bf258bd3 ∷ 54 ∷ 1 ∷ 55 ∷ 9 ∷ 56 ∷ 4 ∷ 57 ∷ 1 ∷ [])

abbrev row_344 : Bool
row_344 = calls started 10 (0x17 ∷ 6 ∷ 0xc400000000000000 ∷ 0x702483 ∷ 4 ∷ []) ([]) 0x8 (0 ∷ 0x1000000000000002 ∷ 1 ∷ 2 ∷ []) ([])

abbrev row_345 : Bool
row_345 = calls answered 11 (1 ∷ 0x702483 ∷ 0 ∷ 0 ∷ 0 ∷ []) (54 ∷ 3 ∷ 55 ∷ 0x10000003 ∷ 56 ∷ 1 ∷ []) 0x9 (0 ∷ 0x10000003 ∷ 1 ∷ 4 ∷ []) (32 ∷ 0x258bf258bf258bd3 ∷ 54 ∷ 1 ∷ 55 ∷ 9 ∷ 56 ∷ 4 ∷ 57 ∷ 1 ∷ [])

abbrev row_346 : Bool
row_346 = calls answered 11 (1 ∷ 0x702483 ∷ 0 ∷ 0 ∷ 0 ∷ []) (54 ∷ 3 ∷ 55 ∷ 0x10000003 ∷ 56 ∷ 2 ∷ []) 0x8 (0 ∷ 0x10000003 ∷ 1 ∷ 2 ∷ []) (54 ∷ 0 ∷ [])

abbrev row_347 : Bool
row_347 = calls answered 11 (1 ∷ 0x702483 ∷ 0 ∷ 0 ∷ 0 ∷ []) (54 ∷ 3 ∷ 55 ∷ 0x10000003 ∷ 56 ∷ 4 ∷ []) 0x8 (0 ∷ 0x10000003 ∷ 1 ∷ 4 ∷ []) (54 ∷ 0 ∷ [])

abbrev row_348 : Bool
row_348 = calls started 10 (0x15 ∷ 7 ∷ 0x4000000 ∷ 0x7024a3 ∷ 4 ∷ []) ([]) 0x8 (0 ∷ 0x10000003 ∷ 1 ∷ 1 ∷ []) ([])

abbrev row_349 : Bool
row_349 = calls started 10 (0x17 ∷ 6 ∷ 0xc400000000000000 ∷ 0x7024a3 ∷ 4 ∷ []) ([]) 0xa (0 ∷ 0x1000000000000002 ∷ 1 ∷ 4 ∷ 2 ∷ 0x4d5e6f78 ∷ []) (32 ∷ 0x258bf258bf258bd3 ∷ [])

abbrev row_350 : Bool
row_350 = calls answered 11 (1 ∷ 0x7024a3 ∷ 0 ∷ 0 ∷ 0 ∷ []) (54 ∷ 3 ∷ 55 ∷ 0x10000003 ∷ 56 ∷ 1 ∷ []) 0x8 (0 ∷ 0x10000003 ∷ 1 ∷ 1 ∷ []) (54 ∷ 0 ∷ [])

abbrev row_351 : Bool
row_351 = calls answered 11 (1 ∷ 0x7024a3 ∷ 0 ∷ 0 ∷ 0 ∷ []) (54 ∷ 3 ∷ 55 ∷ 0x10000003 ∷ 56 ∷ 2 ∷ []) 0xa (0 ∷ 0x10000003 ∷ 1 ∷ 4 ∷ 2 ∷ 0x4d5e6f78 ∷ []) (32 ∷ 0x258bf258bf258bd3 ∷ 54 ∷ 0 ∷ [])

abbrev row_352 : Bool
row_352 = calls answered 11 (1 ∷ 0x7024a3 ∷ 0 ∷ 0 ∷ 0 ∷ []) (54 ∷ 3 ∷ 55 ∷ 0x10000003 ∷ 56 ∷ 4 ∷ []) 0x8 (0 ∷ 0x10000003 ∷ 1 ∷ 4 ∷ []) (54 ∷ 0 ∷ [])

abbrev row_353 : Bool
row_353 = calls started 10 (0x15 ∷ 7 ∷ 0x4000000 ∷ 0x703483 ∷ 4 ∷ []) ([]) 0x9 (0 ∷ 0x10000003 ∷ 1 ∷ 8 ∷ []) (32 ∷ 0x258bf258bf258bd3 ∷ 54 ∷ 1 ∷ 55 ∷ 9 ∷ 56 ∷ 8 ∷ 57 ∷ 1 ∷ [])

abbrev row_354 : Bool
row_354 = calls started 10 (0x17 ∷ 6 ∷ 0xc400000000000000 ∷ 0x703483 ∷ 4 ∷ []) ([]) 0x8 (0 ∷ 0x1000000000000002 ∷ 1 ∷ 2 ∷ []) ([])

abbrev row_355 : Bool
row_355 = calls answered 11 (1 ∷ 0x703483 ∷ 0 ∷ 0 ∷ 0 ∷ []) (54 ∷ 3 ∷ 55 ∷ 0x10000003 ∷ 56 ∷ 1 ∷ []) 0x9 (0 ∷ 0x10000003 ∷ 1 ∷ 8 ∷ []) (32 ∷ 0x258bf258bf258bd3 ∷ 54 ∷ 1 ∷ 55 ∷ 9 ∷ 56 ∷ 8 ∷ 57 ∷ 1 ∷ [])

abbrev row_356 : Bool
row_356 = calls answered 11 (1 ∷ 0x703483 ∷ 0 ∷ 0 ∷ 0 ∷ []) (54 ∷ 3 ∷ 55 ∷ 0x10000003 ∷ 56 ∷ 2 ∷ []) 0x8 (0 ∷ 0x10000003 ∷ 1 ∷ 2 ∷ []) (54 ∷ 0 ∷ [])

abbrev row_357 : Bool
row_357 = calls answered 11 (1 ∷ 0x703483 ∷ 0 ∷ 0 ∷ 0 ∷ []) (54 ∷ 3 ∷ 55 ∷ 0x10000003 ∷ 56 ∷ 4 ∷ []) 0x8 (0 ∷ 0x10000003 ∷ 1 ∷ 4 ∷ []) (54 ∷ 0 ∷ [])

abbrev row_358 : Bool
row_358 = calls started 10 (0x15 ∷ 7 ∷ 0x4000000 ∷ 0x7034a3 ∷ 4 ∷ []) ([]) 0x8 (0 ∷ 0x10000003 ∷ 1 ∷ 1 ∷ []) ([])

abbrev row_359 : Bool
row_359 = calls started 10 (0x17 ∷ 6 ∷ 0xc400000000000000 ∷ 0x7034a3 ∷ 4 ∷ []) ([]) 0xa (0 ∷ 0x1000000000000002 ∷ 1 ∷ 8 ∷ 2 ∷ 0x91a2b3c4d5e6f78 ∷ []) (32 ∷ 0x258bf258bf258bd3 ∷ [])

abbrev row_360 : Bool
row_360 = calls answered 11 (1 ∷ 0x7034a3 ∷ 0 ∷ 0 ∷ 0 ∷ []) (54 ∷ 3 ∷ 55 ∷ 0x10000003 ∷ 56 ∷ 1 ∷ []) 0x8 (0 ∷ 0x10000003 ∷ 1 ∷ 1 ∷ []) (54 ∷ 0 ∷ [])

abbrev row_361 : Bool
row_361 = calls answered 11 (1 ∷ 0x7034a3 ∷ 0 ∷ 0 ∷ 0 ∷ []) (54 ∷ 3 ∷ 55 ∷ 0x10000003 ∷ 56 ∷ 2 ∷ []) 0xa (0 ∷ 0x10000003 ∷ 1 ∷ 8 ∷ 2 ∷ 0x91a2b3c4d5e6f78 ∷ []) (32 ∷ 0x258bf258bf258bd3 ∷ 54 ∷ 0 ∷ [])

abbrev row_362 : Bool
row_362 = calls answered 11 (1 ∷ 0x7034a3 ∷ 0 ∷ 0 ∷ 0 ∷ []) (54 ∷ 3 ∷ 55 ∷ 0x10000003 ∷ 56 ∷ 4 ∷ []) 0x8 (0 ∷ 0x10000003 ∷ 1 ∷ 4 ∷ []) (54 ∷ 0 ∷ [])

abbrev row_363 : Bool
row_363 = calls started 10 (0x15 ∷ 7 ∷ 0x4000000 ∷ 0x704483 ∷ 4 ∷ []) ([]) 0x9 (0 ∷ 0x10000003 ∷ 1 ∷ 1 ∷ []) (32 ∷ 0x258bf258bf258bd3 ∷ 54 ∷ 1 ∷ 55 ∷ 9 ∷ 56 ∷ 1 ∷ 57 ∷ 0 ∷ [])

abbrev row_364 : Bool
row_364 = calls started 10 (0x17 ∷ 6 ∷ 0xc400000000000000 ∷ 0x704483 ∷ 4 ∷ []) ([]) 0x8 (0 ∷ 0x1000000000000002 ∷ 1 ∷ 2 ∷ []) ([])

abbrev row_365 : Bool
row_365 = calls answered 11 (1 ∷ 0x704483 ∷ 0 ∷ 0 ∷ 0 ∷ []) (54 ∷ 3 ∷ 55 ∷ 0x10000003 ∷ 56 ∷ 1 ∷ []) 0x9 (0 ∷ 0x10000003 ∷ 1 ∷ 1 ∷ []) (32 ∷ 0x258bf258bf258bd3 ∷ 54 ∷ 1 ∷ 55 ∷ 9 ∷ 57 ∷ 0 ∷ [])

abbrev row_366 : Bool
row_366 = calls answered 11 (1 ∷ 0x704483 ∷ 0 ∷ 0 ∷ 0 ∷ []) (54 ∷ 3 ∷ 55 ∷ 0x10000003 ∷ 56 ∷ 2 ∷ []) 0x8 (0 ∷ 0x10000003 ∷ 1 ∷ 2 ∷ []) (54 ∷ 0 ∷ [])

abbrev row_367 : Bool
row_367 = calls answered 11 (1 ∷ 0x704483 ∷ 0 ∷ 0 ∷ 0 ∷ []) (54 ∷ 3 ∷ 55 ∷ 0x10000003 ∷ 56 ∷ 4 ∷ []) 0x8 (0 ∷ 0x10000003 ∷ 1 ∷ 4 ∷ []) (54 ∷ 0 ∷ [])

abbrev row_368 : Bool
row_368 = calls started 10 (0x15 ∷ 7 ∷ 0x4000000 ∷ 0x7044a3 ∷ 4 ∷ []) ([]) 0x8 (0 ∷ 0x10000003 ∷ 1 ∷ 1 ∷ []) ([])

abbrev row_369 : Bool
row_369 = calls started 10 (0x17 ∷ 6 ∷ 0xc400000000000000 ∷ 0x7044a3 ∷ 4 ∷ []) ([]) 0x8 (0 ∷ 0x1000000000000002 ∷ 1 ∷ 2 ∷ []) ([])

abbrev row_370 : Bool
row_370 = calls answered 11 (1 ∷ 0x7044a3 ∷ 0 ∷ 0 ∷ 0 ∷ []) (54 ∷ 3 ∷ 55 ∷ 0x10000003 ∷ 56 ∷ 1 ∷ []) 0x8 (0 ∷ 0x10000003 ∷ 1 ∷ 1 ∷ []) (54 ∷ 0 ∷ [])

abbrev row_371 : Bool
row_371 = calls answered 11 (1 ∷ 0x7044a3 ∷ 0 ∷ 0 ∷ 0 ∷ []) (54 ∷ 3 ∷ 55 ∷ 0x10000003 ∷ 56 ∷ 2 ∷ []) 0x8 (0 ∷ 0x10000003 ∷ 1 ∷ 2 ∷ []) (54 ∷ 0 ∷ [])

abbrev row_372 : Bool
row_372 = calls answered 11 (1 ∷ 0x7044a3 ∷ 0 ∷ 0 ∷ 0 ∷ []) (54 ∷ 3 ∷ 55 ∷ 0x10000003 ∷ 56 ∷ 4 ∷ []) 0x8 (0 ∷ 0x10000003 ∷ 1 ∷ 4 ∷ []) (54 ∷ 0 ∷ [])

abbrev row_373 : Bool
row_373 = calls started 10 (0x15 ∷ 7 ∷ 0x4000000 ∷ 0x705483 ∷ 4 ∷ []) ([]) 0x9 (0 ∷ 0x10000003 ∷ 1 ∷ 2 ∷ []) (32 ∷ 0x258bf258bf258bd3 ∷ 54 ∷ 1 ∷ 55 ∷ 9 ∷ 56 ∷ 2 ∷ 57 ∷ 0 ∷ [])

abbrev row_374 : Bool
row_374 = calls started 10 (0x17 ∷ 6 ∷ 0xc400000000000000 ∷ 0x705483 ∷ 4 ∷ []) ([]) 0x8 (0 ∷ 0x1000000000000002 ∷ 1 ∷ 2 ∷ []) ([])

abbrev row_375 : Bool
row_375 = calls answered 11 (1 ∷ 0x705483 ∷ 0 ∷ 0 ∷ 0 ∷ []) (54 ∷ 3 ∷ 55 ∷ 0x10000003 ∷ 56 ∷ 1 ∷ []) 0x9 (0 ∷ 0x10000003 ∷ 1 ∷ 2 ∷ []) (32 ∷ 0x258bf258bf258bd3 ∷ 54 ∷ 1 ∷ 55 ∷ 9 ∷ 56 ∷ 2 ∷ 57 ∷ 0 ∷ [])

abbrev row_376 : Bool
row_376 = calls answered 11 (1 ∷ 0x705483 ∷ 0 ∷ 0 ∷ 0 ∷ []) (54 ∷ 3 ∷ 55 ∷ 0x10000003 ∷ 56 ∷ 2 ∷ []) 0x8 (0 ∷ 0x10000003 ∷ 1 ∷ 2 ∷ []) (54 ∷ 0 ∷ [])

abbrev row_377 : Bool
row_377 = calls answered 11 (1 ∷ 0x705483 ∷ 0 ∷ 0 ∷ 0 ∷ []) (54 ∷ 3 ∷ 55 ∷ 0x10000003 ∷ 56 ∷ 4 ∷ []) 0x8 (0 ∷ 0x10000003 ∷ 1 ∷ 4 ∷ []) (54 ∷ 0 ∷ [])

abbrev row_378 : Bool
row_378 = calls started 10 (0x15 ∷ 7 ∷ 0x4000000 ∷ 0x7054a3 ∷ 4 ∷ []) ([]) 0x8 (0 ∷ 0x10000003 ∷ 1 ∷ 1 ∷ []) ([])

abbrev row_379 : Bool
row_379 = calls started 10 (0x17 ∷ 6 ∷ 0xc400000000000000 ∷ 0x7054a3 ∷ 4 ∷ []) ([]) 0x8 (0 ∷ 0x1000000000000002 ∷ 1 ∷ 2 ∷ []) ([])

abbrev row_380 : Bool
row_380 = calls answered 11 (1 ∷ 0x7054a3 ∷ 0 ∷ 0 ∷ 0 ∷ []) (54 ∷ 3 ∷ 55 ∷ 0x10000003 ∷ 56 ∷ 1 ∷ []) 0x8 (0 ∷ 0x10000003 ∷ 1 ∷ 1 ∷ []) (54 ∷ 0 ∷ [])

abbrev row_381 : Bool
row_381 = calls answered 11 (1 ∷ 0x7054a3 ∷ 0 ∷ 0 ∷ 0 ∷ []) (54 ∷ 3 ∷ 55 ∷ 0x10000003 ∷ 56 ∷ 2 ∷ []) 0x8 (0 ∷ 0x10000003 ∷ 1 ∷ 2 ∷ []) (54 ∷ 0 ∷ [])

abbrev row_382 : Bool
row_382 = calls answered 11 (1 ∷ 0x7054a3 ∷ 0 ∷ 0 ∷ 0 ∷ []) (54 ∷ 3 ∷ 55 ∷ 0x10000003 ∷ 56 ∷ 4 ∷ []) 0x8 (0 ∷ 0x10000003 ∷ 1 ∷ 4 ∷ []) (54 ∷ 0 ∷ [])

abbrev row_383 : Bool
row_383 = calls started 10 (0x15 ∷ 7 ∷ 0x4000000 ∷ 0x706483 ∷ 4 ∷ []) ([]) 0x9 (0 ∷ 0x10000003 ∷ 1 ∷ 4 ∷ []) (32 ∷ 0x258bf258bf258bd3 ∷ 54 ∷ 1 ∷ 55 ∷ 9 ∷ 56 ∷ 4 ∷ 57 ∷ 0 ∷ [])

abbrev row_384 : Bool
row_384 = calls started 10 (0x17 ∷ 6 ∷ 0xc400000000000000 ∷ 0x706483 ∷ 4 ∷ []) ([]) 0x8 (0 ∷ 0x1000000000000002 ∷ 1 ∷ 2 ∷ []) ([])

abbrev row_385 : Bool
row_385 = calls answered 11 (1 ∷ 0x706483 ∷ 0 ∷ 0 ∷ 0 ∷ []) (54 ∷ 3 ∷ 55 ∷ 0x10000003 ∷ 56 ∷ 1 ∷ []) 0x9 (0 ∷ 0x10000003 ∷ 1 ∷ 4 ∷ []) (32 ∷ 0x258bf258bf258bd3 ∷ 54 ∷ 1 ∷ 55 ∷ 9 ∷ 56 ∷ 4 ∷ 57 ∷ 0 ∷ [])

abbrev row_386 : Bool
row_386 = calls answered 11 (1 ∷ 0x706483 ∷ 0 ∷ 0 ∷ 0 ∷ []) (54 ∷ 3 ∷ 55 ∷ 0x10000003 ∷ 56 ∷ 2 ∷ []) 0x8 (0 ∷ 0x10000003 ∷ 1 ∷ 2 ∷ []) (54 ∷ 0 ∷ [])

abbrev row_387 : Bool
row_387 = calls answered 11 (1 ∷ 0x706483 ∷ 0 ∷ 0 ∷ 0 ∷ []) (54 ∷ 3 ∷ 55 ∷ 0x10000003 ∷ 56 ∷ 4 ∷ []) 0x8 (0 ∷ 0x10000003 ∷ 1 ∷ 4 ∷ []) (54 ∷ 0 ∷ [])

abbrev row_388 : Bool
row_388 = calls started 10 (0x15 ∷ 7 ∷ 0x4000000 ∷ 0x7064a3 ∷ 4 ∷ []) ([]) 0x8 (0 ∷ 0x10000003 ∷ 1 ∷ 1 ∷ []) ([])

abbrev row_389 : Bool
row_389 = calls started 10 (0x17 ∷ 6 ∷ 0xc400000000000000 ∷ 0x7064a3 ∷ 4 ∷ []) ([]) 0x8 (0 ∷ 0x1000000000000002 ∷ 1 ∷ 2 ∷ []) ([])

abbrev row_390 : Bool
row_390 = calls answered 11 (1 ∷ 0x7064a3 ∷ 0 ∷ 0 ∷ 0 ∷ []) (54 ∷ 3 ∷ 55 ∷ 0x10000003 ∷ 56 ∷ 1 ∷ []) 0x8 (0 ∷ 0x10000003 ∷ 1 ∷ 1 ∷ []) (54 ∷ 0 ∷ [])

abbrev row_391 : Bool
row_391 = calls answered 11 (1 ∷ 0x7064a3 ∷ 0 ∷ 0 ∷ 0 ∷ []) (54 ∷ 3 ∷ 55 ∷ 0x10000003 ∷ 56 ∷ 2 ∷ []) 0x8 (0 ∷ 0x10000003 ∷ 1 ∷ 2 ∷ []) (54 ∷ 0 ∷ [])

abbrev row_392 : Bool
row_392 = calls answered 11 (1 ∷ 0x7064a3 ∷ 0 ∷ 0 ∷ 0 ∷ []) (54 ∷ 3 ∷ 55 ∷ 0x10000003 ∷ 56 ∷ 4 ∷ []) 0x8 (0 ∷ 0x10000003 ∷ 1 ∷ 4 ∷ []) (54 ∷ 0 ∷ [])

abbrev row_393 : Bool
row_393 = calls started 10 (0x15 ∷ 7 ∷ 0x4000000 ∷ 0x707483 ∷ 4 ∷ []) ([]) 0x8 (0 ∷ 0x10000003 ∷ 1 ∷ 1 ∷ []) ([])

abbrev row_394 : Bool
row_394 = calls started 10 (0x17 ∷ 6 ∷ 0xc400000000000000 ∷ 0x707483 ∷ 4 ∷ []) ([]) 0x8 (0 ∷ 0x1000000000000002 ∷ 1 ∷ 2 ∷ []) ([])

abbrev row_395 : Bool
row_395 = calls answered 11 (1 ∷ 0x707483 ∷ 0 ∷ 0 ∷ 0 ∷ []) (54 ∷ 3 ∷ 55 ∷ 0x10000003 ∷ 56 ∷ 1 ∷ []) 0x8 (0 ∷ 0x10000003 ∷ 1 ∷ 1 ∷ []) (54 ∷ 0 ∷ [])

abbrev row_396 : Bool
row_396 = calls answered 11 (1 ∷ 0x707483 ∷ 0 ∷ 0 ∷ 0 ∷ []) (54 ∷ 3 ∷ 55 ∷ 0x10000003 ∷ 56 ∷ 2 ∷ []) 0x8 (0 ∷ 0x10000003 ∷ 1 ∷ 2 ∷ []) (54 ∷ 0 ∷ [])

abbrev row_397 : Bool
row_397 = calls answered 11 (1 ∷ 0x707483 ∷ 0 ∷ 0 ∷ 0 ∷ []) (54 ∷ 3 ∷ 55 ∷ 0x10000003 ∷ 56 ∷ 4 ∷ []) 0x8 (0 ∷ 0x10000003 ∷ 1 ∷ 4 ∷ []) (54 ∷ 0 ∷ [])

abbrev row_398 : Bool
row_398 = calls started 10 (0x15 ∷ 7 ∷ 0x4000000 ∷ 0x7074a3 ∷ 4 ∷ []) ([]) 0x8 (0 ∷ 0x10000003 ∷ 1 ∷ 1 ∷ []) ([])

abbrev row_399 : Bool
row_399 = calls started 10 (0x17 ∷ 6 ∷ 0xc400000000000000 ∷ 0x7074a3 ∷ 4 ∷ []) ([]) 0x8 (0 ∷ 0x1000000000000002 ∷ 1 ∷ 2 ∷ []) ([])

abbrev row_400 : Bool
row_400 = calls answered 11 (1 ∷ 0x7074a3 ∷ 0 ∷ 0 ∷ 0 ∷ []) (54 ∷ 3 ∷ 55 ∷ 0x10000003 ∷ 56 ∷ 1 ∷ []) 0x8 (0 ∷ 0x10000003 ∷ 1 ∷ 1 ∷ []) (54 ∷ 0 ∷ [])

abbrev row_401 : Bool
row_401 = calls answered 11 (1 ∷ 0x7074a3 ∷ 0 ∷ 0 ∷ 0 ∷ []) (54 ∷ 3 ∷ 55 ∷ 0x10000003 ∷ 56 ∷ 2 ∷ []) 0x8 (0 ∷ 0x10000003 ∷ 1 ∷ 2 ∷ []) (54 ∷ 0 ∷ [])

abbrev row_402 : Bool
row_402 = calls answered 11 (1 ∷ 0x7074a3 ∷ 0 ∷ 0 ∷ 0 ∷ []) (54 ∷ 3 ∷ 55 ∷ 0x10000003 ∷ 56 ∷ 4 ∷ []) 0x8 (0 ∷ 0x10000003 ∷ 1 ∷ 4 ∷ []) (54 ∷ 0 ∷ [])

abbrev row_403 : Bool
row_403 = calls started 10 (0x15 ∷ 7 ∷ 0x4000000 ∷ 0x702481 ∷ 4 ∷ []) ([]) 0x9 (0 ∷ 0x10000003 ∷ 1 ∷ 4 ∷ []) (32 ∷ 0x258bf258bf258bd1 ∷ 54 ∷ 1 ∷ 55 ∷ 9 ∷ 56 ∷ 4 ∷ 57 ∷ 1 ∷ [])

abbrev row_404 : Bool
row_404 = calls started 10 (0x17 ∷ 6 ∷ 0xc400000000000000 ∷ 0x702481 ∷ 4 ∷ []) ([]) 0x8 (0 ∷ 0x1000000000000002 ∷ 1 ∷ 2 ∷ []) ([])

abbrev row_405 : Bool
row_405 = calls answered 11 (1 ∷ 0x702481 ∷ 0 ∷ 0 ∷ 0 ∷ []) (54 ∷ 3 ∷ 55 ∷ 0x10000003 ∷ 56 ∷ 1 ∷ []) 0x8 (0 ∷ 0x10000003 ∷ 1 ∷ 1 ∷ []) (54 ∷ 0 ∷ [])

abbrev row_406 : Bool
row_406 = calls answered 11 (1 ∷ 0x702481 ∷ 0 ∷ 0 ∷ 0 ∷ []) (54 ∷ 3 ∷ 55 ∷ 0x10000003 ∷ 56 ∷ 2 ∷ []) 0x8 (0 ∷ 0x10000003 ∷ 1 ∷ 2 ∷ []) (54 ∷ 0 ∷ [])

abbrev row_407 : Bool
row_407 = calls answered 11 (1 ∷ 0x702481 ∷ 0 ∷ 0 ∷ 0 ∷ []) (54 ∷ 3 ∷ 55 ∷ 0x10000003 ∷ 56 ∷ 4 ∷ []) 0x8 (0 ∷ 0x10000003 ∷ 1 ∷ 4 ∷ []) (54 ∷ 0 ∷ [])

abbrev row_408 : Bool
row_408 = calls started 10 (0x15 ∷ 7 ∷ 0x4000000 ∷ 0x7024a1 ∷ 4 ∷ []) ([]) 0x8 (0 ∷ 0x10000003 ∷ 1 ∷ 1 ∷ []) ([])

abbrev row_409 : Bool
row_409 = calls started 10 (0x17 ∷ 6 ∷ 0xc400000000000000 ∷ 0x7024a1 ∷ 4 ∷ []) ([]) 0xa (0 ∷ 0x1000000000000002 ∷ 1 ∷ 4 ∷ 2 ∷ 0x4d5e6f78 ∷ []) (32 ∷ 0x258bf258bf258bd1 ∷ [])

abbrev row_410 : Bool
row_410 = calls answered 11 (1 ∷ 0x7024a1 ∷ 0 ∷ 0 ∷ 0 ∷ []) (54 ∷ 3 ∷ 55 ∷ 0x10000003 ∷ 56 ∷ 1 ∷ []) 0x8 (0 ∷ 0x10000003 ∷ 1 ∷ 1 ∷ []) (54 ∷ 0 ∷ [])

abbrev row_411 : Bool
row_411 = calls answered 11 (1 ∷ 0x7024a1 ∷ 0 ∷ 0 ∷ 0 ∷ []) (54 ∷ 3 ∷ 55 ∷ 0x10000003 ∷ 56 ∷ 2 ∷ []) 0x8 (0 ∷ 0x10000003 ∷ 1 ∷ 2 ∷ []) (54 ∷ 0 ∷ [])

abbrev row_412 : Bool
row_412 = calls answered 11 (1 ∷ 0x7024a1 ∷ 0 ∷ 0 ∷ 0 ∷ []) (54 ∷ 3 ∷ 55 ∷ 0x10000003 ∷ 56 ∷ 4 ∷ []) 0x8 (0 ∷ 0x10000003 ∷ 1 ∷ 4 ∷ []) (54 ∷ 0 ∷ [])

abbrev row_413 : Bool
row_413 = calls started 10 (0x15 ∷ 7 ∷ 0x4000000 ∷ 0x2403 ∷ 4 ∷ []) ([]) 0x9 (0 ∷ 0x10000003 ∷ 1 ∷ 4 ∷ []) (32 ∷ 0x258bf258bf258bd3 ∷ 54 ∷ 1 ∷ 55 ∷ 8 ∷ 56 ∷ 4 ∷ 57 ∷ 1 ∷ [])

abbrev row_414 : Bool
row_414 = calls started 10 (0x17 ∷ 6 ∷ 0xc400000000000000 ∷ 0x2403 ∷ 4 ∷ []) ([]) 0x8 (0 ∷ 0x1000000000000002 ∷ 1 ∷ 2 ∷ []) ([])

abbrev row_415 : Bool
row_415 = calls answered 11 (1 ∷ 0x2403 ∷ 0 ∷ 0 ∷ 0 ∷ []) (54 ∷ 3 ∷ 55 ∷ 0x10000003 ∷ 56 ∷ 1 ∷ []) 0x9 (0 ∷ 0x10000003 ∷ 1 ∷ 4 ∷ []) (32 ∷ 0x258bf258bf258bd3 ∷ 54 ∷ 1 ∷ 55 ∷ 8 ∷ 56 ∷ 4 ∷ 57 ∷ 1 ∷ [])

abbrev row_416 : Bool
row_416 = calls answered 11 (1 ∷ 0x2403 ∷ 0 ∷ 0 ∷ 0 ∷ []) (54 ∷ 3 ∷ 55 ∷ 0x10000003 ∷ 56 ∷ 2 ∷ []) 0x8 (0 ∷ 0x10000003 ∷ 1 ∷ 2 ∷ []) (54 ∷ 0 ∷ [])

abbrev row_417 : Bool
row_417 = calls answered 11 (1 ∷ 0x2403 ∷ 0 ∷ 0 ∷ 0 ∷ []) (54 ∷ 3 ∷ 55 ∷ 0x10000003 ∷ 56 ∷ 4 ∷ []) 0x8 (0 ∷ 0x10000003 ∷ 1 ∷ 4 ∷ []) (54 ∷ 0 ∷ [])

abbrev row_418 : Bool
row_418 = calls started 10 (0x15 ∷ 7 ∷ 0x4000000 ∷ 0x2023 ∷ 4 ∷ []) ([]) 0x8 (0 ∷ 0x10000003 ∷ 1 ∷ 1 ∷ []) ([])

abbrev row_419 : Bool
row_419 = calls started 10 (0x17 ∷ 6 ∷ 0xc400000000000000 ∷ 0x2023 ∷ 4 ∷ []) ([]) 0xa (0 ∷ 0x1000000000000002 ∷ 1 ∷ 4 ∷ []) (32 ∷ 0x258bf258bf258bd3 ∷ [])

abbrev row_420 : Bool
row_420 = calls answered 11 (1 ∷ 0x2023 ∷ 0 ∷ 0 ∷ 0 ∷ []) (54 ∷ 3 ∷ 55 ∷ 0x10000003 ∷ 56 ∷ 1 ∷ []) 0x8 (0 ∷ 0x10000003 ∷ 1 ∷ 1 ∷ []) (54 ∷ 0 ∷ [])

abbrev row_421 : Bool
row_421 = calls answered 11 (1 ∷ 0x2023 ∷ 0 ∷ 0 ∷ 0 ∷ []) (54 ∷ 3 ∷ 55 ∷ 0x10000003 ∷ 56 ∷ 2 ∷ []) 0xa (0 ∷ 0x10000003 ∷ 1 ∷ 4 ∷ []) (32 ∷ 0x258bf258bf258bd3 ∷ 54 ∷ 0 ∷ [])

abbrev row_422 : Bool
row_422 = calls answered 11 (1 ∷ 0x2023 ∷ 0 ∷ 0 ∷ 0 ∷ []) (54 ∷ 3 ∷ 55 ∷ 0x10000003 ∷ 56 ∷ 4 ∷ []) 0x8 (0 ∷ 0x10000003 ∷ 1 ∷ 4 ∷ []) (54 ∷ 0 ∷ [])

abbrev row_423 : Bool
row_423 = calls started 10 (0x15 ∷ 7 ∷ 0x4000000 ∷ 0x1f02f83 ∷ 4 ∷ []) ([]) 0x9 (0 ∷ 0x10000003 ∷ 1 ∷ 4 ∷ []) (32 ∷ 0x258bf258bf258bd3 ∷ 54 ∷ 1 ∷ 55 ∷ 0x1f ∷ 56 ∷ 4 ∷ 57 ∷ 1 ∷ [])

abbrev row_424 : Bool
row_424 = calls started 10 (0x17 ∷ 6 ∷ 0xc400000000000000 ∷ 0x1f02f83 ∷ 4 ∷ []) ([]) 0x8 (0 ∷ 0x1000000000000002 ∷ 1 ∷ 2 ∷ []) ([])

abbrev row_425 : Bool
row_425 = calls answered 11 (1 ∷ 0x1f02f83 ∷ 0 ∷ 0 ∷ 0 ∷ []) (54 ∷ 3 ∷ 55 ∷ 0x10000003 ∷ 56 ∷ 1 ∷ []) 0x9 (0 ∷ 0x10000003 ∷ 1 ∷ 4 ∷ []) (32 ∷ 0x258bf258bf258bd3 ∷ 54 ∷ 1 ∷ 55 ∷ 0x1f ∷ 56 ∷ 4 ∷ 57 ∷ 1 ∷ [])

abbrev row_426 : Bool
row_426 = calls answered 11 (1 ∷ 0x1f02f83 ∷ 0 ∷ 0 ∷ 0 ∷ []) (54 ∷ 3 ∷ 55 ∷ 0x10000003 ∷ 56 ∷ 2 ∷ []) 0x8 (0 ∷ 0x10000003 ∷ 1 ∷ 2 ∷ []) (54 ∷ 0 ∷ [])

abbrev row_427 : Bool
row_427 = calls answered 11 (1 ∷ 0x1f02f83 ∷ 0 ∷ 0 ∷ 0 ∷ []) (54 ∷ 3 ∷ 55 ∷ 0x10000003 ∷ 56 ∷ 4 ∷ []) 0x8 (0 ∷ 0x10000003 ∷ 1 ∷ 4 ∷ []) (54 ∷ 0 ∷ [])

abbrev row_428 : Bool
row_428 = calls started 10 (0x15 ∷ 7 ∷ 0x4000000 ∷ 0x1f02fa3 ∷ 4 ∷ []) ([]) 0x8 (0 ∷ 0x10000003 ∷ 1 ∷ 1 ∷ []) ([])

abbrev row_429 : Bool
row_429 = calls started 10 (0x17 ∷ 6 ∷ 0xc400000000000000 ∷ 0x1f02fa3 ∷ 4 ∷ []) ([]) 0xa (0 ∷ 0x1000000000000002 ∷ 1 ∷ 4 ∷ 2 ∷ 0x3579bde0 ∷ []) (32 ∷ 0x258bf258bf258bd3 ∷ [])

abbrev row_430 : Bool
row_430 = calls answered 11 (1 ∷ 0x1f02fa3 ∷ 0 ∷ 0 ∷ 0 ∷ []) (54 ∷ 3 ∷ 55 ∷ 0x10000003 ∷ 56 ∷ 1 ∷ []) 0x8 (0 ∷ 0x10000003 ∷ 1 ∷ 1 ∷ []) (54 ∷ 0 ∷ [])

abbrev row_431 : Bool
row_431 = calls answered 11 (1 ∷ 0x1f02fa3 ∷ 0 ∷ 0 ∷ 0 ∷ []) (54 ∷ 3 ∷ 55 ∷ 0x10000003 ∷ 56 ∷ 2 ∷ []) 0xa (0 ∷ 0x10000003 ∷ 1 ∷ 4 ∷ 2 ∷ 0x3579bde0 ∷ []) (32 ∷ 0x258bf258bf258bd3 ∷ 54 ∷ 0 ∷ [])

abbrev row_432 : Bool
row_432 = calls answered 11 (1 ∷ 0x1f02fa3 ∷ 0 ∷ 0 ∷ 0 ∷ []) (54 ∷ 3 ∷ 55 ∷ 0x10000003 ∷ 56 ∷ 4 ∷ []) 0x8 (0 ∷ 0x10000003 ∷ 1 ∷ 4 ∷ []) (54 ∷ 0 ∷ [])

abbrev row_433 : Bool
row_433 = calls started 10 (0 ∷ 0 ∷ 0 ∷ 0 ∷ 0 ∷ []) ([]) 0x103 ([]) ([])

abbrev row_434 : Bool
row_434 = calls started 10 (0x8000000000000000 ∷ 0 ∷ 0 ∷ 0 ∷ 0 ∷ []) ([]) 0x103 ([]) ([])

abbrev row_435 : Bool
row_435 = calls started 10 (1 ∷ 0 ∷ 0 ∷ 0 ∷ 0 ∷ []) ([]) 0x103 ([]) ([])

abbrev row_436 : Bool
row_436 = calls started 10 (0x8000000000000001 ∷ 0 ∷ 0 ∷ 0 ∷ 0 ∷ []) ([]) 0x1 (0 ∷ 0x8000000000000001 ∷ []) ([])

abbrev row_437 : Bool
row_437 = calls started 10 (2 ∷ 0 ∷ 0 ∷ 0 ∷ 0 ∷ []) ([]) 0x103 ([]) ([])

abbrev row_438 : Bool
row_438 = calls started 10 (0x8000000000000002 ∷ 0 ∷ 0 ∷ 0 ∷ 0 ∷ []) ([]) 0x103 ([]) ([])

abbrev row_439 : Bool
row_439 = calls started 10 (3 ∷ 0 ∷ 0 ∷ 0 ∷ 0 ∷ []) ([]) 0x103 ([]) ([])

abbrev row_440 : Bool
row_440 = calls started 10 (0x8000000000000003 ∷ 0 ∷ 0 ∷ 0 ∷ 0 ∷ []) ([]) 0x103 ([]) ([])

abbrev row_441 : Bool
row_441 = calls started 10 (4 ∷ 0 ∷ 0 ∷ 0 ∷ 0 ∷ []) ([]) 0x103 ([]) ([])

abbrev row_442 : Bool
row_442 = calls started 10 (0x8000000000000004 ∷ 0 ∷ 0 ∷ 0 ∷ 0 ∷ []) ([]) 0x103 ([]) ([])

abbrev row_443 : Bool
row_443 = calls started 10 (5 ∷ 0 ∷ 0 ∷ 0 ∷ 0 ∷ []) ([]) 0x103 ([]) ([])

abbrev row_444 : Bool
row_444 = calls started 10 (0x8000000000000005 ∷ 0 ∷ 0 ∷ 0 ∷ 0 ∷ []) ([]) 0x1 (0 ∷ 0x8000000000000005 ∷ []) ([])

abbrev row_445 : Bool
row_445 = calls started 10 (6 ∷ 0 ∷ 0 ∷ 0 ∷ 0 ∷ []) ([]) 0x103 ([]) ([])

abbrev row_446 : Bool
row_446 = calls started 10 (0x8000000000000006 ∷ 0 ∷ 0 ∷ 0 ∷ 0 ∷ []) ([]) 0x103 ([]) ([])

abbrev row_447 : Bool
row_447 = calls started 10 (7 ∷ 0 ∷ 0 ∷ 0 ∷ 0 ∷ []) ([]) 0x103 ([]) ([])

abbrev row_448 : Bool
row_448 = calls started 10 (0x8000000000000007 ∷ 0 ∷ 0 ∷ 0 ∷ 0 ∷ []) ([]) 0x103 ([]) ([])

abbrev row_449 : Bool
row_449 = calls started 10 (8 ∷ 0 ∷ 0 ∷ 0 ∷ 0 ∷ []) ([]) 0x103 ([]) ([])

abbrev row_450 : Bool
row_450 = calls started 10 (0x8000000000000008 ∷ 0 ∷ 0 ∷ 0 ∷ 0 ∷ []) ([]) 0x103 ([]) ([])

abbrev row_451 : Bool
row_451 = calls started 10 (9 ∷ 0 ∷ 0 ∷ 0 ∷ 0 ∷ []) ([]) 0x103 ([]) ([])

abbrev row_452 : Bool
row_452 = calls started 10 (0x8000000000000009 ∷ 0 ∷ 0 ∷ 0 ∷ 0 ∷ []) ([]) 0x1 (0 ∷ 0x8000000000000009 ∷ []) ([])

abbrev row_453 : Bool
row_453 = calls started 10 (0xa ∷ 0 ∷ 0 ∷ 0 ∷ 0 ∷ []) ([]) 0x29 (0 ∷ 0x147ae147ae147ace ∷ 1 ∷ 0x13579be02468acdf ∷ 2 ∷ 0xc83fb72ea61d945 ∷ 3 ∷ 0xda740da740da734 ∷ 4 ∷ 0xeca8641fdb97523 ∷ 5 ∷ 0xfedcba987654312 ∷ 6 ∷ 0x1111111111111101 ∷ 7 ∷ 0x123456789abcdef0 ∷ []) (54 ∷ 0xc ∷ [])

abbrev row_454 : Bool
row_454 = calls started 10 (0x800000000000000a ∷ 0 ∷ 0 ∷ 0 ∷ 0 ∷ []) ([]) 0x103 ([]) ([])

abbrev row_455 : Bool
row_455 = calls started 10 (0xb ∷ 0 ∷ 0 ∷ 0 ∷ 0 ∷ []) ([]) 0x103 ([]) ([])

abbrev row_456 : Bool
row_456 = calls started 10 (0x800000000000000b ∷ 0 ∷ 0 ∷ 0 ∷ 0 ∷ []) ([]) 0x103 ([]) ([])

abbrev row_457 : Bool
row_457 = calls started 10 (0xc ∷ 0 ∷ 0 ∷ 0 ∷ 0 ∷ []) ([]) 0x103 ([]) ([])

abbrev row_458 : Bool
row_458 = calls started 10 (0x800000000000000c ∷ 0 ∷ 0 ∷ 0 ∷ 0 ∷ []) ([]) 0x103 ([]) ([])

abbrev row_459 : Bool
row_459 = calls started 10 (0xd ∷ 0 ∷ 0 ∷ 0 ∷ 0 ∷ []) ([]) 0x103 ([]) ([])

abbrev row_460 : Bool
row_460 = calls started 10 (0x800000000000000d ∷ 0 ∷ 0 ∷ 0 ∷ 0 ∷ []) ([]) 0x104 ([]) ([])

abbrev row_461 : Bool
row_461 = calls started 10 (0xe ∷ 0 ∷ 0 ∷ 0 ∷ 0 ∷ []) ([]) 0x104 ([]) ([])

abbrev row_462 : Bool
row_462 = calls started 10 (0x800000000000000e ∷ 0 ∷ 0 ∷ 0 ∷ 0 ∷ []) ([]) 0x104 ([]) ([])

abbrev row_463 : Bool
row_463 = calls started 10 (0xf ∷ 0 ∷ 0 ∷ 0 ∷ 0 ∷ []) ([]) 0x103 ([]) ([])

abbrev row_464 : Bool
row_464 = calls started 10 (0x800000000000000f ∷ 0 ∷ 0 ∷ 0 ∷ 0 ∷ []) ([]) 0x104 ([]) ([])

abbrev row_465 : Bool
row_465 = calls started 10 (0x10 ∷ 0 ∷ 0 ∷ 0 ∷ 0 ∷ []) ([]) 0x104 ([]) ([])

abbrev row_466 : Bool
row_466 = calls started 10 (0x8000000000000010 ∷ 0 ∷ 0 ∷ 0 ∷ 0 ∷ []) ([]) 0x104 ([]) ([])

abbrev row_467 : Bool
row_467 = calls started 10 (0x11 ∷ 0 ∷ 0 ∷ 0 ∷ 0 ∷ []) ([]) 0x104 ([]) ([])

abbrev row_468 : Bool
row_468 = calls started 10 (0x8000000000000011 ∷ 0 ∷ 0 ∷ 0 ∷ 0 ∷ []) ([]) 0x104 ([]) ([])

abbrev row_469 : Bool
row_469 = calls started 10 (0x12 ∷ 0 ∷ 0 ∷ 0 ∷ 0 ∷ []) ([]) 0x104 ([]) ([])

abbrev row_470 : Bool
row_470 = calls started 10 (0x8000000000000012 ∷ 0 ∷ 0 ∷ 0 ∷ 0 ∷ []) ([]) 0x104 ([]) ([])

abbrev row_471 : Bool
row_471 = calls started 10 (0x13 ∷ 0 ∷ 0 ∷ 0 ∷ 0 ∷ []) ([]) 0x104 ([]) ([])

abbrev row_472 : Bool
row_472 = calls started 10 (0x8000000000000013 ∷ 0 ∷ 0 ∷ 0 ∷ 0 ∷ []) ([]) 0x104 ([]) ([])

abbrev row_473 : Bool
row_473 = calls started 10 (0x14 ∷ 0 ∷ 0 ∷ 0 ∷ 0 ∷ []) ([]) 0x103 ([]) ([])

abbrev row_474 : Bool
row_474 = calls started 10 (0x8000000000000014 ∷ 0 ∷ 0 ∷ 0 ∷ 0 ∷ []) ([]) 0x104 ([]) ([])

abbrev row_475 : Bool
row_475 = calls started 10 (0x15 ∷ 0 ∷ 0 ∷ 0 ∷ 0 ∷ []) ([]) 0x21 (0 ∷ 0x258bf258bf258bcf ∷ 1 ∷ 1 ∷ []) (54 ∷ 3 ∷ 55 ∷ 0 ∷ 56 ∷ 1 ∷ [])

abbrev row_476 : Bool
row_476 = calls started 10 (0x8000000000000015 ∷ 0 ∷ 0 ∷ 0 ∷ 0 ∷ []) ([]) 0x104 ([]) ([])

abbrev row_477 : Bool
row_477 = calls started 10 (0x16 ∷ 0 ∷ 0 ∷ 0 ∷ 0 ∷ []) ([]) 0x21 (0 ∷ 0x258bf258bf258bcf ∷ 1 ∷ 1 ∷ []) (54 ∷ 2 ∷ [])

abbrev row_478 : Bool
row_478 = calls started 10 (0x8000000000000016 ∷ 0 ∷ 0 ∷ 0 ∷ 0 ∷ []) ([]) 0x104 ([]) ([])

abbrev row_479 : Bool
row_479 = calls started 10 (0x17 ∷ 0 ∷ 0 ∷ 0 ∷ 0 ∷ []) ([]) 0x21 (0 ∷ 0x258bf258bf258bcf ∷ 1 ∷ 1 ∷ []) (54 ∷ 3 ∷ 55 ∷ 0 ∷ 56 ∷ 2 ∷ [])

abbrev row_480 : Bool
row_480 = calls started 10 (0x8000000000000017 ∷ 0 ∷ 0 ∷ 0 ∷ 0 ∷ []) ([]) 0x104 ([]) ([])

abbrev row_481 : Bool
row_481 = calls started 10 (0x18 ∷ 0 ∷ 0 ∷ 0 ∷ 0 ∷ []) ([]) 0x104 ([]) ([])

abbrev row_482 : Bool
row_482 = calls started 10 (0x8000000000000018 ∷ 0 ∷ 0 ∷ 0 ∷ 0 ∷ []) ([]) 0x104 ([]) ([])

abbrev row_483 : Bool
row_483 = calls started 10 (0x19 ∷ 0 ∷ 0 ∷ 0 ∷ 0 ∷ []) ([]) 0x104 ([]) ([])

abbrev row_484 : Bool
row_484 = calls started 10 (0x8000000000000019 ∷ 0 ∷ 0 ∷ 0 ∷ 0 ∷ []) ([]) 0x104 ([]) ([])

abbrev row_485 : Bool
row_485 = calls started 10 (0x1a ∷ 0 ∷ 0 ∷ 0 ∷ 0 ∷ []) ([]) 0x104 ([]) ([])

abbrev row_486 : Bool
row_486 = calls started 10 (0x800000000000001a ∷ 0 ∷ 0 ∷ 0 ∷ 0 ∷ []) ([]) 0x104 ([]) ([])

abbrev row_487 : Bool
row_487 = calls printed 13 (5 ∷ 0 ∷ 0 ∷ 0 ∷ 0 ∷ []) (55 ∷ 5 ∷ 56 ∷ 4 ∷ 57 ∷ 1 ∷ []) 0x41 ([]) ([])

abbrev row_488 : Bool
row_488 = calls called 12 (0x123456789abcdef0 ∷ 0 ∷ 0 ∷ 0 ∷ 0 ∷ []) (55 ∷ 5 ∷ 56 ∷ 4 ∷ 57 ∷ 1 ∷ []) 0x102 ([]) ([])

abbrev row_489 : Bool
row_489 = calls started 10 (0xa ∷ 0 ∷ 0 ∷ 0 ∷ 0 ∷ []) (55 ∷ 5 ∷ 56 ∷ 4 ∷ 57 ∷ 1 ∷ []) 0x29 (0 ∷ 0x147ae147ae147ace ∷ 1 ∷ 0x13579be02468acdf ∷ 2 ∷ 0xc83fb72ea61d945 ∷ 3 ∷ 0xda740da740da734 ∷ 4 ∷ 0xeca8641fdb97523 ∷ 5 ∷ 0xfedcba987654312 ∷ 6 ∷ 0x1111111111111101 ∷ 7 ∷ 0x123456789abcdef0 ∷ []) (54 ∷ 0xc ∷ [])

abbrev row_490 : Bool
row_490 = calls called 1 (0 ∷ 0 ∷ 0 ∷ 0 ∷ 0 ∷ []) (55 ∷ 5 ∷ 56 ∷ 4 ∷ 57 ∷ 1 ∷ []) 0x40 ([]) (33 ∷ 0x2100 ∷ 34 ∷ 0x200000180 ∷ 40 ∷ 0xffffffffffffffff ∷ 41 ∷ 0x444 ∷ 42 ∷ 0 ∷ 43 ∷ 0 ∷ [])

abbrev row_491 : Bool
row_491 = calls answered 11 (0 ∷ 5 ∷ 2 ∷ 0 ∷ 0 ∷ []) (55 ∷ 5 ∷ 56 ∷ 4 ∷ 57 ∷ 1 ∷ []) 0x107 ([]) ([])

abbrev row_492 : Bool
row_492 = calls answered 11 (9 ∷ 5 ∷ 2 ∷ 0 ∷ 0 ∷ []) (55 ∷ 5 ∷ 56 ∷ 4 ∷ 57 ∷ 1 ∷ []) 0x107 ([]) ([])

abbrev row_493 : Bool
row_493 = calls answered 11 (1 ∷ 5 ∷ 2 ∷ 0 ∷ 0 ∷ []) (55 ∷ 5 ∷ 56 ∷ 4 ∷ 57 ∷ 1 ∷ []) 0x107 ([]) ([])

abbrev row_494 : Bool
row_494 = calls answered 11 (0xa ∷ 5 ∷ 2 ∷ 0 ∷ 0 ∷ []) (55 ∷ 5 ∷ 56 ∷ 4 ∷ 57 ∷ 1 ∷ []) 0x107 ([]) ([])

abbrev row_495 : Bool
row_495 = calls answered 11 (0xffffffffffffffff ∷ 5 ∷ 2 ∷ 0 ∷ 0 ∷ []) (55 ∷ 5 ∷ 56 ∷ 4 ∷ 57 ∷ 1 ∷ []) 0x107 ([]) ([])

abbrev row_496 : Bool
row_496 = calls printed 13 (5 ∷ 0 ∷ 0 ∷ 0 ∷ 0 ∷ []) (54 ∷ 1 ∷ 55 ∷ 5 ∷ 56 ∷ 4 ∷ 57 ∷ 1 ∷ []) 0x41 ([]) ([])

abbrev row_497 : Bool
row_497 = calls called 12 (0x123456789abcdef0 ∷ 0 ∷ 0 ∷ 0 ∷ 0 ∷ []) (54 ∷ 1 ∷ 55 ∷ 5 ∷ 56 ∷ 4 ∷ 57 ∷ 1 ∷ []) 0x40 ([]) (5 ∷ 0xffffffff9abcdef0 ∷ 54 ∷ 0 ∷ [])

abbrev row_498 : Bool
row_498 = calls started 10 (0xa ∷ 0 ∷ 0 ∷ 0 ∷ 0 ∷ []) (54 ∷ 1 ∷ 55 ∷ 5 ∷ 56 ∷ 4 ∷ 57 ∷ 1 ∷ []) 0x102 ([]) ([])

abbrev row_499 : Bool
row_499 = calls called 1 (0 ∷ 0 ∷ 0 ∷ 0 ∷ 0 ∷ []) (54 ∷ 1 ∷ 55 ∷ 5 ∷ 56 ∷ 4 ∷ 57 ∷ 1 ∷ []) 0x40 ([]) (33 ∷ 0x2100 ∷ 34 ∷ 0x200000180 ∷ 40 ∷ 0xffffffffffffffff ∷ 41 ∷ 0x444 ∷ 42 ∷ 0 ∷ 43 ∷ 0 ∷ [])

abbrev row_500 : Bool
row_500 = calls answered 11 (0 ∷ 5 ∷ 2 ∷ 0 ∷ 0 ∷ []) (54 ∷ 1 ∷ 55 ∷ 5 ∷ 56 ∷ 4 ∷ 57 ∷ 1 ∷ []) 0x107 ([]) ([])

abbrev row_501 : Bool
row_501 = calls answered 11 (9 ∷ 5 ∷ 2 ∷ 0 ∷ 0 ∷ []) (54 ∷ 1 ∷ 55 ∷ 5 ∷ 56 ∷ 4 ∷ 57 ∷ 1 ∷ []) 0x107 ([]) ([])

abbrev row_502 : Bool
row_502 = calls answered 11 (1 ∷ 5 ∷ 2 ∷ 0 ∷ 0 ∷ []) (54 ∷ 1 ∷ 55 ∷ 5 ∷ 56 ∷ 4 ∷ 57 ∷ 1 ∷ []) 0x107 ([]) ([])

abbrev row_503 : Bool
row_503 = calls answered 11 (0xa ∷ 5 ∷ 2 ∷ 0 ∷ 0 ∷ []) (54 ∷ 1 ∷ 55 ∷ 5 ∷ 56 ∷ 4 ∷ 57 ∷ 1 ∷ []) 0x107 ([]) ([])

abbrev row_504 : Bool
row_504 = calls answered 11 (0xffffffffffffffff ∷ 5 ∷ 2 ∷ 0 ∷ 0 ∷ []) (54 ∷ 1 ∷ 55 ∷ 5 ∷ 56 ∷ 4 ∷ 57 ∷ 1 ∷ []) 0x107 ([]) ([])

abbrev row_505 : Bool
row_505 = calls printed 13 (5 ∷ 0 ∷ 0 ∷ 0 ∷ 0 ∷ []) (54 ∷ 2 ∷ 55 ∷ 5 ∷ 56 ∷ 4 ∷ 57 ∷ 1 ∷ []) 0x41 ([]) ([])

abbrev row_506 : Bool
row_506 = calls called 12 (0x123456789abcdef0 ∷ 0 ∷ 0 ∷ 0 ∷ 0 ∷ []) (54 ∷ 2 ∷ 55 ∷ 5 ∷ 56 ∷ 4 ∷ 57 ∷ 1 ∷ []) 0x102 ([]) ([])

abbrev row_507 : Bool
row_507 = calls started 10 (0xa ∷ 0 ∷ 0 ∷ 0 ∷ 0 ∷ []) (54 ∷ 2 ∷ 55 ∷ 5 ∷ 56 ∷ 4 ∷ 57 ∷ 1 ∷ []) 0x102 ([]) ([])

abbrev row_508 : Bool
row_508 = calls called 1 (0 ∷ 0 ∷ 0 ∷ 0 ∷ 0 ∷ []) (54 ∷ 2 ∷ 55 ∷ 5 ∷ 56 ∷ 4 ∷ 57 ∷ 1 ∷ []) 0x102 ([]) ([])

abbrev row_509 : Bool
row_509 = calls answered 11 (1 ∷ 5 ∷ 2 ∷ 0 ∷ 0 ∷ []) (54 ∷ 2 ∷ 55 ∷ 5 ∷ 56 ∷ 4 ∷ 57 ∷ 1 ∷ []) 0x0 ([]) (32 ∷ 0x2a1907f6e5d4c388 ∷ 37 ∷ 0x258bf258bf258bcf ∷ 38 ∷ 1 ∷ 39 ∷ 5 ∷ 54 ∷ 0 ∷ [])

abbrev row_510 : Bool
row_510 = calls answered 11 (1 ∷ 5 ∷ 2 ∷ 0 ∷ 0 ∷ []) (54 ∷ 2 ∷ 55 ∷ 5 ∷ 56 ∷ 4 ∷ 57 ∷ 1 ∷ []) 0x0 ([]) (32 ∷ 0x2a1907f6e5d4c388 ∷ 37 ∷ 0x258bf258bf258bcf ∷ 38 ∷ 1 ∷ 39 ∷ 5 ∷ 54 ∷ 0 ∷ [])

abbrev row_511 : Bool
row_511 = calls answered 11 (2 ∷ 5 ∷ 2 ∷ 0 ∷ 0 ∷ []) (54 ∷ 2 ∷ 55 ∷ 5 ∷ 56 ∷ 4 ∷ 57 ∷ 1 ∷ []) 0x107 ([]) ([])

abbrev row_512 : Bool
row_512 = calls answered 11 (0xa ∷ 5 ∷ 2 ∷ 0 ∷ 0 ∷ []) (54 ∷ 2 ∷ 55 ∷ 5 ∷ 56 ∷ 4 ∷ 57 ∷ 1 ∷ []) 0x107 ([]) ([])

abbrev row_513 : Bool
row_513 = calls answered 11 (0xffffffffffffffff ∷ 5 ∷ 2 ∷ 0 ∷ 0 ∷ []) (54 ∷ 2 ∷ 55 ∷ 5 ∷ 56 ∷ 4 ∷ 57 ∷ 1 ∷ []) 0x107 ([]) ([])

abbrev row_514 : Bool
row_514 = calls answered 11 (0 ∷ 5 ∷ 2 ∷ 0 ∷ 0 ∷ []) (54 ∷ 2 ∷ 55 ∷ 5 ∷ 56 ∷ 4 ∷ 57 ∷ 1 ∷ []) 0x107 ([]) ([])

abbrev row_515 : Bool
row_515 = calls printed 13 (5 ∷ 0 ∷ 0 ∷ 0 ∷ 0 ∷ []) (54 ∷ 3 ∷ 55 ∷ 5 ∷ 56 ∷ 4 ∷ 57 ∷ 1 ∷ []) 0x41 ([]) ([])

abbrev row_516 : Bool
row_516 = calls called 12 (0x123456789abcdef0 ∷ 0 ∷ 0 ∷ 0 ∷ 0 ∷ []) (54 ∷ 3 ∷ 55 ∷ 5 ∷ 56 ∷ 4 ∷ 57 ∷ 1 ∷ []) 0x102 ([]) ([])

abbrev row_517 : Bool
row_517 = calls started 10 (0xa ∷ 0 ∷ 0 ∷ 0 ∷ 0 ∷ []) (54 ∷ 3 ∷ 55 ∷ 5 ∷ 56 ∷ 4 ∷ 57 ∷ 1 ∷ []) 0x102 ([]) ([])

abbrev row_518 : Bool
row_518 = calls called 1 (0 ∷ 0 ∷ 0 ∷ 0 ∷ 0 ∷ []) (54 ∷ 3 ∷ 55 ∷ 5 ∷ 56 ∷ 4 ∷ 57 ∷ 1 ∷ []) 0x102 ([]) ([])

abbrev row_519 : Bool
row_519 = calls answered 11 (1 ∷ 5 ∷ 2 ∷ 0 ∷ 0 ∷ []) (54 ∷ 3 ∷ 55 ∷ 5 ∷ 56 ∷ 4 ∷ 57 ∷ 1 ∷ []) 0x0 ([]) (32 ∷ 0x2a1907f6e5d4c388 ∷ 37 ∷ 0x258bf258bf258bcf ∷ 38 ∷ 1 ∷ 39 ∷ 5 ∷ 54 ∷ 0 ∷ [])

abbrev row_520 : Bool
row_520 = calls answered 11 (1 ∷ 5 ∷ 2 ∷ 0 ∷ 0 ∷ []) (54 ∷ 3 ∷ 55 ∷ 5 ∷ 56 ∷ 4 ∷ 57 ∷ 1 ∷ []) 0x0 ([]) (32 ∷ 0x2a1907f6e5d4c388 ∷ 37 ∷ 0x258bf258bf258bcf ∷ 38 ∷ 1 ∷ 39 ∷ 5 ∷ 54 ∷ 0 ∷ [])

abbrev row_521 : Bool
row_521 = calls answered 11 (2 ∷ 5 ∷ 2 ∷ 0 ∷ 0 ∷ []) (54 ∷ 3 ∷ 55 ∷ 5 ∷ 56 ∷ 4 ∷ 57 ∷ 1 ∷ []) 0x107 ([]) ([])

abbrev row_522 : Bool
row_522 = calls answered 11 (0xa ∷ 5 ∷ 2 ∷ 0 ∷ 0 ∷ []) (54 ∷ 3 ∷ 55 ∷ 5 ∷ 56 ∷ 4 ∷ 57 ∷ 1 ∷ []) 0x107 ([]) ([])

abbrev row_523 : Bool
row_523 = calls answered 11 (0xffffffffffffffff ∷ 5 ∷ 2 ∷ 0 ∷ 0 ∷ []) (54 ∷ 3 ∷ 55 ∷ 5 ∷ 56 ∷ 4 ∷ 57 ∷ 1 ∷ []) 0x107 ([]) ([])

abbrev row_524 : Bool
row_524 = calls answered 11 (0 ∷ 5 ∷ 2 ∷ 0 ∷ 0 ∷ []) (54 ∷ 3 ∷ 55 ∷ 5 ∷ 56 ∷ 4 ∷ 57 ∷ 1 ∷ []) 0x107 ([]) ([])

abbrev row_525 : Bool
row_525 = calls printed 13 (5 ∷ 0 ∷ 0 ∷ 0 ∷ 0 ∷ []) (54 ∷ 4 ∷ 55 ∷ 5 ∷ 56 ∷ 4 ∷ 57 ∷ 1 ∷ []) 0x41 ([]) ([])

abbrev row_526 : Bool
row_526 = calls called 12 (0x123456789abcdef0 ∷ 0 ∷ 0 ∷ 0 ∷ 0 ∷ []) (54 ∷ 4 ∷ 55 ∷ 5 ∷ 56 ∷ 4 ∷ 57 ∷ 1 ∷ []) 0x102 ([]) ([])

abbrev row_527 : Bool
row_527 = calls started 10 (0xa ∷ 0 ∷ 0 ∷ 0 ∷ 0 ∷ []) (54 ∷ 4 ∷ 55 ∷ 5 ∷ 56 ∷ 4 ∷ 57 ∷ 1 ∷ []) 0x102 ([]) ([])

abbrev row_528 : Bool
row_528 = calls called 1 (0 ∷ 0 ∷ 0 ∷ 0 ∷ 0 ∷ []) (54 ∷ 4 ∷ 55 ∷ 5 ∷ 56 ∷ 4 ∷ 57 ∷ 1 ∷ []) 0x102 ([]) ([])

abbrev row_529 : Bool
row_529 = calls answered 11 (2 ∷ 5 ∷ 2 ∷ 0 ∷ 0 ∷ []) (54 ∷ 4 ∷ 55 ∷ 5 ∷ 56 ∷ 4 ∷ 57 ∷ 1 ∷ []) 0x0 ([]) (10 ∷ 0xffffffffffffffff ∷ 11 ∷ 0 ∷ 32 ∷ 0x258bf258bf258bd3 ∷ 54 ∷ 0 ∷ [])

abbrev row_530 : Bool
row_530 = calls answered 11 (2 ∷ 5 ∷ 2 ∷ 0 ∷ 0 ∷ []) (54 ∷ 4 ∷ 55 ∷ 5 ∷ 56 ∷ 4 ∷ 57 ∷ 1 ∷ []) 0x0 ([]) (10 ∷ 0xffffffffffffffff ∷ 11 ∷ 0 ∷ 32 ∷ 0x258bf258bf258bd3 ∷ 54 ∷ 0 ∷ [])

abbrev row_531 : Bool
row_531 = calls answered 11 (3 ∷ 5 ∷ 2 ∷ 0 ∷ 0 ∷ []) (54 ∷ 4 ∷ 55 ∷ 5 ∷ 56 ∷ 4 ∷ 57 ∷ 1 ∷ []) 0x107 ([]) ([])

abbrev row_532 : Bool
row_532 = calls answered 11 (0xa ∷ 5 ∷ 2 ∷ 0 ∷ 0 ∷ []) (54 ∷ 4 ∷ 55 ∷ 5 ∷ 56 ∷ 4 ∷ 57 ∷ 1 ∷ []) 0x107 ([]) ([])

abbrev row_533 : Bool
row_533 = calls answered 11 (0xffffffffffffffff ∷ 5 ∷ 2 ∷ 0 ∷ 0 ∷ []) (54 ∷ 4 ∷ 55 ∷ 5 ∷ 56 ∷ 4 ∷ 57 ∷ 1 ∷ []) 0x107 ([]) ([])

abbrev row_534 : Bool
row_534 = calls answered 11 (0 ∷ 5 ∷ 2 ∷ 0 ∷ 0 ∷ []) (54 ∷ 4 ∷ 55 ∷ 5 ∷ 56 ∷ 4 ∷ 57 ∷ 1 ∷ []) 0x107 ([]) ([])

abbrev row_535 : Bool
row_535 = calls printed 13 (5 ∷ 0 ∷ 0 ∷ 0 ∷ 0 ∷ []) (54 ∷ 5 ∷ 55 ∷ 5 ∷ 56 ∷ 4 ∷ 57 ∷ 1 ∷ []) 0x41 ([]) ([])

abbrev row_536 : Bool
row_536 = calls called 12 (0x123456789abcdef0 ∷ 0 ∷ 0 ∷ 0 ∷ 0 ∷ []) (54 ∷ 5 ∷ 55 ∷ 5 ∷ 56 ∷ 4 ∷ 57 ∷ 1 ∷ []) 0x102 ([]) ([])

abbrev row_537 : Bool
row_537 = calls started 10 (0xa ∷ 0 ∷ 0 ∷ 0 ∷ 0 ∷ []) (54 ∷ 5 ∷ 55 ∷ 5 ∷ 56 ∷ 4 ∷ 57 ∷ 1 ∷ []) 0x102 ([]) ([])

abbrev row_538 : Bool
row_538 = calls called 1 (0 ∷ 0 ∷ 0 ∷ 0 ∷ 0 ∷ []) (54 ∷ 5 ∷ 55 ∷ 5 ∷ 56 ∷ 4 ∷ 57 ∷ 1 ∷ []) 0x102 ([]) ([])

abbrev row_539 : Bool
row_539 = calls answered 11 (3 ∷ 5 ∷ 2 ∷ 0 ∷ 0 ∷ []) (54 ∷ 5 ∷ 55 ∷ 5 ∷ 56 ∷ 4 ∷ 57 ∷ 1 ∷ []) 0x24 (0 ∷ 5 ∷ []) (54 ∷ 6 ∷ [])

abbrev row_540 : Bool
row_540 = calls answered 11 (3 ∷ 5 ∷ 2 ∷ 0 ∷ 0 ∷ []) (54 ∷ 5 ∷ 55 ∷ 5 ∷ 56 ∷ 4 ∷ 57 ∷ 1 ∷ []) 0x24 (0 ∷ 5 ∷ []) (54 ∷ 6 ∷ [])

abbrev row_541 : Bool
row_541 = calls answered 11 (4 ∷ 5 ∷ 2 ∷ 0 ∷ 0 ∷ []) (54 ∷ 5 ∷ 55 ∷ 5 ∷ 56 ∷ 4 ∷ 57 ∷ 1 ∷ []) 0x107 ([]) ([])

abbrev row_542 : Bool
row_542 = calls answered 11 (0xa ∷ 5 ∷ 2 ∷ 0 ∷ 0 ∷ []) (54 ∷ 5 ∷ 55 ∷ 5 ∷ 56 ∷ 4 ∷ 57 ∷ 1 ∷ []) 0x107 ([]) ([])

abbrev row_543 : Bool
row_543 = calls answered 11 (0xffffffffffffffff ∷ 5 ∷ 2 ∷ 0 ∷ 0 ∷ []) (54 ∷ 5 ∷ 55 ∷ 5 ∷ 56 ∷ 4 ∷ 57 ∷ 1 ∷ []) 0x107 ([]) ([])

abbrev row_544 : Bool
row_544 = calls answered 11 (0 ∷ 5 ∷ 2 ∷ 0 ∷ 0 ∷ []) (54 ∷ 5 ∷ 55 ∷ 5 ∷ 56 ∷ 4 ∷ 57 ∷ 1 ∷ []) 0x107 ([]) ([])

abbrev row_545 : Bool
row_545 = calls printed 13 (0 ∷ 0 ∷ 0 ∷ 0 ∷ 0 ∷ []) (54 ∷ 6 ∷ 55 ∷ 5 ∷ 56 ∷ 4 ∷ 57 ∷ 1 ∷ []) 0x41 ([]) ([])

abbrev row_546 : Bool
row_546 = calls printed 13 (4 ∷ 0 ∷ 0 ∷ 0 ∷ 0 ∷ []) (54 ∷ 6 ∷ 55 ∷ 5 ∷ 56 ∷ 4 ∷ 57 ∷ 1 ∷ []) 0x41 ([]) ([])

abbrev row_547 : Bool
row_547 = calls printed 13 (5 ∷ 0 ∷ 0 ∷ 0 ∷ 0 ∷ []) (54 ∷ 6 ∷ 55 ∷ 5 ∷ 56 ∷ 4 ∷ 57 ∷ 1 ∷ []) 0x41 (0 ∷ 5 ∷ []) ([])

abbrev row_548 : Bool
row_548 = calls printed 13 (6 ∷ 0 ∷ 0 ∷ 0 ∷ 0 ∷ []) (54 ∷ 6 ∷ 55 ∷ 5 ∷ 56 ∷ 4 ∷ 57 ∷ 1 ∷ []) 0x41 (0 ∷ 5 ∷ []) ([])

abbrev row_549 : Bool
row_549 = calls printed 13 (0xffffffffffffffff ∷ 0 ∷ 0 ∷ 0 ∷ 0 ∷ []) (54 ∷ 6 ∷ 55 ∷ 5 ∷ 56 ∷ 4 ∷ 57 ∷ 1 ∷ []) 0x41 (0 ∷ 5 ∷ []) ([])

abbrev row_550 : Bool
row_550 = calls called 12 (0x123456789abcdef0 ∷ 0 ∷ 0 ∷ 0 ∷ 0 ∷ []) (54 ∷ 6 ∷ 55 ∷ 5 ∷ 56 ∷ 4 ∷ 57 ∷ 1 ∷ []) 0x102 ([]) ([])

abbrev row_551 : Bool
row_551 = calls started 10 (0xa ∷ 0 ∷ 0 ∷ 0 ∷ 0 ∷ []) (54 ∷ 6 ∷ 55 ∷ 5 ∷ 56 ∷ 4 ∷ 57 ∷ 1 ∷ []) 0x102 ([]) ([])

abbrev row_552 : Bool
row_552 = calls called 1 (0 ∷ 0 ∷ 0 ∷ 0 ∷ 0 ∷ []) (54 ∷ 6 ∷ 55 ∷ 5 ∷ 56 ∷ 4 ∷ 57 ∷ 1 ∷ []) 0x102 ([]) ([])

abbrev row_553 : Bool
row_553 = calls answered 11 (4 ∷ 5 ∷ 2 ∷ 0 ∷ 0 ∷ []) (54 ∷ 6 ∷ 55 ∷ 5 ∷ 56 ∷ 4 ∷ 57 ∷ 1 ∷ []) 0x0 ([]) (10 ∷ 5 ∷ 11 ∷ 2 ∷ 32 ∷ 0x258bf258bf258bd3 ∷ 54 ∷ 0 ∷ [])

abbrev row_554 : Bool
row_554 = calls answered 11 (4 ∷ 5 ∷ 2 ∷ 0 ∷ 0 ∷ []) (54 ∷ 6 ∷ 55 ∷ 5 ∷ 56 ∷ 4 ∷ 57 ∷ 1 ∷ []) 0x0 ([]) (10 ∷ 5 ∷ 11 ∷ 2 ∷ 32 ∷ 0x258bf258bf258bd3 ∷ 54 ∷ 0 ∷ [])

abbrev row_555 : Bool
row_555 = calls answered 11 (5 ∷ 5 ∷ 2 ∷ 0 ∷ 0 ∷ []) (54 ∷ 6 ∷ 55 ∷ 5 ∷ 56 ∷ 4 ∷ 57 ∷ 1 ∷ []) 0x107 ([]) ([])

abbrev row_556 : Bool
row_556 = calls answered 11 (0xa ∷ 5 ∷ 2 ∷ 0 ∷ 0 ∷ []) (54 ∷ 6 ∷ 55 ∷ 5 ∷ 56 ∷ 4 ∷ 57 ∷ 1 ∷ []) 0x107 ([]) ([])

abbrev row_557 : Bool
row_557 = calls answered 11 (0xffffffffffffffff ∷ 5 ∷ 2 ∷ 0 ∷ 0 ∷ []) (54 ∷ 6 ∷ 55 ∷ 5 ∷ 56 ∷ 4 ∷ 57 ∷ 1 ∷ []) 0x107 ([]) ([])

abbrev row_558 : Bool
row_558 = calls answered 11 (0 ∷ 5 ∷ 2 ∷ 0 ∷ 0 ∷ []) (54 ∷ 6 ∷ 55 ∷ 5 ∷ 56 ∷ 4 ∷ 57 ∷ 1 ∷ []) 0x107 ([]) ([])

abbrev row_559 : Bool
row_559 = calls printed 13 (5 ∷ 0 ∷ 0 ∷ 0 ∷ 0 ∷ []) (54 ∷ 7 ∷ 55 ∷ 5 ∷ 56 ∷ 4 ∷ 57 ∷ 1 ∷ []) 0x41 ([]) ([])

abbrev row_560 : Bool
row_560 = calls called 12 (0x123456789abcdef0 ∷ 0 ∷ 0 ∷ 0 ∷ 0 ∷ []) (54 ∷ 7 ∷ 55 ∷ 5 ∷ 56 ∷ 4 ∷ 57 ∷ 1 ∷ []) 0x102 ([]) ([])

abbrev row_561 : Bool
row_561 = calls started 10 (0xa ∷ 0 ∷ 0 ∷ 0 ∷ 0 ∷ []) (54 ∷ 7 ∷ 55 ∷ 5 ∷ 56 ∷ 4 ∷ 57 ∷ 1 ∷ []) 0x102 ([]) ([])

abbrev row_562 : Bool
row_562 = calls called 1 (0 ∷ 0 ∷ 0 ∷ 0 ∷ 0 ∷ []) (54 ∷ 7 ∷ 55 ∷ 5 ∷ 56 ∷ 4 ∷ 57 ∷ 1 ∷ []) 0x102 ([]) ([])

abbrev row_563 : Bool
row_563 = calls answered 11 (5 ∷ 5 ∷ 2 ∷ 0 ∷ 0 ∷ []) (54 ∷ 7 ∷ 55 ∷ 5 ∷ 56 ∷ 4 ∷ 57 ∷ 1 ∷ []) 0x0 ([]) (10 ∷ 5 ∷ 11 ∷ 2 ∷ 32 ∷ 0x258bf258bf258bd3 ∷ 54 ∷ 0 ∷ [])

abbrev row_564 : Bool
row_564 = calls answered 11 (5 ∷ 5 ∷ 2 ∷ 0 ∷ 0 ∷ []) (54 ∷ 7 ∷ 55 ∷ 5 ∷ 56 ∷ 4 ∷ 57 ∷ 1 ∷ []) 0x0 ([]) (10 ∷ 5 ∷ 11 ∷ 2 ∷ 32 ∷ 0x258bf258bf258bd3 ∷ 54 ∷ 0 ∷ [])

abbrev row_565 : Bool
row_565 = calls answered 11 (6 ∷ 5 ∷ 2 ∷ 0 ∷ 0 ∷ []) (54 ∷ 7 ∷ 55 ∷ 5 ∷ 56 ∷ 4 ∷ 57 ∷ 1 ∷ []) 0x107 ([]) ([])

abbrev row_566 : Bool
row_566 = calls answered 11 (0xa ∷ 5 ∷ 2 ∷ 0 ∷ 0 ∷ []) (54 ∷ 7 ∷ 55 ∷ 5 ∷ 56 ∷ 4 ∷ 57 ∷ 1 ∷ []) 0x107 ([]) ([])

abbrev row_567 : Bool
row_567 = calls answered 11 (0xffffffffffffffff ∷ 5 ∷ 2 ∷ 0 ∷ 0 ∷ []) (54 ∷ 7 ∷ 55 ∷ 5 ∷ 56 ∷ 4 ∷ 57 ∷ 1 ∷ []) 0x107 ([]) ([])

abbrev row_568 : Bool
row_568 = calls answered 11 (0 ∷ 5 ∷ 2 ∷ 0 ∷ 0 ∷ []) (54 ∷ 7 ∷ 55 ∷ 5 ∷ 56 ∷ 4 ∷ 57 ∷ 1 ∷ []) 0x107 ([]) ([])

abbrev row_569 : Bool
row_569 = calls printed 13 (5 ∷ 0 ∷ 0 ∷ 0 ∷ 0 ∷ []) (54 ∷ 8 ∷ 55 ∷ 5 ∷ 56 ∷ 4 ∷ 57 ∷ 1 ∷ []) 0x41 ([]) ([])

abbrev row_570 : Bool
row_570 = calls called 12 (0x123456789abcdef0 ∷ 0 ∷ 0 ∷ 0 ∷ 0 ∷ []) (54 ∷ 8 ∷ 55 ∷ 5 ∷ 56 ∷ 4 ∷ 57 ∷ 1 ∷ []) 0x102 ([]) ([])

abbrev row_571 : Bool
row_571 = calls started 10 (0xa ∷ 0 ∷ 0 ∷ 0 ∷ 0 ∷ []) (54 ∷ 8 ∷ 55 ∷ 5 ∷ 56 ∷ 4 ∷ 57 ∷ 1 ∷ []) 0x102 ([]) ([])

abbrev row_572 : Bool
row_572 = calls called 1 (0 ∷ 0 ∷ 0 ∷ 0 ∷ 0 ∷ []) (54 ∷ 8 ∷ 55 ∷ 5 ∷ 56 ∷ 4 ∷ 57 ∷ 1 ∷ []) 0x102 ([]) ([])

abbrev row_573 : Bool
row_573 = calls answered 11 (6 ∷ 5 ∷ 2 ∷ 0 ∷ 0 ∷ []) (54 ∷ 8 ∷ 55 ∷ 5 ∷ 56 ∷ 4 ∷ 57 ∷ 1 ∷ []) 0x0 ([]) (10 ∷ 0 ∷ 11 ∷ 5 ∷ 32 ∷ 0x258bf258bf258bd3 ∷ 54 ∷ 0 ∷ [])

abbrev row_574 : Bool
row_574 = calls answered 11 (6 ∷ 5 ∷ 2 ∷ 0 ∷ 0 ∷ []) (54 ∷ 8 ∷ 55 ∷ 5 ∷ 56 ∷ 4 ∷ 57 ∷ 1 ∷ []) 0x0 ([]) (10 ∷ 0 ∷ 11 ∷ 5 ∷ 32 ∷ 0x258bf258bf258bd3 ∷ 54 ∷ 0 ∷ [])

abbrev row_575 : Bool
row_575 = calls answered 11 (7 ∷ 5 ∷ 2 ∷ 0 ∷ 0 ∷ []) (54 ∷ 8 ∷ 55 ∷ 5 ∷ 56 ∷ 4 ∷ 57 ∷ 1 ∷ []) 0x107 ([]) ([])

abbrev row_576 : Bool
row_576 = calls answered 11 (0xa ∷ 5 ∷ 2 ∷ 0 ∷ 0 ∷ []) (54 ∷ 8 ∷ 55 ∷ 5 ∷ 56 ∷ 4 ∷ 57 ∷ 1 ∷ []) 0x107 ([]) ([])

abbrev row_577 : Bool
row_577 = calls answered 11 (0xffffffffffffffff ∷ 5 ∷ 2 ∷ 0 ∷ 0 ∷ []) (54 ∷ 8 ∷ 55 ∷ 5 ∷ 56 ∷ 4 ∷ 57 ∷ 1 ∷ []) 0x107 ([]) ([])

abbrev row_578 : Bool
row_578 = calls answered 11 (0 ∷ 5 ∷ 2 ∷ 0 ∷ 0 ∷ []) (54 ∷ 8 ∷ 55 ∷ 5 ∷ 56 ∷ 4 ∷ 57 ∷ 1 ∷ []) 0x107 ([]) ([])

abbrev row_579 : Bool
row_579 = calls printed 13 (5 ∷ 0 ∷ 0 ∷ 0 ∷ 0 ∷ []) (54 ∷ 9 ∷ 55 ∷ 5 ∷ 56 ∷ 4 ∷ 57 ∷ 1 ∷ []) 0x41 ([]) ([])

abbrev row_580 : Bool
row_580 = calls called 12 (0x123456789abcdef0 ∷ 0 ∷ 0 ∷ 0 ∷ 0 ∷ []) (54 ∷ 9 ∷ 55 ∷ 5 ∷ 56 ∷ 4 ∷ 57 ∷ 1 ∷ []) 0x102 ([]) ([])

abbrev row_581 : Bool
row_581 = calls started 10 (0xa ∷ 0 ∷ 0 ∷ 0 ∷ 0 ∷ []) (54 ∷ 9 ∷ 55 ∷ 5 ∷ 56 ∷ 4 ∷ 57 ∷ 1 ∷ []) 0x102 ([]) ([])

abbrev row_582 : Bool
row_582 = calls called 1 (0 ∷ 0 ∷ 0 ∷ 0 ∷ 0 ∷ []) (54 ∷ 9 ∷ 55 ∷ 5 ∷ 56 ∷ 4 ∷ 57 ∷ 1 ∷ []) 0x102 ([]) ([])

abbrev row_583 : Bool
row_583 = calls answered 11 (7 ∷ 5 ∷ 2 ∷ 0 ∷ 0 ∷ []) (54 ∷ 9 ∷ 55 ∷ 5 ∷ 56 ∷ 4 ∷ 57 ∷ 1 ∷ []) 0x0 ([]) (32 ∷ 0x258bf258bf258bd3 ∷ 54 ∷ 0 ∷ [])

abbrev row_584 : Bool
row_584 = calls answered 11 (7 ∷ 5 ∷ 2 ∷ 0 ∷ 0 ∷ []) (54 ∷ 9 ∷ 55 ∷ 5 ∷ 56 ∷ 4 ∷ 57 ∷ 1 ∷ []) 0x0 ([]) (32 ∷ 0x258bf258bf258bd3 ∷ 54 ∷ 0 ∷ [])

abbrev row_585 : Bool
row_585 = calls answered 11 (8 ∷ 5 ∷ 2 ∷ 0 ∷ 0 ∷ []) (54 ∷ 9 ∷ 55 ∷ 5 ∷ 56 ∷ 4 ∷ 57 ∷ 1 ∷ []) 0x107 ([]) ([])

abbrev row_586 : Bool
row_586 = calls answered 11 (0xa ∷ 5 ∷ 2 ∷ 0 ∷ 0 ∷ []) (54 ∷ 9 ∷ 55 ∷ 5 ∷ 56 ∷ 4 ∷ 57 ∷ 1 ∷ []) 0x107 ([]) ([])

abbrev row_587 : Bool
row_587 = calls answered 11 (0xffffffffffffffff ∷ 5 ∷ 2 ∷ 0 ∷ 0 ∷ []) (54 ∷ 9 ∷ 55 ∷ 5 ∷ 56 ∷ 4 ∷ 57 ∷ 1 ∷ []) 0x107 ([]) ([])

abbrev row_588 : Bool
row_588 = calls answered 11 (0 ∷ 5 ∷ 2 ∷ 0 ∷ 0 ∷ []) (54 ∷ 9 ∷ 55 ∷ 5 ∷ 56 ∷ 4 ∷ 57 ∷ 1 ∷ []) 0x107 ([]) ([])

abbrev row_589 : Bool
row_589 = calls printed 13 (5 ∷ 0 ∷ 0 ∷ 0 ∷ 0 ∷ []) (54 ∷ 0xa ∷ 55 ∷ 5 ∷ 56 ∷ 4 ∷ 57 ∷ 1 ∷ []) 0x41 ([]) ([])

abbrev row_590 : Bool
row_590 = calls called 12 (0x123456789abcdef0 ∷ 0 ∷ 0 ∷ 0 ∷ 0 ∷ []) (54 ∷ 0xa ∷ 55 ∷ 5 ∷ 56 ∷ 4 ∷ 57 ∷ 1 ∷ []) 0x102 ([]) ([])

abbrev row_591 : Bool
row_591 = calls started 10 (0xa ∷ 0 ∷ 0 ∷ 0 ∷ 0 ∷ []) (54 ∷ 0xa ∷ 55 ∷ 5 ∷ 56 ∷ 4 ∷ 57 ∷ 1 ∷ []) 0x102 ([]) ([])

abbrev row_592 : Bool
row_592 = calls called 1 (0 ∷ 0 ∷ 0 ∷ 0 ∷ 0 ∷ []) (54 ∷ 0xa ∷ 55 ∷ 5 ∷ 56 ∷ 4 ∷ 57 ∷ 1 ∷ []) 0x102 ([]) ([])

abbrev row_593 : Bool
row_593 = calls answered 11 (7 ∷ 5 ∷ 2 ∷ 0 ∷ 0 ∷ []) (54 ∷ 0xa ∷ 55 ∷ 5 ∷ 56 ∷ 4 ∷ 57 ∷ 1 ∷ []) 0x0 ([]) (10 ∷ 0 ∷ 11 ∷ 0 ∷ 32 ∷ 0x258bf258bf258bd3 ∷ 54 ∷ 0 ∷ [])

abbrev row_594 : Bool
row_594 = calls answered 11 (7 ∷ 5 ∷ 2 ∷ 0 ∷ 0 ∷ []) (54 ∷ 0xa ∷ 55 ∷ 5 ∷ 56 ∷ 4 ∷ 57 ∷ 1 ∷ []) 0x0 ([]) (10 ∷ 0 ∷ 11 ∷ 0 ∷ 32 ∷ 0x258bf258bf258bd3 ∷ 54 ∷ 0 ∷ [])

abbrev row_595 : Bool
row_595 = calls answered 11 (8 ∷ 5 ∷ 2 ∷ 0 ∷ 0 ∷ []) (54 ∷ 0xa ∷ 55 ∷ 5 ∷ 56 ∷ 4 ∷ 57 ∷ 1 ∷ []) 0x107 ([]) ([])

abbrev row_596 : Bool
row_596 = calls answered 11 (0xa ∷ 5 ∷ 2 ∷ 0 ∷ 0 ∷ []) (54 ∷ 0xa ∷ 55 ∷ 5 ∷ 56 ∷ 4 ∷ 57 ∷ 1 ∷ []) 0x107 ([]) ([])

abbrev row_597 : Bool
row_597 = calls answered 11 (0xffffffffffffffff ∷ 5 ∷ 2 ∷ 0 ∷ 0 ∷ []) (54 ∷ 0xa ∷ 55 ∷ 5 ∷ 56 ∷ 4 ∷ 57 ∷ 1 ∷ []) 0x107 ([]) ([])

abbrev row_598 : Bool
row_598 = calls answered 11 (0 ∷ 5 ∷ 2 ∷ 0 ∷ 0 ∷ []) (54 ∷ 0xa ∷ 55 ∷ 5 ∷ 56 ∷ 4 ∷ 57 ∷ 1 ∷ []) 0x107 ([]) ([])

abbrev row_599 : Bool
row_599 = calls printed 13 (5 ∷ 0 ∷ 0 ∷ 0 ∷ 0 ∷ []) (54 ∷ 0xb ∷ 55 ∷ 5 ∷ 56 ∷ 4 ∷ 57 ∷ 1 ∷ []) 0x41 ([]) ([])

abbrev row_600 : Bool
row_600 = calls called 12 (0x123456789abcdef0 ∷ 0 ∷ 0 ∷ 0 ∷ 0 ∷ []) (54 ∷ 0xb ∷ 55 ∷ 5 ∷ 56 ∷ 4 ∷ 57 ∷ 1 ∷ []) 0x102 ([]) ([])

abbrev row_601 : Bool
row_601 = calls started 10 (0xa ∷ 0 ∷ 0 ∷ 0 ∷ 0 ∷ []) (54 ∷ 0xb ∷ 55 ∷ 5 ∷ 56 ∷ 4 ∷ 57 ∷ 1 ∷ []) 0x102 ([]) ([])

abbrev row_602 : Bool
row_602 = calls called 1 (0 ∷ 0 ∷ 0 ∷ 0 ∷ 0 ∷ []) (54 ∷ 0xb ∷ 55 ∷ 5 ∷ 56 ∷ 4 ∷ 57 ∷ 1 ∷ []) 0x102 ([]) ([])

abbrev row_603 : Bool
row_603 = calls answered 11 (8 ∷ 5 ∷ 2 ∷ 0 ∷ 0 ∷ []) (54 ∷ 0xb ∷ 55 ∷ 5 ∷ 56 ∷ 4 ∷ 57 ∷ 1 ∷ []) 0x0 ([]) (10 ∷ 5 ∷ 32 ∷ 0x258bf258bf258bd3 ∷ 54 ∷ 0 ∷ [])

abbrev row_604 : Bool
row_604 = calls answered 11 (8 ∷ 5 ∷ 2 ∷ 0 ∷ 0 ∷ []) (54 ∷ 0xb ∷ 55 ∷ 5 ∷ 56 ∷ 4 ∷ 57 ∷ 1 ∷ []) 0x0 ([]) (10 ∷ 5 ∷ 32 ∷ 0x258bf258bf258bd3 ∷ 54 ∷ 0 ∷ [])

abbrev row_605 : Bool
row_605 = calls answered 11 (9 ∷ 5 ∷ 2 ∷ 0 ∷ 0 ∷ []) (54 ∷ 0xb ∷ 55 ∷ 5 ∷ 56 ∷ 4 ∷ 57 ∷ 1 ∷ []) 0x107 ([]) ([])

abbrev row_606 : Bool
row_606 = calls answered 11 (0xa ∷ 5 ∷ 2 ∷ 0 ∷ 0 ∷ []) (54 ∷ 0xb ∷ 55 ∷ 5 ∷ 56 ∷ 4 ∷ 57 ∷ 1 ∷ []) 0x107 ([]) ([])

abbrev row_607 : Bool
row_607 = calls answered 11 (0xffffffffffffffff ∷ 5 ∷ 2 ∷ 0 ∷ 0 ∷ []) (54 ∷ 0xb ∷ 55 ∷ 5 ∷ 56 ∷ 4 ∷ 57 ∷ 1 ∷ []) 0x107 ([]) ([])

abbrev row_608 : Bool
row_608 = calls answered 11 (0 ∷ 5 ∷ 2 ∷ 0 ∷ 0 ∷ []) (54 ∷ 0xb ∷ 55 ∷ 5 ∷ 56 ∷ 4 ∷ 57 ∷ 1 ∷ []) 0x107 ([]) ([])

abbrev row_609 : Bool
row_609 = calls printed 13 (5 ∷ 0 ∷ 0 ∷ 0 ∷ 0 ∷ []) (54 ∷ 0xc ∷ 55 ∷ 5 ∷ 56 ∷ 4 ∷ 57 ∷ 1 ∷ []) 0x41 ([]) ([])

abbrev row_610 : Bool
row_610 = calls called 12 (0x123456789abcdef0 ∷ 0 ∷ 0 ∷ 0 ∷ 0 ∷ []) (54 ∷ 0xc ∷ 55 ∷ 5 ∷ 56 ∷ 4 ∷ 57 ∷ 1 ∷ []) 0x102 ([]) ([])

abbrev row_611 : Bool
row_611 = calls started 10 (0xa ∷ 0 ∷ 0 ∷ 0 ∷ 0 ∷ []) (54 ∷ 0xc ∷ 55 ∷ 5 ∷ 56 ∷ 4 ∷ 57 ∷ 1 ∷ []) 0x102 ([]) ([])

abbrev row_612 : Bool
row_612 = calls called 1 (0 ∷ 0 ∷ 0 ∷ 0 ∷ 0 ∷ []) (54 ∷ 0xc ∷ 55 ∷ 5 ∷ 56 ∷ 4 ∷ 57 ∷ 1 ∷ []) 0x102 ([]) ([])

abbrev row_613 : Bool
row_613 = calls answered 11 (9 ∷ 5 ∷ 2 ∷ 0 ∷ 0 ∷ []) (54 ∷ 0xc ∷ 55 ∷ 5 ∷ 56 ∷ 4 ∷ 57 ∷ 1 ∷ []) 0x0 ([]) (10 ∷ 5 ∷ 11 ∷ 2 ∷ 32 ∷ 0x258bf258bf258bd3 ∷ 54 ∷ 0 ∷ [])

abbrev row_614 : Bool
row_614 = calls answered 11 (9 ∷ 5 ∷ 2 ∷ 0 ∷ 0 ∷ []) (54 ∷ 0xc ∷ 55 ∷ 5 ∷ 56 ∷ 4 ∷ 57 ∷ 1 ∷ []) 0x0 ([]) (10 ∷ 5 ∷ 11 ∷ 2 ∷ 32 ∷ 0x258bf258bf258bd3 ∷ 54 ∷ 0 ∷ [])

abbrev row_615 : Bool
row_615 = calls answered 11 (1 ∷ 5 ∷ 2 ∷ 0 ∷ 0 ∷ []) (54 ∷ 0xc ∷ 55 ∷ 5 ∷ 56 ∷ 4 ∷ 57 ∷ 1 ∷ []) 0x107 ([]) ([])

abbrev row_616 : Bool
row_616 = calls answered 11 (0xa ∷ 5 ∷ 2 ∷ 0 ∷ 0 ∷ []) (54 ∷ 0xc ∷ 55 ∷ 5 ∷ 56 ∷ 4 ∷ 57 ∷ 1 ∷ []) 0x107 ([]) ([])

abbrev row_617 : Bool
row_617 = calls answered 11 (0xffffffffffffffff ∷ 5 ∷ 2 ∷ 0 ∷ 0 ∷ []) (54 ∷ 0xc ∷ 55 ∷ 5 ∷ 56 ∷ 4 ∷ 57 ∷ 1 ∷ []) 0x107 ([]) ([])

abbrev row_618 : Bool
row_618 = calls answered 11 (0 ∷ 5 ∷ 2 ∷ 0 ∷ 0 ∷ []) (54 ∷ 0xc ∷ 55 ∷ 5 ∷ 56 ∷ 4 ∷ 57 ∷ 1 ∷ []) 0x107 ([]) ([])

abbrev row_619 : Bool
row_619 = calls printed 13 (5 ∷ 0 ∷ 0 ∷ 0 ∷ 0 ∷ []) (54 ∷ 0xd ∷ 55 ∷ 5 ∷ 56 ∷ 4 ∷ 57 ∷ 1 ∷ []) 0x41 ([]) ([])

abbrev row_620 : Bool
row_620 = calls called 12 (0x123456789abcdef0 ∷ 0 ∷ 0 ∷ 0 ∷ 0 ∷ []) (54 ∷ 0xd ∷ 55 ∷ 5 ∷ 56 ∷ 4 ∷ 57 ∷ 1 ∷ []) 0x102 ([]) ([])

abbrev row_621 : Bool
row_621 = calls started 10 (0xa ∷ 0 ∷ 0 ∷ 0 ∷ 0 ∷ []) (54 ∷ 0xd ∷ 55 ∷ 5 ∷ 56 ∷ 4 ∷ 57 ∷ 1 ∷ []) 0x29 (0 ∷ 0x147ae147ae147ace ∷ 1 ∷ 0x13579be02468acdf ∷ 2 ∷ 0xc83fb72ea61d945 ∷ 3 ∷ 0xda740da740da734 ∷ 4 ∷ 0xeca8641fdb97523 ∷ 5 ∷ 0xfedcba987654312 ∷ 6 ∷ 0x1111111111111101 ∷ 7 ∷ 0x123456789abcdef0 ∷ []) (54 ∷ 0xc ∷ [])

abbrev row_622 : Bool
row_622 = calls called 1 (0 ∷ 0 ∷ 0 ∷ 0 ∷ 0 ∷ []) (54 ∷ 0xd ∷ 55 ∷ 5 ∷ 56 ∷ 4 ∷ 57 ∷ 1 ∷ []) 0x40 ([]) (33 ∷ 0x2100 ∷ 34 ∷ 0x200000180 ∷ 40 ∷ 0xffffffffffffffff ∷ 41 ∷ 0x444 ∷ 42 ∷ 0 ∷ 43 ∷ 0 ∷ [])

abbrev row_623 : Bool
row_623 = calls answered 11 (0 ∷ 5 ∷ 2 ∷ 0 ∷ 0 ∷ []) (54 ∷ 0xd ∷ 55 ∷ 5 ∷ 56 ∷ 4 ∷ 57 ∷ 1 ∷ []) 0x107 ([]) ([])

abbrev row_624 : Bool
row_624 = calls answered 11 (9 ∷ 5 ∷ 2 ∷ 0 ∷ 0 ∷ []) (54 ∷ 0xd ∷ 55 ∷ 5 ∷ 56 ∷ 4 ∷ 57 ∷ 1 ∷ []) 0x107 ([]) ([])

abbrev row_625 : Bool
row_625 = calls answered 11 (1 ∷ 5 ∷ 2 ∷ 0 ∷ 0 ∷ []) (54 ∷ 0xd ∷ 55 ∷ 5 ∷ 56 ∷ 4 ∷ 57 ∷ 1 ∷ []) 0x107 ([]) ([])

abbrev row_626 : Bool
row_626 = calls answered 11 (0xa ∷ 5 ∷ 2 ∷ 0 ∷ 0 ∷ []) (54 ∷ 0xd ∷ 55 ∷ 5 ∷ 56 ∷ 4 ∷ 57 ∷ 1 ∷ []) 0x107 ([]) ([])

abbrev row_627 : Bool
row_627 = calls answered 11 (0xffffffffffffffff ∷ 5 ∷ 2 ∷ 0 ∷ 0 ∷ []) (54 ∷ 0xd ∷ 55 ∷ 5 ∷ 56 ∷ 4 ∷ 57 ∷ 1 ∷ []) 0x107 ([]) ([])

abbrev row_628 : Bool
row_628 = calls answered 11 (1 ∷ 0x100001001 ∷ 0 ∷ 0 ∷ 0 ∷ []) (54 ∷ 2 ∷ []) 0x103 ([]) (46 ∷ 0x3579be02468acee2 ∷ 54 ∷ 0 ∷ [])

abbrev row_629 : Bool
row_629 = calls answered 11 (1 ∷ 0x100001001 ∷ 0 ∷ 0 ∷ 0 ∷ []) (54 ∷ 3 ∷ 55 ∷ 0x10000003 ∷ 56 ∷ 1 ∷ []) 0x8 (0 ∷ 0x10000003 ∷ 1 ∷ 1 ∷ []) (54 ∷ 0 ∷ [])

abbrev row_630 : Bool
row_630 = calls answered 11 (1 ∷ 0x100001001 ∷ 1 ∷ 0 ∷ 0 ∷ []) (54 ∷ 2 ∷ []) 0x0 ([]) (32 ∷ 0x2a1907f6e5d4c388 ∷ 37 ∷ 0x258bf258bf258bcf ∷ 38 ∷ 0xc ∷ 39 ∷ 0x100001001 ∷ 54 ∷ 0 ∷ [])

abbrev row_631 : Bool
row_631 = calls answered 11 (1 ∷ 0x100001001 ∷ 1 ∷ 0 ∷ 0 ∷ []) (54 ∷ 3 ∷ 55 ∷ 0x10000003 ∷ 56 ∷ 1 ∷ []) 0x0 ([]) (32 ∷ 0x2a1907f6e5d4c388 ∷ 37 ∷ 0x258bf258bf258bcf ∷ 38 ∷ 0xc ∷ 39 ∷ 0x100001001 ∷ 54 ∷ 0 ∷ [])

abbrev row_632 : Bool
row_632 = calls answered 11 (1 ∷ 0x100001001 ∷ 2 ∷ 0 ∷ 0 ∷ []) (54 ∷ 2 ∷ []) 0x0 ([]) (32 ∷ 0x2a1907f6e5d4c388 ∷ 37 ∷ 0x258bf258bf258bcf ∷ 38 ∷ 1 ∷ 39 ∷ 0x100001001 ∷ 54 ∷ 0 ∷ [])

abbrev row_633 : Bool
row_633 = calls answered 11 (1 ∷ 0x100001001 ∷ 2 ∷ 0 ∷ 0 ∷ []) (54 ∷ 3 ∷ 55 ∷ 0x10000003 ∷ 56 ∷ 1 ∷ []) 0x0 ([]) (32 ∷ 0x2a1907f6e5d4c388 ∷ 37 ∷ 0x258bf258bf258bcf ∷ 38 ∷ 1 ∷ 39 ∷ 0x100001001 ∷ 54 ∷ 0 ∷ [])

abbrev row_634 : Bool
row_634 = calls answered 11 (1 ∷ 0x100001001 ∷ 3 ∷ 0 ∷ 0 ∷ []) (54 ∷ 2 ∷ []) 0x0 ([]) (32 ∷ 0x2a1907f6e5d4c388 ∷ 37 ∷ 0x258bf258bf258bcf ∷ 38 ∷ 0 ∷ 39 ∷ 0x100001001 ∷ 54 ∷ 0 ∷ [])

abbrev row_635 : Bool
row_635 = calls answered 11 (1 ∷ 0x100001001 ∷ 3 ∷ 0 ∷ 0 ∷ []) (54 ∷ 3 ∷ 55 ∷ 0x10000003 ∷ 56 ∷ 1 ∷ []) 0x0 ([]) (32 ∷ 0x2a1907f6e5d4c388 ∷ 37 ∷ 0x258bf258bf258bcf ∷ 38 ∷ 0 ∷ 39 ∷ 0x100001001 ∷ 54 ∷ 0 ∷ [])

abbrev row_636 : Bool
row_636 = calls answered 11 (1 ∷ 0x100001001 ∷ 4 ∷ 0 ∷ 0 ∷ []) (54 ∷ 2 ∷ []) 0x8 (0 ∷ 0x100001001 ∷ 1 ∷ 4 ∷ []) (54 ∷ 0 ∷ [])

abbrev row_637 : Bool
row_637 = calls answered 11 (1 ∷ 0x100001001 ∷ 4 ∷ 0 ∷ 0 ∷ []) (54 ∷ 3 ∷ 55 ∷ 0x10000003 ∷ 56 ∷ 1 ∷ []) 0x8 (0 ∷ 0x100001001 ∷ 1 ∷ 4 ∷ []) (54 ∷ 0 ∷ [])

abbrev row_638 : Bool
row_638 = calls answered 11 (1 ∷ 0x100001001 ∷ 5 ∷ 0 ∷ 0 ∷ []) (54 ∷ 2 ∷ []) 0x106 ([]) (54 ∷ 0 ∷ [])

abbrev row_639 : Bool
row_639 = calls answered 11 (1 ∷ 0x100001001 ∷ 5 ∷ 0 ∷ 0 ∷ []) (54 ∷ 3 ∷ 55 ∷ 0x10000003 ∷ 56 ∷ 1 ∷ []) 0x106 ([]) (54 ∷ 0 ∷ [])

abbrev row_640 : Bool
row_640 = calls answered 11 (1 ∷ 0x100001001 ∷ 6 ∷ 0 ∷ 0 ∷ []) (54 ∷ 2 ∷ []) 0x106 ([]) (54 ∷ 0 ∷ [])

abbrev row_641 : Bool
row_641 = calls answered 11 (1 ∷ 0x100001001 ∷ 6 ∷ 0 ∷ 0 ∷ []) (54 ∷ 3 ∷ 55 ∷ 0x10000003 ∷ 56 ∷ 1 ∷ []) 0x106 ([]) (54 ∷ 0 ∷ [])

abbrev row_642 : Bool
row_642 = calls answered 11 (1 ∷ 0x1000 ∷ 1 ∷ 0 ∷ 0 ∷ []) (34 ∷ 0 ∷ 35 ∷ 0 ∷ 36 ∷ 0x80200003 ∷ 54 ∷ 2 ∷ []) 0x0 ([]) (32 ∷ 0x80200000 ∷ 37 ∷ 0x258bf258bf258bcf ∷ 38 ∷ 0xc ∷ 39 ∷ 0x1000 ∷ 54 ∷ 0 ∷ [])

abbrev row_643 : Bool
row_643 = calls answered 11 (1 ∷ 0x1000 ∷ 1 ∷ 0 ∷ 0 ∷ []) (34 ∷ 0x100 ∷ 35 ∷ 0 ∷ 36 ∷ 0x80200003 ∷ 54 ∷ 2 ∷ []) 0x0 ([]) (32 ∷ 0x80200000 ∷ 35 ∷ 0x100 ∷ 37 ∷ 0x258bf258bf258bcf ∷ 38 ∷ 0xc ∷ 39 ∷ 0x1000 ∷ 54 ∷ 0 ∷ [])

abbrev row_644 : Bool
row_644 = calls answered 11 (1 ∷ 0x1000 ∷ 1 ∷ 0 ∷ 0 ∷ []) (34 ∷ 0 ∷ 35 ∷ 2 ∷ 36 ∷ 0x80200003 ∷ 54 ∷ 2 ∷ []) 0x0 ([]) (32 ∷ 0x80200000 ∷ 35 ∷ 0x20 ∷ 37 ∷ 0x258bf258bf258bcf ∷ 38 ∷ 0xc ∷ 39 ∷ 0x1000 ∷ 54 ∷ 0 ∷ [])

abbrev row_645 : Bool
row_645 = calls answered 11 (1 ∷ 0x1000 ∷ 1 ∷ 0 ∷ 0 ∷ []) (34 ∷ 0x100 ∷ 35 ∷ 0xffffffffffffffff ∷ 36 ∷ 0x80200003 ∷ 54 ∷ 2 ∷ []) 0x0 ([]) (32 ∷ 0x80200000 ∷ 35 ∷ 0xfffffffffffffffd ∷ 37 ∷ 0x258bf258bf258bcf ∷ 38 ∷ 0xc ∷ 39 ∷ 0x1000 ∷ 54 ∷ 0 ∷ [])

abbrev row_646 : Bool
row_646 = calls answered 11 (1 ∷ 0x1000 ∷ 1 ∷ 0 ∷ 0 ∷ []) (34 ∷ 0xfffffffffffffeff ∷ 35 ∷ 0xffffffffffffffff ∷ 36 ∷ 0x80200003 ∷ 54 ∷ 2 ∷ []) 0x0 ([]) (32 ∷ 0x80200000 ∷ 35 ∷ 0xfffffffffffffefd ∷ 37 ∷ 0x258bf258bf258bcf ∷ 38 ∷ 0xc ∷ 39 ∷ 0x1000 ∷ 54 ∷ 0 ∷ [])

abbrev row_647 : Bool
row_647 = calls answered 11 (1 ∷ 0x1000 ∷ 1 ∷ 0 ∷ 0 ∷ []) (34 ∷ 0xffffffffffffffff ∷ 35 ∷ 0xfffffffffffffffd ∷ 36 ∷ 0x80200003 ∷ 54 ∷ 2 ∷ []) 0x0 ([]) (32 ∷ 0x80200000 ∷ 35 ∷ 0xffffffffffffffdd ∷ 37 ∷ 0x258bf258bf258bcf ∷ 38 ∷ 0xc ∷ 39 ∷ 0x1000 ∷ 54 ∷ 0 ∷ [])

abbrev row_648 : Bool
row_648 = calls answered 11 (2 ∷ 7 ∷ 0x55 ∷ 0 ∷ 0 ∷ []) (54 ∷ 4 ∷ []) 0x0 ([]) (10 ∷ 0xffffffffffffffff ∷ 11 ∷ 0 ∷ 32 ∷ 0x258bf258bf258bd3 ∷ 54 ∷ 0 ∷ [])

abbrev row_649 : Bool
row_649 = calls answered 11 (2 ∷ 8 ∷ 0x55 ∷ 0 ∷ 0 ∷ []) (54 ∷ 4 ∷ []) 0x2 (0 ∷ 0x55 ∷ []) (32 ∷ 0x258bf258bf258bd3 ∷ 54 ∷ 0 ∷ [])

abbrev row_650 : Bool
row_650 = calls answered 11 (2 ∷ 9 ∷ 0x55 ∷ 0 ∷ 0 ∷ []) (54 ∷ 4 ∷ []) 0x0 ([]) (10 ∷ 0xffffffffffffffff ∷ 11 ∷ 0 ∷ 32 ∷ 0x258bf258bf258bd3 ∷ 54 ∷ 0 ∷ [])

abbrev row_651 : Bool
row_651 = calls answered 11 (3 ∷ 4 ∷ 3 ∷ 0 ∷ 0 ∷ []) (54 ∷ 5 ∷ 55 ∷ 5 ∷ []) 0x0 ([]) (10 ∷ 0xffffffffffffffff ∷ 11 ∷ 0 ∷ 32 ∷ 0x258bf258bf258bd3 ∷ 54 ∷ 0 ∷ [])

abbrev row_652 : Bool
row_652 = calls answered 11 (3 ∷ 5 ∷ 3 ∷ 0 ∷ 0 ∷ []) (54 ∷ 5 ∷ 55 ∷ 5 ∷ []) 0x24 (0 ∷ 5 ∷ []) (54 ∷ 6 ∷ [])

abbrev row_653 : Bool
row_653 = calls answered 11 (3 ∷ 6 ∷ 3 ∷ 0 ∷ 0 ∷ []) (54 ∷ 5 ∷ 55 ∷ 5 ∷ []) 0x0 ([]) (10 ∷ 0xffffffffffffffff ∷ 11 ∷ 0 ∷ 32 ∷ 0x258bf258bf258bd3 ∷ 54 ∷ 0 ∷ [])

abbrev row_654 : Bool
row_654 = calls answered 11 (6 ∷ 4 ∷ 3 ∷ 0 ∷ 0 ∷ []) (54 ∷ 8 ∷ 55 ∷ 5 ∷ []) 0x0 ([]) (10 ∷ 0xffffffffffffffff ∷ 11 ∷ 0 ∷ 32 ∷ 0x258bf258bf258bd3 ∷ 54 ∷ 0 ∷ [])

abbrev row_655 : Bool
row_655 = calls answered 11 (6 ∷ 5 ∷ 3 ∷ 0 ∷ 0 ∷ []) (54 ∷ 8 ∷ 55 ∷ 5 ∷ []) 0x0 ([]) (10 ∷ 0 ∷ 11 ∷ 5 ∷ 32 ∷ 0x258bf258bf258bd3 ∷ 54 ∷ 0 ∷ [])

abbrev row_656 : Bool
row_656 = calls answered 11 (6 ∷ 6 ∷ 3 ∷ 0 ∷ 0 ∷ []) (54 ∷ 8 ∷ 55 ∷ 5 ∷ []) 0x0 ([]) (10 ∷ 0xffffffffffffffff ∷ 11 ∷ 0 ∷ 32 ∷ 0x258bf258bf258bd3 ∷ 54 ∷ 0 ∷ [])

abbrev row_657 : Bool
row_657 = calls answered 11 (5 ∷ 0 ∷ 0 ∷ 0 ∷ 0 ∷ []) (54 ∷ 7 ∷ 55 ∷ 5 ∷ 56 ∷ 0x9000 ∷ []) 0x0 ([]) (10 ∷ 0 ∷ 11 ∷ 0 ∷ 32 ∷ 0x258bf258bf258bd3 ∷ 54 ∷ 0 ∷ [])

abbrev row_658 : Bool
row_658 = calls answered 11 (5 ∷ 0 ∷ 1 ∷ 0 ∷ 0 ∷ []) (54 ∷ 7 ∷ 55 ∷ 5 ∷ 56 ∷ 0x9000 ∷ []) 0x26 (0 ∷ 0x9000 ∷ 1 ∷ 1 ∷ []) (54 ∷ 8 ∷ 55 ∷ 1 ∷ [])

abbrev row_659 : Bool
row_659 = calls answered 11 (5 ∷ 0 ∷ 4 ∷ 0 ∷ 0 ∷ []) (54 ∷ 7 ∷ 55 ∷ 5 ∷ 56 ∷ 0x9000 ∷ []) 0x26 (0 ∷ 0x9000 ∷ 1 ∷ 4 ∷ []) (54 ∷ 8 ∷ 55 ∷ 4 ∷ [])

abbrev row_660 : Bool
row_660 = calls answered 11 (5 ∷ 0 ∷ 5 ∷ 0 ∷ 0 ∷ []) (54 ∷ 7 ∷ 55 ∷ 5 ∷ 56 ∷ 0x9000 ∷ []) 0x26 (0 ∷ 0x9000 ∷ 1 ∷ 5 ∷ []) (54 ∷ 8 ∷ [])

abbrev row_661 : Bool
row_661 = calls answered 11 (5 ∷ 0 ∷ 6 ∷ 0 ∷ 0 ∷ []) (54 ∷ 7 ∷ 55 ∷ 5 ∷ 56 ∷ 0x9000 ∷ []) 0x0 ([]) (10 ∷ 0 ∷ 11 ∷ 6 ∷ 32 ∷ 0x258bf258bf258bd3 ∷ 54 ∷ 0 ∷ [])

abbrev row_662 : Bool
row_662 = calls answered 11 (5 ∷ 1 ∷ 3 ∷ 0 ∷ 0 ∷ []) (54 ∷ 7 ∷ 55 ∷ 5 ∷ 56 ∷ 0x9000 ∷ []) 0x0 ([]) (10 ∷ 1 ∷ 11 ∷ 3 ∷ 32 ∷ 0x258bf258bf258bd3 ∷ 54 ∷ 0 ∷ [])

abbrev row_663 : Bool
row_663 = calls answered 11 (5 ∷ 3 ∷ 0 ∷ 0 ∷ 0 ∷ []) (54 ∷ 7 ∷ 55 ∷ 5 ∷ 56 ∷ 0x9000 ∷ []) 0x0 ([]) (10 ∷ 3 ∷ 11 ∷ 0 ∷ 32 ∷ 0x258bf258bf258bd3 ∷ 54 ∷ 0 ∷ [])

abbrev row_664 : Bool
row_664 = calls called 12 (0x123456789abcdef0 ∷ 0 ∷ 0 ∷ 0 ∷ 0 ∷ []) (54 ∷ 1 ∷ 55 ∷ 7 ∷ 56 ∷ 1 ∷ 57 ∷ 1 ∷ []) 0x40 ([]) (7 ∷ 0xfffffffffffffff0 ∷ 54 ∷ 0 ∷ [])

abbrev row_665 : Bool
row_665 = calls called 12 (0x123456776543210 ∷ 0 ∷ 0 ∷ 0 ∷ 0 ∷ []) (54 ∷ 1 ∷ 55 ∷ 7 ∷ 56 ∷ 1 ∷ 57 ∷ 1 ∷ []) 0x40 ([]) (7 ∷ 0x10 ∷ 54 ∷ 0 ∷ [])

abbrev row_666 : Bool
row_666 = calls called 12 (0x123456789abcdef0 ∷ 0 ∷ 0 ∷ 0 ∷ 0 ∷ []) (54 ∷ 1 ∷ 55 ∷ 7 ∷ 56 ∷ 1 ∷ 57 ∷ 0 ∷ []) 0x40 ([]) (7 ∷ 0xf0 ∷ 54 ∷ 0 ∷ [])

abbrev row_667 : Bool
row_667 = calls called 12 (0x123456776543210 ∷ 0 ∷ 0 ∷ 0 ∷ 0 ∷ []) (54 ∷ 1 ∷ 55 ∷ 7 ∷ 56 ∷ 1 ∷ 57 ∷ 0 ∷ []) 0x40 ([]) (7 ∷ 0x10 ∷ 54 ∷ 0 ∷ [])

abbrev row_668 : Bool
row_668 = calls called 12 (0x123456789abcdef0 ∷ 0 ∷ 0 ∷ 0 ∷ 0 ∷ []) (54 ∷ 1 ∷ 55 ∷ 7 ∷ 56 ∷ 2 ∷ 57 ∷ 1 ∷ []) 0x40 ([]) (7 ∷ 0xffffffffffffdef0 ∷ 54 ∷ 0 ∷ [])

abbrev row_669 : Bool
row_669 = calls called 12 (0x123456776543210 ∷ 0 ∷ 0 ∷ 0 ∷ 0 ∷ []) (54 ∷ 1 ∷ 55 ∷ 7 ∷ 56 ∷ 2 ∷ 57 ∷ 1 ∷ []) 0x40 ([]) (7 ∷ 0x3210 ∷ 54 ∷ 0 ∷ [])

abbrev row_670 : Bool
row_670 = calls called 12 (0x123456789abcdef0 ∷ 0 ∷ 0 ∷ 0 ∷ 0 ∷ []) (54 ∷ 1 ∷ 55 ∷ 7 ∷ 56 ∷ 2 ∷ 57 ∷ 0 ∷ []) 0x40 ([]) (7 ∷ 0xdef0 ∷ 54 ∷ 0 ∷ [])

abbrev row_671 : Bool
row_671 = calls called 12 (0x123456776543210 ∷ 0 ∷ 0 ∷ 0 ∷ 0 ∷ []) (54 ∷ 1 ∷ 55 ∷ 7 ∷ 56 ∷ 2 ∷ 57 ∷ 0 ∷ []) 0x40 ([]) (7 ∷ 0x3210 ∷ 54 ∷ 0 ∷ [])

abbrev row_672 : Bool
row_672 = calls called 12 (0x123456789abcdef0 ∷ 0 ∷ 0 ∷ 0 ∷ 0 ∷ []) (54 ∷ 1 ∷ 55 ∷ 7 ∷ 56 ∷ 4 ∷ 57 ∷ 1 ∷ []) 0x40 ([]) (7 ∷ 0xffffffff9abcdef0 ∷ 54 ∷ 0 ∷ [])

abbrev row_673 : Bool
row_673 = calls called 12 (0x123456776543210 ∷ 0 ∷ 0 ∷ 0 ∷ 0 ∷ []) (54 ∷ 1 ∷ 55 ∷ 7 ∷ 56 ∷ 4 ∷ 57 ∷ 1 ∷ []) 0x40 ([]) (7 ∷ 0x76543210 ∷ 54 ∷ 0 ∷ [])

abbrev row_674 : Bool
row_674 = calls called 12 (0x123456789abcdef0 ∷ 0 ∷ 0 ∷ 0 ∷ 0 ∷ []) (54 ∷ 1 ∷ 55 ∷ 7 ∷ 56 ∷ 4 ∷ 57 ∷ 0 ∷ []) 0x40 ([]) (7 ∷ 0x9abcdef0 ∷ 54 ∷ 0 ∷ [])

abbrev row_675 : Bool
row_675 = calls called 12 (0x123456776543210 ∷ 0 ∷ 0 ∷ 0 ∷ 0 ∷ []) (54 ∷ 1 ∷ 55 ∷ 7 ∷ 56 ∷ 4 ∷ 57 ∷ 0 ∷ []) 0x40 ([]) (7 ∷ 0x76543210 ∷ 54 ∷ 0 ∷ [])

abbrev row_676 : Bool
row_676 = calls called 12 (0x123456789abcdef0 ∷ 0 ∷ 0 ∷ 0 ∷ 0 ∷ []) (54 ∷ 1 ∷ 55 ∷ 7 ∷ 56 ∷ 8 ∷ 57 ∷ 1 ∷ []) 0x40 ([]) (7 ∷ 0x123456789abcdef0 ∷ 54 ∷ 0 ∷ [])

abbrev row_677 : Bool
row_677 = calls called 12 (0x123456776543210 ∷ 0 ∷ 0 ∷ 0 ∷ 0 ∷ []) (54 ∷ 1 ∷ 55 ∷ 7 ∷ 56 ∷ 8 ∷ 57 ∷ 1 ∷ []) 0x40 ([]) (7 ∷ 0x123456776543210 ∷ 54 ∷ 0 ∷ [])

abbrev row_678 : Bool
row_678 = calls called 12 (0x123456789abcdef0 ∷ 0 ∷ 0 ∷ 0 ∷ 0 ∷ []) (54 ∷ 1 ∷ 55 ∷ 7 ∷ 56 ∷ 8 ∷ 57 ∷ 0 ∷ []) 0x40 ([]) (7 ∷ 0x123456789abcdef0 ∷ 54 ∷ 0 ∷ [])

abbrev row_679 : Bool
row_679 = calls called 12 (0x123456776543210 ∷ 0 ∷ 0 ∷ 0 ∷ 0 ∷ []) (54 ∷ 1 ∷ 55 ∷ 7 ∷ 56 ∷ 8 ∷ 57 ∷ 0 ∷ []) 0x40 ([]) (7 ∷ 0x123456776543210 ∷ 54 ∷ 0 ∷ [])

abbrev row_680 : Bool
row_680 = calls called 12 (0x123456789abcdef0 ∷ 0 ∷ 0 ∷ 0 ∷ 0 ∷ []) (54 ∷ 1 ∷ 55 ∷ 0 ∷ 56 ∷ 8 ∷ 57 ∷ 0 ∷ []) 0x40 ([]) (54 ∷ 0 ∷ [])

abbrev row_681 : Bool
row_681 = calls called 12 (0x123456776543210 ∷ 0 ∷ 0 ∷ 0 ∷ 0 ∷ []) (54 ∷ 1 ∷ 55 ∷ 0 ∷ 56 ∷ 8 ∷ 57 ∷ 0 ∷ []) 0x40 ([]) (54 ∷ 0 ∷ [])

abbrev row_682 : Bool
row_682 = calls called 12 (0x123456789abcdef0 ∷ 0 ∷ 0 ∷ 0 ∷ 0 ∷ []) (54 ∷ 1 ∷ 55 ∷ 0x1f ∷ 56 ∷ 8 ∷ 57 ∷ 0 ∷ []) 0x40 ([]) (31 ∷ 0x123456789abcdef0 ∷ 54 ∷ 0 ∷ [])

abbrev row_683 : Bool
row_683 = calls called 12 (0x123456776543210 ∷ 0 ∷ 0 ∷ 0 ∷ 0 ∷ []) (54 ∷ 1 ∷ 55 ∷ 0x1f ∷ 56 ∷ 8 ∷ 57 ∷ 0 ∷ []) 0x40 ([]) (31 ∷ 0x123456776543210 ∷ 54 ∷ 0 ∷ [])

abbrev row_684 : Bool
row_684 = calls called 12 (0x123456789abcdef0 ∷ 0 ∷ 0 ∷ 0 ∷ 0 ∷ []) (54 ∷ 1 ∷ 55 ∷ 0x20 ∷ 56 ∷ 8 ∷ 57 ∷ 0 ∷ []) 0x40 ([]) (54 ∷ 0 ∷ [])

abbrev row_685 : Bool
row_685 = calls called 12 (0x123456776543210 ∷ 0 ∷ 0 ∷ 0 ∷ 0 ∷ []) (54 ∷ 1 ∷ 55 ∷ 0x20 ∷ 56 ∷ 8 ∷ 57 ∷ 0 ∷ []) 0x40 ([]) (54 ∷ 0 ∷ [])

abbrev row_686 : Bool
row_686 = calls called 2 (0x80200000 ∷ 0 ∷ 0 ∷ 0 ∷ 0 ∷ []) (54 ∷ 1 ∷ 55 ∷ 5 ∷ 56 ∷ 4 ∷ 57 ∷ 1 ∷ []) 0x40 ([]) (32 ∷ 0x80200000 ∷ [])

abbrev row_687 : Bool
row_687 = calls called 3 (7 ∷ 0 ∷ 0 ∷ 0 ∷ 0 ∷ []) (54 ∷ 1 ∷ 55 ∷ 5 ∷ 56 ∷ 4 ∷ 57 ∷ 1 ∷ []) 0x41 (0 ∷ 0x91a2b3c4d5e6f78 ∷ []) ([])

abbrev row_688 : Bool
row_688 = calls called 4 (7 ∷ 7 ∷ 0 ∷ 0 ∷ 0 ∷ []) (54 ∷ 1 ∷ 55 ∷ 5 ∷ 56 ∷ 4 ∷ 57 ∷ 1 ∷ []) 0x40 ([]) (7 ∷ 7 ∷ [])

abbrev row_689 : Bool
row_689 = calls called 3 (0x28 ∷ 0 ∷ 0 ∷ 0 ∷ 0 ∷ []) (54 ∷ 1 ∷ 55 ∷ 5 ∷ 56 ∷ 4 ∷ 57 ∷ 1 ∷ []) 0x101 ([]) ([])

abbrev row_690 : Bool
row_690 = calls called 4 (0x28 ∷ 7 ∷ 0 ∷ 0 ∷ 0 ∷ []) (54 ∷ 1 ∷ 55 ∷ 5 ∷ 56 ∷ 4 ∷ 57 ∷ 1 ∷ []) 0x101 ([]) ([])

abbrev row_691 : Bool
row_691 = calls called 5 (9 ∷ 0 ∷ 0 ∷ 0 ∷ 0 ∷ []) (54 ∷ 1 ∷ 55 ∷ 5 ∷ 56 ∷ 4 ∷ 57 ∷ 1 ∷ []) 0x40 ([]) (10 ∷ 9 ∷ [])

abbrev row_692 : Bool
row_692 = calls called 6 (3 ∷ 8 ∷ 0x80004000 ∷ 0 ∷ 0 ∷ []) (54 ∷ 1 ∷ 55 ∷ 5 ∷ 56 ∷ 4 ∷ 57 ∷ 1 ∷ []) 0x40 ([]) (44 ∷ 0x8000000000080004 ∷ [])

abbrev row_693 : Bool
row_693 = calls called 6 (2 ∷ 8 ∷ 0x80004000 ∷ 0 ∷ 0 ∷ []) (54 ∷ 1 ∷ 55 ∷ 5 ∷ 56 ∷ 4 ∷ 57 ∷ 1 ∷ []) 0x101 ([]) ([])

abbrev row_694 : Bool
row_694 = calls called 7 (0x8000000000000001 ∷ 1 ∷ 0 ∷ 0 ∷ 0 ∷ []) (54 ∷ 1 ∷ 55 ∷ 5 ∷ 56 ∷ 4 ∷ 57 ∷ 1 ∷ []) 0x40 ([]) ([])

abbrev row_695 : Bool
row_695 = calls called 7 (3 ∷ 1 ∷ 0 ∷ 0 ∷ 0 ∷ []) (54 ∷ 1 ∷ 55 ∷ 5 ∷ 56 ∷ 4 ∷ 57 ∷ 1 ∷ []) 0x101 ([]) ([])

abbrev row_696 : Bool
row_696 = calls called 8 (0x404 ∷ 0 ∷ 0 ∷ 0 ∷ 0 ∷ []) (54 ∷ 1 ∷ 55 ∷ 5 ∷ 56 ∷ 4 ∷ 57 ∷ 1 ∷ []) 0x40 ([]) ([])

abbrev row_697 : Bool
row_697 = calls called 9 (0 ∷ 0xfffffffffffffffd ∷ 0 ∷ 0 ∷ 0 ∷ []) (54 ∷ 1 ∷ 55 ∷ 5 ∷ 56 ∷ 4 ∷ 57 ∷ 1 ∷ []) 0x40 ([]) (10 ∷ 0xfffffffffffffffd ∷ [])

abbrev row_698 : Bool
row_698 = calls called 9 (1 ∷ 0xfffffffffffffffd ∷ 0 ∷ 0 ∷ 0 ∷ []) (54 ∷ 1 ∷ 55 ∷ 5 ∷ 56 ∷ 4 ∷ 57 ∷ 1 ∷ []) 0x40 ([]) (10 ∷ 0xfffffffffffffffd ∷ 11 ∷ 0 ∷ [])

abbrev row_699 : Bool
row_699 = calls called 14 (5 ∷ 6 ∷ 0 ∷ 0 ∷ 0 ∷ []) (54 ∷ 1 ∷ 55 ∷ 5 ∷ 56 ∷ 4 ∷ 57 ∷ 1 ∷ []) 0x40 ([]) (0 ∷ 0 ∷ 1 ∷ 0 ∷ 2 ∷ 0 ∷ 3 ∷ 0 ∷ 4 ∷ 0 ∷ 5 ∷ 0 ∷ 6 ∷ 0 ∷ 7 ∷ 0 ∷ 8 ∷ 0 ∷ 9 ∷ 0 ∷ 10 ∷ 5 ∷ 11 ∷ 6 ∷ 12 ∷ 0 ∷ 13 ∷ 0 ∷ 14 ∷ 0 ∷ 15 ∷ 0 ∷ 16 ∷ 0 ∷ 17 ∷ 0 ∷ 18 ∷ 0 ∷ 19 ∷ 0 ∷ 20 ∷ 0 ∷ 21 ∷ 0 ∷ 22 ∷ 0 ∷ 23 ∷ 0 ∷ 24 ∷ 0 ∷ 25 ∷ 0 ∷ 26 ∷ 0 ∷ 27 ∷ 0 ∷ 28 ∷ 0 ∷ 29 ∷ 0 ∷ 30 ∷ 0 ∷ 31 ∷ 0 ∷ 32 ∷ 0 ∷ 33 ∷ 0 ∷ 34 ∷ 0 ∷ 35 ∷ 0 ∷ 36 ∷ 0 ∷ 37 ∷ 0 ∷ 38 ∷ 0 ∷ 39 ∷ 0 ∷ 40 ∷ 0 ∷ 41 ∷ 0 ∷ 42 ∷ 0 ∷ 43 ∷ 0 ∷ 44 ∷ 0 ∷ 45 ∷ 0 ∷ 46 ∷ 0 ∷ 47 ∷ 0 ∷ 48 ∷ 0 ∷ 49 ∷ 0 ∷ 50 ∷ 0 ∷ 51 ∷ 0 ∷ 52 ∷ 0 ∷ 53 ∷ 0 ∷ 54 ∷ 0 ∷ 55 ∷ 0 ∷ 56 ∷ 0 ∷ 57 ∷ 0 ∷ [])

abbrev row_700 : Bool
row_700 = calls called 2 (0x80200000 ∷ 0 ∷ 0 ∷ 0 ∷ 0 ∷ []) (54 ∷ 5 ∷ 55 ∷ 5 ∷ 56 ∷ 4 ∷ 57 ∷ 1 ∷ []) 0x102 ([]) ([])

abbrev row_701 : Bool
row_701 = calls called 3 (7 ∷ 0 ∷ 0 ∷ 0 ∷ 0 ∷ []) (54 ∷ 5 ∷ 55 ∷ 5 ∷ 56 ∷ 4 ∷ 57 ∷ 1 ∷ []) 0x41 (0 ∷ 0x91a2b3c4d5e6f78 ∷ []) ([])

abbrev row_702 : Bool
row_702 = calls called 4 (7 ∷ 7 ∷ 0 ∷ 0 ∷ 0 ∷ []) (54 ∷ 5 ∷ 55 ∷ 5 ∷ 56 ∷ 4 ∷ 57 ∷ 1 ∷ []) 0x102 ([]) ([])

abbrev row_703 : Bool
row_703 = calls called 3 (0x28 ∷ 0 ∷ 0 ∷ 0 ∷ 0 ∷ []) (54 ∷ 5 ∷ 55 ∷ 5 ∷ 56 ∷ 4 ∷ 57 ∷ 1 ∷ []) 0x101 ([]) ([])

abbrev row_704 : Bool
row_704 = calls called 4 (0x28 ∷ 7 ∷ 0 ∷ 0 ∷ 0 ∷ []) (54 ∷ 5 ∷ 55 ∷ 5 ∷ 56 ∷ 4 ∷ 57 ∷ 1 ∷ []) 0x102 ([]) ([])

abbrev row_705 : Bool
row_705 = calls called 5 (9 ∷ 0 ∷ 0 ∷ 0 ∷ 0 ∷ []) (54 ∷ 5 ∷ 55 ∷ 5 ∷ 56 ∷ 4 ∷ 57 ∷ 1 ∷ []) 0x102 ([]) ([])

abbrev row_706 : Bool
row_706 = calls called 6 (3 ∷ 8 ∷ 0x80004000 ∷ 0 ∷ 0 ∷ []) (54 ∷ 5 ∷ 55 ∷ 5 ∷ 56 ∷ 4 ∷ 57 ∷ 1 ∷ []) 0x102 ([]) ([])

abbrev row_707 : Bool
row_707 = calls called 6 (2 ∷ 8 ∷ 0x80004000 ∷ 0 ∷ 0 ∷ []) (54 ∷ 5 ∷ 55 ∷ 5 ∷ 56 ∷ 4 ∷ 57 ∷ 1 ∷ []) 0x102 ([]) ([])

abbrev row_708 : Bool
row_708 = calls called 7 (0x8000000000000001 ∷ 1 ∷ 0 ∷ 0 ∷ 0 ∷ []) (54 ∷ 5 ∷ 55 ∷ 5 ∷ 56 ∷ 4 ∷ 57 ∷ 1 ∷ []) 0x102 ([]) ([])

abbrev row_709 : Bool
row_709 = calls called 7 (3 ∷ 1 ∷ 0 ∷ 0 ∷ 0 ∷ []) (54 ∷ 5 ∷ 55 ∷ 5 ∷ 56 ∷ 4 ∷ 57 ∷ 1 ∷ []) 0x102 ([]) ([])

abbrev row_710 : Bool
row_710 = calls called 8 (0x404 ∷ 0 ∷ 0 ∷ 0 ∷ 0 ∷ []) (54 ∷ 5 ∷ 55 ∷ 5 ∷ 56 ∷ 4 ∷ 57 ∷ 1 ∷ []) 0x102 ([]) ([])

abbrev row_711 : Bool
row_711 = calls called 9 (0 ∷ 0xfffffffffffffffd ∷ 0 ∷ 0 ∷ 0 ∷ []) (54 ∷ 5 ∷ 55 ∷ 5 ∷ 56 ∷ 4 ∷ 57 ∷ 1 ∷ []) 0x102 ([]) ([])

abbrev row_712 : Bool
row_712 = calls called 9 (1 ∷ 0xfffffffffffffffd ∷ 0 ∷ 0 ∷ 0 ∷ []) (54 ∷ 5 ∷ 55 ∷ 5 ∷ 56 ∷ 4 ∷ 57 ∷ 1 ∷ []) 0x102 ([]) ([])

abbrev row_713 : Bool
row_713 = calls called 14 (5 ∷ 6 ∷ 0 ∷ 0 ∷ 0 ∷ []) (54 ∷ 5 ∷ 55 ∷ 5 ∷ 56 ∷ 4 ∷ 57 ∷ 1 ∷ []) 0x40 ([]) (0 ∷ 0 ∷ 1 ∷ 0 ∷ 2 ∷ 0 ∷ 3 ∷ 0 ∷ 4 ∷ 0 ∷ 5 ∷ 0 ∷ 6 ∷ 0 ∷ 7 ∷ 0 ∷ 8 ∷ 0 ∷ 9 ∷ 0 ∷ 10 ∷ 5 ∷ 11 ∷ 6 ∷ 12 ∷ 0 ∷ 13 ∷ 0 ∷ 14 ∷ 0 ∷ 15 ∷ 0 ∷ 16 ∷ 0 ∷ 17 ∷ 0 ∷ 18 ∷ 0 ∷ 19 ∷ 0 ∷ 20 ∷ 0 ∷ 21 ∷ 0 ∷ 22 ∷ 0 ∷ 23 ∷ 0 ∷ 24 ∷ 0 ∷ 25 ∷ 0 ∷ 26 ∷ 0 ∷ 27 ∷ 0 ∷ 28 ∷ 0 ∷ 29 ∷ 0 ∷ 30 ∷ 0 ∷ 31 ∷ 0 ∷ 32 ∷ 0 ∷ 33 ∷ 0 ∷ 34 ∷ 0 ∷ 35 ∷ 0 ∷ 36 ∷ 0 ∷ 37 ∷ 0 ∷ 38 ∷ 0 ∷ 39 ∷ 0 ∷ 40 ∷ 0 ∷ 41 ∷ 0 ∷ 42 ∷ 0 ∷ 43 ∷ 0 ∷ 44 ∷ 0 ∷ 45 ∷ 0 ∷ 46 ∷ 0 ∷ 47 ∷ 0 ∷ 48 ∷ 0 ∷ 49 ∷ 0 ∷ 50 ∷ 0 ∷ 51 ∷ 0 ∷ 52 ∷ 0 ∷ 53 ∷ 0 ∷ 54 ∷ 0 ∷ 55 ∷ 0 ∷ 56 ∷ 0 ∷ 57 ∷ 0 ∷ [])

abbrev row_714 : Bool
row_714 = calls called 2 (0x80200000 ∷ 0 ∷ 0 ∷ 0 ∷ 0 ∷ []) (54 ∷ 0xc ∷ 55 ∷ 5 ∷ 56 ∷ 4 ∷ 57 ∷ 1 ∷ []) 0x102 ([]) ([])

abbrev row_715 : Bool
row_715 = calls called 3 (7 ∷ 0 ∷ 0 ∷ 0 ∷ 0 ∷ []) (54 ∷ 0xc ∷ 55 ∷ 5 ∷ 56 ∷ 4 ∷ 57 ∷ 1 ∷ []) 0x41 (0 ∷ 0x91a2b3c4d5e6f78 ∷ []) ([])

abbrev row_716 : Bool
row_716 = calls called 4 (7 ∷ 7 ∷ 0 ∷ 0 ∷ 0 ∷ []) (54 ∷ 0xc ∷ 55 ∷ 5 ∷ 56 ∷ 4 ∷ 57 ∷ 1 ∷ []) 0x102 ([]) ([])

abbrev row_717 : Bool
row_717 = calls called 3 (0x28 ∷ 0 ∷ 0 ∷ 0 ∷ 0 ∷ []) (54 ∷ 0xc ∷ 55 ∷ 5 ∷ 56 ∷ 4 ∷ 57 ∷ 1 ∷ []) 0x101 ([]) ([])

abbrev row_718 : Bool
row_718 = calls called 4 (0x28 ∷ 7 ∷ 0 ∷ 0 ∷ 0 ∷ []) (54 ∷ 0xc ∷ 55 ∷ 5 ∷ 56 ∷ 4 ∷ 57 ∷ 1 ∷ []) 0x102 ([]) ([])

abbrev row_719 : Bool
row_719 = calls called 5 (9 ∷ 0 ∷ 0 ∷ 0 ∷ 0 ∷ []) (54 ∷ 0xc ∷ 55 ∷ 5 ∷ 56 ∷ 4 ∷ 57 ∷ 1 ∷ []) 0x102 ([]) ([])

abbrev row_720 : Bool
row_720 = calls called 6 (3 ∷ 8 ∷ 0x80004000 ∷ 0 ∷ 0 ∷ []) (54 ∷ 0xc ∷ 55 ∷ 5 ∷ 56 ∷ 4 ∷ 57 ∷ 1 ∷ []) 0x102 ([]) ([])

abbrev row_721 : Bool
row_721 = calls called 6 (2 ∷ 8 ∷ 0x80004000 ∷ 0 ∷ 0 ∷ []) (54 ∷ 0xc ∷ 55 ∷ 5 ∷ 56 ∷ 4 ∷ 57 ∷ 1 ∷ []) 0x102 ([]) ([])

abbrev row_722 : Bool
row_722 = calls called 7 (0x8000000000000001 ∷ 1 ∷ 0 ∷ 0 ∷ 0 ∷ []) (54 ∷ 0xc ∷ 55 ∷ 5 ∷ 56 ∷ 4 ∷ 57 ∷ 1 ∷ []) 0x102 ([]) ([])

abbrev row_723 : Bool
row_723 = calls called 7 (3 ∷ 1 ∷ 0 ∷ 0 ∷ 0 ∷ []) (54 ∷ 0xc ∷ 55 ∷ 5 ∷ 56 ∷ 4 ∷ 57 ∷ 1 ∷ []) 0x102 ([]) ([])

abbrev row_724 : Bool
row_724 = calls called 8 (0x404 ∷ 0 ∷ 0 ∷ 0 ∷ 0 ∷ []) (54 ∷ 0xc ∷ 55 ∷ 5 ∷ 56 ∷ 4 ∷ 57 ∷ 1 ∷ []) 0x102 ([]) ([])

abbrev row_725 : Bool
row_725 = calls called 9 (0 ∷ 0xfffffffffffffffd ∷ 0 ∷ 0 ∷ 0 ∷ []) (54 ∷ 0xc ∷ 55 ∷ 5 ∷ 56 ∷ 4 ∷ 57 ∷ 1 ∷ []) 0x102 ([]) ([])

abbrev row_726 : Bool
row_726 = calls called 9 (1 ∷ 0xfffffffffffffffd ∷ 0 ∷ 0 ∷ 0 ∷ []) (54 ∷ 0xc ∷ 55 ∷ 5 ∷ 56 ∷ 4 ∷ 57 ∷ 1 ∷ []) 0x102 ([]) ([])

abbrev row_727 : Bool
row_727 = calls called 14 (5 ∷ 6 ∷ 0 ∷ 0 ∷ 0 ∷ []) (54 ∷ 0xc ∷ 55 ∷ 5 ∷ 56 ∷ 4 ∷ 57 ∷ 1 ∷ []) 0x40 ([]) (0 ∷ 0 ∷ 1 ∷ 0 ∷ 2 ∷ 0 ∷ 3 ∷ 0 ∷ 4 ∷ 0 ∷ 5 ∷ 0 ∷ 6 ∷ 0 ∷ 7 ∷ 0 ∷ 8 ∷ 0 ∷ 9 ∷ 0 ∷ 10 ∷ 5 ∷ 11 ∷ 6 ∷ 12 ∷ 0 ∷ 13 ∷ 0 ∷ 14 ∷ 0 ∷ 15 ∷ 0 ∷ 16 ∷ 0 ∷ 17 ∷ 0 ∷ 18 ∷ 0 ∷ 19 ∷ 0 ∷ 20 ∷ 0 ∷ 21 ∷ 0 ∷ 22 ∷ 0 ∷ 23 ∷ 0 ∷ 24 ∷ 0 ∷ 25 ∷ 0 ∷ 26 ∷ 0 ∷ 27 ∷ 0 ∷ 28 ∷ 0 ∷ 29 ∷ 0 ∷ 30 ∷ 0 ∷ 31 ∷ 0 ∷ 32 ∷ 0 ∷ 33 ∷ 0 ∷ 34 ∷ 0 ∷ 35 ∷ 0 ∷ 36 ∷ 0 ∷ 37 ∷ 0 ∷ 38 ∷ 0 ∷ 39 ∷ 0 ∷ 40 ∷ 0 ∷ 41 ∷ 0 ∷ 42 ∷ 0 ∷ 43 ∷ 0 ∷ 44 ∷ 0 ∷ 45 ∷ 0 ∷ 46 ∷ 0 ∷ 47 ∷ 0 ∷ 48 ∷ 0 ∷ 49 ∷ 0 ∷ 50 ∷ 0 ∷ 51 ∷ 0 ∷ 52 ∷ 0 ∷ 53 ∷ 0 ∷ 54 ∷ 0 ∷ 55 ∷ 0 ∷ 56 ∷ 0 ∷ 57 ∷ 0 ∷ [])

abbrev row_728 : Bool
row_728 = calls answered 11 (1 ∷ 0x4280 ∷ 0 ∷ 0 ∷ 0 ∷ []) (32 ∷ 0x80000000 ∷ 54 ∷ 3 ∷ 55 ∷ 0x10000003 ∷ 56 ∷ 1 ∷ []) 0x9 (0 ∷ 0x10000003 ∷ 1 ∷ 4 ∷ []) (32 ∷ 0x80000002 ∷ 54 ∷ 1 ∷ 55 ∷ 8 ∷ 56 ∷ 4 ∷ 57 ∷ 1 ∷ [])

abbrev row_729 : Bool
row_729 = calls answered 11 (1 ∷ 0x4284 ∷ 0 ∷ 0 ∷ 0 ∷ []) (32 ∷ 0x80000000 ∷ 54 ∷ 3 ∷ 55 ∷ 0x10000003 ∷ 56 ∷ 1 ∷ []) 0x9 (0 ∷ 0x10000003 ∷ 1 ∷ 4 ∷ []) (32 ∷ 0x80000002 ∷ 54 ∷ 1 ∷ 55 ∷ 9 ∷ 56 ∷ 4 ∷ 57 ∷ 1 ∷ [])

abbrev row_730 : Bool
row_730 = calls answered 11 (1 ∷ 0x429c ∷ 0 ∷ 0 ∷ 0 ∷ []) (32 ∷ 0x80000000 ∷ 54 ∷ 3 ∷ 55 ∷ 0x10000003 ∷ 56 ∷ 1 ∷ []) 0x9 (0 ∷ 0x10000003 ∷ 1 ∷ 4 ∷ []) (32 ∷ 0x80000002 ∷ 54 ∷ 1 ∷ 55 ∷ 0xf ∷ 56 ∷ 4 ∷ 57 ∷ 1 ∷ [])

abbrev row_731 : Bool
row_731 = calls answered 11 (1 ∷ 0x4026 ∷ 0 ∷ 0 ∷ 0 ∷ []) (32 ∷ 0x80000000 ∷ 54 ∷ 3 ∷ 55 ∷ 0x10000003 ∷ 56 ∷ 1 ∷ []) 0x8 (0 ∷ 0x10000003 ∷ 1 ∷ 1 ∷ []) (54 ∷ 0 ∷ [])

abbrev row_732 : Bool
row_732 = calls answered 11 (1 ∷ 0x4002 ∷ 0 ∷ 0 ∷ 0 ∷ []) (32 ∷ 0x80000000 ∷ 54 ∷ 3 ∷ 55 ∷ 0x10000003 ∷ 56 ∷ 1 ∷ []) 0x8 (0 ∷ 0x10000003 ∷ 1 ∷ 1 ∷ []) (54 ∷ 0 ∷ [])

abbrev row_733 : Bool
row_733 = calls answered 11 (1 ∷ 0x40a6 ∷ 0 ∷ 0 ∷ 0 ∷ []) (32 ∷ 0x80000000 ∷ 54 ∷ 3 ∷ 55 ∷ 0x10000003 ∷ 56 ∷ 1 ∷ []) 0x9 (0 ∷ 0x10000003 ∷ 1 ∷ 4 ∷ []) (32 ∷ 0x80000002 ∷ 54 ∷ 1 ∷ 55 ∷ 1 ∷ 56 ∷ 4 ∷ 57 ∷ 1 ∷ [])

abbrev row_734 : Bool
row_734 = calls answered 11 (1 ∷ 0x4082 ∷ 0 ∷ 0 ∷ 0 ∷ []) (32 ∷ 0x80000000 ∷ 54 ∷ 3 ∷ 55 ∷ 0x10000003 ∷ 56 ∷ 1 ∷ []) 0x9 (0 ∷ 0x10000003 ∷ 1 ∷ 4 ∷ []) (32 ∷ 0x80000002 ∷ 54 ∷ 1 ∷ 55 ∷ 1 ∷ 56 ∷ 4 ∷ 57 ∷ 1 ∷ [])

abbrev row_735 : Bool
row_735 = calls answered 11 (1 ∷ 0x4126 ∷ 0 ∷ 0 ∷ 0 ∷ []) (32 ∷ 0x80000000 ∷ 54 ∷ 3 ∷ 55 ∷ 0x10000003 ∷ 56 ∷ 1 ∷ []) 0x9 (0 ∷ 0x10000003 ∷ 1 ∷ 4 ∷ []) (32 ∷ 0x80000002 ∷ 54 ∷ 1 ∷ 55 ∷ 2 ∷ 56 ∷ 4 ∷ 57 ∷ 1 ∷ [])

abbrev row_736 : Bool
row_736 = calls answered 11 (1 ∷ 0x4102 ∷ 0 ∷ 0 ∷ 0 ∷ []) (32 ∷ 0x80000000 ∷ 54 ∷ 3 ∷ 55 ∷ 0x10000003 ∷ 56 ∷ 1 ∷ []) 0x9 (0 ∷ 0x10000003 ∷ 1 ∷ 4 ∷ []) (32 ∷ 0x80000002 ∷ 54 ∷ 1 ∷ 55 ∷ 2 ∷ 56 ∷ 4 ∷ 57 ∷ 1 ∷ [])

abbrev row_737 : Bool
row_737 = calls answered 11 (1 ∷ 0x4fa6 ∷ 0 ∷ 0 ∷ 0 ∷ []) (32 ∷ 0x80000000 ∷ 54 ∷ 3 ∷ 55 ∷ 0x10000003 ∷ 56 ∷ 1 ∷ []) 0x9 (0 ∷ 0x10000003 ∷ 1 ∷ 4 ∷ []) (32 ∷ 0x80000002 ∷ 54 ∷ 1 ∷ 55 ∷ 0x1f ∷ 56 ∷ 4 ∷ 57 ∷ 1 ∷ [])

abbrev row_738 : Bool
row_738 = calls answered 11 (1 ∷ 0x4f82 ∷ 0 ∷ 0 ∷ 0 ∷ []) (32 ∷ 0x80000000 ∷ 54 ∷ 3 ∷ 55 ∷ 0x10000003 ∷ 56 ∷ 1 ∷ []) 0x9 (0 ∷ 0x10000003 ∷ 1 ∷ 4 ∷ []) (32 ∷ 0x80000002 ∷ 54 ∷ 1 ∷ 55 ∷ 0x1f ∷ 56 ∷ 4 ∷ 57 ∷ 1 ∷ [])

abbrev row_739 : Bool
row_739 = calls answered 11 (1 ∷ 0x4284 ∷ 0 ∷ 0 ∷ 0 ∷ []) (32 ∷ 0x80000000 ∷ 54 ∷ 3 ∷ 55 ∷ 0x10000003 ∷ 56 ∷ 2 ∷ []) 0x8 (0 ∷ 0x10000003 ∷ 1 ∷ 2 ∷ []) (54 ∷ 0 ∷ [])

abbrev row_740 : Bool
row_740 = calls answered 11 (1 ∷ 0x449e ∷ 0 ∷ 0 ∷ 0 ∷ []) (32 ∷ 0x80000000 ∷ 54 ∷ 3 ∷ 55 ∷ 0x10000003 ∷ 56 ∷ 2 ∷ []) 0x8 (0 ∷ 0x10000003 ∷ 1 ∷ 2 ∷ []) (54 ∷ 0 ∷ [])

abbrev row_741 : Bool
row_741 = calls answered 11 (1 ∷ 0x449e ∷ 0 ∷ 0 ∷ 0 ∷ []) (32 ∷ 0x80000000 ∷ 54 ∷ 3 ∷ 55 ∷ 0x10000003 ∷ 56 ∷ 4 ∷ []) 0x8 (0 ∷ 0x10000003 ∷ 1 ∷ 4 ∷ []) (54 ∷ 0 ∷ [])

abbrev row_742 : Bool
row_742 = calls answered 11 (1 ∷ 0x449d ∷ 0 ∷ 0 ∷ 0 ∷ []) (32 ∷ 0x80000000 ∷ 54 ∷ 3 ∷ 55 ∷ 0x10000003 ∷ 56 ∷ 1 ∷ []) 0x8 (0 ∷ 0x10000003 ∷ 1 ∷ 1 ∷ []) (54 ∷ 0 ∷ [])

abbrev row_743 : Bool
row_743 = calls answered 11 (1 ∷ 0xabcdef01ffff4284 ∷ 0 ∷ 0 ∷ 0 ∷ []) (32 ∷ 0xfffffffffffffffe ∷ 54 ∷ 3 ∷ 55 ∷ 0x10000003 ∷ 56 ∷ 1 ∷ []) 0x9 (0 ∷ 0x10000003 ∷ 1 ∷ 4 ∷ []) (32 ∷ 0 ∷ 54 ∷ 1 ∷ 55 ∷ 9 ∷ 56 ∷ 4 ∷ 57 ∷ 1 ∷ [])

abbrev row_744 : Bool
row_744 = calls answered 11 (1 ∷ 0xffff449e ∷ 0 ∷ 0 ∷ 0 ∷ []) (32 ∷ 0xffffffffffffffff ∷ 54 ∷ 3 ∷ 55 ∷ 0x10000003 ∷ 56 ∷ 1 ∷ []) 0x9 (0 ∷ 0x10000003 ∷ 1 ∷ 4 ∷ []) (32 ∷ 1 ∷ 54 ∷ 1 ∷ 55 ∷ 9 ∷ 56 ∷ 4 ∷ 57 ∷ 1 ∷ [])

abbrev row_745 : Bool
row_745 = calls answered 11 (1 ∷ 0x6280 ∷ 0 ∷ 0 ∷ 0 ∷ []) (32 ∷ 0x80000000 ∷ 54 ∷ 3 ∷ 55 ∷ 0x10000003 ∷ 56 ∷ 1 ∷ []) 0x9 (0 ∷ 0x10000003 ∷ 1 ∷ 8 ∷ []) (32 ∷ 0x80000002 ∷ 54 ∷ 1 ∷ 55 ∷ 8 ∷ 56 ∷ 8 ∷ 57 ∷ 1 ∷ [])

abbrev row_746 : Bool
row_746 = calls answered 11 (1 ∷ 0x6284 ∷ 0 ∷ 0 ∷ 0 ∷ []) (32 ∷ 0x80000000 ∷ 54 ∷ 3 ∷ 55 ∷ 0x10000003 ∷ 56 ∷ 1 ∷ []) 0x9 (0 ∷ 0x10000003 ∷ 1 ∷ 8 ∷ []) (32 ∷ 0x80000002 ∷ 54 ∷ 1 ∷ 55 ∷ 9 ∷ 56 ∷ 8 ∷ 57 ∷ 1 ∷ [])

abbrev row_747 : Bool
row_747 = calls answered 11 (1 ∷ 0x629c ∷ 0 ∷ 0 ∷ 0 ∷ []) (32 ∷ 0x80000000 ∷ 54 ∷ 3 ∷ 55 ∷ 0x10000003 ∷ 56 ∷ 1 ∷ []) 0x9 (0 ∷ 0x10000003 ∷ 1 ∷ 8 ∷ []) (32 ∷ 0x80000002 ∷ 54 ∷ 1 ∷ 55 ∷ 0xf ∷ 56 ∷ 8 ∷ 57 ∷ 1 ∷ [])

abbrev row_748 : Bool
row_748 = calls answered 11 (1 ∷ 0x6026 ∷ 0 ∷ 0 ∷ 0 ∷ []) (32 ∷ 0x80000000 ∷ 54 ∷ 3 ∷ 55 ∷ 0x10000003 ∷ 56 ∷ 1 ∷ []) 0x8 (0 ∷ 0x10000003 ∷ 1 ∷ 1 ∷ []) (54 ∷ 0 ∷ [])

abbrev row_749 : Bool
row_749 = calls answered 11 (1 ∷ 0x6002 ∷ 0 ∷ 0 ∷ 0 ∷ []) (32 ∷ 0x80000000 ∷ 54 ∷ 3 ∷ 55 ∷ 0x10000003 ∷ 56 ∷ 1 ∷ []) 0x8 (0 ∷ 0x10000003 ∷ 1 ∷ 1 ∷ []) (54 ∷ 0 ∷ [])

abbrev row_750 : Bool
row_750 = calls answered 11 (1 ∷ 0x60a6 ∷ 0 ∷ 0 ∷ 0 ∷ []) (32 ∷ 0x80000000 ∷ 54 ∷ 3 ∷ 55 ∷ 0x10000003 ∷ 56 ∷ 1 ∷ []) 0x9 (0 ∷ 0x10000003 ∷ 1 ∷ 8 ∷ []) (32 ∷ 0x80000002 ∷ 54 ∷ 1 ∷ 55 ∷ 1 ∷ 56 ∷ 8 ∷ 57 ∷ 1 ∷ [])

abbrev row_751 : Bool
row_751 = calls answered 11 (1 ∷ 0x6082 ∷ 0 ∷ 0 ∷ 0 ∷ []) (32 ∷ 0x80000000 ∷ 54 ∷ 3 ∷ 55 ∷ 0x10000003 ∷ 56 ∷ 1 ∷ []) 0x9 (0 ∷ 0x10000003 ∷ 1 ∷ 8 ∷ []) (32 ∷ 0x80000002 ∷ 54 ∷ 1 ∷ 55 ∷ 1 ∷ 56 ∷ 8 ∷ 57 ∷ 1 ∷ [])

abbrev row_752 : Bool
row_752 = calls answered 11 (1 ∷ 0x6126 ∷ 0 ∷ 0 ∷ 0 ∷ []) (32 ∷ 0x80000000 ∷ 54 ∷ 3 ∷ 55 ∷ 0x10000003 ∷ 56 ∷ 1 ∷ []) 0x9 (0 ∷ 0x10000003 ∷ 1 ∷ 8 ∷ []) (32 ∷ 0x80000002 ∷ 54 ∷ 1 ∷ 55 ∷ 2 ∷ 56 ∷ 8 ∷ 57 ∷ 1 ∷ [])

abbrev row_753 : Bool
row_753 = calls answered 11 (1 ∷ 0x6102 ∷ 0 ∷ 0 ∷ 0 ∷ []) (32 ∷ 0x80000000 ∷ 54 ∷ 3 ∷ 55 ∷ 0x10000003 ∷ 56 ∷ 1 ∷ []) 0x9 (0 ∷ 0x10000003 ∷ 1 ∷ 8 ∷ []) (32 ∷ 0x80000002 ∷ 54 ∷ 1 ∷ 55 ∷ 2 ∷ 56 ∷ 8 ∷ 57 ∷ 1 ∷ [])

abbrev row_754 : Bool
row_754 = calls answered 11 (1 ∷ 0x6fa6 ∷ 0 ∷ 0 ∷ 0 ∷ []) (32 ∷ 0x80000000 ∷ 54 ∷ 3 ∷ 55 ∷ 0x10000003 ∷ 56 ∷ 1 ∷ []) 0x9 (0 ∷ 0x10000003 ∷ 1 ∷ 8 ∷ []) (32 ∷ 0x80000002 ∷ 54 ∷ 1 ∷ 55 ∷ 0x1f ∷ 56 ∷ 8 ∷ 57 ∷ 1 ∷ [])

abbrev row_755 : Bool
row_755 = calls answered 11 (1 ∷ 0x6f82 ∷ 0 ∷ 0 ∷ 0 ∷ []) (32 ∷ 0x80000000 ∷ 54 ∷ 3 ∷ 55 ∷ 0x10000003 ∷ 56 ∷ 1 ∷ []) 0x9 (0 ∷ 0x10000003 ∷ 1 ∷ 8 ∷ []) (32 ∷ 0x80000002 ∷ 54 ∷ 1 ∷ 55 ∷ 0x1f ∷ 56 ∷ 8 ∷ 57 ∷ 1 ∷ [])

abbrev row_756 : Bool
row_756 = calls answered 11 (1 ∷ 0x6284 ∷ 0 ∷ 0 ∷ 0 ∷ []) (32 ∷ 0x80000000 ∷ 54 ∷ 3 ∷ 55 ∷ 0x10000003 ∷ 56 ∷ 2 ∷ []) 0x8 (0 ∷ 0x10000003 ∷ 1 ∷ 2 ∷ []) (54 ∷ 0 ∷ [])

abbrev row_757 : Bool
row_757 = calls answered 11 (1 ∷ 0x649e ∷ 0 ∷ 0 ∷ 0 ∷ []) (32 ∷ 0x80000000 ∷ 54 ∷ 3 ∷ 55 ∷ 0x10000003 ∷ 56 ∷ 2 ∷ []) 0x8 (0 ∷ 0x10000003 ∷ 1 ∷ 2 ∷ []) (54 ∷ 0 ∷ [])

abbrev row_758 : Bool
row_758 = calls answered 11 (1 ∷ 0x649e ∷ 0 ∷ 0 ∷ 0 ∷ []) (32 ∷ 0x80000000 ∷ 54 ∷ 3 ∷ 55 ∷ 0x10000003 ∷ 56 ∷ 4 ∷ []) 0x8 (0 ∷ 0x10000003 ∷ 1 ∷ 4 ∷ []) (54 ∷ 0 ∷ [])

abbrev row_759 : Bool
row_759 = calls answered 11 (1 ∷ 0x649d ∷ 0 ∷ 0 ∷ 0 ∷ []) (32 ∷ 0x80000000 ∷ 54 ∷ 3 ∷ 55 ∷ 0x10000003 ∷ 56 ∷ 1 ∷ []) 0x8 (0 ∷ 0x10000003 ∷ 1 ∷ 1 ∷ []) (54 ∷ 0 ∷ [])

abbrev row_760 : Bool
row_760 = calls answered 11 (1 ∷ 0xabcdef01ffff6284 ∷ 0 ∷ 0 ∷ 0 ∷ []) (32 ∷ 0xfffffffffffffffe ∷ 54 ∷ 3 ∷ 55 ∷ 0x10000003 ∷ 56 ∷ 1 ∷ []) 0x9 (0 ∷ 0x10000003 ∷ 1 ∷ 8 ∷ []) (32 ∷ 0 ∷ 54 ∷ 1 ∷ 55 ∷ 9 ∷ 56 ∷ 8 ∷ 57 ∷ 1 ∷ [])

abbrev row_761 : Bool
row_761 = calls answered 11 (1 ∷ 0xffff649e ∷ 0 ∷ 0 ∷ 0 ∷ []) (32 ∷ 0xffffffffffffffff ∷ 54 ∷ 3 ∷ 55 ∷ 0x10000003 ∷ 56 ∷ 1 ∷ []) 0x9 (0 ∷ 0x10000003 ∷ 1 ∷ 8 ∷ []) (32 ∷ 1 ∷ 54 ∷ 1 ∷ 55 ∷ 9 ∷ 56 ∷ 8 ∷ 57 ∷ 1 ∷ [])

abbrev row_762 : Bool
row_762 = calls answered 11 (1 ∷ 0xc280 ∷ 0 ∷ 0 ∷ 0 ∷ []) (32 ∷ 0x80000000 ∷ 54 ∷ 3 ∷ 55 ∷ 0x10000003 ∷ 56 ∷ 2 ∷ []) 0xa (0 ∷ 0x10000003 ∷ 1 ∷ 4 ∷ 2 ∷ 0xd70a3d67 ∷ []) (32 ∷ 0x80000002 ∷ 54 ∷ 0 ∷ [])

abbrev row_763 : Bool
row_763 = calls answered 11 (1 ∷ 0xc284 ∷ 0 ∷ 0 ∷ 0 ∷ []) (32 ∷ 0x80000000 ∷ 54 ∷ 3 ∷ 55 ∷ 0x10000003 ∷ 56 ∷ 2 ∷ []) 0xa (0 ∷ 0x10000003 ∷ 1 ∷ 4 ∷ 2 ∷ 0x60b60b56 ∷ []) (32 ∷ 0x80000002 ∷ 54 ∷ 0 ∷ [])

abbrev row_764 : Bool
row_764 = calls answered 11 (1 ∷ 0xc29c ∷ 0 ∷ 0 ∷ 0 ∷ []) (32 ∷ 0x80000000 ∷ 54 ∷ 3 ∷ 55 ∷ 0x10000003 ∷ 56 ∷ 2 ∷ []) 0xa (0 ∷ 0x10000003 ∷ 1 ∷ 4 ∷ 2 ∷ 0x9abcdef0 ∷ []) (32 ∷ 0x80000002 ∷ 54 ∷ 0 ∷ [])

abbrev row_765 : Bool
row_765 = calls answered 11 (1 ∷ 0xc482 ∷ 0 ∷ 0 ∷ 0 ∷ []) (32 ∷ 0x80000000 ∷ 54 ∷ 3 ∷ 55 ∷ 0x10000003 ∷ 56 ∷ 2 ∷ []) 0xa (0 ∷ 0x10000003 ∷ 1 ∷ 4 ∷ []) (32 ∷ 0x80000002 ∷ 54 ∷ 0 ∷ [])

abbrev row_766 : Bool
row_766 = calls answered 11 (1 ∷ 0xc002 ∷ 0 ∷ 0 ∷ 0 ∷ []) (32 ∷ 0x80000000 ∷ 54 ∷ 3 ∷ 55 ∷ 0x10000003 ∷ 56 ∷ 2 ∷ []) 0xa (0 ∷ 0x10000003 ∷ 1 ∷ 4 ∷ []) (32 ∷ 0x80000002 ∷ 54 ∷ 0 ∷ [])

abbrev row_767 : Bool
row_767 = calls answered 11 (1 ∷ 0xc486 ∷ 0 ∷ 0 ∷ 0 ∷ []) (32 ∷ 0x80000000 ∷ 54 ∷ 3 ∷ 55 ∷ 0x10000003 ∷ 56 ∷ 2 ∷ []) 0xa (0 ∷ 0x10000003 ∷ 1 ∷ 4 ∷ 2 ∷ 0x13579bde ∷ []) (32 ∷ 0x80000002 ∷ 54 ∷ 0 ∷ [])

abbrev row_768 : Bool
row_768 = calls answered 11 (1 ∷ 0xc006 ∷ 0 ∷ 0 ∷ 0 ∷ []) (32 ∷ 0x80000000 ∷ 54 ∷ 3 ∷ 55 ∷ 0x10000003 ∷ 56 ∷ 2 ∷ []) 0xa (0 ∷ 0x10000003 ∷ 1 ∷ 4 ∷ 2 ∷ 0x13579bde ∷ []) (32 ∷ 0x80000002 ∷ 54 ∷ 0 ∷ [])

abbrev row_769 : Bool
row_769 = calls answered 11 (1 ∷ 0xc48a ∷ 0 ∷ 0 ∷ 0 ∷ []) (32 ∷ 0x80000000 ∷ 54 ∷ 3 ∷ 55 ∷ 0x10000003 ∷ 56 ∷ 2 ∷ []) 0xa (0 ∷ 0x10000003 ∷ 1 ∷ 4 ∷ 2 ∷ 0x9d0369cd ∷ []) (32 ∷ 0x80000002 ∷ 54 ∷ 0 ∷ [])

abbrev row_770 : Bool
row_770 = calls answered 11 (1 ∷ 0xc00a ∷ 0 ∷ 0 ∷ 0 ∷ []) (32 ∷ 0x80000000 ∷ 54 ∷ 3 ∷ 55 ∷ 0x10000003 ∷ 56 ∷ 2 ∷ []) 0xa (0 ∷ 0x10000003 ∷ 1 ∷ 4 ∷ 2 ∷ 0x9d0369cd ∷ []) (32 ∷ 0x80000002 ∷ 54 ∷ 0 ∷ [])

abbrev row_771 : Bool
row_771 = calls answered 11 (1 ∷ 0xc4fe ∷ 0 ∷ 0 ∷ 0 ∷ []) (32 ∷ 0x80000000 ∷ 54 ∷ 3 ∷ 55 ∷ 0x10000003 ∷ 56 ∷ 2 ∷ []) 0xa (0 ∷ 0x10000003 ∷ 1 ∷ 4 ∷ 2 ∷ 0x3579bde0 ∷ []) (32 ∷ 0x80000002 ∷ 54 ∷ 0 ∷ [])

abbrev row_772 : Bool
row_772 = calls answered 11 (1 ∷ 0xc07e ∷ 0 ∷ 0 ∷ 0 ∷ []) (32 ∷ 0x80000000 ∷ 54 ∷ 3 ∷ 55 ∷ 0x10000003 ∷ 56 ∷ 2 ∷ []) 0xa (0 ∷ 0x10000003 ∷ 1 ∷ 4 ∷ 2 ∷ 0x3579bde0 ∷ []) (32 ∷ 0x80000002 ∷ 54 ∷ 0 ∷ [])

abbrev row_773 : Bool
row_773 = calls answered 11 (1 ∷ 0xc284 ∷ 0 ∷ 0 ∷ 0 ∷ []) (32 ∷ 0x80000000 ∷ 54 ∷ 3 ∷ 55 ∷ 0x10000003 ∷ 56 ∷ 1 ∷ []) 0x8 (0 ∷ 0x10000003 ∷ 1 ∷ 1 ∷ []) (54 ∷ 0 ∷ [])

abbrev row_774 : Bool
row_774 = calls answered 11 (1 ∷ 0xc49e ∷ 0 ∷ 0 ∷ 0 ∷ []) (32 ∷ 0x80000000 ∷ 54 ∷ 3 ∷ 55 ∷ 0x10000003 ∷ 56 ∷ 1 ∷ []) 0x8 (0 ∷ 0x10000003 ∷ 1 ∷ 1 ∷ []) (54 ∷ 0 ∷ [])

abbrev row_775 : Bool
row_775 = calls answered 11 (1 ∷ 0xc49e ∷ 0 ∷ 0 ∷ 0 ∷ []) (32 ∷ 0x80000000 ∷ 54 ∷ 3 ∷ 55 ∷ 0x10000003 ∷ 56 ∷ 4 ∷ []) 0x8 (0 ∷ 0x10000003 ∷ 1 ∷ 4 ∷ []) (54 ∷ 0 ∷ [])

abbrev row_776 : Bool
row_776 = calls answered 11 (1 ∷ 0xc49d ∷ 0 ∷ 0 ∷ 0 ∷ []) (32 ∷ 0x80000000 ∷ 54 ∷ 3 ∷ 55 ∷ 0x10000003 ∷ 56 ∷ 2 ∷ []) 0x8 (0 ∷ 0x10000003 ∷ 1 ∷ 2 ∷ []) (54 ∷ 0 ∷ [])

abbrev row_777 : Bool
row_777 = calls answered 11 (1 ∷ 0xabcdef01ffffc284 ∷ 0 ∷ 0 ∷ 0 ∷ []) (32 ∷ 0xfffffffffffffffe ∷ 54 ∷ 3 ∷ 55 ∷ 0x10000003 ∷ 56 ∷ 2 ∷ []) 0xa (0 ∷ 0x10000003 ∷ 1 ∷ 4 ∷ 2 ∷ 0x60b60b56 ∷ []) (32 ∷ 0 ∷ 54 ∷ 0 ∷ [])

abbrev row_778 : Bool
row_778 = calls answered 11 (1 ∷ 0xffffc49e ∷ 0 ∷ 0 ∷ 0 ∷ []) (32 ∷ 0xffffffffffffffff ∷ 54 ∷ 3 ∷ 55 ∷ 0x10000003 ∷ 56 ∷ 2 ∷ []) 0xa (0 ∷ 0x10000003 ∷ 1 ∷ 4 ∷ 2 ∷ 0x4d5e6f78 ∷ []) (32 ∷ 1 ∷ 54 ∷ 0 ∷ [])

abbrev row_779 : Bool
row_779 = calls answered 11 (1 ∷ 0xe280 ∷ 0 ∷ 0 ∷ 0 ∷ []) (32 ∷ 0x80000000 ∷ 54 ∷ 3 ∷ 55 ∷ 0x10000003 ∷ 56 ∷ 2 ∷ []) 0xa (0 ∷ 0x10000003 ∷ 1 ∷ 8 ∷ 2 ∷ 0xa3d70a3d70a3d67 ∷ []) (32 ∷ 0x80000002 ∷ 54 ∷ 0 ∷ [])

abbrev row_780 : Bool
row_780 = calls answered 11 (1 ∷ 0xe284 ∷ 0 ∷ 0 ∷ 0 ∷ []) (32 ∷ 0x80000000 ∷ 54 ∷ 3 ∷ 55 ∷ 0x10000003 ∷ 56 ∷ 2 ∷ []) 0xa (0 ∷ 0x10000003 ∷ 1 ∷ 8 ∷ 2 ∷ 0xb60b60b60b60b56 ∷ []) (32 ∷ 0x80000002 ∷ 54 ∷ 0 ∷ [])

abbrev row_781 : Bool
row_781 = calls answered 11 (1 ∷ 0xe29c ∷ 0 ∷ 0 ∷ 0 ∷ []) (32 ∷ 0x80000000 ∷ 54 ∷ 3 ∷ 55 ∷ 0x10000003 ∷ 56 ∷ 2 ∷ []) 0xa (0 ∷ 0x10000003 ∷ 1 ∷ 8 ∷ 2 ∷ 0x123456789abcdef0 ∷ []) (32 ∷ 0x80000002 ∷ 54 ∷ 0 ∷ [])

abbrev row_782 : Bool
row_782 = calls answered 11 (1 ∷ 0xe482 ∷ 0 ∷ 0 ∷ 0 ∷ []) (32 ∷ 0x80000000 ∷ 54 ∷ 3 ∷ 55 ∷ 0x10000003 ∷ 56 ∷ 2 ∷ []) 0xa (0 ∷ 0x10000003 ∷ 1 ∷ 8 ∷ []) (32 ∷ 0x80000002 ∷ 54 ∷ 0 ∷ [])

abbrev row_783 : Bool
row_783 = calls answered 11 (1 ∷ 0xe002 ∷ 0 ∷ 0 ∷ 0 ∷ []) (32 ∷ 0x80000000 ∷ 54 ∷ 3 ∷ 55 ∷ 0x10000003 ∷ 56 ∷ 2 ∷ []) 0xa (0 ∷ 0x10000003 ∷ 1 ∷ 8 ∷ []) (32 ∷ 0x80000002 ∷ 54 ∷ 0 ∷ [])

abbrev row_784 : Bool
row_784 = calls answered 11 (1 ∷ 0xe486 ∷ 0 ∷ 0 ∷ 0 ∷ []) (32 ∷ 0x80000000 ∷ 54 ∷ 3 ∷ 55 ∷ 0x10000003 ∷ 56 ∷ 2 ∷ []) 0xa (0 ∷ 0x10000003 ∷ 1 ∷ 8 ∷ 2 ∷ 0x2468acf13579bde ∷ []) (32 ∷ 0x80000002 ∷ 54 ∷ 0 ∷ [])

abbrev row_785 : Bool
row_785 = calls answered 11 (1 ∷ 0xe006 ∷ 0 ∷ 0 ∷ 0 ∷ []) (32 ∷ 0x80000000 ∷ 54 ∷ 3 ∷ 55 ∷ 0x10000003 ∷ 56 ∷ 2 ∷ []) 0xa (0 ∷ 0x10000003 ∷ 1 ∷ 8 ∷ 2 ∷ 0x2468acf13579bde ∷ []) (32 ∷ 0x80000002 ∷ 54 ∷ 0 ∷ [])

abbrev row_786 : Bool
row_786 = calls answered 11 (1 ∷ 0xe48a ∷ 0 ∷ 0 ∷ 0 ∷ []) (32 ∷ 0x80000000 ∷ 54 ∷ 3 ∷ 55 ∷ 0x10000003 ∷ 56 ∷ 2 ∷ []) 0xa (0 ∷ 0x10000003 ∷ 1 ∷ 8 ∷ 2 ∷ 0x369d0369d0369cd ∷ []) (32 ∷ 0x80000002 ∷ 54 ∷ 0 ∷ [])

abbrev row_787 : Bool
row_787 = calls answered 11 (1 ∷ 0xe00a ∷ 0 ∷ 0 ∷ 0 ∷ []) (32 ∷ 0x80000000 ∷ 54 ∷ 3 ∷ 55 ∷ 0x10000003 ∷ 56 ∷ 2 ∷ []) 0xa (0 ∷ 0x10000003 ∷ 1 ∷ 8 ∷ 2 ∷ 0x369d0369d0369cd ∷ []) (32 ∷ 0x80000002 ∷ 54 ∷ 0 ∷ [])

abbrev row_788 : Bool
row_788 = calls answered 11 (1 ∷ 0xe4fe ∷ 0 ∷ 0 ∷ 0 ∷ []) (32 ∷ 0x80000000 ∷ 54 ∷ 3 ∷ 55 ∷ 0x10000003 ∷ 56 ∷ 2 ∷ []) 0xa (0 ∷ 0x10000003 ∷ 1 ∷ 8 ∷ 2 ∷ 0x2468acf13579bde0 ∷ []) (32 ∷ 0x80000002 ∷ 54 ∷ 0 ∷ [])

abbrev row_789 : Bool
row_789 = calls answered 11 (1 ∷ 0xe07e ∷ 0 ∷ 0 ∷ 0 ∷ []) (32 ∷ 0x80000000 ∷ 54 ∷ 3 ∷ 55 ∷ 0x10000003 ∷ 56 ∷ 2 ∷ []) 0xa (0 ∷ 0x10000003 ∷ 1 ∷ 8 ∷ 2 ∷ 0x2468acf13579bde0 ∷ []) (32 ∷ 0x80000002 ∷ 54 ∷ 0 ∷ [])

abbrev row_790 : Bool
row_790 = calls answered 11 (1 ∷ 0xe284 ∷ 0 ∷ 0 ∷ 0 ∷ []) (32 ∷ 0x80000000 ∷ 54 ∷ 3 ∷ 55 ∷ 0x10000003 ∷ 56 ∷ 1 ∷ []) 0x8 (0 ∷ 0x10000003 ∷ 1 ∷ 1 ∷ []) (54 ∷ 0 ∷ [])

abbrev row_791 : Bool
row_791 = calls answered 11 (1 ∷ 0xe49e ∷ 0 ∷ 0 ∷ 0 ∷ []) (32 ∷ 0x80000000 ∷ 54 ∷ 3 ∷ 55 ∷ 0x10000003 ∷ 56 ∷ 1 ∷ []) 0x8 (0 ∷ 0x10000003 ∷ 1 ∷ 1 ∷ []) (54 ∷ 0 ∷ [])

abbrev row_792 : Bool
row_792 = calls answered 11 (1 ∷ 0xe49e ∷ 0 ∷ 0 ∷ 0 ∷ []) (32 ∷ 0x80000000 ∷ 54 ∷ 3 ∷ 55 ∷ 0x10000003 ∷ 56 ∷ 4 ∷ []) 0x8 (0 ∷ 0x10000003 ∷ 1 ∷ 4 ∷ []) (54 ∷ 0 ∷ [])

abbrev row_793 : Bool
row_793 = calls answered 11 (1 ∷ 0xe49d ∷ 0 ∷ 0 ∷ 0 ∷ []) (32 ∷ 0x80000000 ∷ 54 ∷ 3 ∷ 55 ∷ 0x10000003 ∷ 56 ∷ 2 ∷ []) 0x8 (0 ∷ 0x10000003 ∷ 1 ∷ 2 ∷ []) (54 ∷ 0 ∷ [])

abbrev row_794 : Bool
row_794 = calls answered 11 (1 ∷ 0xabcdef01ffffe284 ∷ 0 ∷ 0 ∷ 0 ∷ []) (32 ∷ 0xfffffffffffffffe ∷ 54 ∷ 3 ∷ 55 ∷ 0x10000003 ∷ 56 ∷ 2 ∷ []) 0xa (0 ∷ 0x10000003 ∷ 1 ∷ 8 ∷ 2 ∷ 0xb60b60b60b60b56 ∷ []) (32 ∷ 0 ∷ 54 ∷ 0 ∷ [])

abbrev row_795 : Bool
row_795 = calls answered 11 (1 ∷ 0xffffe49e ∷ 0 ∷ 0 ∷ 0 ∷ []) (32 ∷ 0xffffffffffffffff ∷ 54 ∷ 3 ∷ 55 ∷ 0x10000003 ∷ 56 ∷ 2 ∷ []) 0xa (0 ∷ 0x10000003 ∷ 1 ∷ 8 ∷ 2 ∷ 0x91a2b3c4d5e6f78 ∷ []) (32 ∷ 1 ∷ 54 ∷ 0 ∷ [])

abbrev row_796 : Bool
row_796 = calls answered 11 (1 ∷ 0x49c ∷ 0 ∷ 0 ∷ 0 ∷ []) (32 ∷ 0x80000000 ∷ 54 ∷ 3 ∷ 55 ∷ 0x10000003 ∷ 56 ∷ 1 ∷ []) 0x8 (0 ∷ 0x10000003 ∷ 1 ∷ 1 ∷ []) (54 ∷ 0 ∷ [])

abbrev row_797 : Bool
row_797 = calls answered 11 (1 ∷ 0x49c ∷ 0 ∷ 0 ∷ 0 ∷ []) (32 ∷ 0x80000000 ∷ 54 ∷ 3 ∷ 55 ∷ 0x10000003 ∷ 56 ∷ 2 ∷ []) 0x8 (0 ∷ 0x10000003 ∷ 1 ∷ 2 ∷ []) (54 ∷ 0 ∷ [])

abbrev row_798 : Bool
row_798 = calls answered 11 (1 ∷ 0x49e ∷ 0 ∷ 0 ∷ 0 ∷ []) (32 ∷ 0x80000000 ∷ 54 ∷ 3 ∷ 55 ∷ 0x10000003 ∷ 56 ∷ 1 ∷ []) 0x8 (0 ∷ 0x10000003 ∷ 1 ∷ 1 ∷ []) (54 ∷ 0 ∷ [])

abbrev row_799 : Bool
row_799 = calls answered 11 (1 ∷ 0x49e ∷ 0 ∷ 0 ∷ 0 ∷ []) (32 ∷ 0x80000000 ∷ 54 ∷ 3 ∷ 55 ∷ 0x10000003 ∷ 56 ∷ 2 ∷ []) 0x8 (0 ∷ 0x10000003 ∷ 1 ∷ 2 ∷ []) (54 ∷ 0 ∷ [])

abbrev row_800 : Bool
row_800 = calls answered 11 (1 ∷ 0x249c ∷ 0 ∷ 0 ∷ 0 ∷ []) (32 ∷ 0x80000000 ∷ 54 ∷ 3 ∷ 55 ∷ 0x10000003 ∷ 56 ∷ 1 ∷ []) 0x8 (0 ∷ 0x10000003 ∷ 1 ∷ 1 ∷ []) (54 ∷ 0 ∷ [])

abbrev row_801 : Bool
row_801 = calls answered 11 (1 ∷ 0x249c ∷ 0 ∷ 0 ∷ 0 ∷ []) (32 ∷ 0x80000000 ∷ 54 ∷ 3 ∷ 55 ∷ 0x10000003 ∷ 56 ∷ 2 ∷ []) 0x8 (0 ∷ 0x10000003 ∷ 1 ∷ 2 ∷ []) (54 ∷ 0 ∷ [])

abbrev row_802 : Bool
row_802 = calls answered 11 (1 ∷ 0x249e ∷ 0 ∷ 0 ∷ 0 ∷ []) (32 ∷ 0x80000000 ∷ 54 ∷ 3 ∷ 55 ∷ 0x10000003 ∷ 56 ∷ 1 ∷ []) 0x8 (0 ∷ 0x10000003 ∷ 1 ∷ 1 ∷ []) (54 ∷ 0 ∷ [])

abbrev row_803 : Bool
row_803 = calls answered 11 (1 ∷ 0x249e ∷ 0 ∷ 0 ∷ 0 ∷ []) (32 ∷ 0x80000000 ∷ 54 ∷ 3 ∷ 55 ∷ 0x10000003 ∷ 56 ∷ 2 ∷ []) 0x8 (0 ∷ 0x10000003 ∷ 1 ∷ 2 ∷ []) (54 ∷ 0 ∷ [])

abbrev row_804 : Bool
row_804 = calls answered 11 (1 ∷ 0x849c ∷ 0 ∷ 0 ∷ 0 ∷ []) (32 ∷ 0x80000000 ∷ 54 ∷ 3 ∷ 55 ∷ 0x10000003 ∷ 56 ∷ 1 ∷ []) 0x8 (0 ∷ 0x10000003 ∷ 1 ∷ 1 ∷ []) (54 ∷ 0 ∷ [])

abbrev row_805 : Bool
row_805 = calls answered 11 (1 ∷ 0x849c ∷ 0 ∷ 0 ∷ 0 ∷ []) (32 ∷ 0x80000000 ∷ 54 ∷ 3 ∷ 55 ∷ 0x10000003 ∷ 56 ∷ 2 ∷ []) 0x8 (0 ∷ 0x10000003 ∷ 1 ∷ 2 ∷ []) (54 ∷ 0 ∷ [])

abbrev row_806 : Bool
row_806 = calls answered 11 (1 ∷ 0x849e ∷ 0 ∷ 0 ∷ 0 ∷ []) (32 ∷ 0x80000000 ∷ 54 ∷ 3 ∷ 55 ∷ 0x10000003 ∷ 56 ∷ 1 ∷ []) 0x8 (0 ∷ 0x10000003 ∷ 1 ∷ 1 ∷ []) (54 ∷ 0 ∷ [])

abbrev row_807 : Bool
row_807 = calls answered 11 (1 ∷ 0x849e ∷ 0 ∷ 0 ∷ 0 ∷ []) (32 ∷ 0x80000000 ∷ 54 ∷ 3 ∷ 55 ∷ 0x10000003 ∷ 56 ∷ 2 ∷ []) 0x8 (0 ∷ 0x10000003 ∷ 1 ∷ 2 ∷ []) (54 ∷ 0 ∷ [])

abbrev row_808 : Bool
row_808 = calls answered 11 (1 ∷ 0xa49c ∷ 0 ∷ 0 ∷ 0 ∷ []) (32 ∷ 0x80000000 ∷ 54 ∷ 3 ∷ 55 ∷ 0x10000003 ∷ 56 ∷ 1 ∷ []) 0x8 (0 ∷ 0x10000003 ∷ 1 ∷ 1 ∷ []) (54 ∷ 0 ∷ [])

abbrev row_809 : Bool
row_809 = calls answered 11 (1 ∷ 0xa49c ∷ 0 ∷ 0 ∷ 0 ∷ []) (32 ∷ 0x80000000 ∷ 54 ∷ 3 ∷ 55 ∷ 0x10000003 ∷ 56 ∷ 2 ∷ []) 0x8 (0 ∷ 0x10000003 ∷ 1 ∷ 2 ∷ []) (54 ∷ 0 ∷ [])

abbrev row_810 : Bool
row_810 = calls answered 11 (1 ∷ 0xa49e ∷ 0 ∷ 0 ∷ 0 ∷ []) (32 ∷ 0x80000000 ∷ 54 ∷ 3 ∷ 55 ∷ 0x10000003 ∷ 56 ∷ 1 ∷ []) 0x8 (0 ∷ 0x10000003 ∷ 1 ∷ 1 ∷ []) (54 ∷ 0 ∷ [])

abbrev row_811 : Bool
row_811 = calls answered 11 (1 ∷ 0xa49e ∷ 0 ∷ 0 ∷ 0 ∷ []) (32 ∷ 0x80000000 ∷ 54 ∷ 3 ∷ 55 ∷ 0x10000003 ∷ 56 ∷ 2 ∷ []) 0x8 (0 ∷ 0x10000003 ∷ 1 ∷ 2 ∷ []) (54 ∷ 0 ∷ [])

abbrev row_812 : Bool
row_812 = rows posted 15 ([]) (42 ∷ 0 ∷ []) 0x40 ([]) ([])

abbrev row_813 : Bool
row_813 = rows posted 15 (0x8000000000000001 ∷ 0 ∷ []) (42 ∷ 0 ∷ []) 0x40 (0 ∷ 1 ∷ []) ([])

abbrev row_814 : Bool
row_814 = rows posted 15 (0x8000000000000005 ∷ 0 ∷ []) (42 ∷ 0 ∷ []) 0x40 (0 ∷ 1 ∷ []) ([])

abbrev row_815 : Bool
row_815 = rows posted 15 (9 ∷ 0 ∷ []) (42 ∷ 0 ∷ []) 0x40 (0 ∷ 1 ∷ []) ([])

abbrev row_816 : Bool
row_816 = rows posted 15 (0x8000000000000009 ∷ 0 ∷ []) (42 ∷ 0 ∷ []) 0x40 (0 ∷ 1 ∷ []) ([])

abbrev row_817 : Bool
row_817 = rows posted 15 (5 ∷ 0 ∷ []) (42 ∷ 0 ∷ []) 0x101 ([]) ([])

abbrev row_818 : Bool
row_818 = rows posted 15 (0x8000000000000002 ∷ 0 ∷ []) (42 ∷ 0 ∷ []) 0x101 ([]) ([])

abbrev row_819 : Bool
row_819 = rows posted 15 (0 ∷ 0 ∷ []) (42 ∷ 0 ∷ []) 0x101 ([]) ([])

abbrev row_820 : Bool
row_820 = rows posted 15 (0xffffffffffffffff ∷ 0 ∷ []) (42 ∷ 0 ∷ []) 0x101 ([]) ([])

abbrev row_821 : Bool
row_821 = rows posted 15 (0x8000000000000001 ∷ 0x8000000000000000 ∷ []) (42 ∷ 0 ∷ []) 0x40 (0 ∷ 1 ∷ []) (42 ∷ 4 ∷ [])

abbrev row_822 : Bool
row_822 = rows posted 15 (0x8000000000000005 ∷ 0x8000000000000000 ∷ []) (42 ∷ 0 ∷ []) 0x40 (0 ∷ 1 ∷ []) (42 ∷ 0x40 ∷ [])

abbrev row_823 : Bool
row_823 = rows posted 15 (9 ∷ 0x8000000000000000 ∷ []) (42 ∷ 0 ∷ []) 0x40 (0 ∷ 1 ∷ []) (42 ∷ 0x400 ∷ [])

abbrev row_824 : Bool
row_824 = rows posted 15 (0x8000000000000009 ∷ 0x8000000000000000 ∷ []) (42 ∷ 0 ∷ []) 0x40 (0 ∷ 1 ∷ []) (42 ∷ 0x400 ∷ [])

abbrev row_825 : Bool
row_825 = rows posted 15 (5 ∷ 0x8000000000000000 ∷ []) (42 ∷ 0 ∷ []) 0x101 ([]) ([])

abbrev row_826 : Bool
row_826 = rows posted 15 (0x8000000000000002 ∷ 0x8000000000000000 ∷ []) (42 ∷ 0 ∷ []) 0x101 ([]) ([])

abbrev row_827 : Bool
row_827 = rows posted 15 (0 ∷ 0x8000000000000000 ∷ []) (42 ∷ 0 ∷ []) 0x101 ([]) ([])

abbrev row_828 : Bool
row_828 = rows posted 15 (0xffffffffffffffff ∷ 0x8000000000000000 ∷ []) (42 ∷ 0 ∷ []) 0x101 ([]) ([])

abbrev row_829 : Bool
row_829 = rows posted 15 ([]) (42 ∷ 0xffffffffffffffff ∷ []) 0x40 ([]) ([])

abbrev row_830 : Bool
row_830 = rows posted 15 (0x8000000000000001 ∷ 0 ∷ []) (42 ∷ 0xffffffffffffffff ∷ []) 0x40 (0 ∷ 1 ∷ []) (42 ∷ 0xfffffffffffffffb ∷ [])

abbrev row_831 : Bool
row_831 = rows posted 15 (0x8000000000000005 ∷ 0 ∷ []) (42 ∷ 0xffffffffffffffff ∷ []) 0x40 (0 ∷ 1 ∷ []) (42 ∷ 0xffffffffffffffbf ∷ [])

abbrev row_832 : Bool
row_832 = rows posted 15 (9 ∷ 0 ∷ []) (42 ∷ 0xffffffffffffffff ∷ []) 0x40 (0 ∷ 1 ∷ []) (42 ∷ 0xfffffffffffffbff ∷ [])

abbrev row_833 : Bool
row_833 = rows posted 15 (0x8000000000000009 ∷ 0 ∷ []) (42 ∷ 0xffffffffffffffff ∷ []) 0x40 (0 ∷ 1 ∷ []) (42 ∷ 0xfffffffffffffbff ∷ [])

abbrev row_834 : Bool
row_834 = rows posted 15 (5 ∷ 0 ∷ []) (42 ∷ 0xffffffffffffffff ∷ []) 0x101 ([]) ([])

abbrev row_835 : Bool
row_835 = rows posted 15 (0x8000000000000002 ∷ 0 ∷ []) (42 ∷ 0xffffffffffffffff ∷ []) 0x101 ([]) ([])

abbrev row_836 : Bool
row_836 = rows posted 15 (0 ∷ 0 ∷ []) (42 ∷ 0xffffffffffffffff ∷ []) 0x101 ([]) ([])

abbrev row_837 : Bool
row_837 = rows posted 15 (0xffffffffffffffff ∷ 0 ∷ []) (42 ∷ 0xffffffffffffffff ∷ []) 0x101 ([]) ([])

abbrev row_838 : Bool
row_838 = rows posted 15 (0x8000000000000001 ∷ 0x8000000000000000 ∷ []) (42 ∷ 0xffffffffffffffff ∷ []) 0x40 (0 ∷ 1 ∷ []) ([])

abbrev row_839 : Bool
row_839 = rows posted 15 (0x8000000000000005 ∷ 0x8000000000000000 ∷ []) (42 ∷ 0xffffffffffffffff ∷ []) 0x40 (0 ∷ 1 ∷ []) ([])

abbrev row_840 : Bool
row_840 = rows posted 15 (9 ∷ 0x8000000000000000 ∷ []) (42 ∷ 0xffffffffffffffff ∷ []) 0x40 (0 ∷ 1 ∷ []) ([])

abbrev row_841 : Bool
row_841 = rows posted 15 (0x8000000000000009 ∷ 0x8000000000000000 ∷ []) (42 ∷ 0xffffffffffffffff ∷ []) 0x40 (0 ∷ 1 ∷ []) ([])

abbrev row_842 : Bool
row_842 = rows posted 15 (5 ∷ 0x8000000000000000 ∷ []) (42 ∷ 0xffffffffffffffff ∷ []) 0x101 ([]) ([])

abbrev row_843 : Bool
row_843 = rows posted 15 (0x8000000000000002 ∷ 0x8000000000000000 ∷ []) (42 ∷ 0xffffffffffffffff ∷ []) 0x101 ([]) ([])

abbrev row_844 : Bool
row_844 = rows posted 15 (0 ∷ 0x8000000000000000 ∷ []) (42 ∷ 0xffffffffffffffff ∷ []) 0x101 ([]) ([])

abbrev row_845 : Bool
row_845 = rows posted 15 (0xffffffffffffffff ∷ 0x8000000000000000 ∷ []) (42 ∷ 0xffffffffffffffff ∷ []) 0x101 ([]) ([])

abbrev row_846 : Bool
row_846 = rows posted 15 (0x8000000000000001 ∷ 0 ∷ 0x8000000000000001 ∷ 0 ∷ []) (42 ∷ 0xffffffffffffffff ∷ []) 0x40 (0 ∷ 2 ∷ []) (42 ∷ 0xfffffffffffffffb ∷ [])

abbrev row_847 : Bool
row_847 = rows posted 15 (0x8000000000000001 ∷ 0 ∷ 0x8000000000000005 ∷ 0 ∷ []) (42 ∷ 0xffffffffffffffff ∷ []) 0x40 (0 ∷ 2 ∷ []) (42 ∷ 0xffffffffffffffbb ∷ [])

abbrev row_848 : Bool
row_848 = rows posted 15 (0x8000000000000001 ∷ 0 ∷ 9 ∷ 0 ∷ []) (42 ∷ 0xffffffffffffffff ∷ []) 0x40 (0 ∷ 2 ∷ []) (42 ∷ 0xfffffffffffffbfb ∷ [])

abbrev row_849 : Bool
row_849 = rows posted 15 (0x8000000000000001 ∷ 0 ∷ 0x8000000000000009 ∷ 0 ∷ []) (42 ∷ 0xffffffffffffffff ∷ []) 0x40 (0 ∷ 2 ∷ []) (42 ∷ 0xfffffffffffffbfb ∷ [])

abbrev row_850 : Bool
row_850 = rows posted 15 (0x8000000000000001 ∷ 0 ∷ 5 ∷ 0 ∷ []) (42 ∷ 0xffffffffffffffff ∷ []) 0x101 (0 ∷ 1 ∷ []) (42 ∷ 0xfffffffffffffffb ∷ [])

abbrev row_851 : Bool
row_851 = rows posted 15 (0x8000000000000001 ∷ 0 ∷ 0x8000000000000001 ∷ 0x8000000000000000 ∷ []) (42 ∷ 0xffffffffffffffff ∷ []) 0x40 (0 ∷ 2 ∷ []) ([])

abbrev row_852 : Bool
row_852 = rows posted 15 (0x8000000000000001 ∷ 0 ∷ 0x8000000000000005 ∷ 0x8000000000000000 ∷ []) (42 ∷ 0xffffffffffffffff ∷ []) 0x40 (0 ∷ 2 ∷ []) (42 ∷ 0xfffffffffffffffb ∷ [])

abbrev row_853 : Bool
row_853 = rows posted 15 (0x8000000000000001 ∷ 0 ∷ 9 ∷ 0x8000000000000000 ∷ []) (42 ∷ 0xffffffffffffffff ∷ []) 0x40 (0 ∷ 2 ∷ []) (42 ∷ 0xfffffffffffffffb ∷ [])

abbrev row_854 : Bool
row_854 = rows posted 15 (0x8000000000000001 ∷ 0 ∷ 0x8000000000000009 ∷ 0x8000000000000000 ∷ []) (42 ∷ 0xffffffffffffffff ∷ []) 0x40 (0 ∷ 2 ∷ []) (42 ∷ 0xfffffffffffffffb ∷ [])

abbrev row_855 : Bool
row_855 = rows posted 15 (0x8000000000000005 ∷ 0 ∷ 0x8000000000000001 ∷ 0 ∷ []) (42 ∷ 0xffffffffffffffff ∷ []) 0x40 (0 ∷ 2 ∷ []) (42 ∷ 0xffffffffffffffbb ∷ [])

abbrev row_856 : Bool
row_856 = rows posted 15 (0x8000000000000005 ∷ 0 ∷ 0x8000000000000005 ∷ 0 ∷ []) (42 ∷ 0xffffffffffffffff ∷ []) 0x40 (0 ∷ 2 ∷ []) (42 ∷ 0xffffffffffffffbf ∷ [])

abbrev row_857 : Bool
row_857 = rows posted 15 (0x8000000000000005 ∷ 0 ∷ 9 ∷ 0 ∷ []) (42 ∷ 0xffffffffffffffff ∷ []) 0x40 (0 ∷ 2 ∷ []) (42 ∷ 0xfffffffffffffbbf ∷ [])

abbrev row_858 : Bool
row_858 = rows posted 15 (0x8000000000000005 ∷ 0 ∷ 0x8000000000000009 ∷ 0 ∷ []) (42 ∷ 0xffffffffffffffff ∷ []) 0x40 (0 ∷ 2 ∷ []) (42 ∷ 0xfffffffffffffbbf ∷ [])

abbrev row_859 : Bool
row_859 = rows posted 15 (0x8000000000000005 ∷ 0 ∷ 5 ∷ 0 ∷ []) (42 ∷ 0xffffffffffffffff ∷ []) 0x101 (0 ∷ 1 ∷ []) (42 ∷ 0xffffffffffffffbf ∷ [])

abbrev row_860 : Bool
row_860 = rows posted 15 (0x8000000000000005 ∷ 0 ∷ 0x8000000000000001 ∷ 0x8000000000000000 ∷ []) (42 ∷ 0xffffffffffffffff ∷ []) 0x40 (0 ∷ 2 ∷ []) (42 ∷ 0xffffffffffffffbf ∷ [])

abbrev row_861 : Bool
row_861 = rows posted 15 (0x8000000000000005 ∷ 0 ∷ 0x8000000000000005 ∷ 0x8000000000000000 ∷ []) (42 ∷ 0xffffffffffffffff ∷ []) 0x40 (0 ∷ 2 ∷ []) ([])

abbrev row_862 : Bool
row_862 = rows posted 15 (0x8000000000000005 ∷ 0 ∷ 9 ∷ 0x8000000000000000 ∷ []) (42 ∷ 0xffffffffffffffff ∷ []) 0x40 (0 ∷ 2 ∷ []) (42 ∷ 0xffffffffffffffbf ∷ [])

abbrev row_863 : Bool
row_863 = rows posted 15 (0x8000000000000005 ∷ 0 ∷ 0x8000000000000009 ∷ 0x8000000000000000 ∷ []) (42 ∷ 0xffffffffffffffff ∷ []) 0x40 (0 ∷ 2 ∷ []) (42 ∷ 0xffffffffffffffbf ∷ [])

abbrev row_864 : Bool
row_864 = rows posted 15 (9 ∷ 0 ∷ 0x8000000000000001 ∷ 0 ∷ []) (42 ∷ 0xffffffffffffffff ∷ []) 0x40 (0 ∷ 2 ∷ []) (42 ∷ 0xfffffffffffffbfb ∷ [])

abbrev row_865 : Bool
row_865 = rows posted 15 (9 ∷ 0 ∷ 0x8000000000000005 ∷ 0 ∷ []) (42 ∷ 0xffffffffffffffff ∷ []) 0x40 (0 ∷ 2 ∷ []) (42 ∷ 0xfffffffffffffbbf ∷ [])

abbrev row_866 : Bool
row_866 = rows posted 15 (9 ∷ 0 ∷ 9 ∷ 0 ∷ []) (42 ∷ 0xffffffffffffffff ∷ []) 0x40 (0 ∷ 2 ∷ []) (42 ∷ 0xfffffffffffffbff ∷ [])

abbrev row_867 : Bool
row_867 = rows posted 15 (9 ∷ 0 ∷ 0x8000000000000009 ∷ 0 ∷ []) (42 ∷ 0xffffffffffffffff ∷ []) 0x40 (0 ∷ 2 ∷ []) (42 ∷ 0xfffffffffffffbff ∷ [])

abbrev row_868 : Bool
row_868 = rows posted 15 (9 ∷ 0 ∷ 5 ∷ 0 ∷ []) (42 ∷ 0xffffffffffffffff ∷ []) 0x101 (0 ∷ 1 ∷ []) (42 ∷ 0xfffffffffffffbff ∷ [])

abbrev row_869 : Bool
row_869 = rows posted 15 (9 ∷ 0 ∷ 0x8000000000000001 ∷ 0x8000000000000000 ∷ []) (42 ∷ 0xffffffffffffffff ∷ []) 0x40 (0 ∷ 2 ∷ []) (42 ∷ 0xfffffffffffffbff ∷ [])

abbrev row_870 : Bool
row_870 = rows posted 15 (9 ∷ 0 ∷ 0x8000000000000005 ∷ 0x8000000000000000 ∷ []) (42 ∷ 0xffffffffffffffff ∷ []) 0x40 (0 ∷ 2 ∷ []) (42 ∷ 0xfffffffffffffbff ∷ [])

abbrev row_871 : Bool
row_871 = rows posted 15 (9 ∷ 0 ∷ 9 ∷ 0x8000000000000000 ∷ []) (42 ∷ 0xffffffffffffffff ∷ []) 0x40 (0 ∷ 2 ∷ []) ([])

abbrev row_872 : Bool
row_872 = rows posted 15 (9 ∷ 0 ∷ 0x8000000000000009 ∷ 0x8000000000000000 ∷ []) (42 ∷ 0xffffffffffffffff ∷ []) 0x40 (0 ∷ 2 ∷ []) ([])

abbrev row_873 : Bool
row_873 = rows posted 15 (0x8000000000000009 ∷ 0 ∷ 0x8000000000000001 ∷ 0 ∷ []) (42 ∷ 0xffffffffffffffff ∷ []) 0x40 (0 ∷ 2 ∷ []) (42 ∷ 0xfffffffffffffbfb ∷ [])

abbrev row_874 : Bool
row_874 = rows posted 15 (0x8000000000000009 ∷ 0 ∷ 0x8000000000000005 ∷ 0 ∷ []) (42 ∷ 0xffffffffffffffff ∷ []) 0x40 (0 ∷ 2 ∷ []) (42 ∷ 0xfffffffffffffbbf ∷ [])

abbrev row_875 : Bool
row_875 = rows posted 15 (0x8000000000000009 ∷ 0 ∷ 9 ∷ 0 ∷ []) (42 ∷ 0xffffffffffffffff ∷ []) 0x40 (0 ∷ 2 ∷ []) (42 ∷ 0xfffffffffffffbff ∷ [])

abbrev row_876 : Bool
row_876 = rows posted 15 (0x8000000000000009 ∷ 0 ∷ 0x8000000000000009 ∷ 0 ∷ []) (42 ∷ 0xffffffffffffffff ∷ []) 0x40 (0 ∷ 2 ∷ []) (42 ∷ 0xfffffffffffffbff ∷ [])

abbrev row_877 : Bool
row_877 = rows posted 15 (0x8000000000000009 ∷ 0 ∷ 5 ∷ 0 ∷ []) (42 ∷ 0xffffffffffffffff ∷ []) 0x101 (0 ∷ 1 ∷ []) (42 ∷ 0xfffffffffffffbff ∷ [])

abbrev row_878 : Bool
row_878 = rows posted 15 (0x8000000000000009 ∷ 0 ∷ 0x8000000000000001 ∷ 0x8000000000000000 ∷ []) (42 ∷ 0xffffffffffffffff ∷ []) 0x40 (0 ∷ 2 ∷ []) (42 ∷ 0xfffffffffffffbff ∷ [])

abbrev row_879 : Bool
row_879 = rows posted 15 (0x8000000000000009 ∷ 0 ∷ 0x8000000000000005 ∷ 0x8000000000000000 ∷ []) (42 ∷ 0xffffffffffffffff ∷ []) 0x40 (0 ∷ 2 ∷ []) (42 ∷ 0xfffffffffffffbff ∷ [])

abbrev row_880 : Bool
row_880 = rows posted 15 (0x8000000000000009 ∷ 0 ∷ 9 ∷ 0x8000000000000000 ∷ []) (42 ∷ 0xffffffffffffffff ∷ []) 0x40 (0 ∷ 2 ∷ []) ([])

abbrev row_881 : Bool
row_881 = rows posted 15 (0x8000000000000009 ∷ 0 ∷ 0x8000000000000009 ∷ 0x8000000000000000 ∷ []) (42 ∷ 0xffffffffffffffff ∷ []) 0x40 (0 ∷ 2 ∷ []) ([])

abbrev row_882 : Bool
row_882 = rows posted 15 (5 ∷ 0 ∷ 0x8000000000000001 ∷ 0 ∷ []) (42 ∷ 0xffffffffffffffff ∷ []) 0x101 ([]) ([])

abbrev row_883 : Bool
row_883 = rows posted 15 (5 ∷ 0 ∷ 0x8000000000000005 ∷ 0 ∷ []) (42 ∷ 0xffffffffffffffff ∷ []) 0x101 ([]) ([])

abbrev row_884 : Bool
row_884 = rows posted 15 (5 ∷ 0 ∷ 9 ∷ 0 ∷ []) (42 ∷ 0xffffffffffffffff ∷ []) 0x101 ([]) ([])

abbrev row_885 : Bool
row_885 = rows posted 15 (5 ∷ 0 ∷ 0x8000000000000009 ∷ 0 ∷ []) (42 ∷ 0xffffffffffffffff ∷ []) 0x101 ([]) ([])

abbrev row_886 : Bool
row_886 = rows posted 15 (5 ∷ 0 ∷ 5 ∷ 0 ∷ []) (42 ∷ 0xffffffffffffffff ∷ []) 0x101 ([]) ([])

abbrev row_887 : Bool
row_887 = rows posted 15 (5 ∷ 0 ∷ 0x8000000000000001 ∷ 0x8000000000000000 ∷ []) (42 ∷ 0xffffffffffffffff ∷ []) 0x101 ([]) ([])

abbrev row_888 : Bool
row_888 = rows posted 15 (5 ∷ 0 ∷ 0x8000000000000005 ∷ 0x8000000000000000 ∷ []) (42 ∷ 0xffffffffffffffff ∷ []) 0x101 ([]) ([])

abbrev row_889 : Bool
row_889 = rows posted 15 (5 ∷ 0 ∷ 9 ∷ 0x8000000000000000 ∷ []) (42 ∷ 0xffffffffffffffff ∷ []) 0x101 ([]) ([])

abbrev row_890 : Bool
row_890 = rows posted 15 (5 ∷ 0 ∷ 0x8000000000000009 ∷ 0x8000000000000000 ∷ []) (42 ∷ 0xffffffffffffffff ∷ []) 0x101 ([]) ([])

abbrev row_891 : Bool
row_891 = rows posted 15 (0x8000000000000002 ∷ 0 ∷ 0x8000000000000001 ∷ 0 ∷ []) (42 ∷ 0xffffffffffffffff ∷ []) 0x101 ([]) ([])

abbrev row_892 : Bool
row_892 = rows posted 15 (0x8000000000000002 ∷ 0 ∷ 0x8000000000000005 ∷ 0 ∷ []) (42 ∷ 0xffffffffffffffff ∷ []) 0x101 ([]) ([])

abbrev row_893 : Bool
row_893 = rows posted 15 (0x8000000000000002 ∷ 0 ∷ 9 ∷ 0 ∷ []) (42 ∷ 0xffffffffffffffff ∷ []) 0x101 ([]) ([])

abbrev row_894 : Bool
row_894 = rows posted 15 (0x8000000000000002 ∷ 0 ∷ 0x8000000000000009 ∷ 0 ∷ []) (42 ∷ 0xffffffffffffffff ∷ []) 0x101 ([]) ([])

abbrev row_895 : Bool
row_895 = rows posted 15 (0x8000000000000002 ∷ 0 ∷ 5 ∷ 0 ∷ []) (42 ∷ 0xffffffffffffffff ∷ []) 0x101 ([]) ([])

abbrev row_896 : Bool
row_896 = rows posted 15 (0x8000000000000002 ∷ 0 ∷ 0x8000000000000001 ∷ 0x8000000000000000 ∷ []) (42 ∷ 0xffffffffffffffff ∷ []) 0x101 ([]) ([])

abbrev row_897 : Bool
row_897 = rows posted 15 (0x8000000000000002 ∷ 0 ∷ 0x8000000000000005 ∷ 0x8000000000000000 ∷ []) (42 ∷ 0xffffffffffffffff ∷ []) 0x101 ([]) ([])

abbrev row_898 : Bool
row_898 = rows posted 15 (0x8000000000000002 ∷ 0 ∷ 9 ∷ 0x8000000000000000 ∷ []) (42 ∷ 0xffffffffffffffff ∷ []) 0x101 ([]) ([])

abbrev row_899 : Bool
row_899 = rows posted 15 (0x8000000000000002 ∷ 0 ∷ 0x8000000000000009 ∷ 0x8000000000000000 ∷ []) (42 ∷ 0xffffffffffffffff ∷ []) 0x101 ([]) ([])

abbrev row_900 : Bool
row_900 = rows posted 15 (0 ∷ 0 ∷ 0x8000000000000001 ∷ 0 ∷ []) (42 ∷ 0xffffffffffffffff ∷ []) 0x101 ([]) ([])

abbrev row_901 : Bool
row_901 = rows posted 15 (0 ∷ 0 ∷ 0x8000000000000005 ∷ 0 ∷ []) (42 ∷ 0xffffffffffffffff ∷ []) 0x101 ([]) ([])

abbrev row_902 : Bool
row_902 = rows posted 15 (0 ∷ 0 ∷ 9 ∷ 0 ∷ []) (42 ∷ 0xffffffffffffffff ∷ []) 0x101 ([]) ([])

abbrev row_903 : Bool
row_903 = rows posted 15 (0 ∷ 0 ∷ 0x8000000000000009 ∷ 0 ∷ []) (42 ∷ 0xffffffffffffffff ∷ []) 0x101 ([]) ([])

abbrev row_904 : Bool
row_904 = rows posted 15 (0 ∷ 0 ∷ 5 ∷ 0 ∷ []) (42 ∷ 0xffffffffffffffff ∷ []) 0x101 ([]) ([])

abbrev row_905 : Bool
row_905 = rows posted 15 (0 ∷ 0 ∷ 0x8000000000000001 ∷ 0x8000000000000000 ∷ []) (42 ∷ 0xffffffffffffffff ∷ []) 0x101 ([]) ([])

abbrev row_906 : Bool
row_906 = rows posted 15 (0 ∷ 0 ∷ 0x8000000000000005 ∷ 0x8000000000000000 ∷ []) (42 ∷ 0xffffffffffffffff ∷ []) 0x101 ([]) ([])

abbrev row_907 : Bool
row_907 = rows posted 15 (0 ∷ 0 ∷ 9 ∷ 0x8000000000000000 ∷ []) (42 ∷ 0xffffffffffffffff ∷ []) 0x101 ([]) ([])

abbrev row_908 : Bool
row_908 = rows posted 15 (0 ∷ 0 ∷ 0x8000000000000009 ∷ 0x8000000000000000 ∷ []) (42 ∷ 0xffffffffffffffff ∷ []) 0x101 ([]) ([])

abbrev row_909 : Bool
row_909 = rows posted 15 (0xffffffffffffffff ∷ 0 ∷ 0x8000000000000001 ∷ 0 ∷ []) (42 ∷ 0xffffffffffffffff ∷ []) 0x101 ([]) ([])

abbrev row_910 : Bool
row_910 = rows posted 15 (0xffffffffffffffff ∷ 0 ∷ 0x8000000000000005 ∷ 0 ∷ []) (42 ∷ 0xffffffffffffffff ∷ []) 0x101 ([]) ([])

abbrev row_911 : Bool
row_911 = rows posted 15 (0xffffffffffffffff ∷ 0 ∷ 9 ∷ 0 ∷ []) (42 ∷ 0xffffffffffffffff ∷ []) 0x101 ([]) ([])

abbrev row_912 : Bool
row_912 = rows posted 15 (0xffffffffffffffff ∷ 0 ∷ 0x8000000000000009 ∷ 0 ∷ []) (42 ∷ 0xffffffffffffffff ∷ []) 0x101 ([]) ([])

abbrev row_913 : Bool
row_913 = rows posted 15 (0xffffffffffffffff ∷ 0 ∷ 5 ∷ 0 ∷ []) (42 ∷ 0xffffffffffffffff ∷ []) 0x101 ([]) ([])

abbrev row_914 : Bool
row_914 = rows posted 15 (0xffffffffffffffff ∷ 0 ∷ 0x8000000000000001 ∷ 0x8000000000000000 ∷ []) (42 ∷ 0xffffffffffffffff ∷ []) 0x101 ([]) ([])

abbrev row_915 : Bool
row_915 = rows posted 15 (0xffffffffffffffff ∷ 0 ∷ 0x8000000000000005 ∷ 0x8000000000000000 ∷ []) (42 ∷ 0xffffffffffffffff ∷ []) 0x101 ([]) ([])

abbrev row_916 : Bool
row_916 = rows posted 15 (0xffffffffffffffff ∷ 0 ∷ 9 ∷ 0x8000000000000000 ∷ []) (42 ∷ 0xffffffffffffffff ∷ []) 0x101 ([]) ([])

abbrev row_917 : Bool
row_917 = rows posted 15 (0xffffffffffffffff ∷ 0 ∷ 0x8000000000000009 ∷ 0x8000000000000000 ∷ []) (42 ∷ 0xffffffffffffffff ∷ []) 0x101 ([]) ([])

abbrev row_918 : Bool
row_918 = rows posted 15 (0x8000000000000001 ∷ 0x8000000000000000 ∷ 0x8000000000000001 ∷ 0 ∷ []) (42 ∷ 0 ∷ []) 0x40 (0 ∷ 2 ∷ []) ([])

abbrev row_919 : Bool
row_919 = rows posted 15 (0x8000000000000001 ∷ 0x8000000000000000 ∷ 0x8000000000000005 ∷ 0 ∷ []) (42 ∷ 0 ∷ []) 0x40 (0 ∷ 2 ∷ []) (42 ∷ 4 ∷ [])

abbrev row_920 : Bool
row_920 = rows posted 15 (0x8000000000000001 ∷ 0x8000000000000000 ∷ 9 ∷ 0 ∷ []) (42 ∷ 0 ∷ []) 0x40 (0 ∷ 2 ∷ []) (42 ∷ 4 ∷ [])

abbrev row_921 : Bool
row_921 = rows posted 15 (0x8000000000000001 ∷ 0x8000000000000000 ∷ 0x8000000000000009 ∷ 0 ∷ []) (42 ∷ 0 ∷ []) 0x40 (0 ∷ 2 ∷ []) (42 ∷ 4 ∷ [])

abbrev row_922 : Bool
row_922 = rows posted 15 (0x8000000000000001 ∷ 0x8000000000000000 ∷ 5 ∷ 0 ∷ []) (42 ∷ 0 ∷ []) 0x101 (0 ∷ 1 ∷ []) (42 ∷ 4 ∷ [])

abbrev row_923 : Bool
row_923 = rows posted 15 (0x8000000000000001 ∷ 0x8000000000000000 ∷ 0x8000000000000001 ∷ 0x8000000000000000 ∷ []) (42 ∷ 0 ∷ []) 0x40 (0 ∷ 2 ∷ []) (42 ∷ 4 ∷ [])

abbrev row_924 : Bool
row_924 = rows posted 15 (0x8000000000000001 ∷ 0x8000000000000000 ∷ 0x8000000000000005 ∷ 0x8000000000000000 ∷ []) (42 ∷ 0 ∷ []) 0x40 (0 ∷ 2 ∷ []) (42 ∷ 0x44 ∷ [])

abbrev row_925 : Bool
row_925 = rows posted 15 (0x8000000000000001 ∷ 0x8000000000000000 ∷ 9 ∷ 0x8000000000000000 ∷ []) (42 ∷ 0 ∷ []) 0x40 (0 ∷ 2 ∷ []) (42 ∷ 0x404 ∷ [])

abbrev row_926 : Bool
row_926 = rows posted 15 (0x8000000000000001 ∷ 0x8000000000000000 ∷ 0x8000000000000009 ∷ 0x8000000000000000 ∷ []) (42 ∷ 0 ∷ []) 0x40 (0 ∷ 2 ∷ []) (42 ∷ 0x404 ∷ [])

abbrev row_927 : Bool
row_927 = rows posted 15 (0x8000000000000005 ∷ 0x8000000000000000 ∷ 0x8000000000000001 ∷ 0 ∷ []) (42 ∷ 0 ∷ []) 0x40 (0 ∷ 2 ∷ []) (42 ∷ 0x40 ∷ [])

abbrev row_928 : Bool
row_928 = rows posted 15 (0x8000000000000005 ∷ 0x8000000000000000 ∷ 0x8000000000000005 ∷ 0 ∷ []) (42 ∷ 0 ∷ []) 0x40 (0 ∷ 2 ∷ []) ([])

abbrev row_929 : Bool
row_929 = rows posted 15 (0x8000000000000005 ∷ 0x8000000000000000 ∷ 9 ∷ 0 ∷ []) (42 ∷ 0 ∷ []) 0x40 (0 ∷ 2 ∷ []) (42 ∷ 0x40 ∷ [])

abbrev row_930 : Bool
row_930 = rows posted 15 (0x8000000000000005 ∷ 0x8000000000000000 ∷ 0x8000000000000009 ∷ 0 ∷ []) (42 ∷ 0 ∷ []) 0x40 (0 ∷ 2 ∷ []) (42 ∷ 0x40 ∷ [])

abbrev row_931 : Bool
row_931 = rows posted 15 (0x8000000000000005 ∷ 0x8000000000000000 ∷ 5 ∷ 0 ∷ []) (42 ∷ 0 ∷ []) 0x101 (0 ∷ 1 ∷ []) (42 ∷ 0x40 ∷ [])

abbrev row_932 : Bool
row_932 = rows posted 15 (0x8000000000000005 ∷ 0x8000000000000000 ∷ 0x8000000000000001 ∷ 0x8000000000000000 ∷ []) (42 ∷ 0 ∷ []) 0x40 (0 ∷ 2 ∷ []) (42 ∷ 0x44 ∷ [])

abbrev row_933 : Bool
row_933 = rows posted 15 (0x8000000000000005 ∷ 0x8000000000000000 ∷ 0x8000000000000005 ∷ 0x8000000000000000 ∷ []) (42 ∷ 0 ∷ []) 0x40 (0 ∷ 2 ∷ []) (42 ∷ 0x40 ∷ [])

abbrev row_934 : Bool
row_934 = rows posted 15 (0x8000000000000005 ∷ 0x8000000000000000 ∷ 9 ∷ 0x8000000000000000 ∷ []) (42 ∷ 0 ∷ []) 0x40 (0 ∷ 2 ∷ []) (42 ∷ 0x440 ∷ [])

abbrev row_935 : Bool
row_935 = rows posted 15 (0x8000000000000005 ∷ 0x8000000000000000 ∷ 0x8000000000000009 ∷ 0x8000000000000000 ∷ []) (42 ∷ 0 ∷ []) 0x40 (0 ∷ 2 ∷ []) (42 ∷ 0x440 ∷ [])

abbrev row_936 : Bool
row_936 = rows posted 15 (9 ∷ 0x8000000000000000 ∷ 0x8000000000000001 ∷ 0 ∷ []) (42 ∷ 0 ∷ []) 0x40 (0 ∷ 2 ∷ []) (42 ∷ 0x400 ∷ [])

abbrev row_937 : Bool
row_937 = rows posted 15 (9 ∷ 0x8000000000000000 ∷ 0x8000000000000005 ∷ 0 ∷ []) (42 ∷ 0 ∷ []) 0x40 (0 ∷ 2 ∷ []) (42 ∷ 0x400 ∷ [])

abbrev row_938 : Bool
row_938 = rows posted 15 (9 ∷ 0x8000000000000000 ∷ 9 ∷ 0 ∷ []) (42 ∷ 0 ∷ []) 0x40 (0 ∷ 2 ∷ []) ([])

abbrev row_939 : Bool
row_939 = rows posted 15 (9 ∷ 0x8000000000000000 ∷ 0x8000000000000009 ∷ 0 ∷ []) (42 ∷ 0 ∷ []) 0x40 (0 ∷ 2 ∷ []) ([])

abbrev row_940 : Bool
row_940 = rows posted 15 (9 ∷ 0x8000000000000000 ∷ 5 ∷ 0 ∷ []) (42 ∷ 0 ∷ []) 0x101 (0 ∷ 1 ∷ []) (42 ∷ 0x400 ∷ [])

abbrev row_941 : Bool
row_941 = rows posted 15 (9 ∷ 0x8000000000000000 ∷ 0x8000000000000001 ∷ 0x8000000000000000 ∷ []) (42 ∷ 0 ∷ []) 0x40 (0 ∷ 2 ∷ []) (42 ∷ 0x404 ∷ [])

abbrev row_942 : Bool
row_942 = rows posted 15 (9 ∷ 0x8000000000000000 ∷ 0x8000000000000005 ∷ 0x8000000000000000 ∷ []) (42 ∷ 0 ∷ []) 0x40 (0 ∷ 2 ∷ []) (42 ∷ 0x440 ∷ [])

abbrev row_943 : Bool
row_943 = rows posted 15 (9 ∷ 0x8000000000000000 ∷ 9 ∷ 0x8000000000000000 ∷ []) (42 ∷ 0 ∷ []) 0x40 (0 ∷ 2 ∷ []) (42 ∷ 0x400 ∷ [])

abbrev row_944 : Bool
row_944 = rows posted 15 (9 ∷ 0x8000000000000000 ∷ 0x8000000000000009 ∷ 0x8000000000000000 ∷ []) (42 ∷ 0 ∷ []) 0x40 (0 ∷ 2 ∷ []) (42 ∷ 0x400 ∷ [])

abbrev row_945 : Bool
row_945 = rows posted 15 (0x8000000000000009 ∷ 0x8000000000000000 ∷ 0x8000000000000001 ∷ 0 ∷ []) (42 ∷ 0 ∷ []) 0x40 (0 ∷ 2 ∷ []) (42 ∷ 0x400 ∷ [])

abbrev row_946 : Bool
row_946 = rows posted 15 (0x8000000000000009 ∷ 0x8000000000000000 ∷ 0x8000000000000005 ∷ 0 ∷ []) (42 ∷ 0 ∷ []) 0x40 (0 ∷ 2 ∷ []) (42 ∷ 0x400 ∷ [])

abbrev row_947 : Bool
row_947 = rows posted 15 (0x8000000000000009 ∷ 0x8000000000000000 ∷ 9 ∷ 0 ∷ []) (42 ∷ 0 ∷ []) 0x40 (0 ∷ 2 ∷ []) ([])

abbrev row_948 : Bool
row_948 = rows posted 15 (0x8000000000000009 ∷ 0x8000000000000000 ∷ 0x8000000000000009 ∷ 0 ∷ []) (42 ∷ 0 ∷ []) 0x40 (0 ∷ 2 ∷ []) ([])

abbrev row_949 : Bool
row_949 = rows posted 15 (0x8000000000000009 ∷ 0x8000000000000000 ∷ 5 ∷ 0 ∷ []) (42 ∷ 0 ∷ []) 0x101 (0 ∷ 1 ∷ []) (42 ∷ 0x400 ∷ [])

abbrev row_950 : Bool
row_950 = rows posted 15 (0x8000000000000009 ∷ 0x8000000000000000 ∷ 0x8000000000000001 ∷ 0x8000000000000000 ∷ []) (42 ∷ 0 ∷ []) 0x40 (0 ∷ 2 ∷ []) (42 ∷ 0x404 ∷ [])

abbrev row_951 : Bool
row_951 = rows posted 15 (0x8000000000000009 ∷ 0x8000000000000000 ∷ 0x8000000000000005 ∷ 0x8000000000000000 ∷ []) (42 ∷ 0 ∷ []) 0x40 (0 ∷ 2 ∷ []) (42 ∷ 0x440 ∷ [])

abbrev row_952 : Bool
row_952 = rows posted 15 (0x8000000000000009 ∷ 0x8000000000000000 ∷ 9 ∷ 0x8000000000000000 ∷ []) (42 ∷ 0 ∷ []) 0x40 (0 ∷ 2 ∷ []) (42 ∷ 0x400 ∷ [])

abbrev row_953 : Bool
row_953 = rows posted 15 (0x8000000000000009 ∷ 0x8000000000000000 ∷ 0x8000000000000009 ∷ 0x8000000000000000 ∷ []) (42 ∷ 0 ∷ []) 0x40 (0 ∷ 2 ∷ []) (42 ∷ 0x400 ∷ [])

abbrev row_954 : Bool
row_954 = rows posted 15 (5 ∷ 0x8000000000000000 ∷ 0x8000000000000001 ∷ 0 ∷ []) (42 ∷ 0 ∷ []) 0x101 ([]) ([])

abbrev row_955 : Bool
row_955 = rows posted 15 (5 ∷ 0x8000000000000000 ∷ 0x8000000000000005 ∷ 0 ∷ []) (42 ∷ 0 ∷ []) 0x101 ([]) ([])

abbrev row_956 : Bool
row_956 = rows posted 15 (5 ∷ 0x8000000000000000 ∷ 9 ∷ 0 ∷ []) (42 ∷ 0 ∷ []) 0x101 ([]) ([])

abbrev row_957 : Bool
row_957 = rows posted 15 (5 ∷ 0x8000000000000000 ∷ 0x8000000000000009 ∷ 0 ∷ []) (42 ∷ 0 ∷ []) 0x101 ([]) ([])

abbrev row_958 : Bool
row_958 = rows posted 15 (5 ∷ 0x8000000000000000 ∷ 5 ∷ 0 ∷ []) (42 ∷ 0 ∷ []) 0x101 ([]) ([])

abbrev row_959 : Bool
row_959 = rows posted 15 (5 ∷ 0x8000000000000000 ∷ 0x8000000000000001 ∷ 0x8000000000000000 ∷ []) (42 ∷ 0 ∷ []) 0x101 ([]) ([])

abbrev row_960 : Bool
row_960 = rows posted 15 (5 ∷ 0x8000000000000000 ∷ 0x8000000000000005 ∷ 0x8000000000000000 ∷ []) (42 ∷ 0 ∷ []) 0x101 ([]) ([])

abbrev row_961 : Bool
row_961 = rows posted 15 (5 ∷ 0x8000000000000000 ∷ 9 ∷ 0x8000000000000000 ∷ []) (42 ∷ 0 ∷ []) 0x101 ([]) ([])

abbrev row_962 : Bool
row_962 = rows posted 15 (5 ∷ 0x8000000000000000 ∷ 0x8000000000000009 ∷ 0x8000000000000000 ∷ []) (42 ∷ 0 ∷ []) 0x101 ([]) ([])

abbrev row_963 : Bool
row_963 = rows posted 15 (0x8000000000000002 ∷ 0x8000000000000000 ∷ 0x8000000000000001 ∷ 0 ∷ []) (42 ∷ 0 ∷ []) 0x101 ([]) ([])

abbrev row_964 : Bool
row_964 = rows posted 15 (0x8000000000000002 ∷ 0x8000000000000000 ∷ 0x8000000000000005 ∷ 0 ∷ []) (42 ∷ 0 ∷ []) 0x101 ([]) ([])

abbrev row_965 : Bool
row_965 = rows posted 15 (0x8000000000000002 ∷ 0x8000000000000000 ∷ 9 ∷ 0 ∷ []) (42 ∷ 0 ∷ []) 0x101 ([]) ([])

abbrev row_966 : Bool
row_966 = rows posted 15 (0x8000000000000002 ∷ 0x8000000000000000 ∷ 0x8000000000000009 ∷ 0 ∷ []) (42 ∷ 0 ∷ []) 0x101 ([]) ([])

abbrev row_967 : Bool
row_967 = rows posted 15 (0x8000000000000002 ∷ 0x8000000000000000 ∷ 5 ∷ 0 ∷ []) (42 ∷ 0 ∷ []) 0x101 ([]) ([])

abbrev row_968 : Bool
row_968 = rows posted 15 (0x8000000000000002 ∷ 0x8000000000000000 ∷ 0x8000000000000001 ∷ 0x8000000000000000 ∷ []) (42 ∷ 0 ∷ []) 0x101 ([]) ([])

abbrev row_969 : Bool
row_969 = rows posted 15 (0x8000000000000002 ∷ 0x8000000000000000 ∷ 0x8000000000000005 ∷ 0x8000000000000000 ∷ []) (42 ∷ 0 ∷ []) 0x101 ([]) ([])

abbrev row_970 : Bool
row_970 = rows posted 15 (0x8000000000000002 ∷ 0x8000000000000000 ∷ 9 ∷ 0x8000000000000000 ∷ []) (42 ∷ 0 ∷ []) 0x101 ([]) ([])

abbrev row_971 : Bool
row_971 = rows posted 15 (0x8000000000000002 ∷ 0x8000000000000000 ∷ 0x8000000000000009 ∷ 0x8000000000000000 ∷ []) (42 ∷ 0 ∷ []) 0x101 ([]) ([])

abbrev row_972 : Bool
row_972 = rows posted 15 (0 ∷ 0x8000000000000000 ∷ 0x8000000000000001 ∷ 0 ∷ []) (42 ∷ 0 ∷ []) 0x101 ([]) ([])

abbrev row_973 : Bool
row_973 = rows posted 15 (0 ∷ 0x8000000000000000 ∷ 0x8000000000000005 ∷ 0 ∷ []) (42 ∷ 0 ∷ []) 0x101 ([]) ([])

abbrev row_974 : Bool
row_974 = rows posted 15 (0 ∷ 0x8000000000000000 ∷ 9 ∷ 0 ∷ []) (42 ∷ 0 ∷ []) 0x101 ([]) ([])

abbrev row_975 : Bool
row_975 = rows posted 15 (0 ∷ 0x8000000000000000 ∷ 0x8000000000000009 ∷ 0 ∷ []) (42 ∷ 0 ∷ []) 0x101 ([]) ([])

abbrev row_976 : Bool
row_976 = rows posted 15 (0 ∷ 0x8000000000000000 ∷ 5 ∷ 0 ∷ []) (42 ∷ 0 ∷ []) 0x101 ([]) ([])

abbrev row_977 : Bool
row_977 = rows posted 15 (0 ∷ 0x8000000000000000 ∷ 0x8000000000000001 ∷ 0x8000000000000000 ∷ []) (42 ∷ 0 ∷ []) 0x101 ([]) ([])

abbrev row_978 : Bool
row_978 = rows posted 15 (0 ∷ 0x8000000000000000 ∷ 0x8000000000000005 ∷ 0x8000000000000000 ∷ []) (42 ∷ 0 ∷ []) 0x101 ([]) ([])

abbrev row_979 : Bool
row_979 = rows posted 15 (0 ∷ 0x8000000000000000 ∷ 9 ∷ 0x8000000000000000 ∷ []) (42 ∷ 0 ∷ []) 0x101 ([]) ([])

abbrev row_980 : Bool
row_980 = rows posted 15 (0 ∷ 0x8000000000000000 ∷ 0x8000000000000009 ∷ 0x8000000000000000 ∷ []) (42 ∷ 0 ∷ []) 0x101 ([]) ([])

abbrev row_981 : Bool
row_981 = rows posted 15 (0xffffffffffffffff ∷ 0x8000000000000000 ∷ 0x8000000000000001 ∷ 0 ∷ []) (42 ∷ 0 ∷ []) 0x101 ([]) ([])

abbrev row_982 : Bool
row_982 = rows posted 15 (0xffffffffffffffff ∷ 0x8000000000000000 ∷ 0x8000000000000005 ∷ 0 ∷ []) (42 ∷ 0 ∷ []) 0x101 ([]) ([])

abbrev row_983 : Bool
row_983 = rows posted 15 (0xffffffffffffffff ∷ 0x8000000000000000 ∷ 9 ∷ 0 ∷ []) (42 ∷ 0 ∷ []) 0x101 ([]) ([])

abbrev row_984 : Bool
row_984 = rows posted 15 (0xffffffffffffffff ∷ 0x8000000000000000 ∷ 0x8000000000000009 ∷ 0 ∷ []) (42 ∷ 0 ∷ []) 0x101 ([]) ([])

abbrev row_985 : Bool
row_985 = rows posted 15 (0xffffffffffffffff ∷ 0x8000000000000000 ∷ 5 ∷ 0 ∷ []) (42 ∷ 0 ∷ []) 0x101 ([]) ([])

abbrev row_986 : Bool
row_986 = rows posted 15 (0xffffffffffffffff ∷ 0x8000000000000000 ∷ 0x8000000000000001 ∷ 0x8000000000000000 ∷ []) (42 ∷ 0 ∷ []) 0x101 ([]) ([])

abbrev row_987 : Bool
row_987 = rows posted 15 (0xffffffffffffffff ∷ 0x8000000000000000 ∷ 0x8000000000000005 ∷ 0x8000000000000000 ∷ []) (42 ∷ 0 ∷ []) 0x101 ([]) ([])

abbrev row_988 : Bool
row_988 = rows posted 15 (0xffffffffffffffff ∷ 0x8000000000000000 ∷ 9 ∷ 0x8000000000000000 ∷ []) (42 ∷ 0 ∷ []) 0x101 ([]) ([])

abbrev row_989 : Bool
row_989 = rows posted 15 (0xffffffffffffffff ∷ 0x8000000000000000 ∷ 0x8000000000000009 ∷ 0x8000000000000000 ∷ []) (42 ∷ 0 ∷ []) 0x101 ([]) ([])

abbrev row_990 : Bool
row_990 = rows posted 15 (5 ∷ 0 ∷ 0x8000000000000005 ∷ 0 ∷ 0x8000000000000001 ∷ 0 ∷ 0x8000000000000009 ∷ 0 ∷ 0x8000000000000009 ∷ 0x8000000000000000 ∷ 9 ∷ 0 ∷ 9 ∷ 0x8000000000000000 ∷ 0x8000000000000005 ∷ 0 ∷ 0x8000000000000009 ∷ 0x8000000000000000 ∷ 9 ∷ 0x8000000000000000 ∷ 0x8000000000000005 ∷ 0x8000000000000000 ∷ 0x8000000000000001 ∷ 0x8000000000000000 ∷ 0x8000000000000009 ∷ 0 ∷ 9 ∷ 0 ∷ 0x8000000000000005 ∷ 0 ∷ 0x8000000000000001 ∷ 0 ∷ 9 ∷ 0 ∷ 0x8000000000000009 ∷ 0 ∷ 0x8000000000000001 ∷ 0 ∷ 0x8000000000000005 ∷ 0 ∷ 0x8000000000000005 ∷ 0x8000000000000000 ∷ 9 ∷ 0x8000000000000000 ∷ 0x8000000000000009 ∷ 0x8000000000000000 ∷ 0x8000000000000001 ∷ 0x8000000000000000 ∷ 9 ∷ 0 ∷ 0x8000000000000005 ∷ 0 ∷ 0x8000000000000001 ∷ 0x8000000000000000 ∷ 0x8000000000000001 ∷ 0 ∷ 9 ∷ 0x8000000000000000 ∷ 0x8000000000000009 ∷ 0 ∷ 0x8000000000000009 ∷ 0x8000000000000000 ∷ 0x8000000000000005 ∷ 0x8000000000000000 ∷ 0x8000000000000009 ∷ 0x8000000000000000 ∷ 9 ∷ 0x8000000000000000 ∷ 0x8000000000000009 ∷ 0 ∷ 0x8000000000000005 ∷ 0x8000000000000000 ∷ 9 ∷ 0 ∷ 0x8000000000000001 ∷ 0 ∷ 0x8000000000000005 ∷ 0 ∷ 0x8000000000000001 ∷ 0x8000000000000000 ∷ 0x8000000000000001 ∷ 0x8000000000000000 ∷ 0x8000000000000005 ∷ 0x8000000000000000 ∷ 9 ∷ 0x8000000000000000 ∷ 0x8000000000000009 ∷ 0x8000000000000000 ∷ 0x8000000000000001 ∷ 0 ∷ 0x8000000000000005 ∷ 0 ∷ 9 ∷ 0 ∷ 0x8000000000000009 ∷ 0 ∷ 0x8000000000000005 ∷ 0x8000000000000000 ∷ 0x8000000000000009 ∷ 0 ∷ 0x8000000000000001 ∷ 0x8000000000000000 ∷ 9 ∷ 0 ∷ 0x8000000000000009 ∷ 0x8000000000000000 ∷ 0x8000000000000005 ∷ 0 ∷ 9 ∷ 0x8000000000000000 ∷ 0x8000000000000001 ∷ 0 ∷ 0x8000000000000009 ∷ 0 ∷ 0x8000000000000001 ∷ 0x8000000000000000 ∷ 9 ∷ 0 ∷ 0x8000000000000005 ∷ 0x8000000000000000 ∷ 0x8000000000000005 ∷ 0 ∷ 9 ∷ 0x8000000000000000 ∷ 0x8000000000000001 ∷ 0 ∷ 0x8000000000000009 ∷ 0x8000000000000000 ∷ []) (42 ∷ 0 ∷ []) 0x101 ([]) ([])

abbrev row_991 : Bool
row_991 = rows posted 15 (0x8000000000000001 ∷ 0x8000000000000000 ∷ 0x8000000000000002 ∷ 0 ∷ 0x8000000000000001 ∷ 0 ∷ 0x8000000000000009 ∷ 0 ∷ 0x8000000000000009 ∷ 0x8000000000000000 ∷ 9 ∷ 0 ∷ 9 ∷ 0x8000000000000000 ∷ 0x8000000000000005 ∷ 0 ∷ 0x8000000000000009 ∷ 0x8000000000000000 ∷ 9 ∷ 0x8000000000000000 ∷ 0x8000000000000005 ∷ 0x8000000000000000 ∷ 0x8000000000000001 ∷ 0x8000000000000000 ∷ 0x8000000000000009 ∷ 0 ∷ 9 ∷ 0 ∷ 0x8000000000000005 ∷ 0 ∷ 0x8000000000000001 ∷ 0 ∷ 9 ∷ 0 ∷ 0x8000000000000009 ∷ 0 ∷ 0x8000000000000001 ∷ 0 ∷ 0x8000000000000005 ∷ 0 ∷ 0x8000000000000005 ∷ 0x8000000000000000 ∷ 9 ∷ 0x8000000000000000 ∷ 0x8000000000000009 ∷ 0x8000000000000000 ∷ 0x8000000000000001 ∷ 0x8000000000000000 ∷ 9 ∷ 0 ∷ 0x8000000000000005 ∷ 0 ∷ 0x8000000000000001 ∷ 0x8000000000000000 ∷ 0x8000000000000001 ∷ 0 ∷ 9 ∷ 0x8000000000000000 ∷ 0x8000000000000009 ∷ 0 ∷ 0x8000000000000009 ∷ 0x8000000000000000 ∷ 0x8000000000000005 ∷ 0x8000000000000000 ∷ 0x8000000000000009 ∷ 0x8000000000000000 ∷ 9 ∷ 0x8000000000000000 ∷ 0x8000000000000009 ∷ 0 ∷ 0x8000000000000005 ∷ 0x8000000000000000 ∷ 9 ∷ 0 ∷ 0x8000000000000001 ∷ 0 ∷ 0x8000000000000005 ∷ 0 ∷ 0x8000000000000001 ∷ 0x8000000000000000 ∷ 0x8000000000000001 ∷ 0x8000000000000000 ∷ 0x8000000000000005 ∷ 0x8000000000000000 ∷ 9 ∷ 0x8000000000000000 ∷ 0x8000000000000009 ∷ 0x8000000000000000 ∷ 0x8000000000000001 ∷ 0 ∷ 0x8000000000000005 ∷ 0 ∷ 9 ∷ 0 ∷ 0x8000000000000009 ∷ 0 ∷ 0x8000000000000005 ∷ 0x8000000000000000 ∷ 0x8000000000000009 ∷ 0 ∷ 0x8000000000000001 ∷ 0x8000000000000000 ∷ 9 ∷ 0 ∷ 0x8000000000000009 ∷ 0x8000000000000000 ∷ 0x8000000000000005 ∷ 0 ∷ 9 ∷ 0x8000000000000000 ∷ 0x8000000000000001 ∷ 0 ∷ 0x8000000000000009 ∷ 0 ∷ 0x8000000000000001 ∷ 0x8000000000000000 ∷ 9 ∷ 0 ∷ 0x8000000000000005 ∷ 0x8000000000000000 ∷ 0x8000000000000005 ∷ 0 ∷ 9 ∷ 0x8000000000000000 ∷ 0x8000000000000001 ∷ 0 ∷ 0x8000000000000009 ∷ 0x8000000000000000 ∷ []) (42 ∷ 0 ∷ []) 0x101 (0 ∷ 1 ∷ []) (42 ∷ 4 ∷ [])

abbrev row_992 : Bool
row_992 = rows posted 15 (0x8000000000000001 ∷ 0x8000000000000000 ∷ 0x8000000000000005 ∷ 0 ∷ 0 ∷ 0 ∷ 0x8000000000000009 ∷ 0 ∷ 0x8000000000000009 ∷ 0x8000000000000000 ∷ 9 ∷ 0 ∷ 9 ∷ 0x8000000000000000 ∷ 0x8000000000000005 ∷ 0 ∷ 0x8000000000000009 ∷ 0x8000000000000000 ∷ 9 ∷ 0x8000000000000000 ∷ 0x8000000000000005 ∷ 0x8000000000000000 ∷ 0x8000000000000001 ∷ 0x8000000000000000 ∷ 0x8000000000000009 ∷ 0 ∷ 9 ∷ 0 ∷ 0x8000000000000005 ∷ 0 ∷ 0x8000000000000001 ∷ 0 ∷ 9 ∷ 0 ∷ 0x8000000000000009 ∷ 0 ∷ 0x8000000000000001 ∷ 0 ∷ 0x8000000000000005 ∷ 0 ∷ 0x8000000000000005 ∷ 0x8000000000000000 ∷ 9 ∷ 0x8000000000000000 ∷ 0x8000000000000009 ∷ 0x8000000000000000 ∷ 0x8000000000000001 ∷ 0x8000000000000000 ∷ 9 ∷ 0 ∷ 0x8000000000000005 ∷ 0 ∷ 0x8000000000000001 ∷ 0x8000000000000000 ∷ 0x8000000000000001 ∷ 0 ∷ 9 ∷ 0x8000000000000000 ∷ 0x8000000000000009 ∷ 0 ∷ 0x8000000000000009 ∷ 0x8000000000000000 ∷ 0x8000000000000005 ∷ 0x8000000000000000 ∷ 0x8000000000000009 ∷ 0x8000000000000000 ∷ 9 ∷ 0x8000000000000000 ∷ 0x8000000000000009 ∷ 0 ∷ 0x8000000000000005 ∷ 0x8000000000000000 ∷ 9 ∷ 0 ∷ 0x8000000000000001 ∷ 0 ∷ 0x8000000000000005 ∷ 0 ∷ 0x8000000000000001 ∷ 0x8000000000000000 ∷ 0x8000000000000001 ∷ 0x8000000000000000 ∷ 0x8000000000000005 ∷ 0x8000000000000000 ∷ 9 ∷ 0x8000000000000000 ∷ 0x8000000000000009 ∷ 0x8000000000000000 ∷ 0x8000000000000001 ∷ 0 ∷ 0x8000000000000005 ∷ 0 ∷ 9 ∷ 0 ∷ 0x8000000000000009 ∷ 0 ∷ 0x8000000000000005 ∷ 0x8000000000000000 ∷ 0x8000000000000009 ∷ 0 ∷ 0x8000000000000001 ∷ 0x8000000000000000 ∷ 9 ∷ 0 ∷ 0x8000000000000009 ∷ 0x8000000000000000 ∷ 0x8000000000000005 ∷ 0 ∷ 9 ∷ 0x8000000000000000 ∷ 0x8000000000000001 ∷ 0 ∷ 0x8000000000000009 ∷ 0 ∷ 0x8000000000000001 ∷ 0x8000000000000000 ∷ 9 ∷ 0 ∷ 0x8000000000000005 ∷ 0x8000000000000000 ∷ 0x8000000000000005 ∷ 0 ∷ 9 ∷ 0x8000000000000000 ∷ 0x8000000000000001 ∷ 0 ∷ 0x8000000000000009 ∷ 0x8000000000000000 ∷ []) (42 ∷ 0 ∷ []) 0x101 (0 ∷ 2 ∷ []) (42 ∷ 4 ∷ [])

abbrev row_993 : Bool
row_993 = rows posted 15 (0x8000000000000001 ∷ 0x8000000000000000 ∷ 0x8000000000000005 ∷ 0 ∷ 0x8000000000000001 ∷ 0 ∷ 0xffffffffffffffff ∷ 0 ∷ 0x8000000000000009 ∷ 0x8000000000000000 ∷ 9 ∷ 0 ∷ 9 ∷ 0x8000000000000000 ∷ 0x8000000000000005 ∷ 0 ∷ 0x8000000000000009 ∷ 0x8000000000000000 ∷ 9 ∷ 0x8000000000000000 ∷ 0x8000000000000005 ∷ 0x8000000000000000 ∷ 0x8000000000000001 ∷ 0x8000000000000000 ∷ 0x8000000000000009 ∷ 0 ∷ 9 ∷ 0 ∷ 0x8000000000000005 ∷ 0 ∷ 0x8000000000000001 ∷ 0 ∷ 9 ∷ 0 ∷ 0x8000000000000009 ∷ 0 ∷ 0x8000000000000001 ∷ 0 ∷ 0x8000000000000005 ∷ 0 ∷ 0x8000000000000005 ∷ 0x8000000000000000 ∷ 9 ∷ 0x8000000000000000 ∷ 0x8000000000000009 ∷ 0x8000000000000000 ∷ 0x8000000000000001 ∷ 0x8000000000000000 ∷ 9 ∷ 0 ∷ 0x8000000000000005 ∷ 0 ∷ 0x8000000000000001 ∷ 0x8000000000000000 ∷ 0x8000000000000001 ∷ 0 ∷ 9 ∷ 0x8000000000000000 ∷ 0x8000000000000009 ∷ 0 ∷ 0x8000000000000009 ∷ 0x8000000000000000 ∷ 0x8000000000000005 ∷ 0x8000000000000000 ∷ 0x8000000000000009 ∷ 0x8000000000000000 ∷ 9 ∷ 0x8000000000000000 ∷ 0x8000000000000009 ∷ 0 ∷ 0x8000000000000005 ∷ 0x8000000000000000 ∷ 9 ∷ 0 ∷ 0x8000000000000001 ∷ 0 ∷ 0x8000000000000005 ∷ 0 ∷ 0x8000000000000001 ∷ 0x8000000000000000 ∷ 0x8000000000000001 ∷ 0x8000000000000000 ∷ 0x8000000000000005 ∷ 0x8000000000000000 ∷ 9 ∷ 0x8000000000000000 ∷ 0x8000000000000009 ∷ 0x8000000000000000 ∷ 0x8000000000000001 ∷ 0 ∷ 0x8000000000000005 ∷ 0 ∷ 9 ∷ 0 ∷ 0x8000000000000009 ∷ 0 ∷ 0x8000000000000005 ∷ 0x8000000000000000 ∷ 0x8000000000000009 ∷ 0 ∷ 0x8000000000000001 ∷ 0x8000000000000000 ∷ 9 ∷ 0 ∷ 0x8000000000000009 ∷ 0x8000000000000000 ∷ 0x8000000000000005 ∷ 0 ∷ 9 ∷ 0x8000000000000000 ∷ 0x8000000000000001 ∷ 0 ∷ 0x8000000000000009 ∷ 0 ∷ 0x8000000000000001 ∷ 0x8000000000000000 ∷ 9 ∷ 0 ∷ 0x8000000000000005 ∷ 0x8000000000000000 ∷ 0x8000000000000005 ∷ 0 ∷ 9 ∷ 0x8000000000000000 ∷ 0x8000000000000001 ∷ 0 ∷ 0x8000000000000009 ∷ 0x8000000000000000 ∷ []) (42 ∷ 0 ∷ []) 0x101 (0 ∷ 3 ∷ []) ([])

abbrev row_994 : Bool
row_994 = rows posted 15 (0x8000000000000001 ∷ 0x8000000000000000 ∷ 0x8000000000000005 ∷ 0 ∷ 0x8000000000000001 ∷ 0 ∷ 0x8000000000000009 ∷ 0 ∷ 5 ∷ 0x8000000000000000 ∷ 9 ∷ 0 ∷ 9 ∷ 0x8000000000000000 ∷ 0x8000000000000005 ∷ 0 ∷ 0x8000000000000009 ∷ 0x8000000000000000 ∷ 9 ∷ 0x8000000000000000 ∷ 0x8000000000000005 ∷ 0x8000000000000000 ∷ 0x8000000000000001 ∷ 0x8000000000000000 ∷ 0x8000000000000009 ∷ 0 ∷ 9 ∷ 0 ∷ 0x8000000000000005 ∷ 0 ∷ 0x8000000000000001 ∷ 0 ∷ 9 ∷ 0 ∷ 0x8000000000000009 ∷ 0 ∷ 0x8000000000000001 ∷ 0 ∷ 0x8000000000000005 ∷ 0 ∷ 0x8000000000000005 ∷ 0x8000000000000000 ∷ 9 ∷ 0x8000000000000000 ∷ 0x8000000000000009 ∷ 0x8000000000000000 ∷ 0x8000000000000001 ∷ 0x8000000000000000 ∷ 9 ∷ 0 ∷ 0x8000000000000005 ∷ 0 ∷ 0x8000000000000001 ∷ 0x8000000000000000 ∷ 0x8000000000000001 ∷ 0 ∷ 9 ∷ 0x8000000000000000 ∷ 0x8000000000000009 ∷ 0 ∷ 0x8000000000000009 ∷ 0x8000000000000000 ∷ 0x8000000000000005 ∷ 0x8000000000000000 ∷ 0x8000000000000009 ∷ 0x8000000000000000 ∷ 9 ∷ 0x8000000000000000 ∷ 0x8000000000000009 ∷ 0 ∷ 0x8000000000000005 ∷ 0x8000000000000000 ∷ 9 ∷ 0 ∷ 0x8000000000000001 ∷ 0 ∷ 0x8000000000000005 ∷ 0 ∷ 0x8000000000000001 ∷ 0x8000000000000000 ∷ 0x8000000000000001 ∷ 0x8000000000000000 ∷ 0x8000000000000005 ∷ 0x8000000000000000 ∷ 9 ∷ 0x8000000000000000 ∷ 0x8000000000000009 ∷ 0x8000000000000000 ∷ 0x8000000000000001 ∷ 0 ∷ 0x8000000000000005 ∷ 0 ∷ 9 ∷ 0 ∷ 0x8000000000000009 ∷ 0 ∷ 0x8000000000000005 ∷ 0x8000000000000000 ∷ 0x8000000000000009 ∷ 0 ∷ 0x8000000000000001 ∷ 0x8000000000000000 ∷ 9 ∷ 0 ∷ 0x8000000000000009 ∷ 0x8000000000000000 ∷ 0x8000000000000005 ∷ 0 ∷ 9 ∷ 0x8000000000000000 ∷ 0x8000000000000001 ∷ 0 ∷ 0x8000000000000009 ∷ 0 ∷ 0x8000000000000001 ∷ 0x8000000000000000 ∷ 9 ∷ 0 ∷ 0x8000000000000005 ∷ 0x8000000000000000 ∷ 0x8000000000000005 ∷ 0 ∷ 9 ∷ 0x8000000000000000 ∷ 0x8000000000000001 ∷ 0 ∷ 0x8000000000000009 ∷ 0x8000000000000000 ∷ []) (42 ∷ 0 ∷ []) 0x101 (0 ∷ 4 ∷ []) ([])

abbrev row_995 : Bool
row_995 = rows posted 15 (0x8000000000000001 ∷ 0x8000000000000000 ∷ 0x8000000000000005 ∷ 0 ∷ 0x8000000000000001 ∷ 0 ∷ 0x8000000000000009 ∷ 0 ∷ 0x8000000000000009 ∷ 0x8000000000000000 ∷ 0x8000000000000002 ∷ 0x8000000000000000 ∷ 9 ∷ 0x8000000000000000 ∷ 0x8000000000000005 ∷ 0 ∷ 0x8000000000000009 ∷ 0x8000000000000000 ∷ 9 ∷ 0x8000000000000000 ∷ 0x8000000000000005 ∷ 0x8000000000000000 ∷ 0x8000000000000001 ∷ 0x8000000000000000 ∷ 0x8000000000000009 ∷ 0 ∷ 9 ∷ 0 ∷ 0x8000000000000005 ∷ 0 ∷ 0x8000000000000001 ∷ 0 ∷ 9 ∷ 0 ∷ 0x8000000000000009 ∷ 0 ∷ 0x8000000000000001 ∷ 0 ∷ 0x8000000000000005 ∷ 0 ∷ 0x8000000000000005 ∷ 0x8000000000000000 ∷ 9 ∷ 0x8000000000000000 ∷ 0x8000000000000009 ∷ 0x8000000000000000 ∷ 0x8000000000000001 ∷ 0x8000000000000000 ∷ 9 ∷ 0 ∷ 0x8000000000000005 ∷ 0 ∷ 0x8000000000000001 ∷ 0x8000000000000000 ∷ 0x8000000000000001 ∷ 0 ∷ 9 ∷ 0x8000000000000000 ∷ 0x8000000000000009 ∷ 0 ∷ 0x8000000000000009 ∷ 0x8000000000000000 ∷ 0x8000000000000005 ∷ 0x8000000000000000 ∷ 0x8000000000000009 ∷ 0x8000000000000000 ∷ 9 ∷ 0x8000000000000000 ∷ 0x8000000000000009 ∷ 0 ∷ 0x8000000000000005 ∷ 0x8000000000000000 ∷ 9 ∷ 0 ∷ 0x8000000000000001 ∷ 0 ∷ 0x8000000000000005 ∷ 0 ∷ 0x8000000000000001 ∷ 0x8000000000000000 ∷ 0x8000000000000001 ∷ 0x8000000000000000 ∷ 0x8000000000000005 ∷ 0x8000000000000000 ∷ 9 ∷ 0x8000000000000000 ∷ 0x8000000000000009 ∷ 0x8000000000000000 ∷ 0x8000000000000001 ∷ 0 ∷ 0x8000000000000005 ∷ 0 ∷ 9 ∷ 0 ∷ 0x8000000000000009 ∷ 0 ∷ 0x8000000000000005 ∷ 0x8000000000000000 ∷ 0x8000000000000009 ∷ 0 ∷ 0x8000000000000001 ∷ 0x8000000000000000 ∷ 9 ∷ 0 ∷ 0x8000000000000009 ∷ 0x8000000000000000 ∷ 0x8000000000000005 ∷ 0 ∷ 9 ∷ 0x8000000000000000 ∷ 0x8000000000000001 ∷ 0 ∷ 0x8000000000000009 ∷ 0 ∷ 0x8000000000000001 ∷ 0x8000000000000000 ∷ 9 ∷ 0 ∷ 0x8000000000000005 ∷ 0x8000000000000000 ∷ 0x8000000000000005 ∷ 0 ∷ 9 ∷ 0x8000000000000000 ∷ 0x8000000000000001 ∷ 0 ∷ 0x8000000000000009 ∷ 0x8000000000000000 ∷ []) (42 ∷ 0 ∷ []) 0x101 (0 ∷ 5 ∷ []) (42 ∷ 0x400 ∷ [])

abbrev row_996 : Bool
row_996 = rows posted 15 (0x8000000000000001 ∷ 0x8000000000000000 ∷ 0x8000000000000005 ∷ 0 ∷ 0x8000000000000001 ∷ 0 ∷ 0x8000000000000009 ∷ 0 ∷ 0x8000000000000009 ∷ 0x8000000000000000 ∷ 9 ∷ 0 ∷ 0 ∷ 0x8000000000000000 ∷ 0x8000000000000005 ∷ 0 ∷ 0x8000000000000009 ∷ 0x8000000000000000 ∷ 9 ∷ 0x8000000000000000 ∷ 0x8000000000000005 ∷ 0x8000000000000000 ∷ 0x8000000000000001 ∷ 0x8000000000000000 ∷ 0x8000000000000009 ∷ 0 ∷ 9 ∷ 0 ∷ 0x8000000000000005 ∷ 0 ∷ 0x8000000000000001 ∷ 0 ∷ 9 ∷ 0 ∷ 0x8000000000000009 ∷ 0 ∷ 0x8000000000000001 ∷ 0 ∷ 0x8000000000000005 ∷ 0 ∷ 0x8000000000000005 ∷ 0x8000000000000000 ∷ 9 ∷ 0x8000000000000000 ∷ 0x8000000000000009 ∷ 0x8000000000000000 ∷ 0x8000000000000001 ∷ 0x8000000000000000 ∷ 9 ∷ 0 ∷ 0x8000000000000005 ∷ 0 ∷ 0x8000000000000001 ∷ 0x8000000000000000 ∷ 0x8000000000000001 ∷ 0 ∷ 9 ∷ 0x8000000000000000 ∷ 0x8000000000000009 ∷ 0 ∷ 0x8000000000000009 ∷ 0x8000000000000000 ∷ 0x8000000000000005 ∷ 0x8000000000000000 ∷ 0x8000000000000009 ∷ 0x8000000000000000 ∷ 9 ∷ 0x8000000000000000 ∷ 0x8000000000000009 ∷ 0 ∷ 0x8000000000000005 ∷ 0x8000000000000000 ∷ 9 ∷ 0 ∷ 0x8000000000000001 ∷ 0 ∷ 0x8000000000000005 ∷ 0 ∷ 0x8000000000000001 ∷ 0x8000000000000000 ∷ 0x8000000000000001 ∷ 0x8000000000000000 ∷ 0x8000000000000005 ∷ 0x8000000000000000 ∷ 9 ∷ 0x8000000000000000 ∷ 0x8000000000000009 ∷ 0x8000000000000000 ∷ 0x8000000000000001 ∷ 0 ∷ 0x8000000000000005 ∷ 0 ∷ 9 ∷ 0 ∷ 0x8000000000000009 ∷ 0 ∷ 0x8000000000000005 ∷ 0x8000000000000000 ∷ 0x8000000000000009 ∷ 0 ∷ 0x8000000000000001 ∷ 0x8000000000000000 ∷ 9 ∷ 0 ∷ 0x8000000000000009 ∷ 0x8000000000000000 ∷ 0x8000000000000005 ∷ 0 ∷ 9 ∷ 0x8000000000000000 ∷ 0x8000000000000001 ∷ 0 ∷ 0x8000000000000009 ∷ 0 ∷ 0x8000000000000001 ∷ 0x8000000000000000 ∷ 9 ∷ 0 ∷ 0x8000000000000005 ∷ 0x8000000000000000 ∷ 0x8000000000000005 ∷ 0 ∷ 9 ∷ 0x8000000000000000 ∷ 0x8000000000000001 ∷ 0 ∷ 0x8000000000000009 ∷ 0x8000000000000000 ∷ []) (42 ∷ 0 ∷ []) 0x101 (0 ∷ 6 ∷ []) ([])

abbrev row_997 : Bool
row_997 = rows posted 15 (0x8000000000000001 ∷ 0x8000000000000000 ∷ 0x8000000000000005 ∷ 0 ∷ 0x8000000000000001 ∷ 0 ∷ 0x8000000000000009 ∷ 0 ∷ 0x8000000000000009 ∷ 0x8000000000000000 ∷ 9 ∷ 0 ∷ 9 ∷ 0x8000000000000000 ∷ 0xffffffffffffffff ∷ 0x8000000000000000 ∷ 0x8000000000000009 ∷ 0x8000000000000000 ∷ 9 ∷ 0x8000000000000000 ∷ 0x8000000000000005 ∷ 0x8000000000000000 ∷ 0x8000000000000001 ∷ 0x8000000000000000 ∷ 0x8000000000000009 ∷ 0 ∷ 9 ∷ 0 ∷ 0x8000000000000005 ∷ 0 ∷ 0x8000000000000001 ∷ 0 ∷ 9 ∷ 0 ∷ 0x8000000000000009 ∷ 0 ∷ 0x8000000000000001 ∷ 0 ∷ 0x8000000000000005 ∷ 0 ∷ 0x8000000000000005 ∷ 0x8000000000000000 ∷ 9 ∷ 0x8000000000000000 ∷ 0x8000000000000009 ∷ 0x8000000000000000 ∷ 0x8000000000000001 ∷ 0x8000000000000000 ∷ 9 ∷ 0 ∷ 0x8000000000000005 ∷ 0 ∷ 0x8000000000000001 ∷ 0x8000000000000000 ∷ 0x8000000000000001 ∷ 0 ∷ 9 ∷ 0x8000000000000000 ∷ 0x8000000000000009 ∷ 0 ∷ 0x8000000000000009 ∷ 0x8000000000000000 ∷ 0x8000000000000005 ∷ 0x8000000000000000 ∷ 0x8000000000000009 ∷ 0x8000000000000000 ∷ 9 ∷ 0x8000000000000000 ∷ 0x8000000000000009 ∷ 0 ∷ 0x8000000000000005 ∷ 0x8000000000000000 ∷ 9 ∷ 0 ∷ 0x8000000000000001 ∷ 0 ∷ 0x8000000000000005 ∷ 0 ∷ 0x8000000000000001 ∷ 0x8000000000000000 ∷ 0x8000000000000001 ∷ 0x8000000000000000 ∷ 0x8000000000000005 ∷ 0x8000000000000000 ∷ 9 ∷ 0x8000000000000000 ∷ 0x8000000000000009 ∷ 0x8000000000000000 ∷ 0x8000000000000001 ∷ 0 ∷ 0x8000000000000005 ∷ 0 ∷ 9 ∷ 0 ∷ 0x8000000000000009 ∷ 0 ∷ 0x8000000000000005 ∷ 0x8000000000000000 ∷ 0x8000000000000009 ∷ 0 ∷ 0x8000000000000001 ∷ 0x8000000000000000 ∷ 9 ∷ 0 ∷ 0x8000000000000009 ∷ 0x8000000000000000 ∷ 0x8000000000000005 ∷ 0 ∷ 9 ∷ 0x8000000000000000 ∷ 0x8000000000000001 ∷ 0 ∷ 0x8000000000000009 ∷ 0 ∷ 0x8000000000000001 ∷ 0x8000000000000000 ∷ 9 ∷ 0 ∷ 0x8000000000000005 ∷ 0x8000000000000000 ∷ 0x8000000000000005 ∷ 0 ∷ 9 ∷ 0x8000000000000000 ∷ 0x8000000000000001 ∷ 0 ∷ 0x8000000000000009 ∷ 0x8000000000000000 ∷ []) (42 ∷ 0 ∷ []) 0x101 (0 ∷ 7 ∷ []) (42 ∷ 0x400 ∷ [])

abbrev row_998 : Bool
row_998 = rows posted 15 (0x8000000000000001 ∷ 0x8000000000000000 ∷ 0x8000000000000005 ∷ 0 ∷ 0x8000000000000001 ∷ 0 ∷ 0x8000000000000009 ∷ 0 ∷ 0x8000000000000009 ∷ 0x8000000000000000 ∷ 9 ∷ 0 ∷ 9 ∷ 0x8000000000000000 ∷ 0x8000000000000005 ∷ 0 ∷ 5 ∷ 0 ∷ 9 ∷ 0x8000000000000000 ∷ 0x8000000000000005 ∷ 0x8000000000000000 ∷ 0x8000000000000001 ∷ 0x8000000000000000 ∷ 0x8000000000000009 ∷ 0 ∷ 9 ∷ 0 ∷ 0x8000000000000005 ∷ 0 ∷ 0x8000000000000001 ∷ 0 ∷ 9 ∷ 0 ∷ 0x8000000000000009 ∷ 0 ∷ 0x8000000000000001 ∷ 0 ∷ 0x8000000000000005 ∷ 0 ∷ 0x8000000000000005 ∷ 0x8000000000000000 ∷ 9 ∷ 0x8000000000000000 ∷ 0x8000000000000009 ∷ 0x8000000000000000 ∷ 0x8000000000000001 ∷ 0x8000000000000000 ∷ 9 ∷ 0 ∷ 0x8000000000000005 ∷ 0 ∷ 0x8000000000000001 ∷ 0x8000000000000000 ∷ 0x8000000000000001 ∷ 0 ∷ 9 ∷ 0x8000000000000000 ∷ 0x8000000000000009 ∷ 0 ∷ 0x8000000000000009 ∷ 0x8000000000000000 ∷ 0x8000000000000005 ∷ 0x8000000000000000 ∷ 0x8000000000000009 ∷ 0x8000000000000000 ∷ 9 ∷ 0x8000000000000000 ∷ 0x8000000000000009 ∷ 0 ∷ 0x8000000000000005 ∷ 0x8000000000000000 ∷ 9 ∷ 0 ∷ 0x8000000000000001 ∷ 0 ∷ 0x8000000000000005 ∷ 0 ∷ 0x8000000000000001 ∷ 0x8000000000000000 ∷ 0x8000000000000001 ∷ 0x8000000000000000 ∷ 0x8000000000000005 ∷ 0x8000000000000000 ∷ 9 ∷ 0x8000000000000000 ∷ 0x8000000000000009 ∷ 0x8000000000000000 ∷ 0x8000000000000001 ∷ 0 ∷ 0x8000000000000005 ∷ 0 ∷ 9 ∷ 0 ∷ 0x8000000000000009 ∷ 0 ∷ 0x8000000000000005 ∷ 0x8000000000000000 ∷ 0x8000000000000009 ∷ 0 ∷ 0x8000000000000001 ∷ 0x8000000000000000 ∷ 9 ∷ 0 ∷ 0x8000000000000009 ∷ 0x8000000000000000 ∷ 0x8000000000000005 ∷ 0 ∷ 9 ∷ 0x8000000000000000 ∷ 0x8000000000000001 ∷ 0 ∷ 0x8000000000000009 ∷ 0 ∷ 0x8000000000000001 ∷ 0x8000000000000000 ∷ 9 ∷ 0 ∷ 0x8000000000000005 ∷ 0x8000000000000000 ∷ 0x8000000000000005 ∷ 0 ∷ 9 ∷ 0x8000000000000000 ∷ 0x8000000000000001 ∷ 0 ∷ 0x8000000000000009 ∷ 0x8000000000000000 ∷ []) (42 ∷ 0 ∷ []) 0x101 (0 ∷ 8 ∷ []) (42 ∷ 0x400 ∷ [])

abbrev row_999 : Bool
row_999 = rows posted 15 (0x8000000000000001 ∷ 0x8000000000000000 ∷ 0x8000000000000005 ∷ 0 ∷ 0x8000000000000001 ∷ 0 ∷ 0x8000000000000009 ∷ 0 ∷ 0x8000000000000009 ∷ 0x8000000000000000 ∷ 9 ∷ 0 ∷ 9 ∷ 0x8000000000000000 ∷ 0x8000000000000005 ∷ 0 ∷ 0x8000000000000009 ∷ 0x8000000000000000 ∷ 0x8000000000000002 ∷ 0 ∷ 0x8000000000000005 ∷ 0x8000000000000000 ∷ 0x8000000000000001 ∷ 0x8000000000000000 ∷ 0x8000000000000009 ∷ 0 ∷ 9 ∷ 0 ∷ 0x8000000000000005 ∷ 0 ∷ 0x8000000000000001 ∷ 0 ∷ 9 ∷ 0 ∷ 0x8000000000000009 ∷ 0 ∷ 0x8000000000000001 ∷ 0 ∷ 0x8000000000000005 ∷ 0 ∷ 0x8000000000000005 ∷ 0x8000000000000000 ∷ 9 ∷ 0x8000000000000000 ∷ 0x8000000000000009 ∷ 0x8000000000000000 ∷ 0x8000000000000001 ∷ 0x8000000000000000 ∷ 9 ∷ 0 ∷ 0x8000000000000005 ∷ 0 ∷ 0x8000000000000001 ∷ 0x8000000000000000 ∷ 0x8000000000000001 ∷ 0 ∷ 9 ∷ 0x8000000000000000 ∷ 0x8000000000000009 ∷ 0 ∷ 0x8000000000000009 ∷ 0x8000000000000000 ∷ 0x8000000000000005 ∷ 0x8000000000000000 ∷ 0x8000000000000009 ∷ 0x8000000000000000 ∷ 9 ∷ 0x8000000000000000 ∷ 0x8000000000000009 ∷ 0 ∷ 0x8000000000000005 ∷ 0x8000000000000000 ∷ 9 ∷ 0 ∷ 0x8000000000000001 ∷ 0 ∷ 0x8000000000000005 ∷ 0 ∷ 0x8000000000000001 ∷ 0x8000000000000000 ∷ 0x8000000000000001 ∷ 0x8000000000000000 ∷ 0x8000000000000005 ∷ 0x8000000000000000 ∷ 9 ∷ 0x8000000000000000 ∷ 0x8000000000000009 ∷ 0x8000000000000000 ∷ 0x8000000000000001 ∷ 0 ∷ 0x8000000000000005 ∷ 0 ∷ 9 ∷ 0 ∷ 0x8000000000000009 ∷ 0 ∷ 0x8000000000000005 ∷ 0x8000000000000000 ∷ 0x8000000000000009 ∷ 0 ∷ 0x8000000000000001 ∷ 0x8000000000000000 ∷ 9 ∷ 0 ∷ 0x8000000000000009 ∷ 0x8000000000000000 ∷ 0x8000000000000005 ∷ 0 ∷ 9 ∷ 0x8000000000000000 ∷ 0x8000000000000001 ∷ 0 ∷ 0x8000000000000009 ∷ 0 ∷ 0x8000000000000001 ∷ 0x8000000000000000 ∷ 9 ∷ 0 ∷ 0x8000000000000005 ∷ 0x8000000000000000 ∷ 0x8000000000000005 ∷ 0 ∷ 9 ∷ 0x8000000000000000 ∷ 0x8000000000000001 ∷ 0 ∷ 0x8000000000000009 ∷ 0x8000000000000000 ∷ []) (42 ∷ 0 ∷ []) 0x101 (0 ∷ 9 ∷ []) (42 ∷ 0x400 ∷ [])

abbrev row_1000 : Bool
row_1000 = rows posted 15 (0x8000000000000001 ∷ 0x8000000000000000 ∷ 0x8000000000000005 ∷ 0 ∷ 0x8000000000000001 ∷ 0 ∷ 0x8000000000000009 ∷ 0 ∷ 0x8000000000000009 ∷ 0x8000000000000000 ∷ 9 ∷ 0 ∷ 9 ∷ 0x8000000000000000 ∷ 0x8000000000000005 ∷ 0 ∷ 0x8000000000000009 ∷ 0x8000000000000000 ∷ 9 ∷ 0x8000000000000000 ∷ 0 ∷ 0 ∷ 0x8000000000000001 ∷ 0x8000000000000000 ∷ 0x8000000000000009 ∷ 0 ∷ 9 ∷ 0 ∷ 0x8000000000000005 ∷ 0 ∷ 0x8000000000000001 ∷ 0 ∷ 9 ∷ 0 ∷ 0x8000000000000009 ∷ 0 ∷ 0x8000000000000001 ∷ 0 ∷ 0x8000000000000005 ∷ 0 ∷ 0x8000000000000005 ∷ 0x8000000000000000 ∷ 9 ∷ 0x8000000000000000 ∷ 0x8000000000000009 ∷ 0x8000000000000000 ∷ 0x8000000000000001 ∷ 0x8000000000000000 ∷ 9 ∷ 0 ∷ 0x8000000000000005 ∷ 0 ∷ 0x8000000000000001 ∷ 0x8000000000000000 ∷ 0x8000000000000001 ∷ 0 ∷ 9 ∷ 0x8000000000000000 ∷ 0x8000000000000009 ∷ 0 ∷ 0x8000000000000009 ∷ 0x8000000000000000 ∷ 0x8000000000000005 ∷ 0x8000000000000000 ∷ 0x8000000000000009 ∷ 0x8000000000000000 ∷ 9 ∷ 0x8000000000000000 ∷ 0x8000000000000009 ∷ 0 ∷ 0x8000000000000005 ∷ 0x8000000000000000 ∷ 9 ∷ 0 ∷ 0x8000000000000001 ∷ 0 ∷ 0x8000000000000005 ∷ 0 ∷ 0x8000000000000001 ∷ 0x8000000000000000 ∷ 0x8000000000000001 ∷ 0x8000000000000000 ∷ 0x8000000000000005 ∷ 0x8000000000000000 ∷ 9 ∷ 0x8000000000000000 ∷ 0x8000000000000009 ∷ 0x8000000000000000 ∷ 0x8000000000000001 ∷ 0 ∷ 0x8000000000000005 ∷ 0 ∷ 9 ∷ 0 ∷ 0x8000000000000009 ∷ 0 ∷ 0x8000000000000005 ∷ 0x8000000000000000 ∷ 0x8000000000000009 ∷ 0 ∷ 0x8000000000000001 ∷ 0x8000000000000000 ∷ 9 ∷ 0 ∷ 0x8000000000000009 ∷ 0x8000000000000000 ∷ 0x8000000000000005 ∷ 0 ∷ 9 ∷ 0x8000000000000000 ∷ 0x8000000000000001 ∷ 0 ∷ 0x8000000000000009 ∷ 0 ∷ 0x8000000000000001 ∷ 0x8000000000000000 ∷ 9 ∷ 0 ∷ 0x8000000000000005 ∷ 0x8000000000000000 ∷ 0x8000000000000005 ∷ 0 ∷ 9 ∷ 0x8000000000000000 ∷ 0x8000000000000001 ∷ 0 ∷ 0x8000000000000009 ∷ 0x8000000000000000 ∷ []) (42 ∷ 0 ∷ []) 0x101 (0 ∷ 0xa ∷ []) (42 ∷ 0x400 ∷ [])

abbrev row_1001 : Bool
row_1001 = rows posted 15 (0x8000000000000001 ∷ 0x8000000000000000 ∷ 0x8000000000000005 ∷ 0 ∷ 0x8000000000000001 ∷ 0 ∷ 0x8000000000000009 ∷ 0 ∷ 0x8000000000000009 ∷ 0x8000000000000000 ∷ 9 ∷ 0 ∷ 9 ∷ 0x8000000000000000 ∷ 0x8000000000000005 ∷ 0 ∷ 0x8000000000000009 ∷ 0x8000000000000000 ∷ 9 ∷ 0x8000000000000000 ∷ 0x8000000000000005 ∷ 0x8000000000000000 ∷ 0xffffffffffffffff ∷ 0 ∷ 0x8000000000000009 ∷ 0 ∷ 9 ∷ 0 ∷ 0x8000000000000005 ∷ 0 ∷ 0x8000000000000001 ∷ 0 ∷ 9 ∷ 0 ∷ 0x8000000000000009 ∷ 0 ∷ 0x8000000000000001 ∷ 0 ∷ 0x8000000000000005 ∷ 0 ∷ 0x8000000000000005 ∷ 0x8000000000000000 ∷ 9 ∷ 0x8000000000000000 ∷ 0x8000000000000009 ∷ 0x8000000000000000 ∷ 0x8000000000000001 ∷ 0x8000000000000000 ∷ 9 ∷ 0 ∷ 0x8000000000000005 ∷ 0 ∷ 0x8000000000000001 ∷ 0x8000000000000000 ∷ 0x8000000000000001 ∷ 0 ∷ 9 ∷ 0x8000000000000000 ∷ 0x8000000000000009 ∷ 0 ∷ 0x8000000000000009 ∷ 0x8000000000000000 ∷ 0x8000000000000005 ∷ 0x8000000000000000 ∷ 0x8000000000000009 ∷ 0x8000000000000000 ∷ 9 ∷ 0x8000000000000000 ∷ 0x8000000000000009 ∷ 0 ∷ 0x8000000000000005 ∷ 0x8000000000000000 ∷ 9 ∷ 0 ∷ 0x8000000000000001 ∷ 0 ∷ 0x8000000000000005 ∷ 0 ∷ 0x8000000000000001 ∷ 0x8000000000000000 ∷ 0x8000000000000001 ∷ 0x8000000000000000 ∷ 0x8000000000000005 ∷ 0x8000000000000000 ∷ 9 ∷ 0x8000000000000000 ∷ 0x8000000000000009 ∷ 0x8000000000000000 ∷ 0x8000000000000001 ∷ 0 ∷ 0x8000000000000005 ∷ 0 ∷ 9 ∷ 0 ∷ 0x8000000000000009 ∷ 0 ∷ 0x8000000000000005 ∷ 0x8000000000000000 ∷ 0x8000000000000009 ∷ 0 ∷ 0x8000000000000001 ∷ 0x8000000000000000 ∷ 9 ∷ 0 ∷ 0x8000000000000009 ∷ 0x8000000000000000 ∷ 0x8000000000000005 ∷ 0 ∷ 9 ∷ 0x8000000000000000 ∷ 0x8000000000000001 ∷ 0 ∷ 0x8000000000000009 ∷ 0 ∷ 0x8000000000000001 ∷ 0x8000000000000000 ∷ 9 ∷ 0 ∷ 0x8000000000000005 ∷ 0x8000000000000000 ∷ 0x8000000000000005 ∷ 0 ∷ 9 ∷ 0x8000000000000000 ∷ 0x8000000000000001 ∷ 0 ∷ 0x8000000000000009 ∷ 0x8000000000000000 ∷ []) (42 ∷ 0 ∷ []) 0x101 (0 ∷ 0xb ∷ []) (42 ∷ 0x440 ∷ [])

abbrev row_1002 : Bool
row_1002 = rows posted 15 (0x8000000000000001 ∷ 0x8000000000000000 ∷ 0x8000000000000005 ∷ 0 ∷ 0x8000000000000001 ∷ 0 ∷ 0x8000000000000009 ∷ 0 ∷ 0x8000000000000009 ∷ 0x8000000000000000 ∷ 9 ∷ 0 ∷ 9 ∷ 0x8000000000000000 ∷ 0x8000000000000005 ∷ 0 ∷ 0x8000000000000009 ∷ 0x8000000000000000 ∷ 9 ∷ 0x8000000000000000 ∷ 0x8000000000000005 ∷ 0x8000000000000000 ∷ 0x8000000000000001 ∷ 0x8000000000000000 ∷ 5 ∷ 0x8000000000000000 ∷ 9 ∷ 0 ∷ 0x8000000000000005 ∷ 0 ∷ 0x8000000000000001 ∷ 0 ∷ 9 ∷ 0 ∷ 0x8000000000000009 ∷ 0 ∷ 0x8000000000000001 ∷ 0 ∷ 0x8000000000000005 ∷ 0 ∷ 0x8000000000000005 ∷ 0x8000000000000000 ∷ 9 ∷ 0x8000000000000000 ∷ 0x8000000000000009 ∷ 0x8000000000000000 ∷ 0x8000000000000001 ∷ 0x8000000000000000 ∷ 9 ∷ 0 ∷ 0x8000000000000005 ∷ 0 ∷ 0x8000000000000001 ∷ 0x8000000000000000 ∷ 0x8000000000000001 ∷ 0 ∷ 9 ∷ 0x8000000000000000 ∷ 0x8000000000000009 ∷ 0 ∷ 0x8000000000000009 ∷ 0x8000000000000000 ∷ 0x8000000000000005 ∷ 0x8000000000000000 ∷ 0x8000000000000009 ∷ 0x8000000000000000 ∷ 9 ∷ 0x8000000000000000 ∷ 0x8000000000000009 ∷ 0 ∷ 0x8000000000000005 ∷ 0x8000000000000000 ∷ 9 ∷ 0 ∷ 0x8000000000000001 ∷ 0 ∷ 0x8000000000000005 ∷ 0 ∷ 0x8000000000000001 ∷ 0x8000000000000000 ∷ 0x8000000000000001 ∷ 0x8000000000000000 ∷ 0x8000000000000005 ∷ 0x8000000000000000 ∷ 9 ∷ 0x8000000000000000 ∷ 0x8000000000000009 ∷ 0x8000000000000000 ∷ 0x8000000000000001 ∷ 0 ∷ 0x8000000000000005 ∷ 0 ∷ 9 ∷ 0 ∷ 0x8000000000000009 ∷ 0 ∷ 0x8000000000000005 ∷ 0x8000000000000000 ∷ 0x8000000000000009 ∷ 0 ∷ 0x8000000000000001 ∷ 0x8000000000000000 ∷ 9 ∷ 0 ∷ 0x8000000000000009 ∷ 0x8000000000000000 ∷ 0x8000000000000005 ∷ 0 ∷ 9 ∷ 0x8000000000000000 ∷ 0x8000000000000001 ∷ 0 ∷ 0x8000000000000009 ∷ 0 ∷ 0x8000000000000001 ∷ 0x8000000000000000 ∷ 9 ∷ 0 ∷ 0x8000000000000005 ∷ 0x8000000000000000 ∷ 0x8000000000000005 ∷ 0 ∷ 9 ∷ 0x8000000000000000 ∷ 0x8000000000000001 ∷ 0 ∷ 0x8000000000000009 ∷ 0x8000000000000000 ∷ []) (42 ∷ 0 ∷ []) 0x101 (0 ∷ 0xc ∷ []) (42 ∷ 0x444 ∷ [])

abbrev row_1003 : Bool
row_1003 = rows posted 15 (0x8000000000000001 ∷ 0x8000000000000000 ∷ 0x8000000000000005 ∷ 0 ∷ 0x8000000000000001 ∷ 0 ∷ 0x8000000000000009 ∷ 0 ∷ 0x8000000000000009 ∷ 0x8000000000000000 ∷ 9 ∷ 0 ∷ 9 ∷ 0x8000000000000000 ∷ 0x8000000000000005 ∷ 0 ∷ 0x8000000000000009 ∷ 0x8000000000000000 ∷ 9 ∷ 0x8000000000000000 ∷ 0x8000000000000005 ∷ 0x8000000000000000 ∷ 0x8000000000000001 ∷ 0x8000000000000000 ∷ 0x8000000000000009 ∷ 0 ∷ 0x8000000000000002 ∷ 0x8000000000000000 ∷ 0x8000000000000005 ∷ 0 ∷ 0x8000000000000001 ∷ 0 ∷ 9 ∷ 0 ∷ 0x8000000000000009 ∷ 0 ∷ 0x8000000000000001 ∷ 0 ∷ 0x8000000000000005 ∷ 0 ∷ 0x8000000000000005 ∷ 0x8000000000000000 ∷ 9 ∷ 0x8000000000000000 ∷ 0x8000000000000009 ∷ 0x8000000000000000 ∷ 0x8000000000000001 ∷ 0x8000000000000000 ∷ 9 ∷ 0 ∷ 0x8000000000000005 ∷ 0 ∷ 0x8000000000000001 ∷ 0x8000000000000000 ∷ 0x8000000000000001 ∷ 0 ∷ 9 ∷ 0x8000000000000000 ∷ 0x8000000000000009 ∷ 0 ∷ 0x8000000000000009 ∷ 0x8000000000000000 ∷ 0x8000000000000005 ∷ 0x8000000000000000 ∷ 0x8000000000000009 ∷ 0x8000000000000000 ∷ 9 ∷ 0x8000000000000000 ∷ 0x8000000000000009 ∷ 0 ∷ 0x8000000000000005 ∷ 0x8000000000000000 ∷ 9 ∷ 0 ∷ 0x8000000000000001 ∷ 0 ∷ 0x8000000000000005 ∷ 0 ∷ 0x8000000000000001 ∷ 0x8000000000000000 ∷ 0x8000000000000001 ∷ 0x8000000000000000 ∷ 0x8000000000000005 ∷ 0x8000000000000000 ∷ 9 ∷ 0x8000000000000000 ∷ 0x8000000000000009 ∷ 0x8000000000000000 ∷ 0x8000000000000001 ∷ 0 ∷ 0x8000000000000005 ∷ 0 ∷ 9 ∷ 0 ∷ 0x8000000000000009 ∷ 0 ∷ 0x8000000000000005 ∷ 0x8000000000000000 ∷ 0x8000000000000009 ∷ 0 ∷ 0x8000000000000001 ∷ 0x8000000000000000 ∷ 9 ∷ 0 ∷ 0x8000000000000009 ∷ 0x8000000000000000 ∷ 0x8000000000000005 ∷ 0 ∷ 9 ∷ 0x8000000000000000 ∷ 0x8000000000000001 ∷ 0 ∷ 0x8000000000000009 ∷ 0 ∷ 0x8000000000000001 ∷ 0x8000000000000000 ∷ 9 ∷ 0 ∷ 0x8000000000000005 ∷ 0x8000000000000000 ∷ 0x8000000000000005 ∷ 0 ∷ 9 ∷ 0x8000000000000000 ∷ 0x8000000000000001 ∷ 0 ∷ 0x8000000000000009 ∷ 0x8000000000000000 ∷ []) (42 ∷ 0 ∷ []) 0x101 (0 ∷ 0xd ∷ []) (42 ∷ 0x44 ∷ [])

abbrev row_1004 : Bool
row_1004 = rows posted 15 (0x8000000000000001 ∷ 0x8000000000000000 ∷ 0x8000000000000005 ∷ 0 ∷ 0x8000000000000001 ∷ 0 ∷ 0x8000000000000009 ∷ 0 ∷ 0x8000000000000009 ∷ 0x8000000000000000 ∷ 9 ∷ 0 ∷ 9 ∷ 0x8000000000000000 ∷ 0x8000000000000005 ∷ 0 ∷ 0x8000000000000009 ∷ 0x8000000000000000 ∷ 9 ∷ 0x8000000000000000 ∷ 0x8000000000000005 ∷ 0x8000000000000000 ∷ 0x8000000000000001 ∷ 0x8000000000000000 ∷ 0x8000000000000009 ∷ 0 ∷ 9 ∷ 0 ∷ 0 ∷ 0x8000000000000000 ∷ 0x8000000000000001 ∷ 0 ∷ 9 ∷ 0 ∷ 0x8000000000000009 ∷ 0 ∷ 0x8000000000000001 ∷ 0 ∷ 0x8000000000000005 ∷ 0 ∷ 0x8000000000000005 ∷ 0x8000000000000000 ∷ 9 ∷ 0x8000000000000000 ∷ 0x8000000000000009 ∷ 0x8000000000000000 ∷ 0x8000000000000001 ∷ 0x8000000000000000 ∷ 9 ∷ 0 ∷ 0x8000000000000005 ∷ 0 ∷ 0x8000000000000001 ∷ 0x8000000000000000 ∷ 0x8000000000000001 ∷ 0 ∷ 9 ∷ 0x8000000000000000 ∷ 0x8000000000000009 ∷ 0 ∷ 0x8000000000000009 ∷ 0x8000000000000000 ∷ 0x8000000000000005 ∷ 0x8000000000000000 ∷ 0x8000000000000009 ∷ 0x8000000000000000 ∷ 9 ∷ 0x8000000000000000 ∷ 0x8000000000000009 ∷ 0 ∷ 0x8000000000000005 ∷ 0x8000000000000000 ∷ 9 ∷ 0 ∷ 0x8000000000000001 ∷ 0 ∷ 0x8000000000000005 ∷ 0 ∷ 0x8000000000000001 ∷ 0x8000000000000000 ∷ 0x8000000000000001 ∷ 0x8000000000000000 ∷ 0x8000000000000005 ∷ 0x8000000000000000 ∷ 9 ∷ 0x8000000000000000 ∷ 0x8000000000000009 ∷ 0x8000000000000000 ∷ 0x8000000000000001 ∷ 0 ∷ 0x8000000000000005 ∷ 0 ∷ 9 ∷ 0 ∷ 0x8000000000000009 ∷ 0 ∷ 0x8000000000000005 ∷ 0x8000000000000000 ∷ 0x8000000000000009 ∷ 0 ∷ 0x8000000000000001 ∷ 0x8000000000000000 ∷ 9 ∷ 0 ∷ 0x8000000000000009 ∷ 0x8000000000000000 ∷ 0x8000000000000005 ∷ 0 ∷ 9 ∷ 0x8000000000000000 ∷ 0x8000000000000001 ∷ 0 ∷ 0x8000000000000009 ∷ 0 ∷ 0x8000000000000001 ∷ 0x8000000000000000 ∷ 9 ∷ 0 ∷ 0x8000000000000005 ∷ 0x8000000000000000 ∷ 0x8000000000000005 ∷ 0 ∷ 9 ∷ 0x8000000000000000 ∷ 0x8000000000000001 ∷ 0 ∷ 0x8000000000000009 ∷ 0x8000000000000000 ∷ []) (42 ∷ 0 ∷ []) 0x101 (0 ∷ 0xe ∷ []) (42 ∷ 0x44 ∷ [])

abbrev row_1005 : Bool
row_1005 = rows posted 15 (0x8000000000000001 ∷ 0x8000000000000000 ∷ 0x8000000000000005 ∷ 0 ∷ 0x8000000000000001 ∷ 0 ∷ 0x8000000000000009 ∷ 0 ∷ 0x8000000000000009 ∷ 0x8000000000000000 ∷ 9 ∷ 0 ∷ 9 ∷ 0x8000000000000000 ∷ 0x8000000000000005 ∷ 0 ∷ 0x8000000000000009 ∷ 0x8000000000000000 ∷ 9 ∷ 0x8000000000000000 ∷ 0x8000000000000005 ∷ 0x8000000000000000 ∷ 0x8000000000000001 ∷ 0x8000000000000000 ∷ 0x8000000000000009 ∷ 0 ∷ 9 ∷ 0 ∷ 0x8000000000000005 ∷ 0 ∷ 0xffffffffffffffff ∷ 0x8000000000000000 ∷ 9 ∷ 0 ∷ 0x8000000000000009 ∷ 0 ∷ 0x8000000000000001 ∷ 0 ∷ 0x8000000000000005 ∷ 0 ∷ 0x8000000000000005 ∷ 0x8000000000000000 ∷ 9 ∷ 0x8000000000000000 ∷ 0x8000000000000009 ∷ 0x8000000000000000 ∷ 0x8000000000000001 ∷ 0x8000000000000000 ∷ 9 ∷ 0 ∷ 0x8000000000000005 ∷ 0 ∷ 0x8000000000000001 ∷ 0x8000000000000000 ∷ 0x8000000000000001 ∷ 0 ∷ 9 ∷ 0x8000000000000000 ∷ 0x8000000000000009 ∷ 0 ∷ 0x8000000000000009 ∷ 0x8000000000000000 ∷ 0x8000000000000005 ∷ 0x8000000000000000 ∷ 0x8000000000000009 ∷ 0x8000000000000000 ∷ 9 ∷ 0x8000000000000000 ∷ 0x8000000000000009 ∷ 0 ∷ 0x8000000000000005 ∷ 0x8000000000000000 ∷ 9 ∷ 0 ∷ 0x8000000000000001 ∷ 0 ∷ 0x8000000000000005 ∷ 0 ∷ 0x8000000000000001 ∷ 0x8000000000000000 ∷ 0x8000000000000001 ∷ 0x8000000000000000 ∷ 0x8000000000000005 ∷ 0x8000000000000000 ∷ 9 ∷ 0x8000000000000000 ∷ 0x8000000000000009 ∷ 0x8000000000000000 ∷ 0x8000000000000001 ∷ 0 ∷ 0x8000000000000005 ∷ 0 ∷ 9 ∷ 0 ∷ 0x8000000000000009 ∷ 0 ∷ 0x8000000000000005 ∷ 0x8000000000000000 ∷ 0x8000000000000009 ∷ 0 ∷ 0x8000000000000001 ∷ 0x8000000000000000 ∷ 9 ∷ 0 ∷ 0x8000000000000009 ∷ 0x8000000000000000 ∷ 0x8000000000000005 ∷ 0 ∷ 9 ∷ 0x8000000000000000 ∷ 0x8000000000000001 ∷ 0 ∷ 0x8000000000000009 ∷ 0 ∷ 0x8000000000000001 ∷ 0x8000000000000000 ∷ 9 ∷ 0 ∷ 0x8000000000000005 ∷ 0x8000000000000000 ∷ 0x8000000000000005 ∷ 0 ∷ 9 ∷ 0x8000000000000000 ∷ 0x8000000000000001 ∷ 0 ∷ 0x8000000000000009 ∷ 0x8000000000000000 ∷ []) (42 ∷ 0 ∷ []) 0x101 (0 ∷ 0xf ∷ []) (42 ∷ 4 ∷ [])

abbrev row_1006 : Bool
row_1006 = rows posted 15 (0x8000000000000001 ∷ 0x8000000000000000 ∷ 0x8000000000000005 ∷ 0 ∷ 0x8000000000000001 ∷ 0 ∷ 0x8000000000000009 ∷ 0 ∷ 0x8000000000000009 ∷ 0x8000000000000000 ∷ 9 ∷ 0 ∷ 9 ∷ 0x8000000000000000 ∷ 0x8000000000000005 ∷ 0 ∷ 0x8000000000000009 ∷ 0x8000000000000000 ∷ 9 ∷ 0x8000000000000000 ∷ 0x8000000000000005 ∷ 0x8000000000000000 ∷ 0x8000000000000001 ∷ 0x8000000000000000 ∷ 0x8000000000000009 ∷ 0 ∷ 9 ∷ 0 ∷ 0x8000000000000005 ∷ 0 ∷ 0x8000000000000001 ∷ 0 ∷ 5 ∷ 0 ∷ 0x8000000000000009 ∷ 0 ∷ 0x8000000000000001 ∷ 0 ∷ 0x8000000000000005 ∷ 0 ∷ 0x8000000000000005 ∷ 0x8000000000000000 ∷ 9 ∷ 0x8000000000000000 ∷ 0x8000000000000009 ∷ 0x8000000000000000 ∷ 0x8000000000000001 ∷ 0x8000000000000000 ∷ 9 ∷ 0 ∷ 0x8000000000000005 ∷ 0 ∷ 0x8000000000000001 ∷ 0x8000000000000000 ∷ 0x8000000000000001 ∷ 0 ∷ 9 ∷ 0x8000000000000000 ∷ 0x8000000000000009 ∷ 0 ∷ 0x8000000000000009 ∷ 0x8000000000000000 ∷ 0x8000000000000005 ∷ 0x8000000000000000 ∷ 0x8000000000000009 ∷ 0x8000000000000000 ∷ 9 ∷ 0x8000000000000000 ∷ 0x8000000000000009 ∷ 0 ∷ 0x8000000000000005 ∷ 0x8000000000000000 ∷ 9 ∷ 0 ∷ 0x8000000000000001 ∷ 0 ∷ 0x8000000000000005 ∷ 0 ∷ 0x8000000000000001 ∷ 0x8000000000000000 ∷ 0x8000000000000001 ∷ 0x8000000000000000 ∷ 0x8000000000000005 ∷ 0x8000000000000000 ∷ 9 ∷ 0x8000000000000000 ∷ 0x8000000000000009 ∷ 0x8000000000000000 ∷ 0x8000000000000001 ∷ 0 ∷ 0x8000000000000005 ∷ 0 ∷ 9 ∷ 0 ∷ 0x8000000000000009 ∷ 0 ∷ 0x8000000000000005 ∷ 0x8000000000000000 ∷ 0x8000000000000009 ∷ 0 ∷ 0x8000000000000001 ∷ 0x8000000000000000 ∷ 9 ∷ 0 ∷ 0x8000000000000009 ∷ 0x8000000000000000 ∷ 0x8000000000000005 ∷ 0 ∷ 9 ∷ 0x8000000000000000 ∷ 0x8000000000000001 ∷ 0 ∷ 0x8000000000000009 ∷ 0 ∷ 0x8000000000000001 ∷ 0x8000000000000000 ∷ 9 ∷ 0 ∷ 0x8000000000000005 ∷ 0x8000000000000000 ∷ 0x8000000000000005 ∷ 0 ∷ 9 ∷ 0x8000000000000000 ∷ 0x8000000000000001 ∷ 0 ∷ 0x8000000000000009 ∷ 0x8000000000000000 ∷ []) (42 ∷ 0 ∷ []) 0x101 (0 ∷ 0x10 ∷ []) ([])

abbrev row_1007 : Bool
row_1007 = rows posted 15 (0x8000000000000001 ∷ 0x8000000000000000 ∷ 0x8000000000000005 ∷ 0 ∷ 0x8000000000000001 ∷ 0 ∷ 0x8000000000000009 ∷ 0 ∷ 0x8000000000000009 ∷ 0x8000000000000000 ∷ 9 ∷ 0 ∷ 9 ∷ 0x8000000000000000 ∷ 0x8000000000000005 ∷ 0 ∷ 0x8000000000000009 ∷ 0x8000000000000000 ∷ 9 ∷ 0x8000000000000000 ∷ 0x8000000000000005 ∷ 0x8000000000000000 ∷ 0x8000000000000001 ∷ 0x8000000000000000 ∷ 0x8000000000000009 ∷ 0 ∷ 9 ∷ 0 ∷ 0x8000000000000005 ∷ 0 ∷ 0x8000000000000001 ∷ 0 ∷ 9 ∷ 0 ∷ 0x8000000000000002 ∷ 0 ∷ 0x8000000000000001 ∷ 0 ∷ 0x8000000000000005 ∷ 0 ∷ 0x8000000000000005 ∷ 0x8000000000000000 ∷ 9 ∷ 0x8000000000000000 ∷ 0x8000000000000009 ∷ 0x8000000000000000 ∷ 0x8000000000000001 ∷ 0x8000000000000000 ∷ 9 ∷ 0 ∷ 0x8000000000000005 ∷ 0 ∷ 0x8000000000000001 ∷ 0x8000000000000000 ∷ 0x8000000000000001 ∷ 0 ∷ 9 ∷ 0x8000000000000000 ∷ 0x8000000000000009 ∷ 0 ∷ 0x8000000000000009 ∷ 0x8000000000000000 ∷ 0x8000000000000005 ∷ 0x8000000000000000 ∷ 0x8000000000000009 ∷ 0x8000000000000000 ∷ 9 ∷ 0x8000000000000000 ∷ 0x8000000000000009 ∷ 0 ∷ 0x8000000000000005 ∷ 0x8000000000000000 ∷ 9 ∷ 0 ∷ 0x8000000000000001 ∷ 0 ∷ 0x8000000000000005 ∷ 0 ∷ 0x8000000000000001 ∷ 0x8000000000000000 ∷ 0x8000000000000001 ∷ 0x8000000000000000 ∷ 0x8000000000000005 ∷ 0x8000000000000000 ∷ 9 ∷ 0x8000000000000000 ∷ 0x8000000000000009 ∷ 0x8000000000000000 ∷ 0x8000000000000001 ∷ 0 ∷ 0x8000000000000005 ∷ 0 ∷ 9 ∷ 0 ∷ 0x8000000000000009 ∷ 0 ∷ 0x8000000000000005 ∷ 0x8000000000000000 ∷ 0x8000000000000009 ∷ 0 ∷ 0x8000000000000001 ∷ 0x8000000000000000 ∷ 9 ∷ 0 ∷ 0x8000000000000009 ∷ 0x8000000000000000 ∷ 0x8000000000000005 ∷ 0 ∷ 9 ∷ 0x8000000000000000 ∷ 0x8000000000000001 ∷ 0 ∷ 0x8000000000000009 ∷ 0 ∷ 0x8000000000000001 ∷ 0x8000000000000000 ∷ 9 ∷ 0 ∷ 0x8000000000000005 ∷ 0x8000000000000000 ∷ 0x8000000000000005 ∷ 0 ∷ 9 ∷ 0x8000000000000000 ∷ 0x8000000000000001 ∷ 0 ∷ 0x8000000000000009 ∷ 0x8000000000000000 ∷ []) (42 ∷ 0 ∷ []) 0x101 (0 ∷ 0x11 ∷ []) ([])

abbrev row_1008 : Bool
row_1008 = rows posted 15 (0x8000000000000001 ∷ 0x8000000000000000 ∷ 0x8000000000000005 ∷ 0 ∷ 0x8000000000000001 ∷ 0 ∷ 0x8000000000000009 ∷ 0 ∷ 0x8000000000000009 ∷ 0x8000000000000000 ∷ 9 ∷ 0 ∷ 9 ∷ 0x8000000000000000 ∷ 0x8000000000000005 ∷ 0 ∷ 0x8000000000000009 ∷ 0x8000000000000000 ∷ 9 ∷ 0x8000000000000000 ∷ 0x8000000000000005 ∷ 0x8000000000000000 ∷ 0x8000000000000001 ∷ 0x8000000000000000 ∷ 0x8000000000000009 ∷ 0 ∷ 9 ∷ 0 ∷ 0x8000000000000005 ∷ 0 ∷ 0x8000000000000001 ∷ 0 ∷ 9 ∷ 0 ∷ 0x8000000000000009 ∷ 0 ∷ 0 ∷ 0 ∷ 0x8000000000000005 ∷ 0 ∷ 0x8000000000000005 ∷ 0x8000000000000000 ∷ 9 ∷ 0x8000000000000000 ∷ 0x8000000000000009 ∷ 0x8000000000000000 ∷ 0x8000000000000001 ∷ 0x8000000000000000 ∷ 9 ∷ 0 ∷ 0x8000000000000005 ∷ 0 ∷ 0x8000000000000001 ∷ 0x8000000000000000 ∷ 0x8000000000000001 ∷ 0 ∷ 9 ∷ 0x8000000000000000 ∷ 0x8000000000000009 ∷ 0 ∷ 0x8000000000000009 ∷ 0x8000000000000000 ∷ 0x8000000000000005 ∷ 0x8000000000000000 ∷ 0x8000000000000009 ∷ 0x8000000000000000 ∷ 9 ∷ 0x8000000000000000 ∷ 0x8000000000000009 ∷ 0 ∷ 0x8000000000000005 ∷ 0x8000000000000000 ∷ 9 ∷ 0 ∷ 0x8000000000000001 ∷ 0 ∷ 0x8000000000000005 ∷ 0 ∷ 0x8000000000000001 ∷ 0x8000000000000000 ∷ 0x8000000000000001 ∷ 0x8000000000000000 ∷ 0x8000000000000005 ∷ 0x8000000000000000 ∷ 9 ∷ 0x8000000000000000 ∷ 0x8000000000000009 ∷ 0x8000000000000000 ∷ 0x8000000000000001 ∷ 0 ∷ 0x8000000000000005 ∷ 0 ∷ 9 ∷ 0 ∷ 0x8000000000000009 ∷ 0 ∷ 0x8000000000000005 ∷ 0x8000000000000000 ∷ 0x8000000000000009 ∷ 0 ∷ 0x8000000000000001 ∷ 0x8000000000000000 ∷ 9 ∷ 0 ∷ 0x8000000000000009 ∷ 0x8000000000000000 ∷ 0x8000000000000005 ∷ 0 ∷ 9 ∷ 0x8000000000000000 ∷ 0x8000000000000001 ∷ 0 ∷ 0x8000000000000009 ∷ 0 ∷ 0x8000000000000001 ∷ 0x8000000000000000 ∷ 9 ∷ 0 ∷ 0x8000000000000005 ∷ 0x8000000000000000 ∷ 0x8000000000000005 ∷ 0 ∷ 9 ∷ 0x8000000000000000 ∷ 0x8000000000000001 ∷ 0 ∷ 0x8000000000000009 ∷ 0x8000000000000000 ∷ []) (42 ∷ 0 ∷ []) 0x101 (0 ∷ 0x12 ∷ []) ([])

abbrev row_1009 : Bool
row_1009 = rows posted 15 (0x8000000000000001 ∷ 0x8000000000000000 ∷ 0x8000000000000005 ∷ 0 ∷ 0x8000000000000001 ∷ 0 ∷ 0x8000000000000009 ∷ 0 ∷ 0x8000000000000009 ∷ 0x8000000000000000 ∷ 9 ∷ 0 ∷ 9 ∷ 0x8000000000000000 ∷ 0x8000000000000005 ∷ 0 ∷ 0x8000000000000009 ∷ 0x8000000000000000 ∷ 9 ∷ 0x8000000000000000 ∷ 0x8000000000000005 ∷ 0x8000000000000000 ∷ 0x8000000000000001 ∷ 0x8000000000000000 ∷ 0x8000000000000009 ∷ 0 ∷ 9 ∷ 0 ∷ 0x8000000000000005 ∷ 0 ∷ 0x8000000000000001 ∷ 0 ∷ 9 ∷ 0 ∷ 0x8000000000000009 ∷ 0 ∷ 0x8000000000000001 ∷ 0 ∷ 0xffffffffffffffff ∷ 0 ∷ 0x8000000000000005 ∷ 0x8000000000000000 ∷ 9 ∷ 0x8000000000000000 ∷ 0x8000000000000009 ∷ 0x8000000000000000 ∷ 0x8000000000000001 ∷ 0x8000000000000000 ∷ 9 ∷ 0 ∷ 0x8000000000000005 ∷ 0 ∷ 0x8000000000000001 ∷ 0x8000000000000000 ∷ 0x8000000000000001 ∷ 0 ∷ 9 ∷ 0x8000000000000000 ∷ 0x8000000000000009 ∷ 0 ∷ 0x8000000000000009 ∷ 0x8000000000000000 ∷ 0x8000000000000005 ∷ 0x8000000000000000 ∷ 0x8000000000000009 ∷ 0x8000000000000000 ∷ 9 ∷ 0x8000000000000000 ∷ 0x8000000000000009 ∷ 0 ∷ 0x8000000000000005 ∷ 0x8000000000000000 ∷ 9 ∷ 0 ∷ 0x8000000000000001 ∷ 0 ∷ 0x8000000000000005 ∷ 0 ∷ 0x8000000000000001 ∷ 0x8000000000000000 ∷ 0x8000000000000001 ∷ 0x8000000000000000 ∷ 0x8000000000000005 ∷ 0x8000000000000000 ∷ 9 ∷ 0x8000000000000000 ∷ 0x8000000000000009 ∷ 0x8000000000000000 ∷ 0x8000000000000001 ∷ 0 ∷ 0x8000000000000005 ∷ 0 ∷ 9 ∷ 0 ∷ 0x8000000000000009 ∷ 0 ∷ 0x8000000000000005 ∷ 0x8000000000000000 ∷ 0x8000000000000009 ∷ 0 ∷ 0x8000000000000001 ∷ 0x8000000000000000 ∷ 9 ∷ 0 ∷ 0x8000000000000009 ∷ 0x8000000000000000 ∷ 0x8000000000000005 ∷ 0 ∷ 9 ∷ 0x8000000000000000 ∷ 0x8000000000000001 ∷ 0 ∷ 0x8000000000000009 ∷ 0 ∷ 0x8000000000000001 ∷ 0x8000000000000000 ∷ 9 ∷ 0 ∷ 0x8000000000000005 ∷ 0x8000000000000000 ∷ 0x8000000000000005 ∷ 0 ∷ 9 ∷ 0x8000000000000000 ∷ 0x8000000000000001 ∷ 0 ∷ 0x8000000000000009 ∷ 0x8000000000000000 ∷ []) (42 ∷ 0 ∷ []) 0x101 (0 ∷ 0x13 ∷ []) ([])

abbrev row_1010 : Bool
row_1010 = rows posted 15 (0x8000000000000001 ∷ 0x8000000000000000 ∷ 0x8000000000000005 ∷ 0 ∷ 0x8000000000000001 ∷ 0 ∷ 0x8000000000000009 ∷ 0 ∷ 0x8000000000000009 ∷ 0x8000000000000000 ∷ 9 ∷ 0 ∷ 9 ∷ 0x8000000000000000 ∷ 0x8000000000000005 ∷ 0 ∷ 0x8000000000000009 ∷ 0x8000000000000000 ∷ 9 ∷ 0x8000000000000000 ∷ 0x8000000000000005 ∷ 0x8000000000000000 ∷ 0x8000000000000001 ∷ 0x8000000000000000 ∷ 0x8000000000000009 ∷ 0 ∷ 9 ∷ 0 ∷ 0x8000000000000005 ∷ 0 ∷ 0x8000000000000001 ∷ 0 ∷ 9 ∷ 0 ∷ 0x8000000000000009 ∷ 0 ∷ 0x8000000000000001 ∷ 0 ∷ 0x8000000000000005 ∷ 0 ∷ 5 ∷ 0x8000000000000000 ∷ 9 ∷ 0x8000000000000000 ∷ 0x8000000000000009 ∷ 0x8000000000000000 ∷ 0x8000000000000001 ∷ 0x8000000000000000 ∷ 9 ∷ 0 ∷ 0x8000000000000005 ∷ 0 ∷ 0x8000000000000001 ∷ 0x8000000000000000 ∷ 0x8000000000000001 ∷ 0 ∷ 9 ∷ 0x8000000000000000 ∷ 0x8000000000000009 ∷ 0 ∷ 0x8000000000000009 ∷ 0x8000000000000000 ∷ 0x8000000000000005 ∷ 0x8000000000000000 ∷ 0x8000000000000009 ∷ 0x8000000000000000 ∷ 9 ∷ 0x8000000000000000 ∷ 0x8000000000000009 ∷ 0 ∷ 0x8000000000000005 ∷ 0x8000000000000000 ∷ 9 ∷ 0 ∷ 0x8000000000000001 ∷ 0 ∷ 0x8000000000000005 ∷ 0 ∷ 0x8000000000000001 ∷ 0x8000000000000000 ∷ 0x8000000000000001 ∷ 0x8000000000000000 ∷ 0x8000000000000005 ∷ 0x8000000000000000 ∷ 9 ∷ 0x8000000000000000 ∷ 0x8000000000000009 ∷ 0x8000000000000000 ∷ 0x8000000000000001 ∷ 0 ∷ 0x8000000000000005 ∷ 0 ∷ 9 ∷ 0 ∷ 0x8000000000000009 ∷ 0 ∷ 0x8000000000000005 ∷ 0x8000000000000000 ∷ 0x8000000000000009 ∷ 0 ∷ 0x8000000000000001 ∷ 0x8000000000000000 ∷ 9 ∷ 0 ∷ 0x8000000000000009 ∷ 0x8000000000000000 ∷ 0x8000000000000005 ∷ 0 ∷ 9 ∷ 0x8000000000000000 ∷ 0x8000000000000001 ∷ 0 ∷ 0x8000000000000009 ∷ 0 ∷ 0x8000000000000001 ∷ 0x8000000000000000 ∷ 9 ∷ 0 ∷ 0x8000000000000005 ∷ 0x8000000000000000 ∷ 0x8000000000000005 ∷ 0 ∷ 9 ∷ 0x8000000000000000 ∷ 0x8000000000000001 ∷ 0 ∷ 0x8000000000000009 ∷ 0x8000000000000000 ∷ []) (42 ∷ 0 ∷ []) 0x101 (0 ∷ 0x14 ∷ []) ([])

abbrev row_1011 : Bool
row_1011 = rows posted 15 (0x8000000000000001 ∷ 0x8000000000000000 ∷ 0x8000000000000005 ∷ 0 ∷ 0x8000000000000001 ∷ 0 ∷ 0x8000000000000009 ∷ 0 ∷ 0x8000000000000009 ∷ 0x8000000000000000 ∷ 9 ∷ 0 ∷ 9 ∷ 0x8000000000000000 ∷ 0x8000000000000005 ∷ 0 ∷ 0x8000000000000009 ∷ 0x8000000000000000 ∷ 9 ∷ 0x8000000000000000 ∷ 0x8000000000000005 ∷ 0x8000000000000000 ∷ 0x8000000000000001 ∷ 0x8000000000000000 ∷ 0x8000000000000009 ∷ 0 ∷ 9 ∷ 0 ∷ 0x8000000000000005 ∷ 0 ∷ 0x8000000000000001 ∷ 0 ∷ 9 ∷ 0 ∷ 0x8000000000000009 ∷ 0 ∷ 0x8000000000000001 ∷ 0 ∷ 0x8000000000000005 ∷ 0 ∷ 0x8000000000000005 ∷ 0x8000000000000000 ∷ 0x8000000000000002 ∷ 0x8000000000000000 ∷ 0x8000000000000009 ∷ 0x8000000000000000 ∷ 0x8000000000000001 ∷ 0x8000000000000000 ∷ 9 ∷ 0 ∷ 0x8000000000000005 ∷ 0 ∷ 0x8000000000000001 ∷ 0x8000000000000000 ∷ 0x8000000000000001 ∷ 0 ∷ 9 ∷ 0x8000000000000000 ∷ 0x8000000000000009 ∷ 0 ∷ 0x8000000000000009 ∷ 0x8000000000000000 ∷ 0x8000000000000005 ∷ 0x8000000000000000 ∷ 0x8000000000000009 ∷ 0x8000000000000000 ∷ 9 ∷ 0x8000000000000000 ∷ 0x8000000000000009 ∷ 0 ∷ 0x8000000000000005 ∷ 0x8000000000000000 ∷ 9 ∷ 0 ∷ 0x8000000000000001 ∷ 0 ∷ 0x8000000000000005 ∷ 0 ∷ 0x8000000000000001 ∷ 0x8000000000000000 ∷ 0x8000000000000001 ∷ 0x8000000000000000 ∷ 0x8000000000000005 ∷ 0x8000000000000000 ∷ 9 ∷ 0x8000000000000000 ∷ 0x8000000000000009 ∷ 0x8000000000000000 ∷ 0x8000000000000001 ∷ 0 ∷ 0x8000000000000005 ∷ 0 ∷ 9 ∷ 0 ∷ 0x8000000000000009 ∷ 0 ∷ 0x8000000000000005 ∷ 0x8000000000000000 ∷ 0x8000000000000009 ∷ 0 ∷ 0x8000000000000001 ∷ 0x8000000000000000 ∷ 9 ∷ 0 ∷ 0x8000000000000009 ∷ 0x8000000000000000 ∷ 0x8000000000000005 ∷ 0 ∷ 9 ∷ 0x8000000000000000 ∷ 0x8000000000000001 ∷ 0 ∷ 0x8000000000000009 ∷ 0 ∷ 0x8000000000000001 ∷ 0x8000000000000000 ∷ 9 ∷ 0 ∷ 0x8000000000000005 ∷ 0x8000000000000000 ∷ 0x8000000000000005 ∷ 0 ∷ 9 ∷ 0x8000000000000000 ∷ 0x8000000000000001 ∷ 0 ∷ 0x8000000000000009 ∷ 0x8000000000000000 ∷ []) (42 ∷ 0 ∷ []) 0x101 (0 ∷ 0x15 ∷ []) (42 ∷ 0x40 ∷ [])

abbrev row_1012 : Bool
row_1012 = rows posted 15 (0x8000000000000001 ∷ 0x8000000000000000 ∷ 0x8000000000000005 ∷ 0 ∷ 0x8000000000000001 ∷ 0 ∷ 0x8000000000000009 ∷ 0 ∷ 0x8000000000000009 ∷ 0x8000000000000000 ∷ 9 ∷ 0 ∷ 9 ∷ 0x8000000000000000 ∷ 0x8000000000000005 ∷ 0 ∷ 0x8000000000000009 ∷ 0x8000000000000000 ∷ 9 ∷ 0x8000000000000000 ∷ 0x8000000000000005 ∷ 0x8000000000000000 ∷ 0x8000000000000001 ∷ 0x8000000000000000 ∷ 0x8000000000000009 ∷ 0 ∷ 9 ∷ 0 ∷ 0x8000000000000005 ∷ 0 ∷ 0x8000000000000001 ∷ 0 ∷ 9 ∷ 0 ∷ 0x8000000000000009 ∷ 0 ∷ 0x8000000000000001 ∷ 0 ∷ 0x8000000000000005 ∷ 0 ∷ 0x8000000000000005 ∷ 0x8000000000000000 ∷ 9 ∷ 0x8000000000000000 ∷ 0 ∷ 0x8000000000000000 ∷ 0x8000000000000001 ∷ 0x8000000000000000 ∷ 9 ∷ 0 ∷ 0x8000000000000005 ∷ 0 ∷ 0x8000000000000001 ∷ 0x8000000000000000 ∷ 0x8000000000000001 ∷ 0 ∷ 9 ∷ 0x8000000000000000 ∷ 0x8000000000000009 ∷ 0 ∷ 0x8000000000000009 ∷ 0x8000000000000000 ∷ 0x8000000000000005 ∷ 0x8000000000000000 ∷ 0x8000000000000009 ∷ 0x8000000000000000 ∷ 9 ∷ 0x8000000000000000 ∷ 0x8000000000000009 ∷ 0 ∷ 0x8000000000000005 ∷ 0x8000000000000000 ∷ 9 ∷ 0 ∷ 0x8000000000000001 ∷ 0 ∷ 0x8000000000000005 ∷ 0 ∷ 0x8000000000000001 ∷ 0x8000000000000000 ∷ 0x8000000000000001 ∷ 0x8000000000000000 ∷ 0x8000000000000005 ∷ 0x8000000000000000 ∷ 9 ∷ 0x8000000000000000 ∷ 0x8000000000000009 ∷ 0x8000000000000000 ∷ 0x8000000000000001 ∷ 0 ∷ 0x8000000000000005 ∷ 0 ∷ 9 ∷ 0 ∷ 0x8000000000000009 ∷ 0 ∷ 0x8000000000000005 ∷ 0x8000000000000000 ∷ 0x8000000000000009 ∷ 0 ∷ 0x8000000000000001 ∷ 0x8000000000000000 ∷ 9 ∷ 0 ∷ 0x8000000000000009 ∷ 0x8000000000000000 ∷ 0x8000000000000005 ∷ 0 ∷ 9 ∷ 0x8000000000000000 ∷ 0x8000000000000001 ∷ 0 ∷ 0x8000000000000009 ∷ 0 ∷ 0x8000000000000001 ∷ 0x8000000000000000 ∷ 9 ∷ 0 ∷ 0x8000000000000005 ∷ 0x8000000000000000 ∷ 0x8000000000000005 ∷ 0 ∷ 9 ∷ 0x8000000000000000 ∷ 0x8000000000000001 ∷ 0 ∷ 0x8000000000000009 ∷ 0x8000000000000000 ∷ []) (42 ∷ 0 ∷ []) 0x101 (0 ∷ 0x16 ∷ []) (42 ∷ 0x440 ∷ [])

abbrev row_1013 : Bool
row_1013 = rows posted 15 (0x8000000000000001 ∷ 0x8000000000000000 ∷ 0x8000000000000005 ∷ 0 ∷ 0x8000000000000001 ∷ 0 ∷ 0x8000000000000009 ∷ 0 ∷ 0x8000000000000009 ∷ 0x8000000000000000 ∷ 9 ∷ 0 ∷ 9 ∷ 0x8000000000000000 ∷ 0x8000000000000005 ∷ 0 ∷ 0x8000000000000009 ∷ 0x8000000000000000 ∷ 9 ∷ 0x8000000000000000 ∷ 0x8000000000000005 ∷ 0x8000000000000000 ∷ 0x8000000000000001 ∷ 0x8000000000000000 ∷ 0x8000000000000009 ∷ 0 ∷ 9 ∷ 0 ∷ 0x8000000000000005 ∷ 0 ∷ 0x8000000000000001 ∷ 0 ∷ 9 ∷ 0 ∷ 0x8000000000000009 ∷ 0 ∷ 0x8000000000000001 ∷ 0 ∷ 0x8000000000000005 ∷ 0 ∷ 0x8000000000000005 ∷ 0x8000000000000000 ∷ 9 ∷ 0x8000000000000000 ∷ 0x8000000000000009 ∷ 0x8000000000000000 ∷ 0xffffffffffffffff ∷ 0x8000000000000000 ∷ 9 ∷ 0 ∷ 0x8000000000000005 ∷ 0 ∷ 0x8000000000000001 ∷ 0x8000000000000000 ∷ 0x8000000000000001 ∷ 0 ∷ 9 ∷ 0x8000000000000000 ∷ 0x8000000000000009 ∷ 0 ∷ 0x8000000000000009 ∷ 0x8000000000000000 ∷ 0x8000000000000005 ∷ 0x8000000000000000 ∷ 0x8000000000000009 ∷ 0x8000000000000000 ∷ 9 ∷ 0x8000000000000000 ∷ 0x8000000000000009 ∷ 0 ∷ 0x8000000000000005 ∷ 0x8000000000000000 ∷ 9 ∷ 0 ∷ 0x8000000000000001 ∷ 0 ∷ 0x8000000000000005 ∷ 0 ∷ 0x8000000000000001 ∷ 0x8000000000000000 ∷ 0x8000000000000001 ∷ 0x8000000000000000 ∷ 0x8000000000000005 ∷ 0x8000000000000000 ∷ 9 ∷ 0x8000000000000000 ∷ 0x8000000000000009 ∷ 0x8000000000000000 ∷ 0x8000000000000001 ∷ 0 ∷ 0x8000000000000005 ∷ 0 ∷ 9 ∷ 0 ∷ 0x8000000000000009 ∷ 0 ∷ 0x8000000000000005 ∷ 0x8000000000000000 ∷ 0x8000000000000009 ∷ 0 ∷ 0x8000000000000001 ∷ 0x8000000000000000 ∷ 9 ∷ 0 ∷ 0x8000000000000009 ∷ 0x8000000000000000 ∷ 0x8000000000000005 ∷ 0 ∷ 9 ∷ 0x8000000000000000 ∷ 0x8000000000000001 ∷ 0 ∷ 0x8000000000000009 ∷ 0 ∷ 0x8000000000000001 ∷ 0x8000000000000000 ∷ 9 ∷ 0 ∷ 0x8000000000000005 ∷ 0x8000000000000000 ∷ 0x8000000000000005 ∷ 0 ∷ 9 ∷ 0x8000000000000000 ∷ 0x8000000000000001 ∷ 0 ∷ 0x8000000000000009 ∷ 0x8000000000000000 ∷ []) (42 ∷ 0 ∷ []) 0x101 (0 ∷ 0x17 ∷ []) (42 ∷ 0x440 ∷ [])

abbrev row_1014 : Bool
row_1014 = rows posted 15 (0x8000000000000001 ∷ 0x8000000000000000 ∷ 0x8000000000000005 ∷ 0 ∷ 0x8000000000000001 ∷ 0 ∷ 0x8000000000000009 ∷ 0 ∷ 0x8000000000000009 ∷ 0x8000000000000000 ∷ 9 ∷ 0 ∷ 9 ∷ 0x8000000000000000 ∷ 0x8000000000000005 ∷ 0 ∷ 0x8000000000000009 ∷ 0x8000000000000000 ∷ 9 ∷ 0x8000000000000000 ∷ 0x8000000000000005 ∷ 0x8000000000000000 ∷ 0x8000000000000001 ∷ 0x8000000000000000 ∷ 0x8000000000000009 ∷ 0 ∷ 9 ∷ 0 ∷ 0x8000000000000005 ∷ 0 ∷ 0x8000000000000001 ∷ 0 ∷ 9 ∷ 0 ∷ 0x8000000000000009 ∷ 0 ∷ 0x8000000000000001 ∷ 0 ∷ 0x8000000000000005 ∷ 0 ∷ 0x8000000000000005 ∷ 0x8000000000000000 ∷ 9 ∷ 0x8000000000000000 ∷ 0x8000000000000009 ∷ 0x8000000000000000 ∷ 0x8000000000000001 ∷ 0x8000000000000000 ∷ 5 ∷ 0 ∷ 0x8000000000000005 ∷ 0 ∷ 0x8000000000000001 ∷ 0x8000000000000000 ∷ 0x8000000000000001 ∷ 0 ∷ 9 ∷ 0x8000000000000000 ∷ 0x8000000000000009 ∷ 0 ∷ 0x8000000000000009 ∷ 0x8000000000000000 ∷ 0x8000000000000005 ∷ 0x8000000000000000 ∷ 0x8000000000000009 ∷ 0x8000000000000000 ∷ 9 ∷ 0x8000000000000000 ∷ 0x8000000000000009 ∷ 0 ∷ 0x8000000000000005 ∷ 0x8000000000000000 ∷ 9 ∷ 0 ∷ 0x8000000000000001 ∷ 0 ∷ 0x8000000000000005 ∷ 0 ∷ 0x8000000000000001 ∷ 0x8000000000000000 ∷ 0x8000000000000001 ∷ 0x8000000000000000 ∷ 0x8000000000000005 ∷ 0x8000000000000000 ∷ 9 ∷ 0x8000000000000000 ∷ 0x8000000000000009 ∷ 0x8000000000000000 ∷ 0x8000000000000001 ∷ 0 ∷ 0x8000000000000005 ∷ 0 ∷ 9 ∷ 0 ∷ 0x8000000000000009 ∷ 0 ∷ 0x8000000000000005 ∷ 0x8000000000000000 ∷ 0x8000000000000009 ∷ 0 ∷ 0x8000000000000001 ∷ 0x8000000000000000 ∷ 9 ∷ 0 ∷ 0x8000000000000009 ∷ 0x8000000000000000 ∷ 0x8000000000000005 ∷ 0 ∷ 9 ∷ 0x8000000000000000 ∷ 0x8000000000000001 ∷ 0 ∷ 0x8000000000000009 ∷ 0 ∷ 0x8000000000000001 ∷ 0x8000000000000000 ∷ 9 ∷ 0 ∷ 0x8000000000000005 ∷ 0x8000000000000000 ∷ 0x8000000000000005 ∷ 0 ∷ 9 ∷ 0x8000000000000000 ∷ 0x8000000000000001 ∷ 0 ∷ 0x8000000000000009 ∷ 0x8000000000000000 ∷ []) (42 ∷ 0 ∷ []) 0x101 (0 ∷ 0x18 ∷ []) (42 ∷ 0x444 ∷ [])

abbrev row_1015 : Bool
row_1015 = rows posted 15 (0x8000000000000001 ∷ 0x8000000000000000 ∷ 0x8000000000000005 ∷ 0 ∷ 0x8000000000000001 ∷ 0 ∷ 0x8000000000000009 ∷ 0 ∷ 0x8000000000000009 ∷ 0x8000000000000000 ∷ 9 ∷ 0 ∷ 9 ∷ 0x8000000000000000 ∷ 0x8000000000000005 ∷ 0 ∷ 0x8000000000000009 ∷ 0x8000000000000000 ∷ 9 ∷ 0x8000000000000000 ∷ 0x8000000000000005 ∷ 0x8000000000000000 ∷ 0x8000000000000001 ∷ 0x8000000000000000 ∷ 0x8000000000000009 ∷ 0 ∷ 9 ∷ 0 ∷ 0x8000000000000005 ∷ 0 ∷ 0x8000000000000001 ∷ 0 ∷ 9 ∷ 0 ∷ 0x8000000000000009 ∷ 0 ∷ 0x8000000000000001 ∷ 0 ∷ 0x8000000000000005 ∷ 0 ∷ 0x8000000000000005 ∷ 0x8000000000000000 ∷ 9 ∷ 0x8000000000000000 ∷ 0x8000000000000009 ∷ 0x8000000000000000 ∷ 0x8000000000000001 ∷ 0x8000000000000000 ∷ 9 ∷ 0 ∷ 0x8000000000000002 ∷ 0 ∷ 0x8000000000000001 ∷ 0x8000000000000000 ∷ 0x8000000000000001 ∷ 0 ∷ 9 ∷ 0x8000000000000000 ∷ 0x8000000000000009 ∷ 0 ∷ 0x8000000000000009 ∷ 0x8000000000000000 ∷ 0x8000000000000005 ∷ 0x8000000000000000 ∷ 0x8000000000000009 ∷ 0x8000000000000000 ∷ 9 ∷ 0x8000000000000000 ∷ 0x8000000000000009 ∷ 0 ∷ 0x8000000000000005 ∷ 0x8000000000000000 ∷ 9 ∷ 0 ∷ 0x8000000000000001 ∷ 0 ∷ 0x8000000000000005 ∷ 0 ∷ 0x8000000000000001 ∷ 0x8000000000000000 ∷ 0x8000000000000001 ∷ 0x8000000000000000 ∷ 0x8000000000000005 ∷ 0x8000000000000000 ∷ 9 ∷ 0x8000000000000000 ∷ 0x8000000000000009 ∷ 0x8000000000000000 ∷ 0x8000000000000001 ∷ 0 ∷ 0x8000000000000005 ∷ 0 ∷ 9 ∷ 0 ∷ 0x8000000000000009 ∷ 0 ∷ 0x8000000000000005 ∷ 0x8000000000000000 ∷ 0x8000000000000009 ∷ 0 ∷ 0x8000000000000001 ∷ 0x8000000000000000 ∷ 9 ∷ 0 ∷ 0x8000000000000009 ∷ 0x8000000000000000 ∷ 0x8000000000000005 ∷ 0 ∷ 9 ∷ 0x8000000000000000 ∷ 0x8000000000000001 ∷ 0 ∷ 0x8000000000000009 ∷ 0 ∷ 0x8000000000000001 ∷ 0x8000000000000000 ∷ 9 ∷ 0 ∷ 0x8000000000000005 ∷ 0x8000000000000000 ∷ 0x8000000000000005 ∷ 0 ∷ 9 ∷ 0x8000000000000000 ∷ 0x8000000000000001 ∷ 0 ∷ 0x8000000000000009 ∷ 0x8000000000000000 ∷ []) (42 ∷ 0 ∷ []) 0x101 (0 ∷ 0x19 ∷ []) (42 ∷ 0x44 ∷ [])

abbrev row_1016 : Bool
row_1016 = rows posted 15 (0x8000000000000001 ∷ 0x8000000000000000 ∷ 0x8000000000000005 ∷ 0 ∷ 0x8000000000000001 ∷ 0 ∷ 0x8000000000000009 ∷ 0 ∷ 0x8000000000000009 ∷ 0x8000000000000000 ∷ 9 ∷ 0 ∷ 9 ∷ 0x8000000000000000 ∷ 0x8000000000000005 ∷ 0 ∷ 0x8000000000000009 ∷ 0x8000000000000000 ∷ 9 ∷ 0x8000000000000000 ∷ 0x8000000000000005 ∷ 0x8000000000000000 ∷ 0x8000000000000001 ∷ 0x8000000000000000 ∷ 0x8000000000000009 ∷ 0 ∷ 9 ∷ 0 ∷ 0x8000000000000005 ∷ 0 ∷ 0x8000000000000001 ∷ 0 ∷ 9 ∷ 0 ∷ 0x8000000000000009 ∷ 0 ∷ 0x8000000000000001 ∷ 0 ∷ 0x8000000000000005 ∷ 0 ∷ 0x8000000000000005 ∷ 0x8000000000000000 ∷ 9 ∷ 0x8000000000000000 ∷ 0x8000000000000009 ∷ 0x8000000000000000 ∷ 0x8000000000000001 ∷ 0x8000000000000000 ∷ 9 ∷ 0 ∷ 0x8000000000000005 ∷ 0 ∷ 0 ∷ 0 ∷ 0x8000000000000001 ∷ 0 ∷ 9 ∷ 0x8000000000000000 ∷ 0x8000000000000009 ∷ 0 ∷ 0x8000000000000009 ∷ 0x8000000000000000 ∷ 0x8000000000000005 ∷ 0x8000000000000000 ∷ 0x8000000000000009 ∷ 0x8000000000000000 ∷ 9 ∷ 0x8000000000000000 ∷ 0x8000000000000009 ∷ 0 ∷ 0x8000000000000005 ∷ 0x8000000000000000 ∷ 9 ∷ 0 ∷ 0x8000000000000001 ∷ 0 ∷ 0x8000000000000005 ∷ 0 ∷ 0x8000000000000001 ∷ 0x8000000000000000 ∷ 0x8000000000000001 ∷ 0x8000000000000000 ∷ 0x8000000000000005 ∷ 0x8000000000000000 ∷ 9 ∷ 0x8000000000000000 ∷ 0x8000000000000009 ∷ 0x8000000000000000 ∷ 0x8000000000000001 ∷ 0 ∷ 0x8000000000000005 ∷ 0 ∷ 9 ∷ 0 ∷ 0x8000000000000009 ∷ 0 ∷ 0x8000000000000005 ∷ 0x8000000000000000 ∷ 0x8000000000000009 ∷ 0 ∷ 0x8000000000000001 ∷ 0x8000000000000000 ∷ 9 ∷ 0 ∷ 0x8000000000000009 ∷ 0x8000000000000000 ∷ 0x8000000000000005 ∷ 0 ∷ 9 ∷ 0x8000000000000000 ∷ 0x8000000000000001 ∷ 0 ∷ 0x8000000000000009 ∷ 0 ∷ 0x8000000000000001 ∷ 0x8000000000000000 ∷ 9 ∷ 0 ∷ 0x8000000000000005 ∷ 0x8000000000000000 ∷ 0x8000000000000005 ∷ 0 ∷ 9 ∷ 0x8000000000000000 ∷ 0x8000000000000001 ∷ 0 ∷ 0x8000000000000009 ∷ 0x8000000000000000 ∷ []) (42 ∷ 0 ∷ []) 0x101 (0 ∷ 0x1a ∷ []) (42 ∷ 4 ∷ [])

abbrev row_1017 : Bool
row_1017 = rows posted 15 (0x8000000000000001 ∷ 0x8000000000000000 ∷ 0x8000000000000005 ∷ 0 ∷ 0x8000000000000001 ∷ 0 ∷ 0x8000000000000009 ∷ 0 ∷ 0x8000000000000009 ∷ 0x8000000000000000 ∷ 9 ∷ 0 ∷ 9 ∷ 0x8000000000000000 ∷ 0x8000000000000005 ∷ 0 ∷ 0x8000000000000009 ∷ 0x8000000000000000 ∷ 9 ∷ 0x8000000000000000 ∷ 0x8000000000000005 ∷ 0x8000000000000000 ∷ 0x8000000000000001 ∷ 0x8000000000000000 ∷ 0x8000000000000009 ∷ 0 ∷ 9 ∷ 0 ∷ 0x8000000000000005 ∷ 0 ∷ 0x8000000000000001 ∷ 0 ∷ 9 ∷ 0 ∷ 0x8000000000000009 ∷ 0 ∷ 0x8000000000000001 ∷ 0 ∷ 0x8000000000000005 ∷ 0 ∷ 0x8000000000000005 ∷ 0x8000000000000000 ∷ 9 ∷ 0x8000000000000000 ∷ 0x8000000000000009 ∷ 0x8000000000000000 ∷ 0x8000000000000001 ∷ 0x8000000000000000 ∷ 9 ∷ 0 ∷ 0x8000000000000005 ∷ 0 ∷ 0x8000000000000001 ∷ 0x8000000000000000 ∷ 0xffffffffffffffff ∷ 0 ∷ 9 ∷ 0x8000000000000000 ∷ 0x8000000000000009 ∷ 0 ∷ 0x8000000000000009 ∷ 0x8000000000000000 ∷ 0x8000000000000005 ∷ 0x8000000000000000 ∷ 0x8000000000000009 ∷ 0x8000000000000000 ∷ 9 ∷ 0x8000000000000000 ∷ 0x8000000000000009 ∷ 0 ∷ 0x8000000000000005 ∷ 0x8000000000000000 ∷ 9 ∷ 0 ∷ 0x8000000000000001 ∷ 0 ∷ 0x8000000000000005 ∷ 0 ∷ 0x8000000000000001 ∷ 0x8000000000000000 ∷ 0x8000000000000001 ∷ 0x8000000000000000 ∷ 0x8000000000000005 ∷ 0x8000000000000000 ∷ 9 ∷ 0x8000000000000000 ∷ 0x8000000000000009 ∷ 0x8000000000000000 ∷ 0x8000000000000001 ∷ 0 ∷ 0x8000000000000005 ∷ 0 ∷ 9 ∷ 0 ∷ 0x8000000000000009 ∷ 0 ∷ 0x8000000000000005 ∷ 0x8000000000000000 ∷ 0x8000000000000009 ∷ 0 ∷ 0x8000000000000001 ∷ 0x8000000000000000 ∷ 9 ∷ 0 ∷ 0x8000000000000009 ∷ 0x8000000000000000 ∷ 0x8000000000000005 ∷ 0 ∷ 9 ∷ 0x8000000000000000 ∷ 0x8000000000000001 ∷ 0 ∷ 0x8000000000000009 ∷ 0 ∷ 0x8000000000000001 ∷ 0x8000000000000000 ∷ 9 ∷ 0 ∷ 0x8000000000000005 ∷ 0x8000000000000000 ∷ 0x8000000000000005 ∷ 0 ∷ 9 ∷ 0x8000000000000000 ∷ 0x8000000000000001 ∷ 0 ∷ 0x8000000000000009 ∷ 0x8000000000000000 ∷ []) (42 ∷ 0 ∷ []) 0x101 (0 ∷ 0x1b ∷ []) (42 ∷ 4 ∷ [])

abbrev row_1018 : Bool
row_1018 = rows posted 15 (0x8000000000000001 ∷ 0x8000000000000000 ∷ 0x8000000000000005 ∷ 0 ∷ 0x8000000000000001 ∷ 0 ∷ 0x8000000000000009 ∷ 0 ∷ 0x8000000000000009 ∷ 0x8000000000000000 ∷ 9 ∷ 0 ∷ 9 ∷ 0x8000000000000000 ∷ 0x8000000000000005 ∷ 0 ∷ 0x8000000000000009 ∷ 0x8000000000000000 ∷ 9 ∷ 0x8000000000000000 ∷ 0x8000000000000005 ∷ 0x8000000000000000 ∷ 0x8000000000000001 ∷ 0x8000000000000000 ∷ 0x8000000000000009 ∷ 0 ∷ 9 ∷ 0 ∷ 0x8000000000000005 ∷ 0 ∷ 0x8000000000000001 ∷ 0 ∷ 9 ∷ 0 ∷ 0x8000000000000009 ∷ 0 ∷ 0x8000000000000001 ∷ 0 ∷ 0x8000000000000005 ∷ 0 ∷ 0x8000000000000005 ∷ 0x8000000000000000 ∷ 9 ∷ 0x8000000000000000 ∷ 0x8000000000000009 ∷ 0x8000000000000000 ∷ 0x8000000000000001 ∷ 0x8000000000000000 ∷ 9 ∷ 0 ∷ 0x8000000000000005 ∷ 0 ∷ 0x8000000000000001 ∷ 0x8000000000000000 ∷ 0x8000000000000001 ∷ 0 ∷ 5 ∷ 0x8000000000000000 ∷ 0x8000000000000009 ∷ 0 ∷ 0x8000000000000009 ∷ 0x8000000000000000 ∷ 0x8000000000000005 ∷ 0x8000000000000000 ∷ 0x8000000000000009 ∷ 0x8000000000000000 ∷ 9 ∷ 0x8000000000000000 ∷ 0x8000000000000009 ∷ 0 ∷ 0x8000000000000005 ∷ 0x8000000000000000 ∷ 9 ∷ 0 ∷ 0x8000000000000001 ∷ 0 ∷ 0x8000000000000005 ∷ 0 ∷ 0x8000000000000001 ∷ 0x8000000000000000 ∷ 0x8000000000000001 ∷ 0x8000000000000000 ∷ 0x8000000000000005 ∷ 0x8000000000000000 ∷ 9 ∷ 0x8000000000000000 ∷ 0x8000000000000009 ∷ 0x8000000000000000 ∷ 0x8000000000000001 ∷ 0 ∷ 0x8000000000000005 ∷ 0 ∷ 9 ∷ 0 ∷ 0x8000000000000009 ∷ 0 ∷ 0x8000000000000005 ∷ 0x8000000000000000 ∷ 0x8000000000000009 ∷ 0 ∷ 0x8000000000000001 ∷ 0x8000000000000000 ∷ 9 ∷ 0 ∷ 0x8000000000000009 ∷ 0x8000000000000000 ∷ 0x8000000000000005 ∷ 0 ∷ 9 ∷ 0x8000000000000000 ∷ 0x8000000000000001 ∷ 0 ∷ 0x8000000000000009 ∷ 0 ∷ 0x8000000000000001 ∷ 0x8000000000000000 ∷ 9 ∷ 0 ∷ 0x8000000000000005 ∷ 0x8000000000000000 ∷ 0x8000000000000005 ∷ 0 ∷ 9 ∷ 0x8000000000000000 ∷ 0x8000000000000001 ∷ 0 ∷ 0x8000000000000009 ∷ 0x8000000000000000 ∷ []) (42 ∷ 0 ∷ []) 0x101 (0 ∷ 0x1c ∷ []) ([])

abbrev row_1019 : Bool
row_1019 = rows posted 15 (0x8000000000000001 ∷ 0x8000000000000000 ∷ 0x8000000000000005 ∷ 0 ∷ 0x8000000000000001 ∷ 0 ∷ 0x8000000000000009 ∷ 0 ∷ 0x8000000000000009 ∷ 0x8000000000000000 ∷ 9 ∷ 0 ∷ 9 ∷ 0x8000000000000000 ∷ 0x8000000000000005 ∷ 0 ∷ 0x8000000000000009 ∷ 0x8000000000000000 ∷ 9 ∷ 0x8000000000000000 ∷ 0x8000000000000005 ∷ 0x8000000000000000 ∷ 0x8000000000000001 ∷ 0x8000000000000000 ∷ 0x8000000000000009 ∷ 0 ∷ 9 ∷ 0 ∷ 0x8000000000000005 ∷ 0 ∷ 0x8000000000000001 ∷ 0 ∷ 9 ∷ 0 ∷ 0x8000000000000009 ∷ 0 ∷ 0x8000000000000001 ∷ 0 ∷ 0x8000000000000005 ∷ 0 ∷ 0x8000000000000005 ∷ 0x8000000000000000 ∷ 9 ∷ 0x8000000000000000 ∷ 0x8000000000000009 ∷ 0x8000000000000000 ∷ 0x8000000000000001 ∷ 0x8000000000000000 ∷ 9 ∷ 0 ∷ 0x8000000000000005 ∷ 0 ∷ 0x8000000000000001 ∷ 0x8000000000000000 ∷ 0x8000000000000001 ∷ 0 ∷ 9 ∷ 0x8000000000000000 ∷ 0x8000000000000002 ∷ 0x8000000000000000 ∷ 0x8000000000000009 ∷ 0x8000000000000000 ∷ 0x8000000000000005 ∷ 0x8000000000000000 ∷ 0x8000000000000009 ∷ 0x8000000000000000 ∷ 9 ∷ 0x8000000000000000 ∷ 0x8000000000000009 ∷ 0 ∷ 0x8000000000000005 ∷ 0x8000000000000000 ∷ 9 ∷ 0 ∷ 0x8000000000000001 ∷ 0 ∷ 0x8000000000000005 ∷ 0 ∷ 0x8000000000000001 ∷ 0x8000000000000000 ∷ 0x8000000000000001 ∷ 0x8000000000000000 ∷ 0x8000000000000005 ∷ 0x8000000000000000 ∷ 9 ∷ 0x8000000000000000 ∷ 0x8000000000000009 ∷ 0x8000000000000000 ∷ 0x8000000000000001 ∷ 0 ∷ 0x8000000000000005 ∷ 0 ∷ 9 ∷ 0 ∷ 0x8000000000000009 ∷ 0 ∷ 0x8000000000000005 ∷ 0x8000000000000000 ∷ 0x8000000000000009 ∷ 0 ∷ 0x8000000000000001 ∷ 0x8000000000000000 ∷ 9 ∷ 0 ∷ 0x8000000000000009 ∷ 0x8000000000000000 ∷ 0x8000000000000005 ∷ 0 ∷ 9 ∷ 0x8000000000000000 ∷ 0x8000000000000001 ∷ 0 ∷ 0x8000000000000009 ∷ 0 ∷ 0x8000000000000001 ∷ 0x8000000000000000 ∷ 9 ∷ 0 ∷ 0x8000000000000005 ∷ 0x8000000000000000 ∷ 0x8000000000000005 ∷ 0 ∷ 9 ∷ 0x8000000000000000 ∷ 0x8000000000000001 ∷ 0 ∷ 0x8000000000000009 ∷ 0x8000000000000000 ∷ []) (42 ∷ 0 ∷ []) 0x101 (0 ∷ 0x1d ∷ []) (42 ∷ 0x400 ∷ [])

abbrev row_1020 : Bool
row_1020 = rows posted 15 (0x8000000000000001 ∷ 0x8000000000000000 ∷ 0x8000000000000005 ∷ 0 ∷ 0x8000000000000001 ∷ 0 ∷ 0x8000000000000009 ∷ 0 ∷ 0x8000000000000009 ∷ 0x8000000000000000 ∷ 9 ∷ 0 ∷ 9 ∷ 0x8000000000000000 ∷ 0x8000000000000005 ∷ 0 ∷ 0x8000000000000009 ∷ 0x8000000000000000 ∷ 9 ∷ 0x8000000000000000 ∷ 0x8000000000000005 ∷ 0x8000000000000000 ∷ 0x8000000000000001 ∷ 0x8000000000000000 ∷ 0x8000000000000009 ∷ 0 ∷ 9 ∷ 0 ∷ 0x8000000000000005 ∷ 0 ∷ 0x8000000000000001 ∷ 0 ∷ 9 ∷ 0 ∷ 0x8000000000000009 ∷ 0 ∷ 0x8000000000000001 ∷ 0 ∷ 0x8000000000000005 ∷ 0 ∷ 0x8000000000000005 ∷ 0x8000000000000000 ∷ 9 ∷ 0x8000000000000000 ∷ 0x8000000000000009 ∷ 0x8000000000000000 ∷ 0x8000000000000001 ∷ 0x8000000000000000 ∷ 9 ∷ 0 ∷ 0x8000000000000005 ∷ 0 ∷ 0x8000000000000001 ∷ 0x8000000000000000 ∷ 0x8000000000000001 ∷ 0 ∷ 9 ∷ 0x8000000000000000 ∷ 0x8000000000000009 ∷ 0 ∷ 0 ∷ 0x8000000000000000 ∷ 0x8000000000000005 ∷ 0x8000000000000000 ∷ 0x8000000000000009 ∷ 0x8000000000000000 ∷ 9 ∷ 0x8000000000000000 ∷ 0x8000000000000009 ∷ 0 ∷ 0x8000000000000005 ∷ 0x8000000000000000 ∷ 9 ∷ 0 ∷ 0x8000000000000001 ∷ 0 ∷ 0x8000000000000005 ∷ 0 ∷ 0x8000000000000001 ∷ 0x8000000000000000 ∷ 0x8000000000000001 ∷ 0x8000000000000000 ∷ 0x8000000000000005 ∷ 0x8000000000000000 ∷ 9 ∷ 0x8000000000000000 ∷ 0x8000000000000009 ∷ 0x8000000000000000 ∷ 0x8000000000000001 ∷ 0 ∷ 0x8000000000000005 ∷ 0 ∷ 9 ∷ 0 ∷ 0x8000000000000009 ∷ 0 ∷ 0x8000000000000005 ∷ 0x8000000000000000 ∷ 0x8000000000000009 ∷ 0 ∷ 0x8000000000000001 ∷ 0x8000000000000000 ∷ 9 ∷ 0 ∷ 0x8000000000000009 ∷ 0x8000000000000000 ∷ 0x8000000000000005 ∷ 0 ∷ 9 ∷ 0x8000000000000000 ∷ 0x8000000000000001 ∷ 0 ∷ 0x8000000000000009 ∷ 0 ∷ 0x8000000000000001 ∷ 0x8000000000000000 ∷ 9 ∷ 0 ∷ 0x8000000000000005 ∷ 0x8000000000000000 ∷ 0x8000000000000005 ∷ 0 ∷ 9 ∷ 0x8000000000000000 ∷ 0x8000000000000001 ∷ 0 ∷ 0x8000000000000009 ∷ 0x8000000000000000 ∷ []) (42 ∷ 0 ∷ []) 0x101 (0 ∷ 0x1e ∷ []) ([])

abbrev row_1021 : Bool
row_1021 = rows posted 15 (0x8000000000000001 ∷ 0x8000000000000000 ∷ 0x8000000000000005 ∷ 0 ∷ 0x8000000000000001 ∷ 0 ∷ 0x8000000000000009 ∷ 0 ∷ 0x8000000000000009 ∷ 0x8000000000000000 ∷ 9 ∷ 0 ∷ 9 ∷ 0x8000000000000000 ∷ 0x8000000000000005 ∷ 0 ∷ 0x8000000000000009 ∷ 0x8000000000000000 ∷ 9 ∷ 0x8000000000000000 ∷ 0x8000000000000005 ∷ 0x8000000000000000 ∷ 0x8000000000000001 ∷ 0x8000000000000000 ∷ 0x8000000000000009 ∷ 0 ∷ 9 ∷ 0 ∷ 0x8000000000000005 ∷ 0 ∷ 0x8000000000000001 ∷ 0 ∷ 9 ∷ 0 ∷ 0x8000000000000009 ∷ 0 ∷ 0x8000000000000001 ∷ 0 ∷ 0x8000000000000005 ∷ 0 ∷ 0x8000000000000005 ∷ 0x8000000000000000 ∷ 9 ∷ 0x8000000000000000 ∷ 0x8000000000000009 ∷ 0x8000000000000000 ∷ 0x8000000000000001 ∷ 0x8000000000000000 ∷ 9 ∷ 0 ∷ 0x8000000000000005 ∷ 0 ∷ 0x8000000000000001 ∷ 0x8000000000000000 ∷ 0x8000000000000001 ∷ 0 ∷ 9 ∷ 0x8000000000000000 ∷ 0x8000000000000009 ∷ 0 ∷ 0x8000000000000009 ∷ 0x8000000000000000 ∷ 0xffffffffffffffff ∷ 0x8000000000000000 ∷ 0x8000000000000009 ∷ 0x8000000000000000 ∷ 9 ∷ 0x8000000000000000 ∷ 0x8000000000000009 ∷ 0 ∷ 0x8000000000000005 ∷ 0x8000000000000000 ∷ 9 ∷ 0 ∷ 0x8000000000000001 ∷ 0 ∷ 0x8000000000000005 ∷ 0 ∷ 0x8000000000000001 ∷ 0x8000000000000000 ∷ 0x8000000000000001 ∷ 0x8000000000000000 ∷ 0x8000000000000005 ∷ 0x8000000000000000 ∷ 9 ∷ 0x8000000000000000 ∷ 0x8000000000000009 ∷ 0x8000000000000000 ∷ 0x8000000000000001 ∷ 0 ∷ 0x8000000000000005 ∷ 0 ∷ 9 ∷ 0 ∷ 0x8000000000000009 ∷ 0 ∷ 0x8000000000000005 ∷ 0x8000000000000000 ∷ 0x8000000000000009 ∷ 0 ∷ 0x8000000000000001 ∷ 0x8000000000000000 ∷ 9 ∷ 0 ∷ 0x8000000000000009 ∷ 0x8000000000000000 ∷ 0x8000000000000005 ∷ 0 ∷ 9 ∷ 0x8000000000000000 ∷ 0x8000000000000001 ∷ 0 ∷ 0x8000000000000009 ∷ 0 ∷ 0x8000000000000001 ∷ 0x8000000000000000 ∷ 9 ∷ 0 ∷ 0x8000000000000005 ∷ 0x8000000000000000 ∷ 0x8000000000000005 ∷ 0 ∷ 9 ∷ 0x8000000000000000 ∷ 0x8000000000000001 ∷ 0 ∷ 0x8000000000000009 ∷ 0x8000000000000000 ∷ []) (42 ∷ 0 ∷ []) 0x101 (0 ∷ 0x1f ∷ []) (42 ∷ 0x400 ∷ [])

abbrev row_1022 : Bool
row_1022 = rows posted 15 (0x8000000000000001 ∷ 0x8000000000000000 ∷ 0x8000000000000005 ∷ 0 ∷ 0x8000000000000001 ∷ 0 ∷ 0x8000000000000009 ∷ 0 ∷ 0x8000000000000009 ∷ 0x8000000000000000 ∷ 9 ∷ 0 ∷ 9 ∷ 0x8000000000000000 ∷ 0x8000000000000005 ∷ 0 ∷ 0x8000000000000009 ∷ 0x8000000000000000 ∷ 9 ∷ 0x8000000000000000 ∷ 0x8000000000000005 ∷ 0x8000000000000000 ∷ 0x8000000000000001 ∷ 0x8000000000000000 ∷ 0x8000000000000009 ∷ 0 ∷ 9 ∷ 0 ∷ 0x8000000000000005 ∷ 0 ∷ 0x8000000000000001 ∷ 0 ∷ 9 ∷ 0 ∷ 0x8000000000000009 ∷ 0 ∷ 0x8000000000000001 ∷ 0 ∷ 0x8000000000000005 ∷ 0 ∷ 0x8000000000000005 ∷ 0x8000000000000000 ∷ 9 ∷ 0x8000000000000000 ∷ 0x8000000000000009 ∷ 0x8000000000000000 ∷ 0x8000000000000001 ∷ 0x8000000000000000 ∷ 9 ∷ 0 ∷ 0x8000000000000005 ∷ 0 ∷ 0x8000000000000001 ∷ 0x8000000000000000 ∷ 0x8000000000000001 ∷ 0 ∷ 9 ∷ 0x8000000000000000 ∷ 0x8000000000000009 ∷ 0 ∷ 0x8000000000000009 ∷ 0x8000000000000000 ∷ 0x8000000000000005 ∷ 0x8000000000000000 ∷ 5 ∷ 0 ∷ 9 ∷ 0x8000000000000000 ∷ 0x8000000000000009 ∷ 0 ∷ 0x8000000000000005 ∷ 0x8000000000000000 ∷ 9 ∷ 0 ∷ 0x8000000000000001 ∷ 0 ∷ 0x8000000000000005 ∷ 0 ∷ 0x8000000000000001 ∷ 0x8000000000000000 ∷ 0x8000000000000001 ∷ 0x8000000000000000 ∷ 0x8000000000000005 ∷ 0x8000000000000000 ∷ 9 ∷ 0x8000000000000000 ∷ 0x8000000000000009 ∷ 0x8000000000000000 ∷ 0x8000000000000001 ∷ 0 ∷ 0x8000000000000005 ∷ 0 ∷ 9 ∷ 0 ∷ 0x8000000000000009 ∷ 0 ∷ 0x8000000000000005 ∷ 0x8000000000000000 ∷ 0x8000000000000009 ∷ 0 ∷ 0x8000000000000001 ∷ 0x8000000000000000 ∷ 9 ∷ 0 ∷ 0x8000000000000009 ∷ 0x8000000000000000 ∷ 0x8000000000000005 ∷ 0 ∷ 9 ∷ 0x8000000000000000 ∷ 0x8000000000000001 ∷ 0 ∷ 0x8000000000000009 ∷ 0 ∷ 0x8000000000000001 ∷ 0x8000000000000000 ∷ 9 ∷ 0 ∷ 0x8000000000000005 ∷ 0x8000000000000000 ∷ 0x8000000000000005 ∷ 0 ∷ 9 ∷ 0x8000000000000000 ∷ 0x8000000000000001 ∷ 0 ∷ 0x8000000000000009 ∷ 0x8000000000000000 ∷ []) (42 ∷ 0 ∷ []) 0x101 (0 ∷ 0x20 ∷ []) (42 ∷ 0x440 ∷ [])

abbrev row_1023 : Bool
row_1023 = rows posted 15 (0x8000000000000001 ∷ 0x8000000000000000 ∷ 0x8000000000000005 ∷ 0 ∷ 0x8000000000000001 ∷ 0 ∷ 0x8000000000000009 ∷ 0 ∷ 0x8000000000000009 ∷ 0x8000000000000000 ∷ 9 ∷ 0 ∷ 9 ∷ 0x8000000000000000 ∷ 0x8000000000000005 ∷ 0 ∷ 0x8000000000000009 ∷ 0x8000000000000000 ∷ 9 ∷ 0x8000000000000000 ∷ 0x8000000000000005 ∷ 0x8000000000000000 ∷ 0x8000000000000001 ∷ 0x8000000000000000 ∷ 0x8000000000000009 ∷ 0 ∷ 9 ∷ 0 ∷ 0x8000000000000005 ∷ 0 ∷ 0x8000000000000001 ∷ 0 ∷ 9 ∷ 0 ∷ 0x8000000000000009 ∷ 0 ∷ 0x8000000000000001 ∷ 0 ∷ 0x8000000000000005 ∷ 0 ∷ 0x8000000000000005 ∷ 0x8000000000000000 ∷ 9 ∷ 0x8000000000000000 ∷ 0x8000000000000009 ∷ 0x8000000000000000 ∷ 0x8000000000000001 ∷ 0x8000000000000000 ∷ 9 ∷ 0 ∷ 0x8000000000000005 ∷ 0 ∷ 0x8000000000000001 ∷ 0x8000000000000000 ∷ 0x8000000000000001 ∷ 0 ∷ 9 ∷ 0x8000000000000000 ∷ 0x8000000000000009 ∷ 0 ∷ 0x8000000000000009 ∷ 0x8000000000000000 ∷ 0x8000000000000005 ∷ 0x8000000000000000 ∷ 0x8000000000000009 ∷ 0x8000000000000000 ∷ 0x8000000000000002 ∷ 0 ∷ 0x8000000000000009 ∷ 0 ∷ 0x8000000000000005 ∷ 0x8000000000000000 ∷ 9 ∷ 0 ∷ 0x8000000000000001 ∷ 0 ∷ 0x8000000000000005 ∷ 0 ∷ 0x8000000000000001 ∷ 0x8000000000000000 ∷ 0x8000000000000001 ∷ 0x8000000000000000 ∷ 0x8000000000000005 ∷ 0x8000000000000000 ∷ 9 ∷ 0x8000000000000000 ∷ 0x8000000000000009 ∷ 0x8000000000000000 ∷ 0x8000000000000001 ∷ 0 ∷ 0x8000000000000005 ∷ 0 ∷ 9 ∷ 0 ∷ 0x8000000000000009 ∷ 0 ∷ 0x8000000000000005 ∷ 0x8000000000000000 ∷ 0x8000000000000009 ∷ 0 ∷ 0x8000000000000001 ∷ 0x8000000000000000 ∷ 9 ∷ 0 ∷ 0x8000000000000009 ∷ 0x8000000000000000 ∷ 0x8000000000000005 ∷ 0 ∷ 9 ∷ 0x8000000000000000 ∷ 0x8000000000000001 ∷ 0 ∷ 0x8000000000000009 ∷ 0 ∷ 0x8000000000000001 ∷ 0x8000000000000000 ∷ 9 ∷ 0 ∷ 0x8000000000000005 ∷ 0x8000000000000000 ∷ 0x8000000000000005 ∷ 0 ∷ 9 ∷ 0x8000000000000000 ∷ 0x8000000000000001 ∷ 0 ∷ 0x8000000000000009 ∷ 0x8000000000000000 ∷ []) (42 ∷ 0 ∷ []) 0x101 (0 ∷ 0x21 ∷ []) (42 ∷ 0x440 ∷ [])

abbrev row_1024 : Bool
row_1024 = rows posted 15 (0x8000000000000001 ∷ 0x8000000000000000 ∷ 0x8000000000000005 ∷ 0 ∷ 0x8000000000000001 ∷ 0 ∷ 0x8000000000000009 ∷ 0 ∷ 0x8000000000000009 ∷ 0x8000000000000000 ∷ 9 ∷ 0 ∷ 9 ∷ 0x8000000000000000 ∷ 0x8000000000000005 ∷ 0 ∷ 0x8000000000000009 ∷ 0x8000000000000000 ∷ 9 ∷ 0x8000000000000000 ∷ 0x8000000000000005 ∷ 0x8000000000000000 ∷ 0x8000000000000001 ∷ 0x8000000000000000 ∷ 0x8000000000000009 ∷ 0 ∷ 9 ∷ 0 ∷ 0x8000000000000005 ∷ 0 ∷ 0x8000000000000001 ∷ 0 ∷ 9 ∷ 0 ∷ 0x8000000000000009 ∷ 0 ∷ 0x8000000000000001 ∷ 0 ∷ 0x8000000000000005 ∷ 0 ∷ 0x8000000000000005 ∷ 0x8000000000000000 ∷ 9 ∷ 0x8000000000000000 ∷ 0x8000000000000009 ∷ 0x8000000000000000 ∷ 0x8000000000000001 ∷ 0x8000000000000000 ∷ 9 ∷ 0 ∷ 0x8000000000000005 ∷ 0 ∷ 0x8000000000000001 ∷ 0x8000000000000000 ∷ 0x8000000000000001 ∷ 0 ∷ 9 ∷ 0x8000000000000000 ∷ 0x8000000000000009 ∷ 0 ∷ 0x8000000000000009 ∷ 0x8000000000000000 ∷ 0x8000000000000005 ∷ 0x8000000000000000 ∷ 0x8000000000000009 ∷ 0x8000000000000000 ∷ 9 ∷ 0x8000000000000000 ∷ 0 ∷ 0 ∷ 0x8000000000000005 ∷ 0x8000000000000000 ∷ 9 ∷ 0 ∷ 0x8000000000000001 ∷ 0 ∷ 0x8000000000000005 ∷ 0 ∷ 0x8000000000000001 ∷ 0x8000000000000000 ∷ 0x8000000000000001 ∷ 0x8000000000000000 ∷ 0x8000000000000005 ∷ 0x8000000000000000 ∷ 9 ∷ 0x8000000000000000 ∷ 0x8000000000000009 ∷ 0x8000000000000000 ∷ 0x8000000000000001 ∷ 0 ∷ 0x8000000000000005 ∷ 0 ∷ 9 ∷ 0 ∷ 0x8000000000000009 ∷ 0 ∷ 0x8000000000000005 ∷ 0x8000000000000000 ∷ 0x8000000000000009 ∷ 0 ∷ 0x8000000000000001 ∷ 0x8000000000000000 ∷ 9 ∷ 0 ∷ 0x8000000000000009 ∷ 0x8000000000000000 ∷ 0x8000000000000005 ∷ 0 ∷ 9 ∷ 0x8000000000000000 ∷ 0x8000000000000001 ∷ 0 ∷ 0x8000000000000009 ∷ 0 ∷ 0x8000000000000001 ∷ 0x8000000000000000 ∷ 9 ∷ 0 ∷ 0x8000000000000005 ∷ 0x8000000000000000 ∷ 0x8000000000000005 ∷ 0 ∷ 9 ∷ 0x8000000000000000 ∷ 0x8000000000000001 ∷ 0 ∷ 0x8000000000000009 ∷ 0x8000000000000000 ∷ []) (42 ∷ 0 ∷ []) 0x101 (0 ∷ 0x22 ∷ []) (42 ∷ 0x440 ∷ [])

abbrev row_1025 : Bool
row_1025 = rows posted 15 (0x8000000000000001 ∷ 0x8000000000000000 ∷ 0x8000000000000005 ∷ 0 ∷ 0x8000000000000001 ∷ 0 ∷ 0x8000000000000009 ∷ 0 ∷ 0x8000000000000009 ∷ 0x8000000000000000 ∷ 9 ∷ 0 ∷ 9 ∷ 0x8000000000000000 ∷ 0x8000000000000005 ∷ 0 ∷ 0x8000000000000009 ∷ 0x8000000000000000 ∷ 9 ∷ 0x8000000000000000 ∷ 0x8000000000000005 ∷ 0x8000000000000000 ∷ 0x8000000000000001 ∷ 0x8000000000000000 ∷ 0x8000000000000009 ∷ 0 ∷ 9 ∷ 0 ∷ 0x8000000000000005 ∷ 0 ∷ 0x8000000000000001 ∷ 0 ∷ 9 ∷ 0 ∷ 0x8000000000000009 ∷ 0 ∷ 0x8000000000000001 ∷ 0 ∷ 0x8000000000000005 ∷ 0 ∷ 0x8000000000000005 ∷ 0x8000000000000000 ∷ 9 ∷ 0x8000000000000000 ∷ 0x8000000000000009 ∷ 0x8000000000000000 ∷ 0x8000000000000001 ∷ 0x8000000000000000 ∷ 9 ∷ 0 ∷ 0x8000000000000005 ∷ 0 ∷ 0x8000000000000001 ∷ 0x8000000000000000 ∷ 0x8000000000000001 ∷ 0 ∷ 9 ∷ 0x8000000000000000 ∷ 0x8000000000000009 ∷ 0 ∷ 0x8000000000000009 ∷ 0x8000000000000000 ∷ 0x8000000000000005 ∷ 0x8000000000000000 ∷ 0x8000000000000009 ∷ 0x8000000000000000 ∷ 9 ∷ 0x8000000000000000 ∷ 0x8000000000000009 ∷ 0 ∷ 0xffffffffffffffff ∷ 0 ∷ 9 ∷ 0 ∷ 0x8000000000000001 ∷ 0 ∷ 0x8000000000000005 ∷ 0 ∷ 0x8000000000000001 ∷ 0x8000000000000000 ∷ 0x8000000000000001 ∷ 0x8000000000000000 ∷ 0x8000000000000005 ∷ 0x8000000000000000 ∷ 9 ∷ 0x8000000000000000 ∷ 0x8000000000000009 ∷ 0x8000000000000000 ∷ 0x8000000000000001 ∷ 0 ∷ 0x8000000000000005 ∷ 0 ∷ 9 ∷ 0 ∷ 0x8000000000000009 ∷ 0 ∷ 0x8000000000000005 ∷ 0x8000000000000000 ∷ 0x8000000000000009 ∷ 0 ∷ 0x8000000000000001 ∷ 0x8000000000000000 ∷ 9 ∷ 0 ∷ 0x8000000000000009 ∷ 0x8000000000000000 ∷ 0x8000000000000005 ∷ 0 ∷ 9 ∷ 0x8000000000000000 ∷ 0x8000000000000001 ∷ 0 ∷ 0x8000000000000009 ∷ 0 ∷ 0x8000000000000001 ∷ 0x8000000000000000 ∷ 9 ∷ 0 ∷ 0x8000000000000005 ∷ 0x8000000000000000 ∷ 0x8000000000000005 ∷ 0 ∷ 9 ∷ 0x8000000000000000 ∷ 0x8000000000000001 ∷ 0 ∷ 0x8000000000000009 ∷ 0x8000000000000000 ∷ []) (42 ∷ 0 ∷ []) 0x101 (0 ∷ 0x23 ∷ []) (42 ∷ 0x40 ∷ [])

abbrev row_1026 : Bool
row_1026 = rows posted 15 (0x8000000000000001 ∷ 0x8000000000000000 ∷ 0x8000000000000005 ∷ 0 ∷ 0x8000000000000001 ∷ 0 ∷ 0x8000000000000009 ∷ 0 ∷ 0x8000000000000009 ∷ 0x8000000000000000 ∷ 9 ∷ 0 ∷ 9 ∷ 0x8000000000000000 ∷ 0x8000000000000005 ∷ 0 ∷ 0x8000000000000009 ∷ 0x8000000000000000 ∷ 9 ∷ 0x8000000000000000 ∷ 0x8000000000000005 ∷ 0x8000000000000000 ∷ 0x8000000000000001 ∷ 0x8000000000000000 ∷ 0x8000000000000009 ∷ 0 ∷ 9 ∷ 0 ∷ 0x8000000000000005 ∷ 0 ∷ 0x8000000000000001 ∷ 0 ∷ 9 ∷ 0 ∷ 0x8000000000000009 ∷ 0 ∷ 0x8000000000000001 ∷ 0 ∷ 0x8000000000000005 ∷ 0 ∷ 0x8000000000000005 ∷ 0x8000000000000000 ∷ 9 ∷ 0x8000000000000000 ∷ 0x8000000000000009 ∷ 0x8000000000000000 ∷ 0x8000000000000001 ∷ 0x8000000000000000 ∷ 9 ∷ 0 ∷ 0x8000000000000005 ∷ 0 ∷ 0x8000000000000001 ∷ 0x8000000000000000 ∷ 0x8000000000000001 ∷ 0 ∷ 9 ∷ 0x8000000000000000 ∷ 0x8000000000000009 ∷ 0 ∷ 0x8000000000000009 ∷ 0x8000000000000000 ∷ 0x8000000000000005 ∷ 0x8000000000000000 ∷ 0x8000000000000009 ∷ 0x8000000000000000 ∷ 9 ∷ 0x8000000000000000 ∷ 0x8000000000000009 ∷ 0 ∷ 0x8000000000000005 ∷ 0x8000000000000000 ∷ 5 ∷ 0x8000000000000000 ∷ 0x8000000000000001 ∷ 0 ∷ 0x8000000000000005 ∷ 0 ∷ 0x8000000000000001 ∷ 0x8000000000000000 ∷ 0x8000000000000001 ∷ 0x8000000000000000 ∷ 0x8000000000000005 ∷ 0x8000000000000000 ∷ 9 ∷ 0x8000000000000000 ∷ 0x8000000000000009 ∷ 0x8000000000000000 ∷ 0x8000000000000001 ∷ 0 ∷ 0x8000000000000005 ∷ 0 ∷ 9 ∷ 0 ∷ 0x8000000000000009 ∷ 0 ∷ 0x8000000000000005 ∷ 0x8000000000000000 ∷ 0x8000000000000009 ∷ 0 ∷ 0x8000000000000001 ∷ 0x8000000000000000 ∷ 9 ∷ 0 ∷ 0x8000000000000009 ∷ 0x8000000000000000 ∷ 0x8000000000000005 ∷ 0 ∷ 9 ∷ 0x8000000000000000 ∷ 0x8000000000000001 ∷ 0 ∷ 0x8000000000000009 ∷ 0 ∷ 0x8000000000000001 ∷ 0x8000000000000000 ∷ 9 ∷ 0 ∷ 0x8000000000000005 ∷ 0x8000000000000000 ∷ 0x8000000000000005 ∷ 0 ∷ 9 ∷ 0x8000000000000000 ∷ 0x8000000000000001 ∷ 0 ∷ 0x8000000000000009 ∷ 0x8000000000000000 ∷ []) (42 ∷ 0 ∷ []) 0x101 (0 ∷ 0x24 ∷ []) (42 ∷ 0x40 ∷ [])

abbrev row_1027 : Bool
row_1027 = rows posted 15 (0x8000000000000001 ∷ 0x8000000000000000 ∷ 0x8000000000000005 ∷ 0 ∷ 0x8000000000000001 ∷ 0 ∷ 0x8000000000000009 ∷ 0 ∷ 0x8000000000000009 ∷ 0x8000000000000000 ∷ 9 ∷ 0 ∷ 9 ∷ 0x8000000000000000 ∷ 0x8000000000000005 ∷ 0 ∷ 0x8000000000000009 ∷ 0x8000000000000000 ∷ 9 ∷ 0x8000000000000000 ∷ 0x8000000000000005 ∷ 0x8000000000000000 ∷ 0x8000000000000001 ∷ 0x8000000000000000 ∷ 0x8000000000000009 ∷ 0 ∷ 9 ∷ 0 ∷ 0x8000000000000005 ∷ 0 ∷ 0x8000000000000001 ∷ 0 ∷ 9 ∷ 0 ∷ 0x8000000000000009 ∷ 0 ∷ 0x8000000000000001 ∷ 0 ∷ 0x8000000000000005 ∷ 0 ∷ 0x8000000000000005 ∷ 0x8000000000000000 ∷ 9 ∷ 0x8000000000000000 ∷ 0x8000000000000009 ∷ 0x8000000000000000 ∷ 0x8000000000000001 ∷ 0x8000000000000000 ∷ 9 ∷ 0 ∷ 0x8000000000000005 ∷ 0 ∷ 0x8000000000000001 ∷ 0x8000000000000000 ∷ 0x8000000000000001 ∷ 0 ∷ 9 ∷ 0x8000000000000000 ∷ 0x8000000000000009 ∷ 0 ∷ 0x8000000000000009 ∷ 0x8000000000000000 ∷ 0x8000000000000005 ∷ 0x8000000000000000 ∷ 0x8000000000000009 ∷ 0x8000000000000000 ∷ 9 ∷ 0x8000000000000000 ∷ 0x8000000000000009 ∷ 0 ∷ 0x8000000000000005 ∷ 0x8000000000000000 ∷ 9 ∷ 0 ∷ 0x8000000000000002 ∷ 0x8000000000000000 ∷ 0x8000000000000005 ∷ 0 ∷ 0x8000000000000001 ∷ 0x8000000000000000 ∷ 0x8000000000000001 ∷ 0x8000000000000000 ∷ 0x8000000000000005 ∷ 0x8000000000000000 ∷ 9 ∷ 0x8000000000000000 ∷ 0x8000000000000009 ∷ 0x8000000000000000 ∷ 0x8000000000000001 ∷ 0 ∷ 0x8000000000000005 ∷ 0 ∷ 9 ∷ 0 ∷ 0x8000000000000009 ∷ 0 ∷ 0x8000000000000005 ∷ 0x8000000000000000 ∷ 0x8000000000000009 ∷ 0 ∷ 0x8000000000000001 ∷ 0x8000000000000000 ∷ 9 ∷ 0 ∷ 0x8000000000000009 ∷ 0x8000000000000000 ∷ 0x8000000000000005 ∷ 0 ∷ 9 ∷ 0x8000000000000000 ∷ 0x8000000000000001 ∷ 0 ∷ 0x8000000000000009 ∷ 0 ∷ 0x8000000000000001 ∷ 0x8000000000000000 ∷ 9 ∷ 0 ∷ 0x8000000000000005 ∷ 0x8000000000000000 ∷ 0x8000000000000005 ∷ 0 ∷ 9 ∷ 0x8000000000000000 ∷ 0x8000000000000001 ∷ 0 ∷ 0x8000000000000009 ∷ 0x8000000000000000 ∷ []) (42 ∷ 0 ∷ []) 0x101 (0 ∷ 0x25 ∷ []) (42 ∷ 0x40 ∷ [])

abbrev row_1028 : Bool
row_1028 = rows posted 15 (0x8000000000000001 ∷ 0x8000000000000000 ∷ 0x8000000000000005 ∷ 0 ∷ 0x8000000000000001 ∷ 0 ∷ 0x8000000000000009 ∷ 0 ∷ 0x8000000000000009 ∷ 0x8000000000000000 ∷ 9 ∷ 0 ∷ 9 ∷ 0x8000000000000000 ∷ 0x8000000000000005 ∷ 0 ∷ 0x8000000000000009 ∷ 0x8000000000000000 ∷ 9 ∷ 0x8000000000000000 ∷ 0x8000000000000005 ∷ 0x8000000000000000 ∷ 0x8000000000000001 ∷ 0x8000000000000000 ∷ 0x8000000000000009 ∷ 0 ∷ 9 ∷ 0 ∷ 0x8000000000000005 ∷ 0 ∷ 0x8000000000000001 ∷ 0 ∷ 9 ∷ 0 ∷ 0x8000000000000009 ∷ 0 ∷ 0x8000000000000001 ∷ 0 ∷ 0x8000000000000005 ∷ 0 ∷ 0x8000000000000005 ∷ 0x8000000000000000 ∷ 9 ∷ 0x8000000000000000 ∷ 0x8000000000000009 ∷ 0x8000000000000000 ∷ 0x8000000000000001 ∷ 0x8000000000000000 ∷ 9 ∷ 0 ∷ 0x8000000000000005 ∷ 0 ∷ 0x8000000000000001 ∷ 0x8000000000000000 ∷ 0x8000000000000001 ∷ 0 ∷ 9 ∷ 0x8000000000000000 ∷ 0x8000000000000009 ∷ 0 ∷ 0x8000000000000009 ∷ 0x8000000000000000 ∷ 0x8000000000000005 ∷ 0x8000000000000000 ∷ 0x8000000000000009 ∷ 0x8000000000000000 ∷ 9 ∷ 0x8000000000000000 ∷ 0x8000000000000009 ∷ 0 ∷ 0x8000000000000005 ∷ 0x8000000000000000 ∷ 9 ∷ 0 ∷ 0x8000000000000001 ∷ 0 ∷ 0 ∷ 0x8000000000000000 ∷ 0x8000000000000001 ∷ 0x8000000000000000 ∷ 0x8000000000000001 ∷ 0x8000000000000000 ∷ 0x8000000000000005 ∷ 0x8000000000000000 ∷ 9 ∷ 0x8000000000000000 ∷ 0x8000000000000009 ∷ 0x8000000000000000 ∷ 0x8000000000000001 ∷ 0 ∷ 0x8000000000000005 ∷ 0 ∷ 9 ∷ 0 ∷ 0x8000000000000009 ∷ 0 ∷ 0x8000000000000005 ∷ 0x8000000000000000 ∷ 0x8000000000000009 ∷ 0 ∷ 0x8000000000000001 ∷ 0x8000000000000000 ∷ 9 ∷ 0 ∷ 0x8000000000000009 ∷ 0x8000000000000000 ∷ 0x8000000000000005 ∷ 0 ∷ 9 ∷ 0x8000000000000000 ∷ 0x8000000000000001 ∷ 0 ∷ 0x8000000000000009 ∷ 0 ∷ 0x8000000000000001 ∷ 0x8000000000000000 ∷ 9 ∷ 0 ∷ 0x8000000000000005 ∷ 0x8000000000000000 ∷ 0x8000000000000005 ∷ 0 ∷ 9 ∷ 0x8000000000000000 ∷ 0x8000000000000001 ∷ 0 ∷ 0x8000000000000009 ∷ 0x8000000000000000 ∷ []) (42 ∷ 0 ∷ []) 0x101 (0 ∷ 0x26 ∷ []) (42 ∷ 0x40 ∷ [])

abbrev row_1029 : Bool
row_1029 = rows posted 15 (0x8000000000000001 ∷ 0x8000000000000000 ∷ 0x8000000000000005 ∷ 0 ∷ 0x8000000000000001 ∷ 0 ∷ 0x8000000000000009 ∷ 0 ∷ 0x8000000000000009 ∷ 0x8000000000000000 ∷ 9 ∷ 0 ∷ 9 ∷ 0x8000000000000000 ∷ 0x8000000000000005 ∷ 0 ∷ 0x8000000000000009 ∷ 0x8000000000000000 ∷ 9 ∷ 0x8000000000000000 ∷ 0x8000000000000005 ∷ 0x8000000000000000 ∷ 0x8000000000000001 ∷ 0x8000000000000000 ∷ 0x8000000000000009 ∷ 0 ∷ 9 ∷ 0 ∷ 0x8000000000000005 ∷ 0 ∷ 0x8000000000000001 ∷ 0 ∷ 9 ∷ 0 ∷ 0x8000000000000009 ∷ 0 ∷ 0x8000000000000001 ∷ 0 ∷ 0x8000000000000005 ∷ 0 ∷ 0x8000000000000005 ∷ 0x8000000000000000 ∷ 9 ∷ 0x8000000000000000 ∷ 0x8000000000000009 ∷ 0x8000000000000000 ∷ 0x8000000000000001 ∷ 0x8000000000000000 ∷ 9 ∷ 0 ∷ 0x8000000000000005 ∷ 0 ∷ 0x8000000000000001 ∷ 0x8000000000000000 ∷ 0x8000000000000001 ∷ 0 ∷ 9 ∷ 0x8000000000000000 ∷ 0x8000000000000009 ∷ 0 ∷ 0x8000000000000009 ∷ 0x8000000000000000 ∷ 0x8000000000000005 ∷ 0x8000000000000000 ∷ 0x8000000000000009 ∷ 0x8000000000000000 ∷ 9 ∷ 0x8000000000000000 ∷ 0x8000000000000009 ∷ 0 ∷ 0x8000000000000005 ∷ 0x8000000000000000 ∷ 9 ∷ 0 ∷ 0x8000000000000001 ∷ 0 ∷ 0x8000000000000005 ∷ 0 ∷ 0xffffffffffffffff ∷ 0x8000000000000000 ∷ 0x8000000000000001 ∷ 0x8000000000000000 ∷ 0x8000000000000005 ∷ 0x8000000000000000 ∷ 9 ∷ 0x8000000000000000 ∷ 0x8000000000000009 ∷ 0x8000000000000000 ∷ 0x8000000000000001 ∷ 0 ∷ 0x8000000000000005 ∷ 0 ∷ 9 ∷ 0 ∷ 0x8000000000000009 ∷ 0 ∷ 0x8000000000000005 ∷ 0x8000000000000000 ∷ 0x8000000000000009 ∷ 0 ∷ 0x8000000000000001 ∷ 0x8000000000000000 ∷ 9 ∷ 0 ∷ 0x8000000000000009 ∷ 0x8000000000000000 ∷ 0x8000000000000005 ∷ 0 ∷ 9 ∷ 0x8000000000000000 ∷ 0x8000000000000001 ∷ 0 ∷ 0x8000000000000009 ∷ 0 ∷ 0x8000000000000001 ∷ 0x8000000000000000 ∷ 9 ∷ 0 ∷ 0x8000000000000005 ∷ 0x8000000000000000 ∷ 0x8000000000000005 ∷ 0 ∷ 9 ∷ 0x8000000000000000 ∷ 0x8000000000000001 ∷ 0 ∷ 0x8000000000000009 ∷ 0x8000000000000000 ∷ []) (42 ∷ 0 ∷ []) 0x101 (0 ∷ 0x27 ∷ []) ([])

abbrev row_1030 : Bool
row_1030 = rows posted 15 (0x8000000000000001 ∷ 0x8000000000000000 ∷ 0x8000000000000005 ∷ 0 ∷ 0x8000000000000001 ∷ 0 ∷ 0x8000000000000009 ∷ 0 ∷ 0x8000000000000009 ∷ 0x8000000000000000 ∷ 9 ∷ 0 ∷ 9 ∷ 0x8000000000000000 ∷ 0x8000000000000005 ∷ 0 ∷ 0x8000000000000009 ∷ 0x8000000000000000 ∷ 9 ∷ 0x8000000000000000 ∷ 0x8000000000000005 ∷ 0x8000000000000000 ∷ 0x8000000000000001 ∷ 0x8000000000000000 ∷ 0x8000000000000009 ∷ 0 ∷ 9 ∷ 0 ∷ 0x8000000000000005 ∷ 0 ∷ 0x8000000000000001 ∷ 0 ∷ 9 ∷ 0 ∷ 0x8000000000000009 ∷ 0 ∷ 0x8000000000000001 ∷ 0 ∷ 0x8000000000000005 ∷ 0 ∷ 0x8000000000000005 ∷ 0x8000000000000000 ∷ 9 ∷ 0x8000000000000000 ∷ 0x8000000000000009 ∷ 0x8000000000000000 ∷ 0x8000000000000001 ∷ 0x8000000000000000 ∷ 9 ∷ 0 ∷ 0x8000000000000005 ∷ 0 ∷ 0x8000000000000001 ∷ 0x8000000000000000 ∷ 0x8000000000000001 ∷ 0 ∷ 9 ∷ 0x8000000000000000 ∷ 0x8000000000000009 ∷ 0 ∷ 0x8000000000000009 ∷ 0x8000000000000000 ∷ 0x8000000000000005 ∷ 0x8000000000000000 ∷ 0x8000000000000009 ∷ 0x8000000000000000 ∷ 9 ∷ 0x8000000000000000 ∷ 0x8000000000000009 ∷ 0 ∷ 0x8000000000000005 ∷ 0x8000000000000000 ∷ 9 ∷ 0 ∷ 0x8000000000000001 ∷ 0 ∷ 0x8000000000000005 ∷ 0 ∷ 0x8000000000000001 ∷ 0x8000000000000000 ∷ 5 ∷ 0 ∷ 0x8000000000000005 ∷ 0x8000000000000000 ∷ 9 ∷ 0x8000000000000000 ∷ 0x8000000000000009 ∷ 0x8000000000000000 ∷ 0x8000000000000001 ∷ 0 ∷ 0x8000000000000005 ∷ 0 ∷ 9 ∷ 0 ∷ 0x8000000000000009 ∷ 0 ∷ 0x8000000000000005 ∷ 0x8000000000000000 ∷ 0x8000000000000009 ∷ 0 ∷ 0x8000000000000001 ∷ 0x8000000000000000 ∷ 9 ∷ 0 ∷ 0x8000000000000009 ∷ 0x8000000000000000 ∷ 0x8000000000000005 ∷ 0 ∷ 9 ∷ 0x8000000000000000 ∷ 0x8000000000000001 ∷ 0 ∷ 0x8000000000000009 ∷ 0 ∷ 0x8000000000000001 ∷ 0x8000000000000000 ∷ 9 ∷ 0 ∷ 0x8000000000000005 ∷ 0x8000000000000000 ∷ 0x8000000000000005 ∷ 0 ∷ 9 ∷ 0x8000000000000000 ∷ 0x8000000000000001 ∷ 0 ∷ 0x8000000000000009 ∷ 0x8000000000000000 ∷ []) (42 ∷ 0 ∷ []) 0x101 (0 ∷ 0x28 ∷ []) (42 ∷ 4 ∷ [])

abbrev row_1031 : Bool
row_1031 = rows posted 15 (0x8000000000000001 ∷ 0x8000000000000000 ∷ 0x8000000000000005 ∷ 0 ∷ 0x8000000000000001 ∷ 0 ∷ 0x8000000000000009 ∷ 0 ∷ 0x8000000000000009 ∷ 0x8000000000000000 ∷ 9 ∷ 0 ∷ 9 ∷ 0x8000000000000000 ∷ 0x8000000000000005 ∷ 0 ∷ 0x8000000000000009 ∷ 0x8000000000000000 ∷ 9 ∷ 0x8000000000000000 ∷ 0x8000000000000005 ∷ 0x8000000000000000 ∷ 0x8000000000000001 ∷ 0x8000000000000000 ∷ 0x8000000000000009 ∷ 0 ∷ 9 ∷ 0 ∷ 0x8000000000000005 ∷ 0 ∷ 0x8000000000000001 ∷ 0 ∷ 9 ∷ 0 ∷ 0x8000000000000009 ∷ 0 ∷ 0x8000000000000001 ∷ 0 ∷ 0x8000000000000005 ∷ 0 ∷ 0x8000000000000005 ∷ 0x8000000000000000 ∷ 9 ∷ 0x8000000000000000 ∷ 0x8000000000000009 ∷ 0x8000000000000000 ∷ 0x8000000000000001 ∷ 0x8000000000000000 ∷ 9 ∷ 0 ∷ 0x8000000000000005 ∷ 0 ∷ 0x8000000000000001 ∷ 0x8000000000000000 ∷ 0x8000000000000001 ∷ 0 ∷ 9 ∷ 0x8000000000000000 ∷ 0x8000000000000009 ∷ 0 ∷ 0x8000000000000009 ∷ 0x8000000000000000 ∷ 0x8000000000000005 ∷ 0x8000000000000000 ∷ 0x8000000000000009 ∷ 0x8000000000000000 ∷ 9 ∷ 0x8000000000000000 ∷ 0x8000000000000009 ∷ 0 ∷ 0x8000000000000005 ∷ 0x8000000000000000 ∷ 9 ∷ 0 ∷ 0x8000000000000001 ∷ 0 ∷ 0x8000000000000005 ∷ 0 ∷ 0x8000000000000001 ∷ 0x8000000000000000 ∷ 0x8000000000000001 ∷ 0x8000000000000000 ∷ 0x8000000000000002 ∷ 0 ∷ 9 ∷ 0x8000000000000000 ∷ 0x8000000000000009 ∷ 0x8000000000000000 ∷ 0x8000000000000001 ∷ 0 ∷ 0x8000000000000005 ∷ 0 ∷ 9 ∷ 0 ∷ 0x8000000000000009 ∷ 0 ∷ 0x8000000000000005 ∷ 0x8000000000000000 ∷ 0x8000000000000009 ∷ 0 ∷ 0x8000000000000001 ∷ 0x8000000000000000 ∷ 9 ∷ 0 ∷ 0x8000000000000009 ∷ 0x8000000000000000 ∷ 0x8000000000000005 ∷ 0 ∷ 9 ∷ 0x8000000000000000 ∷ 0x8000000000000001 ∷ 0 ∷ 0x8000000000000009 ∷ 0 ∷ 0x8000000000000001 ∷ 0x8000000000000000 ∷ 9 ∷ 0 ∷ 0x8000000000000005 ∷ 0x8000000000000000 ∷ 0x8000000000000005 ∷ 0 ∷ 9 ∷ 0x8000000000000000 ∷ 0x8000000000000001 ∷ 0 ∷ 0x8000000000000009 ∷ 0x8000000000000000 ∷ []) (42 ∷ 0 ∷ []) 0x101 (0 ∷ 0x29 ∷ []) (42 ∷ 4 ∷ [])

abbrev row_1032 : Bool
row_1032 = rows posted 15 (0x8000000000000001 ∷ 0x8000000000000000 ∷ 0x8000000000000005 ∷ 0 ∷ 0x8000000000000001 ∷ 0 ∷ 0x8000000000000009 ∷ 0 ∷ 0x8000000000000009 ∷ 0x8000000000000000 ∷ 9 ∷ 0 ∷ 9 ∷ 0x8000000000000000 ∷ 0x8000000000000005 ∷ 0 ∷ 0x8000000000000009 ∷ 0x8000000000000000 ∷ 9 ∷ 0x8000000000000000 ∷ 0x8000000000000005 ∷ 0x8000000000000000 ∷ 0x8000000000000001 ∷ 0x8000000000000000 ∷ 0x8000000000000009 ∷ 0 ∷ 9 ∷ 0 ∷ 0x8000000000000005 ∷ 0 ∷ 0x8000000000000001 ∷ 0 ∷ 9 ∷ 0 ∷ 0x8000000000000009 ∷ 0 ∷ 0x8000000000000001 ∷ 0 ∷ 0x8000000000000005 ∷ 0 ∷ 0x8000000000000005 ∷ 0x8000000000000000 ∷ 9 ∷ 0x8000000000000000 ∷ 0x8000000000000009 ∷ 0x8000000000000000 ∷ 0x8000000000000001 ∷ 0x8000000000000000 ∷ 9 ∷ 0 ∷ 0x8000000000000005 ∷ 0 ∷ 0x8000000000000001 ∷ 0x8000000000000000 ∷ 0x8000000000000001 ∷ 0 ∷ 9 ∷ 0x8000000000000000 ∷ 0x8000000000000009 ∷ 0 ∷ 0x8000000000000009 ∷ 0x8000000000000000 ∷ 0x8000000000000005 ∷ 0x8000000000000000 ∷ 0x8000000000000009 ∷ 0x8000000000000000 ∷ 9 ∷ 0x8000000000000000 ∷ 0x8000000000000009 ∷ 0 ∷ 0x8000000000000005 ∷ 0x8000000000000000 ∷ 9 ∷ 0 ∷ 0x8000000000000001 ∷ 0 ∷ 0x8000000000000005 ∷ 0 ∷ 0x8000000000000001 ∷ 0x8000000000000000 ∷ 0x8000000000000001 ∷ 0x8000000000000000 ∷ 0x8000000000000005 ∷ 0x8000000000000000 ∷ 0 ∷ 0 ∷ 0x8000000000000009 ∷ 0x8000000000000000 ∷ 0x8000000000000001 ∷ 0 ∷ 0x8000000000000005 ∷ 0 ∷ 9 ∷ 0 ∷ 0x8000000000000009 ∷ 0 ∷ 0x8000000000000005 ∷ 0x8000000000000000 ∷ 0x8000000000000009 ∷ 0 ∷ 0x8000000000000001 ∷ 0x8000000000000000 ∷ 9 ∷ 0 ∷ 0x8000000000000009 ∷ 0x8000000000000000 ∷ 0x8000000000000005 ∷ 0 ∷ 9 ∷ 0x8000000000000000 ∷ 0x8000000000000001 ∷ 0 ∷ 0x8000000000000009 ∷ 0 ∷ 0x8000000000000001 ∷ 0x8000000000000000 ∷ 9 ∷ 0 ∷ 0x8000000000000005 ∷ 0x8000000000000000 ∷ 0x8000000000000005 ∷ 0 ∷ 9 ∷ 0x8000000000000000 ∷ 0x8000000000000001 ∷ 0 ∷ 0x8000000000000009 ∷ 0x8000000000000000 ∷ []) (42 ∷ 0 ∷ []) 0x101 (0 ∷ 0x2a ∷ []) (42 ∷ 0x44 ∷ [])

abbrev row_1033 : Bool
row_1033 = rows posted 15 (0x8000000000000001 ∷ 0x8000000000000000 ∷ 0x8000000000000005 ∷ 0 ∷ 0x8000000000000001 ∷ 0 ∷ 0x8000000000000009 ∷ 0 ∷ 0x8000000000000009 ∷ 0x8000000000000000 ∷ 9 ∷ 0 ∷ 9 ∷ 0x8000000000000000 ∷ 0x8000000000000005 ∷ 0 ∷ 0x8000000000000009 ∷ 0x8000000000000000 ∷ 9 ∷ 0x8000000000000000 ∷ 0x8000000000000005 ∷ 0x8000000000000000 ∷ 0x8000000000000001 ∷ 0x8000000000000000 ∷ 0x8000000000000009 ∷ 0 ∷ 9 ∷ 0 ∷ 0x8000000000000005 ∷ 0 ∷ 0x8000000000000001 ∷ 0 ∷ 9 ∷ 0 ∷ 0x8000000000000009 ∷ 0 ∷ 0x8000000000000001 ∷ 0 ∷ 0x8000000000000005 ∷ 0 ∷ 0x8000000000000005 ∷ 0x8000000000000000 ∷ 9 ∷ 0x8000000000000000 ∷ 0x8000000000000009 ∷ 0x8000000000000000 ∷ 0x8000000000000001 ∷ 0x8000000000000000 ∷ 9 ∷ 0 ∷ 0x8000000000000005 ∷ 0 ∷ 0x8000000000000001 ∷ 0x8000000000000000 ∷ 0x8000000000000001 ∷ 0 ∷ 9 ∷ 0x8000000000000000 ∷ 0x8000000000000009 ∷ 0 ∷ 0x8000000000000009 ∷ 0x8000000000000000 ∷ 0x8000000000000005 ∷ 0x8000000000000000 ∷ 0x8000000000000009 ∷ 0x8000000000000000 ∷ 9 ∷ 0x8000000000000000 ∷ 0x8000000000000009 ∷ 0 ∷ 0x8000000000000005 ∷ 0x8000000000000000 ∷ 9 ∷ 0 ∷ 0x8000000000000001 ∷ 0 ∷ 0x8000000000000005 ∷ 0 ∷ 0x8000000000000001 ∷ 0x8000000000000000 ∷ 0x8000000000000001 ∷ 0x8000000000000000 ∷ 0x8000000000000005 ∷ 0x8000000000000000 ∷ 9 ∷ 0x8000000000000000 ∷ 0xffffffffffffffff ∷ 0 ∷ 0x8000000000000001 ∷ 0 ∷ 0x8000000000000005 ∷ 0 ∷ 9 ∷ 0 ∷ 0x8000000000000009 ∷ 0 ∷ 0x8000000000000005 ∷ 0x8000000000000000 ∷ 0x8000000000000009 ∷ 0 ∷ 0x8000000000000001 ∷ 0x8000000000000000 ∷ 9 ∷ 0 ∷ 0x8000000000000009 ∷ 0x8000000000000000 ∷ 0x8000000000000005 ∷ 0 ∷ 9 ∷ 0x8000000000000000 ∷ 0x8000000000000001 ∷ 0 ∷ 0x8000000000000009 ∷ 0 ∷ 0x8000000000000001 ∷ 0x8000000000000000 ∷ 9 ∷ 0 ∷ 0x8000000000000005 ∷ 0x8000000000000000 ∷ 0x8000000000000005 ∷ 0 ∷ 9 ∷ 0x8000000000000000 ∷ 0x8000000000000001 ∷ 0 ∷ 0x8000000000000009 ∷ 0x8000000000000000 ∷ []) (42 ∷ 0 ∷ []) 0x101 (0 ∷ 0x2b ∷ []) (42 ∷ 0x444 ∷ [])

abbrev row_1034 : Bool
row_1034 = rows posted 15 (0x8000000000000001 ∷ 0x8000000000000000 ∷ 0x8000000000000005 ∷ 0 ∷ 0x8000000000000001 ∷ 0 ∷ 0x8000000000000009 ∷ 0 ∷ 0x8000000000000009 ∷ 0x8000000000000000 ∷ 9 ∷ 0 ∷ 9 ∷ 0x8000000000000000 ∷ 0x8000000000000005 ∷ 0 ∷ 0x8000000000000009 ∷ 0x8000000000000000 ∷ 9 ∷ 0x8000000000000000 ∷ 0x8000000000000005 ∷ 0x8000000000000000 ∷ 0x8000000000000001 ∷ 0x8000000000000000 ∷ 0x8000000000000009 ∷ 0 ∷ 9 ∷ 0 ∷ 0x8000000000000005 ∷ 0 ∷ 0x8000000000000001 ∷ 0 ∷ 9 ∷ 0 ∷ 0x8000000000000009 ∷ 0 ∷ 0x8000000000000001 ∷ 0 ∷ 0x8000000000000005 ∷ 0 ∷ 0x8000000000000005 ∷ 0x8000000000000000 ∷ 9 ∷ 0x8000000000000000 ∷ 0x8000000000000009 ∷ 0x8000000000000000 ∷ 0x8000000000000001 ∷ 0x8000000000000000 ∷ 9 ∷ 0 ∷ 0x8000000000000005 ∷ 0 ∷ 0x8000000000000001 ∷ 0x8000000000000000 ∷ 0x8000000000000001 ∷ 0 ∷ 9 ∷ 0x8000000000000000 ∷ 0x8000000000000009 ∷ 0 ∷ 0x8000000000000009 ∷ 0x8000000000000000 ∷ 0x8000000000000005 ∷ 0x8000000000000000 ∷ 0x8000000000000009 ∷ 0x8000000000000000 ∷ 9 ∷ 0x8000000000000000 ∷ 0x8000000000000009 ∷ 0 ∷ 0x8000000000000005 ∷ 0x8000000000000000 ∷ 9 ∷ 0 ∷ 0x8000000000000001 ∷ 0 ∷ 0x8000000000000005 ∷ 0 ∷ 0x8000000000000001 ∷ 0x8000000000000000 ∷ 0x8000000000000001 ∷ 0x8000000000000000 ∷ 0x8000000000000005 ∷ 0x8000000000000000 ∷ 9 ∷ 0x8000000000000000 ∷ 0x8000000000000009 ∷ 0x8000000000000000 ∷ 5 ∷ 0x8000000000000000 ∷ 0x8000000000000005 ∷ 0 ∷ 9 ∷ 0 ∷ 0x8000000000000009 ∷ 0 ∷ 0x8000000000000005 ∷ 0x8000000000000000 ∷ 0x8000000000000009 ∷ 0 ∷ 0x8000000000000001 ∷ 0x8000000000000000 ∷ 9 ∷ 0 ∷ 0x8000000000000009 ∷ 0x8000000000000000 ∷ 0x8000000000000005 ∷ 0 ∷ 9 ∷ 0x8000000000000000 ∷ 0x8000000000000001 ∷ 0 ∷ 0x8000000000000009 ∷ 0 ∷ 0x8000000000000001 ∷ 0x8000000000000000 ∷ 9 ∷ 0 ∷ 0x8000000000000005 ∷ 0x8000000000000000 ∷ 0x8000000000000005 ∷ 0 ∷ 9 ∷ 0x8000000000000000 ∷ 0x8000000000000001 ∷ 0 ∷ 0x8000000000000009 ∷ 0x8000000000000000 ∷ []) (42 ∷ 0 ∷ []) 0x101 (0 ∷ 0x2c ∷ []) (42 ∷ 0x444 ∷ [])

abbrev row_1035 : Bool
row_1035 = rows posted 15 (0x8000000000000001 ∷ 0x8000000000000000 ∷ 0x8000000000000005 ∷ 0 ∷ 0x8000000000000001 ∷ 0 ∷ 0x8000000000000009 ∷ 0 ∷ 0x8000000000000009 ∷ 0x8000000000000000 ∷ 9 ∷ 0 ∷ 9 ∷ 0x8000000000000000 ∷ 0x8000000000000005 ∷ 0 ∷ 0x8000000000000009 ∷ 0x8000000000000000 ∷ 9 ∷ 0x8000000000000000 ∷ 0x8000000000000005 ∷ 0x8000000000000000 ∷ 0x8000000000000001 ∷ 0x8000000000000000 ∷ 0x8000000000000009 ∷ 0 ∷ 9 ∷ 0 ∷ 0x8000000000000005 ∷ 0 ∷ 0x8000000000000001 ∷ 0 ∷ 9 ∷ 0 ∷ 0x8000000000000009 ∷ 0 ∷ 0x8000000000000001 ∷ 0 ∷ 0x8000000000000005 ∷ 0 ∷ 0x8000000000000005 ∷ 0x8000000000000000 ∷ 9 ∷ 0x8000000000000000 ∷ 0x8000000000000009 ∷ 0x8000000000000000 ∷ 0x8000000000000001 ∷ 0x8000000000000000 ∷ 9 ∷ 0 ∷ 0x8000000000000005 ∷ 0 ∷ 0x8000000000000001 ∷ 0x8000000000000000 ∷ 0x8000000000000001 ∷ 0 ∷ 9 ∷ 0x8000000000000000 ∷ 0x8000000000000009 ∷ 0 ∷ 0x8000000000000009 ∷ 0x8000000000000000 ∷ 0x8000000000000005 ∷ 0x8000000000000000 ∷ 0x8000000000000009 ∷ 0x8000000000000000 ∷ 9 ∷ 0x8000000000000000 ∷ 0x8000000000000009 ∷ 0 ∷ 0x8000000000000005 ∷ 0x8000000000000000 ∷ 9 ∷ 0 ∷ 0x8000000000000001 ∷ 0 ∷ 0x8000000000000005 ∷ 0 ∷ 0x8000000000000001 ∷ 0x8000000000000000 ∷ 0x8000000000000001 ∷ 0x8000000000000000 ∷ 0x8000000000000005 ∷ 0x8000000000000000 ∷ 9 ∷ 0x8000000000000000 ∷ 0x8000000000000009 ∷ 0x8000000000000000 ∷ 0x8000000000000001 ∷ 0 ∷ 0x8000000000000002 ∷ 0x8000000000000000 ∷ 9 ∷ 0 ∷ 0x8000000000000009 ∷ 0 ∷ 0x8000000000000005 ∷ 0x8000000000000000 ∷ 0x8000000000000009 ∷ 0 ∷ 0x8000000000000001 ∷ 0x8000000000000000 ∷ 9 ∷ 0 ∷ 0x8000000000000009 ∷ 0x8000000000000000 ∷ 0x8000000000000005 ∷ 0 ∷ 9 ∷ 0x8000000000000000 ∷ 0x8000000000000001 ∷ 0 ∷ 0x8000000000000009 ∷ 0 ∷ 0x8000000000000001 ∷ 0x8000000000000000 ∷ 9 ∷ 0 ∷ 0x8000000000000005 ∷ 0x8000000000000000 ∷ 0x8000000000000005 ∷ 0 ∷ 9 ∷ 0x8000000000000000 ∷ 0x8000000000000001 ∷ 0 ∷ 0x8000000000000009 ∷ 0x8000000000000000 ∷ []) (42 ∷ 0 ∷ []) 0x101 (0 ∷ 0x2d ∷ []) (42 ∷ 0x440 ∷ [])

abbrev row_1036 : Bool
row_1036 = rows posted 15 (0x8000000000000001 ∷ 0x8000000000000000 ∷ 0x8000000000000005 ∷ 0 ∷ 0x8000000000000001 ∷ 0 ∷ 0x8000000000000009 ∷ 0 ∷ 0x8000000000000009 ∷ 0x8000000000000000 ∷ 9 ∷ 0 ∷ 9 ∷ 0x8000000000000000 ∷ 0x8000000000000005 ∷ 0 ∷ 0x8000000000000009 ∷ 0x8000000000000000 ∷ 9 ∷ 0x8000000000000000 ∷ 0x8000000000000005 ∷ 0x8000000000000000 ∷ 0x8000000000000001 ∷ 0x8000000000000000 ∷ 0x8000000000000009 ∷ 0 ∷ 9 ∷ 0 ∷ 0x8000000000000005 ∷ 0 ∷ 0x8000000000000001 ∷ 0 ∷ 9 ∷ 0 ∷ 0x8000000000000009 ∷ 0 ∷ 0x8000000000000001 ∷ 0 ∷ 0x8000000000000005 ∷ 0 ∷ 0x8000000000000005 ∷ 0x8000000000000000 ∷ 9 ∷ 0x8000000000000000 ∷ 0x8000000000000009 ∷ 0x8000000000000000 ∷ 0x8000000000000001 ∷ 0x8000000000000000 ∷ 9 ∷ 0 ∷ 0x8000000000000005 ∷ 0 ∷ 0x8000000000000001 ∷ 0x8000000000000000 ∷ 0x8000000000000001 ∷ 0 ∷ 9 ∷ 0x8000000000000000 ∷ 0x8000000000000009 ∷ 0 ∷ 0x8000000000000009 ∷ 0x8000000000000000 ∷ 0x8000000000000005 ∷ 0x8000000000000000 ∷ 0x8000000000000009 ∷ 0x8000000000000000 ∷ 9 ∷ 0x8000000000000000 ∷ 0x8000000000000009 ∷ 0 ∷ 0x8000000000000005 ∷ 0x8000000000000000 ∷ 9 ∷ 0 ∷ 0x8000000000000001 ∷ 0 ∷ 0x8000000000000005 ∷ 0 ∷ 0x8000000000000001 ∷ 0x8000000000000000 ∷ 0x8000000000000001 ∷ 0x8000000000000000 ∷ 0x8000000000000005 ∷ 0x8000000000000000 ∷ 9 ∷ 0x8000000000000000 ∷ 0x8000000000000009 ∷ 0x8000000000000000 ∷ 0x8000000000000001 ∷ 0 ∷ 0x8000000000000005 ∷ 0 ∷ 0 ∷ 0x8000000000000000 ∷ 0x8000000000000009 ∷ 0 ∷ 0x8000000000000005 ∷ 0x8000000000000000 ∷ 0x8000000000000009 ∷ 0 ∷ 0x8000000000000001 ∷ 0x8000000000000000 ∷ 9 ∷ 0 ∷ 0x8000000000000009 ∷ 0x8000000000000000 ∷ 0x8000000000000005 ∷ 0 ∷ 9 ∷ 0x8000000000000000 ∷ 0x8000000000000001 ∷ 0 ∷ 0x8000000000000009 ∷ 0 ∷ 0x8000000000000001 ∷ 0x8000000000000000 ∷ 9 ∷ 0 ∷ 0x8000000000000005 ∷ 0x8000000000000000 ∷ 0x8000000000000005 ∷ 0 ∷ 9 ∷ 0x8000000000000000 ∷ 0x8000000000000001 ∷ 0 ∷ 0x8000000000000009 ∷ 0x8000000000000000 ∷ []) (42 ∷ 0 ∷ []) 0x101 (0 ∷ 0x2e ∷ []) (42 ∷ 0x400 ∷ [])

abbrev row_1037 : Bool
row_1037 = rows posted 15 (0x8000000000000001 ∷ 0x8000000000000000 ∷ 0x8000000000000005 ∷ 0 ∷ 0x8000000000000001 ∷ 0 ∷ 0x8000000000000009 ∷ 0 ∷ 0x8000000000000009 ∷ 0x8000000000000000 ∷ 9 ∷ 0 ∷ 9 ∷ 0x8000000000000000 ∷ 0x8000000000000005 ∷ 0 ∷ 0x8000000000000009 ∷ 0x8000000000000000 ∷ 9 ∷ 0x8000000000000000 ∷ 0x8000000000000005 ∷ 0x8000000000000000 ∷ 0x8000000000000001 ∷ 0x8000000000000000 ∷ 0x8000000000000009 ∷ 0 ∷ 9 ∷ 0 ∷ 0x8000000000000005 ∷ 0 ∷ 0x8000000000000001 ∷ 0 ∷ 9 ∷ 0 ∷ 0x8000000000000009 ∷ 0 ∷ 0x8000000000000001 ∷ 0 ∷ 0x8000000000000005 ∷ 0 ∷ 0x8000000000000005 ∷ 0x8000000000000000 ∷ 9 ∷ 0x8000000000000000 ∷ 0x8000000000000009 ∷ 0x8000000000000000 ∷ 0x8000000000000001 ∷ 0x8000000000000000 ∷ 9 ∷ 0 ∷ 0x8000000000000005 ∷ 0 ∷ 0x8000000000000001 ∷ 0x8000000000000000 ∷ 0x8000000000000001 ∷ 0 ∷ 9 ∷ 0x8000000000000000 ∷ 0x8000000000000009 ∷ 0 ∷ 0x8000000000000009 ∷ 0x8000000000000000 ∷ 0x8000000000000005 ∷ 0x8000000000000000 ∷ 0x8000000000000009 ∷ 0x8000000000000000 ∷ 9 ∷ 0x8000000000000000 ∷ 0x8000000000000009 ∷ 0 ∷ 0x8000000000000005 ∷ 0x8000000000000000 ∷ 9 ∷ 0 ∷ 0x8000000000000001 ∷ 0 ∷ 0x8000000000000005 ∷ 0 ∷ 0x8000000000000001 ∷ 0x8000000000000000 ∷ 0x8000000000000001 ∷ 0x8000000000000000 ∷ 0x8000000000000005 ∷ 0x8000000000000000 ∷ 9 ∷ 0x8000000000000000 ∷ 0x8000000000000009 ∷ 0x8000000000000000 ∷ 0x8000000000000001 ∷ 0 ∷ 0x8000000000000005 ∷ 0 ∷ 9 ∷ 0 ∷ 0xffffffffffffffff ∷ 0x8000000000000000 ∷ 0x8000000000000005 ∷ 0x8000000000000000 ∷ 0x8000000000000009 ∷ 0 ∷ 0x8000000000000001 ∷ 0x8000000000000000 ∷ 9 ∷ 0 ∷ 0x8000000000000009 ∷ 0x8000000000000000 ∷ 0x8000000000000005 ∷ 0 ∷ 9 ∷ 0x8000000000000000 ∷ 0x8000000000000001 ∷ 0 ∷ 0x8000000000000009 ∷ 0 ∷ 0x8000000000000001 ∷ 0x8000000000000000 ∷ 9 ∷ 0 ∷ 0x8000000000000005 ∷ 0x8000000000000000 ∷ 0x8000000000000005 ∷ 0 ∷ 9 ∷ 0x8000000000000000 ∷ 0x8000000000000001 ∷ 0 ∷ 0x8000000000000009 ∷ 0x8000000000000000 ∷ []) (42 ∷ 0 ∷ []) 0x101 (0 ∷ 0x2f ∷ []) ([])

abbrev row_1038 : Bool
row_1038 = rows posted 15 (0x8000000000000001 ∷ 0x8000000000000000 ∷ 0x8000000000000005 ∷ 0 ∷ 0x8000000000000001 ∷ 0 ∷ 0x8000000000000009 ∷ 0 ∷ 0x8000000000000009 ∷ 0x8000000000000000 ∷ 9 ∷ 0 ∷ 9 ∷ 0x8000000000000000 ∷ 0x8000000000000005 ∷ 0 ∷ 0x8000000000000009 ∷ 0x8000000000000000 ∷ 9 ∷ 0x8000000000000000 ∷ 0x8000000000000005 ∷ 0x8000000000000000 ∷ 0x8000000000000001 ∷ 0x8000000000000000 ∷ 0x8000000000000009 ∷ 0 ∷ 9 ∷ 0 ∷ 0x8000000000000005 ∷ 0 ∷ 0x8000000000000001 ∷ 0 ∷ 9 ∷ 0 ∷ 0x8000000000000009 ∷ 0 ∷ 0x8000000000000001 ∷ 0 ∷ 0x8000000000000005 ∷ 0 ∷ 0x8000000000000005 ∷ 0x8000000000000000 ∷ 9 ∷ 0x8000000000000000 ∷ 0x8000000000000009 ∷ 0x8000000000000000 ∷ 0x8000000000000001 ∷ 0x8000000000000000 ∷ 9 ∷ 0 ∷ 0x8000000000000005 ∷ 0 ∷ 0x8000000000000001 ∷ 0x8000000000000000 ∷ 0x8000000000000001 ∷ 0 ∷ 9 ∷ 0x8000000000000000 ∷ 0x8000000000000009 ∷ 0 ∷ 0x8000000000000009 ∷ 0x8000000000000000 ∷ 0x8000000000000005 ∷ 0x8000000000000000 ∷ 0x8000000000000009 ∷ 0x8000000000000000 ∷ 9 ∷ 0x8000000000000000 ∷ 0x8000000000000009 ∷ 0 ∷ 0x8000000000000005 ∷ 0x8000000000000000 ∷ 9 ∷ 0 ∷ 0x8000000000000001 ∷ 0 ∷ 0x8000000000000005 ∷ 0 ∷ 0x8000000000000001 ∷ 0x8000000000000000 ∷ 0x8000000000000001 ∷ 0x8000000000000000 ∷ 0x8000000000000005 ∷ 0x8000000000000000 ∷ 9 ∷ 0x8000000000000000 ∷ 0x8000000000000009 ∷ 0x8000000000000000 ∷ 0x8000000000000001 ∷ 0 ∷ 0x8000000000000005 ∷ 0 ∷ 9 ∷ 0 ∷ 0x8000000000000009 ∷ 0 ∷ 5 ∷ 0 ∷ 0x8000000000000009 ∷ 0 ∷ 0x8000000000000001 ∷ 0x8000000000000000 ∷ 9 ∷ 0 ∷ 0x8000000000000009 ∷ 0x8000000000000000 ∷ 0x8000000000000005 ∷ 0 ∷ 9 ∷ 0x8000000000000000 ∷ 0x8000000000000001 ∷ 0 ∷ 0x8000000000000009 ∷ 0 ∷ 0x8000000000000001 ∷ 0x8000000000000000 ∷ 9 ∷ 0 ∷ 0x8000000000000005 ∷ 0x8000000000000000 ∷ 0x8000000000000005 ∷ 0 ∷ 9 ∷ 0x8000000000000000 ∷ 0x8000000000000001 ∷ 0 ∷ 0x8000000000000009 ∷ 0x8000000000000000 ∷ []) (42 ∷ 0 ∷ []) 0x101 (0 ∷ 0x30 ∷ []) ([])

abbrev row_1039 : Bool
row_1039 = rows posted 15 (0x8000000000000001 ∷ 0x8000000000000000 ∷ 0x8000000000000005 ∷ 0 ∷ 0x8000000000000001 ∷ 0 ∷ 0x8000000000000009 ∷ 0 ∷ 0x8000000000000009 ∷ 0x8000000000000000 ∷ 9 ∷ 0 ∷ 9 ∷ 0x8000000000000000 ∷ 0x8000000000000005 ∷ 0 ∷ 0x8000000000000009 ∷ 0x8000000000000000 ∷ 9 ∷ 0x8000000000000000 ∷ 0x8000000000000005 ∷ 0x8000000000000000 ∷ 0x8000000000000001 ∷ 0x8000000000000000 ∷ 0x8000000000000009 ∷ 0 ∷ 9 ∷ 0 ∷ 0x8000000000000005 ∷ 0 ∷ 0x8000000000000001 ∷ 0 ∷ 9 ∷ 0 ∷ 0x8000000000000009 ∷ 0 ∷ 0x8000000000000001 ∷ 0 ∷ 0x8000000000000005 ∷ 0 ∷ 0x8000000000000005 ∷ 0x8000000000000000 ∷ 9 ∷ 0x8000000000000000 ∷ 0x8000000000000009 ∷ 0x8000000000000000 ∷ 0x8000000000000001 ∷ 0x8000000000000000 ∷ 9 ∷ 0 ∷ 0x8000000000000005 ∷ 0 ∷ 0x8000000000000001 ∷ 0x8000000000000000 ∷ 0x8000000000000001 ∷ 0 ∷ 9 ∷ 0x8000000000000000 ∷ 0x8000000000000009 ∷ 0 ∷ 0x8000000000000009 ∷ 0x8000000000000000 ∷ 0x8000000000000005 ∷ 0x8000000000000000 ∷ 0x8000000000000009 ∷ 0x8000000000000000 ∷ 9 ∷ 0x8000000000000000 ∷ 0x8000000000000009 ∷ 0 ∷ 0x8000000000000005 ∷ 0x8000000000000000 ∷ 9 ∷ 0 ∷ 0x8000000000000001 ∷ 0 ∷ 0x8000000000000005 ∷ 0 ∷ 0x8000000000000001 ∷ 0x8000000000000000 ∷ 0x8000000000000001 ∷ 0x8000000000000000 ∷ 0x8000000000000005 ∷ 0x8000000000000000 ∷ 9 ∷ 0x8000000000000000 ∷ 0x8000000000000009 ∷ 0x8000000000000000 ∷ 0x8000000000000001 ∷ 0 ∷ 0x8000000000000005 ∷ 0 ∷ 9 ∷ 0 ∷ 0x8000000000000009 ∷ 0 ∷ 0x8000000000000005 ∷ 0x8000000000000000 ∷ 0x8000000000000002 ∷ 0 ∷ 0x8000000000000001 ∷ 0x8000000000000000 ∷ 9 ∷ 0 ∷ 0x8000000000000009 ∷ 0x8000000000000000 ∷ 0x8000000000000005 ∷ 0 ∷ 9 ∷ 0x8000000000000000 ∷ 0x8000000000000001 ∷ 0 ∷ 0x8000000000000009 ∷ 0 ∷ 0x8000000000000001 ∷ 0x8000000000000000 ∷ 9 ∷ 0 ∷ 0x8000000000000005 ∷ 0x8000000000000000 ∷ 0x8000000000000005 ∷ 0 ∷ 9 ∷ 0x8000000000000000 ∷ 0x8000000000000001 ∷ 0 ∷ 0x8000000000000009 ∷ 0x8000000000000000 ∷ []) (42 ∷ 0 ∷ []) 0x101 (0 ∷ 0x31 ∷ []) (42 ∷ 0x40 ∷ [])

abbrev row_1040 : Bool
row_1040 = rows posted 15 (0x8000000000000001 ∷ 0x8000000000000000 ∷ 0x8000000000000005 ∷ 0 ∷ 0x8000000000000001 ∷ 0 ∷ 0x8000000000000009 ∷ 0 ∷ 0x8000000000000009 ∷ 0x8000000000000000 ∷ 9 ∷ 0 ∷ 9 ∷ 0x8000000000000000 ∷ 0x8000000000000005 ∷ 0 ∷ 0x8000000000000009 ∷ 0x8000000000000000 ∷ 9 ∷ 0x8000000000000000 ∷ 0x8000000000000005 ∷ 0x8000000000000000 ∷ 0x8000000000000001 ∷ 0x8000000000000000 ∷ 0x8000000000000009 ∷ 0 ∷ 9 ∷ 0 ∷ 0x8000000000000005 ∷ 0 ∷ 0x8000000000000001 ∷ 0 ∷ 9 ∷ 0 ∷ 0x8000000000000009 ∷ 0 ∷ 0x8000000000000001 ∷ 0 ∷ 0x8000000000000005 ∷ 0 ∷ 0x8000000000000005 ∷ 0x8000000000000000 ∷ 9 ∷ 0x8000000000000000 ∷ 0x8000000000000009 ∷ 0x8000000000000000 ∷ 0x8000000000000001 ∷ 0x8000000000000000 ∷ 9 ∷ 0 ∷ 0x8000000000000005 ∷ 0 ∷ 0x8000000000000001 ∷ 0x8000000000000000 ∷ 0x8000000000000001 ∷ 0 ∷ 9 ∷ 0x8000000000000000 ∷ 0x8000000000000009 ∷ 0 ∷ 0x8000000000000009 ∷ 0x8000000000000000 ∷ 0x8000000000000005 ∷ 0x8000000000000000 ∷ 0x8000000000000009 ∷ 0x8000000000000000 ∷ 9 ∷ 0x8000000000000000 ∷ 0x8000000000000009 ∷ 0 ∷ 0x8000000000000005 ∷ 0x8000000000000000 ∷ 9 ∷ 0 ∷ 0x8000000000000001 ∷ 0 ∷ 0x8000000000000005 ∷ 0 ∷ 0x8000000000000001 ∷ 0x8000000000000000 ∷ 0x8000000000000001 ∷ 0x8000000000000000 ∷ 0x8000000000000005 ∷ 0x8000000000000000 ∷ 9 ∷ 0x8000000000000000 ∷ 0x8000000000000009 ∷ 0x8000000000000000 ∷ 0x8000000000000001 ∷ 0 ∷ 0x8000000000000005 ∷ 0 ∷ 9 ∷ 0 ∷ 0x8000000000000009 ∷ 0 ∷ 0x8000000000000005 ∷ 0x8000000000000000 ∷ 0x8000000000000009 ∷ 0 ∷ 0 ∷ 0 ∷ 9 ∷ 0 ∷ 0x8000000000000009 ∷ 0x8000000000000000 ∷ 0x8000000000000005 ∷ 0 ∷ 9 ∷ 0x8000000000000000 ∷ 0x8000000000000001 ∷ 0 ∷ 0x8000000000000009 ∷ 0 ∷ 0x8000000000000001 ∷ 0x8000000000000000 ∷ 9 ∷ 0 ∷ 0x8000000000000005 ∷ 0x8000000000000000 ∷ 0x8000000000000005 ∷ 0 ∷ 9 ∷ 0x8000000000000000 ∷ 0x8000000000000001 ∷ 0 ∷ 0x8000000000000009 ∷ 0x8000000000000000 ∷ []) (42 ∷ 0 ∷ []) 0x101 (0 ∷ 0x32 ∷ []) (42 ∷ 0x40 ∷ [])

abbrev row_1041 : Bool
row_1041 = rows posted 15 (0x8000000000000001 ∷ 0x8000000000000000 ∷ 0x8000000000000005 ∷ 0 ∷ 0x8000000000000001 ∷ 0 ∷ 0x8000000000000009 ∷ 0 ∷ 0x8000000000000009 ∷ 0x8000000000000000 ∷ 9 ∷ 0 ∷ 9 ∷ 0x8000000000000000 ∷ 0x8000000000000005 ∷ 0 ∷ 0x8000000000000009 ∷ 0x8000000000000000 ∷ 9 ∷ 0x8000000000000000 ∷ 0x8000000000000005 ∷ 0x8000000000000000 ∷ 0x8000000000000001 ∷ 0x8000000000000000 ∷ 0x8000000000000009 ∷ 0 ∷ 9 ∷ 0 ∷ 0x8000000000000005 ∷ 0 ∷ 0x8000000000000001 ∷ 0 ∷ 9 ∷ 0 ∷ 0x8000000000000009 ∷ 0 ∷ 0x8000000000000001 ∷ 0 ∷ 0x8000000000000005 ∷ 0 ∷ 0x8000000000000005 ∷ 0x8000000000000000 ∷ 9 ∷ 0x8000000000000000 ∷ 0x8000000000000009 ∷ 0x8000000000000000 ∷ 0x8000000000000001 ∷ 0x8000000000000000 ∷ 9 ∷ 0 ∷ 0x8000000000000005 ∷ 0 ∷ 0x8000000000000001 ∷ 0x8000000000000000 ∷ 0x8000000000000001 ∷ 0 ∷ 9 ∷ 0x8000000000000000 ∷ 0x8000000000000009 ∷ 0 ∷ 0x8000000000000009 ∷ 0x8000000000000000 ∷ 0x8000000000000005 ∷ 0x8000000000000000 ∷ 0x8000000000000009 ∷ 0x8000000000000000 ∷ 9 ∷ 0x8000000000000000 ∷ 0x8000000000000009 ∷ 0 ∷ 0x8000000000000005 ∷ 0x8000000000000000 ∷ 9 ∷ 0 ∷ 0x8000000000000001 ∷ 0 ∷ 0x8000000000000005 ∷ 0 ∷ 0x8000000000000001 ∷ 0x8000000000000000 ∷ 0x8000000000000001 ∷ 0x8000000000000000 ∷ 0x8000000000000005 ∷ 0x8000000000000000 ∷ 9 ∷ 0x8000000000000000 ∷ 0x8000000000000009 ∷ 0x8000000000000000 ∷ 0x8000000000000001 ∷ 0 ∷ 0x8000000000000005 ∷ 0 ∷ 9 ∷ 0 ∷ 0x8000000000000009 ∷ 0 ∷ 0x8000000000000005 ∷ 0x8000000000000000 ∷ 0x8000000000000009 ∷ 0 ∷ 0x8000000000000001 ∷ 0x8000000000000000 ∷ 0xffffffffffffffff ∷ 0 ∷ 0x8000000000000009 ∷ 0x8000000000000000 ∷ 0x8000000000000005 ∷ 0 ∷ 9 ∷ 0x8000000000000000 ∷ 0x8000000000000001 ∷ 0 ∷ 0x8000000000000009 ∷ 0 ∷ 0x8000000000000001 ∷ 0x8000000000000000 ∷ 9 ∷ 0 ∷ 0x8000000000000005 ∷ 0x8000000000000000 ∷ 0x8000000000000005 ∷ 0 ∷ 9 ∷ 0x8000000000000000 ∷ 0x8000000000000001 ∷ 0 ∷ 0x8000000000000009 ∷ 0x8000000000000000 ∷ []) (42 ∷ 0 ∷ []) 0x101 (0 ∷ 0x33 ∷ []) (42 ∷ 0x44 ∷ [])

abbrev row_1042 : Bool
row_1042 = rows posted 15 (0x8000000000000001 ∷ 0x8000000000000000 ∷ 0x8000000000000005 ∷ 0 ∷ 0x8000000000000001 ∷ 0 ∷ 0x8000000000000009 ∷ 0 ∷ 0x8000000000000009 ∷ 0x8000000000000000 ∷ 9 ∷ 0 ∷ 9 ∷ 0x8000000000000000 ∷ 0x8000000000000005 ∷ 0 ∷ 0x8000000000000009 ∷ 0x8000000000000000 ∷ 9 ∷ 0x8000000000000000 ∷ 0x8000000000000005 ∷ 0x8000000000000000 ∷ 0x8000000000000001 ∷ 0x8000000000000000 ∷ 0x8000000000000009 ∷ 0 ∷ 9 ∷ 0 ∷ 0x8000000000000005 ∷ 0 ∷ 0x8000000000000001 ∷ 0 ∷ 9 ∷ 0 ∷ 0x8000000000000009 ∷ 0 ∷ 0x8000000000000001 ∷ 0 ∷ 0x8000000000000005 ∷ 0 ∷ 0x8000000000000005 ∷ 0x8000000000000000 ∷ 9 ∷ 0x8000000000000000 ∷ 0x8000000000000009 ∷ 0x8000000000000000 ∷ 0x8000000000000001 ∷ 0x8000000000000000 ∷ 9 ∷ 0 ∷ 0x8000000000000005 ∷ 0 ∷ 0x8000000000000001 ∷ 0x8000000000000000 ∷ 0x8000000000000001 ∷ 0 ∷ 9 ∷ 0x8000000000000000 ∷ 0x8000000000000009 ∷ 0 ∷ 0x8000000000000009 ∷ 0x8000000000000000 ∷ 0x8000000000000005 ∷ 0x8000000000000000 ∷ 0x8000000000000009 ∷ 0x8000000000000000 ∷ 9 ∷ 0x8000000000000000 ∷ 0x8000000000000009 ∷ 0 ∷ 0x8000000000000005 ∷ 0x8000000000000000 ∷ 9 ∷ 0 ∷ 0x8000000000000001 ∷ 0 ∷ 0x8000000000000005 ∷ 0 ∷ 0x8000000000000001 ∷ 0x8000000000000000 ∷ 0x8000000000000001 ∷ 0x8000000000000000 ∷ 0x8000000000000005 ∷ 0x8000000000000000 ∷ 9 ∷ 0x8000000000000000 ∷ 0x8000000000000009 ∷ 0x8000000000000000 ∷ 0x8000000000000001 ∷ 0 ∷ 0x8000000000000005 ∷ 0 ∷ 9 ∷ 0 ∷ 0x8000000000000009 ∷ 0 ∷ 0x8000000000000005 ∷ 0x8000000000000000 ∷ 0x8000000000000009 ∷ 0 ∷ 0x8000000000000001 ∷ 0x8000000000000000 ∷ 9 ∷ 0 ∷ 5 ∷ 0x8000000000000000 ∷ 0x8000000000000005 ∷ 0 ∷ 9 ∷ 0x8000000000000000 ∷ 0x8000000000000001 ∷ 0 ∷ 0x8000000000000009 ∷ 0 ∷ 0x8000000000000001 ∷ 0x8000000000000000 ∷ 9 ∷ 0 ∷ 0x8000000000000005 ∷ 0x8000000000000000 ∷ 0x8000000000000005 ∷ 0 ∷ 9 ∷ 0x8000000000000000 ∷ 0x8000000000000001 ∷ 0 ∷ 0x8000000000000009 ∷ 0x8000000000000000 ∷ []) (42 ∷ 0 ∷ []) 0x101 (0 ∷ 0x34 ∷ []) (42 ∷ 0x44 ∷ [])

abbrev row_1043 : Bool
row_1043 = rows posted 15 (0x8000000000000001 ∷ 0x8000000000000000 ∷ 0x8000000000000005 ∷ 0 ∷ 0x8000000000000001 ∷ 0 ∷ 0x8000000000000009 ∷ 0 ∷ 0x8000000000000009 ∷ 0x8000000000000000 ∷ 9 ∷ 0 ∷ 9 ∷ 0x8000000000000000 ∷ 0x8000000000000005 ∷ 0 ∷ 0x8000000000000009 ∷ 0x8000000000000000 ∷ 9 ∷ 0x8000000000000000 ∷ 0x8000000000000005 ∷ 0x8000000000000000 ∷ 0x8000000000000001 ∷ 0x8000000000000000 ∷ 0x8000000000000009 ∷ 0 ∷ 9 ∷ 0 ∷ 0x8000000000000005 ∷ 0 ∷ 0x8000000000000001 ∷ 0 ∷ 9 ∷ 0 ∷ 0x8000000000000009 ∷ 0 ∷ 0x8000000000000001 ∷ 0 ∷ 0x8000000000000005 ∷ 0 ∷ 0x8000000000000005 ∷ 0x8000000000000000 ∷ 9 ∷ 0x8000000000000000 ∷ 0x8000000000000009 ∷ 0x8000000000000000 ∷ 0x8000000000000001 ∷ 0x8000000000000000 ∷ 9 ∷ 0 ∷ 0x8000000000000005 ∷ 0 ∷ 0x8000000000000001 ∷ 0x8000000000000000 ∷ 0x8000000000000001 ∷ 0 ∷ 9 ∷ 0x8000000000000000 ∷ 0x8000000000000009 ∷ 0 ∷ 0x8000000000000009 ∷ 0x8000000000000000 ∷ 0x8000000000000005 ∷ 0x8000000000000000 ∷ 0x8000000000000009 ∷ 0x8000000000000000 ∷ 9 ∷ 0x8000000000000000 ∷ 0x8000000000000009 ∷ 0 ∷ 0x8000000000000005 ∷ 0x8000000000000000 ∷ 9 ∷ 0 ∷ 0x8000000000000001 ∷ 0 ∷ 0x8000000000000005 ∷ 0 ∷ 0x8000000000000001 ∷ 0x8000000000000000 ∷ 0x8000000000000001 ∷ 0x8000000000000000 ∷ 0x8000000000000005 ∷ 0x8000000000000000 ∷ 9 ∷ 0x8000000000000000 ∷ 0x8000000000000009 ∷ 0x8000000000000000 ∷ 0x8000000000000001 ∷ 0 ∷ 0x8000000000000005 ∷ 0 ∷ 9 ∷ 0 ∷ 0x8000000000000009 ∷ 0 ∷ 0x8000000000000005 ∷ 0x8000000000000000 ∷ 0x8000000000000009 ∷ 0 ∷ 0x8000000000000001 ∷ 0x8000000000000000 ∷ 9 ∷ 0 ∷ 0x8000000000000009 ∷ 0x8000000000000000 ∷ 0x8000000000000002 ∷ 0x8000000000000000 ∷ 9 ∷ 0x8000000000000000 ∷ 0x8000000000000001 ∷ 0 ∷ 0x8000000000000009 ∷ 0 ∷ 0x8000000000000001 ∷ 0x8000000000000000 ∷ 9 ∷ 0 ∷ 0x8000000000000005 ∷ 0x8000000000000000 ∷ 0x8000000000000005 ∷ 0 ∷ 9 ∷ 0x8000000000000000 ∷ 0x8000000000000001 ∷ 0 ∷ 0x8000000000000009 ∷ 0x8000000000000000 ∷ []) (42 ∷ 0 ∷ []) 0x101 (0 ∷ 0x35 ∷ []) (42 ∷ 0x444 ∷ [])

abbrev row_1044 : Bool
row_1044 = rows posted 15 (0x8000000000000001 ∷ 0x8000000000000000 ∷ 0x8000000000000005 ∷ 0 ∷ 0x8000000000000001 ∷ 0 ∷ 0x8000000000000009 ∷ 0 ∷ 0x8000000000000009 ∷ 0x8000000000000000 ∷ 9 ∷ 0 ∷ 9 ∷ 0x8000000000000000 ∷ 0x8000000000000005 ∷ 0 ∷ 0x8000000000000009 ∷ 0x8000000000000000 ∷ 9 ∷ 0x8000000000000000 ∷ 0x8000000000000005 ∷ 0x8000000000000000 ∷ 0x8000000000000001 ∷ 0x8000000000000000 ∷ 0x8000000000000009 ∷ 0 ∷ 9 ∷ 0 ∷ 0x8000000000000005 ∷ 0 ∷ 0x8000000000000001 ∷ 0 ∷ 9 ∷ 0 ∷ 0x8000000000000009 ∷ 0 ∷ 0x8000000000000001 ∷ 0 ∷ 0x8000000000000005 ∷ 0 ∷ 0x8000000000000005 ∷ 0x8000000000000000 ∷ 9 ∷ 0x8000000000000000 ∷ 0x8000000000000009 ∷ 0x8000000000000000 ∷ 0x8000000000000001 ∷ 0x8000000000000000 ∷ 9 ∷ 0 ∷ 0x8000000000000005 ∷ 0 ∷ 0x8000000000000001 ∷ 0x8000000000000000 ∷ 0x8000000000000001 ∷ 0 ∷ 9 ∷ 0x8000000000000000 ∷ 0x8000000000000009 ∷ 0 ∷ 0x8000000000000009 ∷ 0x8000000000000000 ∷ 0x8000000000000005 ∷ 0x8000000000000000 ∷ 0x8000000000000009 ∷ 0x8000000000000000 ∷ 9 ∷ 0x8000000000000000 ∷ 0x8000000000000009 ∷ 0 ∷ 0x8000000000000005 ∷ 0x8000000000000000 ∷ 9 ∷ 0 ∷ 0x8000000000000001 ∷ 0 ∷ 0x8000000000000005 ∷ 0 ∷ 0x8000000000000001 ∷ 0x8000000000000000 ∷ 0x8000000000000001 ∷ 0x8000000000000000 ∷ 0x8000000000000005 ∷ 0x8000000000000000 ∷ 9 ∷ 0x8000000000000000 ∷ 0x8000000000000009 ∷ 0x8000000000000000 ∷ 0x8000000000000001 ∷ 0 ∷ 0x8000000000000005 ∷ 0 ∷ 9 ∷ 0 ∷ 0x8000000000000009 ∷ 0 ∷ 0x8000000000000005 ∷ 0x8000000000000000 ∷ 0x8000000000000009 ∷ 0 ∷ 0x8000000000000001 ∷ 0x8000000000000000 ∷ 9 ∷ 0 ∷ 0x8000000000000009 ∷ 0x8000000000000000 ∷ 0x8000000000000005 ∷ 0 ∷ 0 ∷ 0x8000000000000000 ∷ 0x8000000000000001 ∷ 0 ∷ 0x8000000000000009 ∷ 0 ∷ 0x8000000000000001 ∷ 0x8000000000000000 ∷ 9 ∷ 0 ∷ 0x8000000000000005 ∷ 0x8000000000000000 ∷ 0x8000000000000005 ∷ 0 ∷ 9 ∷ 0x8000000000000000 ∷ 0x8000000000000001 ∷ 0 ∷ 0x8000000000000009 ∷ 0x8000000000000000 ∷ []) (42 ∷ 0 ∷ []) 0x101 (0 ∷ 0x36 ∷ []) (42 ∷ 0x404 ∷ [])

abbrev row_1045 : Bool
row_1045 = rows posted 15 (0x8000000000000001 ∷ 0x8000000000000000 ∷ 0x8000000000000005 ∷ 0 ∷ 0x8000000000000001 ∷ 0 ∷ 0x8000000000000009 ∷ 0 ∷ 0x8000000000000009 ∷ 0x8000000000000000 ∷ 9 ∷ 0 ∷ 9 ∷ 0x8000000000000000 ∷ 0x8000000000000005 ∷ 0 ∷ 0x8000000000000009 ∷ 0x8000000000000000 ∷ 9 ∷ 0x8000000000000000 ∷ 0x8000000000000005 ∷ 0x8000000000000000 ∷ 0x8000000000000001 ∷ 0x8000000000000000 ∷ 0x8000000000000009 ∷ 0 ∷ 9 ∷ 0 ∷ 0x8000000000000005 ∷ 0 ∷ 0x8000000000000001 ∷ 0 ∷ 9 ∷ 0 ∷ 0x8000000000000009 ∷ 0 ∷ 0x8000000000000001 ∷ 0 ∷ 0x8000000000000005 ∷ 0 ∷ 0x8000000000000005 ∷ 0x8000000000000000 ∷ 9 ∷ 0x8000000000000000 ∷ 0x8000000000000009 ∷ 0x8000000000000000 ∷ 0x8000000000000001 ∷ 0x8000000000000000 ∷ 9 ∷ 0 ∷ 0x8000000000000005 ∷ 0 ∷ 0x8000000000000001 ∷ 0x8000000000000000 ∷ 0x8000000000000001 ∷ 0 ∷ 9 ∷ 0x8000000000000000 ∷ 0x8000000000000009 ∷ 0 ∷ 0x8000000000000009 ∷ 0x8000000000000000 ∷ 0x8000000000000005 ∷ 0x8000000000000000 ∷ 0x8000000000000009 ∷ 0x8000000000000000 ∷ 9 ∷ 0x8000000000000000 ∷ 0x8000000000000009 ∷ 0 ∷ 0x8000000000000005 ∷ 0x8000000000000000 ∷ 9 ∷ 0 ∷ 0x8000000000000001 ∷ 0 ∷ 0x8000000000000005 ∷ 0 ∷ 0x8000000000000001 ∷ 0x8000000000000000 ∷ 0x8000000000000001 ∷ 0x8000000000000000 ∷ 0x8000000000000005 ∷ 0x8000000000000000 ∷ 9 ∷ 0x8000000000000000 ∷ 0x8000000000000009 ∷ 0x8000000000000000 ∷ 0x8000000000000001 ∷ 0 ∷ 0x8000000000000005 ∷ 0 ∷ 9 ∷ 0 ∷ 0x8000000000000009 ∷ 0 ∷ 0x8000000000000005 ∷ 0x8000000000000000 ∷ 0x8000000000000009 ∷ 0 ∷ 0x8000000000000001 ∷ 0x8000000000000000 ∷ 9 ∷ 0 ∷ 0x8000000000000009 ∷ 0x8000000000000000 ∷ 0x8000000000000005 ∷ 0 ∷ 9 ∷ 0x8000000000000000 ∷ 0xffffffffffffffff ∷ 0x8000000000000000 ∷ 0x8000000000000009 ∷ 0 ∷ 0x8000000000000001 ∷ 0x8000000000000000 ∷ 9 ∷ 0 ∷ 0x8000000000000005 ∷ 0x8000000000000000 ∷ 0x8000000000000005 ∷ 0 ∷ 9 ∷ 0x8000000000000000 ∷ 0x8000000000000001 ∷ 0 ∷ 0x8000000000000009 ∷ 0x8000000000000000 ∷ []) (42 ∷ 0 ∷ []) 0x101 (0 ∷ 0x37 ∷ []) (42 ∷ 0x404 ∷ [])

abbrev row_1046 : Bool
row_1046 = rows posted 15 (0x8000000000000001 ∷ 0x8000000000000000 ∷ 0x8000000000000005 ∷ 0 ∷ 0x8000000000000001 ∷ 0 ∷ 0x8000000000000009 ∷ 0 ∷ 0x8000000000000009 ∷ 0x8000000000000000 ∷ 9 ∷ 0 ∷ 9 ∷ 0x8000000000000000 ∷ 0x8000000000000005 ∷ 0 ∷ 0x8000000000000009 ∷ 0x8000000000000000 ∷ 9 ∷ 0x8000000000000000 ∷ 0x8000000000000005 ∷ 0x8000000000000000 ∷ 0x8000000000000001 ∷ 0x8000000000000000 ∷ 0x8000000000000009 ∷ 0 ∷ 9 ∷ 0 ∷ 0x8000000000000005 ∷ 0 ∷ 0x8000000000000001 ∷ 0 ∷ 9 ∷ 0 ∷ 0x8000000000000009 ∷ 0 ∷ 0x8000000000000001 ∷ 0 ∷ 0x8000000000000005 ∷ 0 ∷ 0x8000000000000005 ∷ 0x8000000000000000 ∷ 9 ∷ 0x8000000000000000 ∷ 0x8000000000000009 ∷ 0x8000000000000000 ∷ 0x8000000000000001 ∷ 0x8000000000000000 ∷ 9 ∷ 0 ∷ 0x8000000000000005 ∷ 0 ∷ 0x8000000000000001 ∷ 0x8000000000000000 ∷ 0x8000000000000001 ∷ 0 ∷ 9 ∷ 0x8000000000000000 ∷ 0x8000000000000009 ∷ 0 ∷ 0x8000000000000009 ∷ 0x8000000000000000 ∷ 0x8000000000000005 ∷ 0x8000000000000000 ∷ 0x8000000000000009 ∷ 0x8000000000000000 ∷ 9 ∷ 0x8000000000000000 ∷ 0x8000000000000009 ∷ 0 ∷ 0x8000000000000005 ∷ 0x8000000000000000 ∷ 9 ∷ 0 ∷ 0x8000000000000001 ∷ 0 ∷ 0x8000000000000005 ∷ 0 ∷ 0x8000000000000001 ∷ 0x8000000000000000 ∷ 0x8000000000000001 ∷ 0x8000000000000000 ∷ 0x8000000000000005 ∷ 0x8000000000000000 ∷ 9 ∷ 0x8000000000000000 ∷ 0x8000000000000009 ∷ 0x8000000000000000 ∷ 0x8000000000000001 ∷ 0 ∷ 0x8000000000000005 ∷ 0 ∷ 9 ∷ 0 ∷ 0x8000000000000009 ∷ 0 ∷ 0x8000000000000005 ∷ 0x8000000000000000 ∷ 0x8000000000000009 ∷ 0 ∷ 0x8000000000000001 ∷ 0x8000000000000000 ∷ 9 ∷ 0 ∷ 0x8000000000000009 ∷ 0x8000000000000000 ∷ 0x8000000000000005 ∷ 0 ∷ 9 ∷ 0x8000000000000000 ∷ 0x8000000000000001 ∷ 0 ∷ 5 ∷ 0 ∷ 0x8000000000000001 ∷ 0x8000000000000000 ∷ 9 ∷ 0 ∷ 0x8000000000000005 ∷ 0x8000000000000000 ∷ 0x8000000000000005 ∷ 0 ∷ 9 ∷ 0x8000000000000000 ∷ 0x8000000000000001 ∷ 0 ∷ 0x8000000000000009 ∷ 0x8000000000000000 ∷ []) (42 ∷ 0 ∷ []) 0x101 (0 ∷ 0x38 ∷ []) (42 ∷ 0x400 ∷ [])

abbrev row_1047 : Bool
row_1047 = rows posted 15 (0x8000000000000001 ∷ 0x8000000000000000 ∷ 0x8000000000000005 ∷ 0 ∷ 0x8000000000000001 ∷ 0 ∷ 0x8000000000000009 ∷ 0 ∷ 0x8000000000000009 ∷ 0x8000000000000000 ∷ 9 ∷ 0 ∷ 9 ∷ 0x8000000000000000 ∷ 0x8000000000000005 ∷ 0 ∷ 0x8000000000000009 ∷ 0x8000000000000000 ∷ 9 ∷ 0x8000000000000000 ∷ 0x8000000000000005 ∷ 0x8000000000000000 ∷ 0x8000000000000001 ∷ 0x8000000000000000 ∷ 0x8000000000000009 ∷ 0 ∷ 9 ∷ 0 ∷ 0x8000000000000005 ∷ 0 ∷ 0x8000000000000001 ∷ 0 ∷ 9 ∷ 0 ∷ 0x8000000000000009 ∷ 0 ∷ 0x8000000000000001 ∷ 0 ∷ 0x8000000000000005 ∷ 0 ∷ 0x8000000000000005 ∷ 0x8000000000000000 ∷ 9 ∷ 0x8000000000000000 ∷ 0x8000000000000009 ∷ 0x8000000000000000 ∷ 0x8000000000000001 ∷ 0x8000000000000000 ∷ 9 ∷ 0 ∷ 0x8000000000000005 ∷ 0 ∷ 0x8000000000000001 ∷ 0x8000000000000000 ∷ 0x8000000000000001 ∷ 0 ∷ 9 ∷ 0x8000000000000000 ∷ 0x8000000000000009 ∷ 0 ∷ 0x8000000000000009 ∷ 0x8000000000000000 ∷ 0x8000000000000005 ∷ 0x8000000000000000 ∷ 0x8000000000000009 ∷ 0x8000000000000000 ∷ 9 ∷ 0x8000000000000000 ∷ 0x8000000000000009 ∷ 0 ∷ 0x8000000000000005 ∷ 0x8000000000000000 ∷ 9 ∷ 0 ∷ 0x8000000000000001 ∷ 0 ∷ 0x8000000000000005 ∷ 0 ∷ 0x8000000000000001 ∷ 0x8000000000000000 ∷ 0x8000000000000001 ∷ 0x8000000000000000 ∷ 0x8000000000000005 ∷ 0x8000000000000000 ∷ 9 ∷ 0x8000000000000000 ∷ 0x8000000000000009 ∷ 0x8000000000000000 ∷ 0x8000000000000001 ∷ 0 ∷ 0x8000000000000005 ∷ 0 ∷ 9 ∷ 0 ∷ 0x8000000000000009 ∷ 0 ∷ 0x8000000000000005 ∷ 0x8000000000000000 ∷ 0x8000000000000009 ∷ 0 ∷ 0x8000000000000001 ∷ 0x8000000000000000 ∷ 9 ∷ 0 ∷ 0x8000000000000009 ∷ 0x8000000000000000 ∷ 0x8000000000000005 ∷ 0 ∷ 9 ∷ 0x8000000000000000 ∷ 0x8000000000000001 ∷ 0 ∷ 0x8000000000000009 ∷ 0 ∷ 0x8000000000000002 ∷ 0 ∷ 9 ∷ 0 ∷ 0x8000000000000005 ∷ 0x8000000000000000 ∷ 0x8000000000000005 ∷ 0 ∷ 9 ∷ 0x8000000000000000 ∷ 0x8000000000000001 ∷ 0 ∷ 0x8000000000000009 ∷ 0x8000000000000000 ∷ []) (42 ∷ 0 ∷ []) 0x101 (0 ∷ 0x39 ∷ []) ([])

abbrev row_1048 : Bool
row_1048 = rows posted 15 (0x8000000000000001 ∷ 0x8000000000000000 ∷ 0x8000000000000005 ∷ 0 ∷ 0x8000000000000001 ∷ 0 ∷ 0x8000000000000009 ∷ 0 ∷ 0x8000000000000009 ∷ 0x8000000000000000 ∷ 9 ∷ 0 ∷ 9 ∷ 0x8000000000000000 ∷ 0x8000000000000005 ∷ 0 ∷ 0x8000000000000009 ∷ 0x8000000000000000 ∷ 9 ∷ 0x8000000000000000 ∷ 0x8000000000000005 ∷ 0x8000000000000000 ∷ 0x8000000000000001 ∷ 0x8000000000000000 ∷ 0x8000000000000009 ∷ 0 ∷ 9 ∷ 0 ∷ 0x8000000000000005 ∷ 0 ∷ 0x8000000000000001 ∷ 0 ∷ 9 ∷ 0 ∷ 0x8000000000000009 ∷ 0 ∷ 0x8000000000000001 ∷ 0 ∷ 0x8000000000000005 ∷ 0 ∷ 0x8000000000000005 ∷ 0x8000000000000000 ∷ 9 ∷ 0x8000000000000000 ∷ 0x8000000000000009 ∷ 0x8000000000000000 ∷ 0x8000000000000001 ∷ 0x8000000000000000 ∷ 9 ∷ 0 ∷ 0x8000000000000005 ∷ 0 ∷ 0x8000000000000001 ∷ 0x8000000000000000 ∷ 0x8000000000000001 ∷ 0 ∷ 9 ∷ 0x8000000000000000 ∷ 0x8000000000000009 ∷ 0 ∷ 0x8000000000000009 ∷ 0x8000000000000000 ∷ 0x8000000000000005 ∷ 0x8000000000000000 ∷ 0x8000000000000009 ∷ 0x8000000000000000 ∷ 9 ∷ 0x8000000000000000 ∷ 0x8000000000000009 ∷ 0 ∷ 0x8000000000000005 ∷ 0x8000000000000000 ∷ 9 ∷ 0 ∷ 0x8000000000000001 ∷ 0 ∷ 0x8000000000000005 ∷ 0 ∷ 0x8000000000000001 ∷ 0x8000000000000000 ∷ 0x8000000000000001 ∷ 0x8000000000000000 ∷ 0x8000000000000005 ∷ 0x8000000000000000 ∷ 9 ∷ 0x8000000000000000 ∷ 0x8000000000000009 ∷ 0x8000000000000000 ∷ 0x8000000000000001 ∷ 0 ∷ 0x8000000000000005 ∷ 0 ∷ 9 ∷ 0 ∷ 0x8000000000000009 ∷ 0 ∷ 0x8000000000000005 ∷ 0x8000000000000000 ∷ 0x8000000000000009 ∷ 0 ∷ 0x8000000000000001 ∷ 0x8000000000000000 ∷ 9 ∷ 0 ∷ 0x8000000000000009 ∷ 0x8000000000000000 ∷ 0x8000000000000005 ∷ 0 ∷ 9 ∷ 0x8000000000000000 ∷ 0x8000000000000001 ∷ 0 ∷ 0x8000000000000009 ∷ 0 ∷ 0x8000000000000001 ∷ 0x8000000000000000 ∷ 0 ∷ 0 ∷ 0x8000000000000005 ∷ 0x8000000000000000 ∷ 0x8000000000000005 ∷ 0 ∷ 9 ∷ 0x8000000000000000 ∷ 0x8000000000000001 ∷ 0 ∷ 0x8000000000000009 ∷ 0x8000000000000000 ∷ []) (42 ∷ 0 ∷ []) 0x101 (0 ∷ 0x3a ∷ []) (42 ∷ 4 ∷ [])

abbrev row_1049 : Bool
row_1049 = rows posted 15 (0x8000000000000001 ∷ 0x8000000000000000 ∷ 0x8000000000000005 ∷ 0 ∷ 0x8000000000000001 ∷ 0 ∷ 0x8000000000000009 ∷ 0 ∷ 0x8000000000000009 ∷ 0x8000000000000000 ∷ 9 ∷ 0 ∷ 9 ∷ 0x8000000000000000 ∷ 0x8000000000000005 ∷ 0 ∷ 0x8000000000000009 ∷ 0x8000000000000000 ∷ 9 ∷ 0x8000000000000000 ∷ 0x8000000000000005 ∷ 0x8000000000000000 ∷ 0x8000000000000001 ∷ 0x8000000000000000 ∷ 0x8000000000000009 ∷ 0 ∷ 9 ∷ 0 ∷ 0x8000000000000005 ∷ 0 ∷ 0x8000000000000001 ∷ 0 ∷ 9 ∷ 0 ∷ 0x8000000000000009 ∷ 0 ∷ 0x8000000000000001 ∷ 0 ∷ 0x8000000000000005 ∷ 0 ∷ 0x8000000000000005 ∷ 0x8000000000000000 ∷ 9 ∷ 0x8000000000000000 ∷ 0x8000000000000009 ∷ 0x8000000000000000 ∷ 0x8000000000000001 ∷ 0x8000000000000000 ∷ 9 ∷ 0 ∷ 0x8000000000000005 ∷ 0 ∷ 0x8000000000000001 ∷ 0x8000000000000000 ∷ 0x8000000000000001 ∷ 0 ∷ 9 ∷ 0x8000000000000000 ∷ 0x8000000000000009 ∷ 0 ∷ 0x8000000000000009 ∷ 0x8000000000000000 ∷ 0x8000000000000005 ∷ 0x8000000000000000 ∷ 0x8000000000000009 ∷ 0x8000000000000000 ∷ 9 ∷ 0x8000000000000000 ∷ 0x8000000000000009 ∷ 0 ∷ 0x8000000000000005 ∷ 0x8000000000000000 ∷ 9 ∷ 0 ∷ 0x8000000000000001 ∷ 0 ∷ 0x8000000000000005 ∷ 0 ∷ 0x8000000000000001 ∷ 0x8000000000000000 ∷ 0x8000000000000001 ∷ 0x8000000000000000 ∷ 0x8000000000000005 ∷ 0x8000000000000000 ∷ 9 ∷ 0x8000000000000000 ∷ 0x8000000000000009 ∷ 0x8000000000000000 ∷ 0x8000000000000001 ∷ 0 ∷ 0x8000000000000005 ∷ 0 ∷ 9 ∷ 0 ∷ 0x8000000000000009 ∷ 0 ∷ 0x8000000000000005 ∷ 0x8000000000000000 ∷ 0x8000000000000009 ∷ 0 ∷ 0x8000000000000001 ∷ 0x8000000000000000 ∷ 9 ∷ 0 ∷ 0x8000000000000009 ∷ 0x8000000000000000 ∷ 0x8000000000000005 ∷ 0 ∷ 9 ∷ 0x8000000000000000 ∷ 0x8000000000000001 ∷ 0 ∷ 0x8000000000000009 ∷ 0 ∷ 0x8000000000000001 ∷ 0x8000000000000000 ∷ 9 ∷ 0 ∷ 0xffffffffffffffff ∷ 0 ∷ 0x8000000000000005 ∷ 0 ∷ 9 ∷ 0x8000000000000000 ∷ 0x8000000000000001 ∷ 0 ∷ 0x8000000000000009 ∷ 0x8000000000000000 ∷ []) (42 ∷ 0 ∷ []) 0x101 (0 ∷ 0x3b ∷ []) (42 ∷ 4 ∷ [])

abbrev row_1050 : Bool
row_1050 = rows posted 15 (0x8000000000000001 ∷ 0x8000000000000000 ∷ 0x8000000000000005 ∷ 0 ∷ 0x8000000000000001 ∷ 0 ∷ 0x8000000000000009 ∷ 0 ∷ 0x8000000000000009 ∷ 0x8000000000000000 ∷ 9 ∷ 0 ∷ 9 ∷ 0x8000000000000000 ∷ 0x8000000000000005 ∷ 0 ∷ 0x8000000000000009 ∷ 0x8000000000000000 ∷ 9 ∷ 0x8000000000000000 ∷ 0x8000000000000005 ∷ 0x8000000000000000 ∷ 0x8000000000000001 ∷ 0x8000000000000000 ∷ 0x8000000000000009 ∷ 0 ∷ 9 ∷ 0 ∷ 0x8000000000000005 ∷ 0 ∷ 0x8000000000000001 ∷ 0 ∷ 9 ∷ 0 ∷ 0x8000000000000009 ∷ 0 ∷ 0x8000000000000001 ∷ 0 ∷ 0x8000000000000005 ∷ 0 ∷ 0x8000000000000005 ∷ 0x8000000000000000 ∷ 9 ∷ 0x8000000000000000 ∷ 0x8000000000000009 ∷ 0x8000000000000000 ∷ 0x8000000000000001 ∷ 0x8000000000000000 ∷ 9 ∷ 0 ∷ 0x8000000000000005 ∷ 0 ∷ 0x8000000000000001 ∷ 0x8000000000000000 ∷ 0x8000000000000001 ∷ 0 ∷ 9 ∷ 0x8000000000000000 ∷ 0x8000000000000009 ∷ 0 ∷ 0x8000000000000009 ∷ 0x8000000000000000 ∷ 0x8000000000000005 ∷ 0x8000000000000000 ∷ 0x8000000000000009 ∷ 0x8000000000000000 ∷ 9 ∷ 0x8000000000000000 ∷ 0x8000000000000009 ∷ 0 ∷ 0x8000000000000005 ∷ 0x8000000000000000 ∷ 9 ∷ 0 ∷ 0x8000000000000001 ∷ 0 ∷ 0x8000000000000005 ∷ 0 ∷ 0x8000000000000001 ∷ 0x8000000000000000 ∷ 0x8000000000000001 ∷ 0x8000000000000000 ∷ 0x8000000000000005 ∷ 0x8000000000000000 ∷ 9 ∷ 0x8000000000000000 ∷ 0x8000000000000009 ∷ 0x8000000000000000 ∷ 0x8000000000000001 ∷ 0 ∷ 0x8000000000000005 ∷ 0 ∷ 9 ∷ 0 ∷ 0x8000000000000009 ∷ 0 ∷ 0x8000000000000005 ∷ 0x8000000000000000 ∷ 0x8000000000000009 ∷ 0 ∷ 0x8000000000000001 ∷ 0x8000000000000000 ∷ 9 ∷ 0 ∷ 0x8000000000000009 ∷ 0x8000000000000000 ∷ 0x8000000000000005 ∷ 0 ∷ 9 ∷ 0x8000000000000000 ∷ 0x8000000000000001 ∷ 0 ∷ 0x8000000000000009 ∷ 0 ∷ 0x8000000000000001 ∷ 0x8000000000000000 ∷ 9 ∷ 0 ∷ 0x8000000000000005 ∷ 0x8000000000000000 ∷ 5 ∷ 0x8000000000000000 ∷ 9 ∷ 0x8000000000000000 ∷ 0x8000000000000001 ∷ 0 ∷ 0x8000000000000009 ∷ 0x8000000000000000 ∷ []) (42 ∷ 0 ∷ []) 0x101 (0 ∷ 0x3c ∷ []) (42 ∷ 0x44 ∷ [])

abbrev row_1051 : Bool
row_1051 = rows posted 15 (0x8000000000000001 ∷ 0x8000000000000000 ∷ 0x8000000000000005 ∷ 0 ∷ 0x8000000000000001 ∷ 0 ∷ 0x8000000000000009 ∷ 0 ∷ 0x8000000000000009 ∷ 0x8000000000000000 ∷ 9 ∷ 0 ∷ 9 ∷ 0x8000000000000000 ∷ 0x8000000000000005 ∷ 0 ∷ 0x8000000000000009 ∷ 0x8000000000000000 ∷ 9 ∷ 0x8000000000000000 ∷ 0x8000000000000005 ∷ 0x8000000000000000 ∷ 0x8000000000000001 ∷ 0x8000000000000000 ∷ 0x8000000000000009 ∷ 0 ∷ 9 ∷ 0 ∷ 0x8000000000000005 ∷ 0 ∷ 0x8000000000000001 ∷ 0 ∷ 9 ∷ 0 ∷ 0x8000000000000009 ∷ 0 ∷ 0x8000000000000001 ∷ 0 ∷ 0x8000000000000005 ∷ 0 ∷ 0x8000000000000005 ∷ 0x8000000000000000 ∷ 9 ∷ 0x8000000000000000 ∷ 0x8000000000000009 ∷ 0x8000000000000000 ∷ 0x8000000000000001 ∷ 0x8000000000000000 ∷ 9 ∷ 0 ∷ 0x8000000000000005 ∷ 0 ∷ 0x8000000000000001 ∷ 0x8000000000000000 ∷ 0x8000000000000001 ∷ 0 ∷ 9 ∷ 0x8000000000000000 ∷ 0x8000000000000009 ∷ 0 ∷ 0x8000000000000009 ∷ 0x8000000000000000 ∷ 0x8000000000000005 ∷ 0x8000000000000000 ∷ 0x8000000000000009 ∷ 0x8000000000000000 ∷ 9 ∷ 0x8000000000000000 ∷ 0x8000000000000009 ∷ 0 ∷ 0x8000000000000005 ∷ 0x8000000000000000 ∷ 9 ∷ 0 ∷ 0x8000000000000001 ∷ 0 ∷ 0x8000000000000005 ∷ 0 ∷ 0x8000000000000001 ∷ 0x8000000000000000 ∷ 0x8000000000000001 ∷ 0x8000000000000000 ∷ 0x8000000000000005 ∷ 0x8000000000000000 ∷ 9 ∷ 0x8000000000000000 ∷ 0x8000000000000009 ∷ 0x8000000000000000 ∷ 0x8000000000000001 ∷ 0 ∷ 0x8000000000000005 ∷ 0 ∷ 9 ∷ 0 ∷ 0x8000000000000009 ∷ 0 ∷ 0x8000000000000005 ∷ 0x8000000000000000 ∷ 0x8000000000000009 ∷ 0 ∷ 0x8000000000000001 ∷ 0x8000000000000000 ∷ 9 ∷ 0 ∷ 0x8000000000000009 ∷ 0x8000000000000000 ∷ 0x8000000000000005 ∷ 0 ∷ 9 ∷ 0x8000000000000000 ∷ 0x8000000000000001 ∷ 0 ∷ 0x8000000000000009 ∷ 0 ∷ 0x8000000000000001 ∷ 0x8000000000000000 ∷ 9 ∷ 0 ∷ 0x8000000000000005 ∷ 0x8000000000000000 ∷ 0x8000000000000005 ∷ 0 ∷ 0x8000000000000002 ∷ 0x8000000000000000 ∷ 0x8000000000000001 ∷ 0 ∷ 0x8000000000000009 ∷ 0x8000000000000000 ∷ []) (42 ∷ 0 ∷ []) 0x101 (0 ∷ 0x3d ∷ []) (42 ∷ 4 ∷ [])

abbrev row_1052 : Bool
row_1052 = rows posted 15 (0x8000000000000001 ∷ 0x8000000000000000 ∷ 0x8000000000000005 ∷ 0 ∷ 0x8000000000000001 ∷ 0 ∷ 0x8000000000000009 ∷ 0 ∷ 0x8000000000000009 ∷ 0x8000000000000000 ∷ 9 ∷ 0 ∷ 9 ∷ 0x8000000000000000 ∷ 0x8000000000000005 ∷ 0 ∷ 0x8000000000000009 ∷ 0x8000000000000000 ∷ 9 ∷ 0x8000000000000000 ∷ 0x8000000000000005 ∷ 0x8000000000000000 ∷ 0x8000000000000001 ∷ 0x8000000000000000 ∷ 0x8000000000000009 ∷ 0 ∷ 9 ∷ 0 ∷ 0x8000000000000005 ∷ 0 ∷ 0x8000000000000001 ∷ 0 ∷ 9 ∷ 0 ∷ 0x8000000000000009 ∷ 0 ∷ 0x8000000000000001 ∷ 0 ∷ 0x8000000000000005 ∷ 0 ∷ 0x8000000000000005 ∷ 0x8000000000000000 ∷ 9 ∷ 0x8000000000000000 ∷ 0x8000000000000009 ∷ 0x8000000000000000 ∷ 0x8000000000000001 ∷ 0x8000000000000000 ∷ 9 ∷ 0 ∷ 0x8000000000000005 ∷ 0 ∷ 0x8000000000000001 ∷ 0x8000000000000000 ∷ 0x8000000000000001 ∷ 0 ∷ 9 ∷ 0x8000000000000000 ∷ 0x8000000000000009 ∷ 0 ∷ 0x8000000000000009 ∷ 0x8000000000000000 ∷ 0x8000000000000005 ∷ 0x8000000000000000 ∷ 0x8000000000000009 ∷ 0x8000000000000000 ∷ 9 ∷ 0x8000000000000000 ∷ 0x8000000000000009 ∷ 0 ∷ 0x8000000000000005 ∷ 0x8000000000000000 ∷ 9 ∷ 0 ∷ 0x8000000000000001 ∷ 0 ∷ 0x8000000000000005 ∷ 0 ∷ 0x8000000000000001 ∷ 0x8000000000000000 ∷ 0x8000000000000001 ∷ 0x8000000000000000 ∷ 0x8000000000000005 ∷ 0x8000000000000000 ∷ 9 ∷ 0x8000000000000000 ∷ 0x8000000000000009 ∷ 0x8000000000000000 ∷ 0x8000000000000001 ∷ 0 ∷ 0x8000000000000005 ∷ 0 ∷ 9 ∷ 0 ∷ 0x8000000000000009 ∷ 0 ∷ 0x8000000000000005 ∷ 0x8000000000000000 ∷ 0x8000000000000009 ∷ 0 ∷ 0x8000000000000001 ∷ 0x8000000000000000 ∷ 9 ∷ 0 ∷ 0x8000000000000009 ∷ 0x8000000000000000 ∷ 0x8000000000000005 ∷ 0 ∷ 9 ∷ 0x8000000000000000 ∷ 0x8000000000000001 ∷ 0 ∷ 0x8000000000000009 ∷ 0 ∷ 0x8000000000000001 ∷ 0x8000000000000000 ∷ 9 ∷ 0 ∷ 0x8000000000000005 ∷ 0x8000000000000000 ∷ 0x8000000000000005 ∷ 0 ∷ 9 ∷ 0x8000000000000000 ∷ 0 ∷ 0x8000000000000000 ∷ 0x8000000000000009 ∷ 0x8000000000000000 ∷ []) (42 ∷ 0 ∷ []) 0x101 (0 ∷ 0x3e ∷ []) (42 ∷ 0x404 ∷ [])

abbrev row_1053 : Bool
row_1053 = rows posted 15 (0x8000000000000001 ∷ 0x8000000000000000 ∷ 0x8000000000000005 ∷ 0 ∷ 0x8000000000000001 ∷ 0 ∷ 0x8000000000000009 ∷ 0 ∷ 0x8000000000000009 ∷ 0x8000000000000000 ∷ 9 ∷ 0 ∷ 9 ∷ 0x8000000000000000 ∷ 0x8000000000000005 ∷ 0 ∷ 0x8000000000000009 ∷ 0x8000000000000000 ∷ 9 ∷ 0x8000000000000000 ∷ 0x8000000000000005 ∷ 0x8000000000000000 ∷ 0x8000000000000001 ∷ 0x8000000000000000 ∷ 0x8000000000000009 ∷ 0 ∷ 9 ∷ 0 ∷ 0x8000000000000005 ∷ 0 ∷ 0x8000000000000001 ∷ 0 ∷ 9 ∷ 0 ∷ 0x8000000000000009 ∷ 0 ∷ 0x8000000000000001 ∷ 0 ∷ 0x8000000000000005 ∷ 0 ∷ 0x8000000000000005 ∷ 0x8000000000000000 ∷ 9 ∷ 0x8000000000000000 ∷ 0x8000000000000009 ∷ 0x8000000000000000 ∷ 0x8000000000000001 ∷ 0x8000000000000000 ∷ 9 ∷ 0 ∷ 0x8000000000000005 ∷ 0 ∷ 0x8000000000000001 ∷ 0x8000000000000000 ∷ 0x8000000000000001 ∷ 0 ∷ 9 ∷ 0x8000000000000000 ∷ 0x8000000000000009 ∷ 0 ∷ 0x8000000000000009 ∷ 0x8000000000000000 ∷ 0x8000000000000005 ∷ 0x8000000000000000 ∷ 0x8000000000000009 ∷ 0x8000000000000000 ∷ 9 ∷ 0x8000000000000000 ∷ 0x8000000000000009 ∷ 0 ∷ 0x8000000000000005 ∷ 0x8000000000000000 ∷ 9 ∷ 0 ∷ 0x8000000000000001 ∷ 0 ∷ 0x8000000000000005 ∷ 0 ∷ 0x8000000000000001 ∷ 0x8000000000000000 ∷ 0x8000000000000001 ∷ 0x8000000000000000 ∷ 0x8000000000000005 ∷ 0x8000000000000000 ∷ 9 ∷ 0x8000000000000000 ∷ 0x8000000000000009 ∷ 0x8000000000000000 ∷ 0x8000000000000001 ∷ 0 ∷ 0x8000000000000005 ∷ 0 ∷ 9 ∷ 0 ∷ 0x8000000000000009 ∷ 0 ∷ 0x8000000000000005 ∷ 0x8000000000000000 ∷ 0x8000000000000009 ∷ 0 ∷ 0x8000000000000001 ∷ 0x8000000000000000 ∷ 9 ∷ 0 ∷ 0x8000000000000009 ∷ 0x8000000000000000 ∷ 0x8000000000000005 ∷ 0 ∷ 9 ∷ 0x8000000000000000 ∷ 0x8000000000000001 ∷ 0 ∷ 0x8000000000000009 ∷ 0 ∷ 0x8000000000000001 ∷ 0x8000000000000000 ∷ 9 ∷ 0 ∷ 0x8000000000000005 ∷ 0x8000000000000000 ∷ 0x8000000000000005 ∷ 0 ∷ 9 ∷ 0x8000000000000000 ∷ 0x8000000000000001 ∷ 0 ∷ 0xffffffffffffffff ∷ 0x8000000000000000 ∷ []) (42 ∷ 0 ∷ []) 0x101 (0 ∷ 0x3f ∷ []) (42 ∷ 0x400 ∷ [])

abbrev row_1054 : Bool
row_1054 = rows posted 15 (0x8000000000000001 ∷ 0x8000000000000000 ∷ 0x8000000000000005 ∷ 0 ∷ 0x8000000000000001 ∷ 0 ∷ 0x8000000000000009 ∷ 0 ∷ 0x8000000000000009 ∷ 0x8000000000000000 ∷ 9 ∷ 0 ∷ 9 ∷ 0x8000000000000000 ∷ 0x8000000000000005 ∷ 0 ∷ 0x8000000000000009 ∷ 0x8000000000000000 ∷ 9 ∷ 0x8000000000000000 ∷ 0x8000000000000005 ∷ 0x8000000000000000 ∷ 0x8000000000000001 ∷ 0x8000000000000000 ∷ 0x8000000000000009 ∷ 0 ∷ 9 ∷ 0 ∷ 0x8000000000000005 ∷ 0 ∷ 0x8000000000000001 ∷ 0 ∷ 9 ∷ 0 ∷ 0x8000000000000009 ∷ 0 ∷ 0x8000000000000001 ∷ 0 ∷ 0x8000000000000005 ∷ 0 ∷ 0x8000000000000005 ∷ 0x8000000000000000 ∷ 9 ∷ 0x8000000000000000 ∷ 0x8000000000000009 ∷ 0x8000000000000000 ∷ 0x8000000000000001 ∷ 0x8000000000000000 ∷ 9 ∷ 0 ∷ 0x8000000000000005 ∷ 0 ∷ 0x8000000000000001 ∷ 0x8000000000000000 ∷ 0x8000000000000001 ∷ 0 ∷ 9 ∷ 0x8000000000000000 ∷ 0x8000000000000009 ∷ 0 ∷ 0x8000000000000009 ∷ 0x8000000000000000 ∷ 0x8000000000000005 ∷ 0x8000000000000000 ∷ 0x8000000000000009 ∷ 0x8000000000000000 ∷ 9 ∷ 0x8000000000000000 ∷ 0x8000000000000009 ∷ 0 ∷ 0x8000000000000005 ∷ 0x8000000000000000 ∷ 9 ∷ 0 ∷ 0x8000000000000001 ∷ 0 ∷ 0x8000000000000005 ∷ 0 ∷ 0x8000000000000001 ∷ 0x8000000000000000 ∷ 0x8000000000000001 ∷ 0x8000000000000000 ∷ 0x8000000000000005 ∷ 0x8000000000000000 ∷ 9 ∷ 0x8000000000000000 ∷ 0x8000000000000009 ∷ 0x8000000000000000 ∷ 0x8000000000000001 ∷ 0 ∷ 0x8000000000000005 ∷ 0 ∷ 9 ∷ 0 ∷ 0x8000000000000009 ∷ 0 ∷ 0x8000000000000005 ∷ 0x8000000000000000 ∷ 0x8000000000000009 ∷ 0 ∷ 0x8000000000000001 ∷ 0x8000000000000000 ∷ 9 ∷ 0 ∷ 0x8000000000000009 ∷ 0x8000000000000000 ∷ 0x8000000000000005 ∷ 0 ∷ 9 ∷ 0x8000000000000000 ∷ 0x8000000000000001 ∷ 0 ∷ 0x8000000000000009 ∷ 0 ∷ 0x8000000000000001 ∷ 0x8000000000000000 ∷ 9 ∷ 0 ∷ 0x8000000000000005 ∷ 0x8000000000000000 ∷ 0x8000000000000005 ∷ 0 ∷ 9 ∷ 0x8000000000000000 ∷ 0x8000000000000001 ∷ 0 ∷ 0x8000000000000009 ∷ 0x8000000000000000 ∷ []) (42 ∷ 0 ∷ []) 0x40 (0 ∷ 0x40 ∷ []) (42 ∷ 0x400 ∷ [])

abbrev row_1055 : Bool
row_1055 = rows posted 15 ([]) (55 ∷ 5 ∷ 56 ∷ 4 ∷ 57 ∷ 1 ∷ []) 0x40 ([]) ([])

abbrev row_1056 : Bool
row_1056 = rows posted 15 (0x8000000000000005 ∷ 0x8000000000000000 ∷ []) (55 ∷ 5 ∷ 56 ∷ 4 ∷ 57 ∷ 1 ∷ []) 0x40 (0 ∷ 1 ∷ []) ([])

abbrev row_1057 : Bool
row_1057 = rows posted 15 (5 ∷ 0 ∷ 0x8000000000000001 ∷ 0 ∷ []) (55 ∷ 5 ∷ 56 ∷ 4 ∷ 57 ∷ 1 ∷ []) 0x101 ([]) ([])

abbrev row_1058 : Bool
row_1058 = rows posted 15 ([]) (54 ∷ 1 ∷ 55 ∷ 5 ∷ 56 ∷ 4 ∷ 57 ∷ 1 ∷ []) 0x40 ([]) ([])

abbrev row_1059 : Bool
row_1059 = rows posted 15 (0x8000000000000005 ∷ 0x8000000000000000 ∷ []) (54 ∷ 1 ∷ 55 ∷ 5 ∷ 56 ∷ 4 ∷ 57 ∷ 1 ∷ []) 0x40 (0 ∷ 1 ∷ []) ([])

abbrev row_1060 : Bool
row_1060 = rows posted 15 (5 ∷ 0 ∷ 0x8000000000000001 ∷ 0 ∷ []) (54 ∷ 1 ∷ 55 ∷ 5 ∷ 56 ∷ 4 ∷ 57 ∷ 1 ∷ []) 0x101 ([]) ([])

abbrev row_1061 : Bool
row_1061 = rows posted 15 ([]) (54 ∷ 2 ∷ 55 ∷ 5 ∷ 56 ∷ 4 ∷ 57 ∷ 1 ∷ []) 0x102 ([]) ([])

abbrev row_1062 : Bool
row_1062 = rows posted 15 (0x8000000000000005 ∷ 0x8000000000000000 ∷ []) (54 ∷ 2 ∷ 55 ∷ 5 ∷ 56 ∷ 4 ∷ 57 ∷ 1 ∷ []) 0x102 ([]) ([])

abbrev row_1063 : Bool
row_1063 = rows posted 15 (5 ∷ 0 ∷ 0x8000000000000001 ∷ 0 ∷ []) (54 ∷ 2 ∷ 55 ∷ 5 ∷ 56 ∷ 4 ∷ 57 ∷ 1 ∷ []) 0x102 ([]) ([])

abbrev row_1064 : Bool
row_1064 = rows posted 15 ([]) (54 ∷ 3 ∷ 55 ∷ 5 ∷ 56 ∷ 4 ∷ 57 ∷ 1 ∷ []) 0x102 ([]) ([])

abbrev row_1065 : Bool
row_1065 = rows posted 15 (0x8000000000000005 ∷ 0x8000000000000000 ∷ []) (54 ∷ 3 ∷ 55 ∷ 5 ∷ 56 ∷ 4 ∷ 57 ∷ 1 ∷ []) 0x102 ([]) ([])

abbrev row_1066 : Bool
row_1066 = rows posted 15 (5 ∷ 0 ∷ 0x8000000000000001 ∷ 0 ∷ []) (54 ∷ 3 ∷ 55 ∷ 5 ∷ 56 ∷ 4 ∷ 57 ∷ 1 ∷ []) 0x102 ([]) ([])

abbrev row_1067 : Bool
row_1067 = rows posted 15 ([]) (54 ∷ 4 ∷ 55 ∷ 5 ∷ 56 ∷ 4 ∷ 57 ∷ 1 ∷ []) 0x102 ([]) ([])

abbrev row_1068 : Bool
row_1068 = rows posted 15 (0x8000000000000005 ∷ 0x8000000000000000 ∷ []) (54 ∷ 4 ∷ 55 ∷ 5 ∷ 56 ∷ 4 ∷ 57 ∷ 1 ∷ []) 0x102 ([]) ([])

abbrev row_1069 : Bool
row_1069 = rows posted 15 (5 ∷ 0 ∷ 0x8000000000000001 ∷ 0 ∷ []) (54 ∷ 4 ∷ 55 ∷ 5 ∷ 56 ∷ 4 ∷ 57 ∷ 1 ∷ []) 0x102 ([]) ([])

abbrev row_1070 : Bool
row_1070 = rows posted 15 ([]) (54 ∷ 5 ∷ 55 ∷ 5 ∷ 56 ∷ 4 ∷ 57 ∷ 1 ∷ []) 0x102 ([]) ([])

abbrev row_1071 : Bool
row_1071 = rows posted 15 (0x8000000000000005 ∷ 0x8000000000000000 ∷ []) (54 ∷ 5 ∷ 55 ∷ 5 ∷ 56 ∷ 4 ∷ 57 ∷ 1 ∷ []) 0x102 ([]) ([])

abbrev row_1072 : Bool
row_1072 = rows posted 15 (5 ∷ 0 ∷ 0x8000000000000001 ∷ 0 ∷ []) (54 ∷ 5 ∷ 55 ∷ 5 ∷ 56 ∷ 4 ∷ 57 ∷ 1 ∷ []) 0x102 ([]) ([])

abbrev row_1073 : Bool
row_1073 = rows posted 15 ([]) (54 ∷ 6 ∷ 55 ∷ 5 ∷ 56 ∷ 4 ∷ 57 ∷ 1 ∷ []) 0x102 ([]) ([])

abbrev row_1074 : Bool
row_1074 = rows posted 15 (0x8000000000000005 ∷ 0x8000000000000000 ∷ []) (54 ∷ 6 ∷ 55 ∷ 5 ∷ 56 ∷ 4 ∷ 57 ∷ 1 ∷ []) 0x102 ([]) ([])

abbrev row_1075 : Bool
row_1075 = rows posted 15 (5 ∷ 0 ∷ 0x8000000000000001 ∷ 0 ∷ []) (54 ∷ 6 ∷ 55 ∷ 5 ∷ 56 ∷ 4 ∷ 57 ∷ 1 ∷ []) 0x102 ([]) ([])

abbrev row_1076 : Bool
row_1076 = rows posted 15 ([]) (54 ∷ 7 ∷ 55 ∷ 5 ∷ 56 ∷ 4 ∷ 57 ∷ 1 ∷ []) 0x102 ([]) ([])

abbrev row_1077 : Bool
row_1077 = rows posted 15 (0x8000000000000005 ∷ 0x8000000000000000 ∷ []) (54 ∷ 7 ∷ 55 ∷ 5 ∷ 56 ∷ 4 ∷ 57 ∷ 1 ∷ []) 0x102 ([]) ([])

abbrev row_1078 : Bool
row_1078 = rows posted 15 (5 ∷ 0 ∷ 0x8000000000000001 ∷ 0 ∷ []) (54 ∷ 7 ∷ 55 ∷ 5 ∷ 56 ∷ 4 ∷ 57 ∷ 1 ∷ []) 0x102 ([]) ([])

abbrev row_1079 : Bool
row_1079 = rows posted 15 ([]) (54 ∷ 8 ∷ 55 ∷ 5 ∷ 56 ∷ 4 ∷ 57 ∷ 1 ∷ []) 0x102 ([]) ([])

abbrev row_1080 : Bool
row_1080 = rows posted 15 (0x8000000000000005 ∷ 0x8000000000000000 ∷ []) (54 ∷ 8 ∷ 55 ∷ 5 ∷ 56 ∷ 4 ∷ 57 ∷ 1 ∷ []) 0x102 ([]) ([])

abbrev row_1081 : Bool
row_1081 = rows posted 15 (5 ∷ 0 ∷ 0x8000000000000001 ∷ 0 ∷ []) (54 ∷ 8 ∷ 55 ∷ 5 ∷ 56 ∷ 4 ∷ 57 ∷ 1 ∷ []) 0x102 ([]) ([])

abbrev row_1082 : Bool
row_1082 = rows posted 15 ([]) (54 ∷ 9 ∷ 55 ∷ 5 ∷ 56 ∷ 4 ∷ 57 ∷ 1 ∷ []) 0x102 ([]) ([])

abbrev row_1083 : Bool
row_1083 = rows posted 15 (0x8000000000000005 ∷ 0x8000000000000000 ∷ []) (54 ∷ 9 ∷ 55 ∷ 5 ∷ 56 ∷ 4 ∷ 57 ∷ 1 ∷ []) 0x102 ([]) ([])

abbrev row_1084 : Bool
row_1084 = rows posted 15 (5 ∷ 0 ∷ 0x8000000000000001 ∷ 0 ∷ []) (54 ∷ 9 ∷ 55 ∷ 5 ∷ 56 ∷ 4 ∷ 57 ∷ 1 ∷ []) 0x102 ([]) ([])

abbrev row_1085 : Bool
row_1085 = rows posted 15 ([]) (54 ∷ 0xa ∷ 55 ∷ 5 ∷ 56 ∷ 4 ∷ 57 ∷ 1 ∷ []) 0x102 ([]) ([])

abbrev row_1086 : Bool
row_1086 = rows posted 15 (0x8000000000000005 ∷ 0x8000000000000000 ∷ []) (54 ∷ 0xa ∷ 55 ∷ 5 ∷ 56 ∷ 4 ∷ 57 ∷ 1 ∷ []) 0x102 ([]) ([])

abbrev row_1087 : Bool
row_1087 = rows posted 15 (5 ∷ 0 ∷ 0x8000000000000001 ∷ 0 ∷ []) (54 ∷ 0xa ∷ 55 ∷ 5 ∷ 56 ∷ 4 ∷ 57 ∷ 1 ∷ []) 0x102 ([]) ([])

abbrev row_1088 : Bool
row_1088 = rows posted 15 ([]) (54 ∷ 0xb ∷ 55 ∷ 5 ∷ 56 ∷ 4 ∷ 57 ∷ 1 ∷ []) 0x102 ([]) ([])

abbrev row_1089 : Bool
row_1089 = rows posted 15 (0x8000000000000005 ∷ 0x8000000000000000 ∷ []) (54 ∷ 0xb ∷ 55 ∷ 5 ∷ 56 ∷ 4 ∷ 57 ∷ 1 ∷ []) 0x102 ([]) ([])

abbrev row_1090 : Bool
row_1090 = rows posted 15 (5 ∷ 0 ∷ 0x8000000000000001 ∷ 0 ∷ []) (54 ∷ 0xb ∷ 55 ∷ 5 ∷ 56 ∷ 4 ∷ 57 ∷ 1 ∷ []) 0x102 ([]) ([])

abbrev row_1091 : Bool
row_1091 = rows posted 15 ([]) (54 ∷ 0xc ∷ 55 ∷ 5 ∷ 56 ∷ 4 ∷ 57 ∷ 1 ∷ []) 0x102 ([]) ([])

abbrev row_1092 : Bool
row_1092 = rows posted 15 (0x8000000000000005 ∷ 0x8000000000000000 ∷ []) (54 ∷ 0xc ∷ 55 ∷ 5 ∷ 56 ∷ 4 ∷ 57 ∷ 1 ∷ []) 0x102 ([]) ([])

abbrev row_1093 : Bool
row_1093 = rows posted 15 (5 ∷ 0 ∷ 0x8000000000000001 ∷ 0 ∷ []) (54 ∷ 0xc ∷ 55 ∷ 5 ∷ 56 ∷ 4 ∷ 57 ∷ 1 ∷ []) 0x102 ([]) ([])

abbrev row_1094 : Bool
row_1094 = rows posted 15 ([]) (54 ∷ 0xd ∷ 55 ∷ 5 ∷ 56 ∷ 4 ∷ 57 ∷ 1 ∷ []) 0x40 ([]) ([])

abbrev row_1095 : Bool
row_1095 = rows posted 15 (0x8000000000000005 ∷ 0x8000000000000000 ∷ []) (54 ∷ 0xd ∷ 55 ∷ 5 ∷ 56 ∷ 4 ∷ 57 ∷ 1 ∷ []) 0x40 (0 ∷ 1 ∷ []) ([])

abbrev row_1096 : Bool
row_1096 = rows posted 15 (5 ∷ 0 ∷ 0x8000000000000001 ∷ 0 ∷ []) (54 ∷ 0xd ∷ 55 ∷ 5 ∷ 56 ∷ 4 ∷ 57 ∷ 1 ∷ []) 0x101 ([]) ([])

abbrev row_1097 : Bool
row_1097 = calls answered 11 (1 ∷ 0x80001001 ∷ 1 ∷ 0 ∷ 0 ∷ []) (33 ∷ 0 ∷ 34 ∷ 0x80 ∷ 54 ∷ 2 ∷ 55 ∷ 0x10000003 ∷ 56 ∷ 0 ∷ []) 0x0 ([]) (32 ∷ 0x2a1907f6e5d4c388 ∷ 33 ∷ 0x100 ∷ 35 ∷ 0x28f5c28f5c28f49c ∷ 37 ∷ 0x258bf258bf258bcf ∷ 38 ∷ 0xc ∷ 39 ∷ 0x80001001 ∷ 54 ∷ 0 ∷ [])

abbrev row_1098 : Bool
row_1098 = calls answered 11 (1 ∷ 0x80001001 ∷ 1 ∷ 0 ∷ 0 ∷ []) (33 ∷ 0 ∷ 34 ∷ 0x180 ∷ 54 ∷ 2 ∷ 55 ∷ 0x10000003 ∷ 56 ∷ 0 ∷ []) 0x0 ([]) (32 ∷ 0x2a1907f6e5d4c388 ∷ 33 ∷ 0x100 ∷ 37 ∷ 0x258bf258bf258bcf ∷ 38 ∷ 0xc ∷ 39 ∷ 0x80001001 ∷ 54 ∷ 0 ∷ [])

abbrev row_1099 : Bool
row_1099 = calls answered 11 (1 ∷ 0x80001001 ∷ 1 ∷ 0 ∷ 0 ∷ []) (33 ∷ 0x100 ∷ 34 ∷ 0x180 ∷ 54 ∷ 2 ∷ 55 ∷ 0x10000003 ∷ 56 ∷ 0 ∷ []) 0x0 ([]) (32 ∷ 0x2a1907f6e5d4c388 ∷ 37 ∷ 0x258bf258bf258bcf ∷ 38 ∷ 0xc ∷ 39 ∷ 0x80001001 ∷ 54 ∷ 0 ∷ [])

abbrev row_1100 : Bool
row_1100 = calls answered 11 (1 ∷ 0x80001001 ∷ 1 ∷ 0 ∷ 0 ∷ []) (33 ∷ 0xfffffffffffffeff ∷ 34 ∷ 0xfffffffffffffeff ∷ 54 ∷ 2 ∷ 55 ∷ 0x10000003 ∷ 56 ∷ 0 ∷ []) 0x0 ([]) (32 ∷ 0x2a1907f6e5d4c388 ∷ 33 ∷ 0xffffffffffffffff ∷ 35 ∷ 0x28f5c28f5c28f49c ∷ 37 ∷ 0x258bf258bf258bcf ∷ 38 ∷ 0xc ∷ 39 ∷ 0x80001001 ∷ 54 ∷ 0 ∷ [])

abbrev row_1101 : Bool
row_1101 = calls answered 11 (1 ∷ 0x80001001 ∷ 1 ∷ 0 ∷ 0 ∷ []) (33 ∷ 0xfffffffffffffeff ∷ 34 ∷ 0xffffffffffffffff ∷ 54 ∷ 2 ∷ 55 ∷ 0x10000003 ∷ 56 ∷ 0 ∷ []) 0x0 ([]) (32 ∷ 0x2a1907f6e5d4c388 ∷ 33 ∷ 0xffffffffffffffff ∷ 37 ∷ 0x258bf258bf258bcf ∷ 38 ∷ 0xc ∷ 39 ∷ 0x80001001 ∷ 54 ∷ 0 ∷ [])

abbrev row_1102 : Bool
row_1102 = calls answered 11 (1 ∷ 0x80001001 ∷ 1 ∷ 0 ∷ 0 ∷ []) (33 ∷ 0xffffffffffffffff ∷ 34 ∷ 0xfffffffffffffeff ∷ 54 ∷ 2 ∷ 55 ∷ 0x10000003 ∷ 56 ∷ 0 ∷ []) 0x0 ([]) (32 ∷ 0x2a1907f6e5d4c388 ∷ 35 ∷ 0x28f5c28f5c28f49c ∷ 37 ∷ 0x258bf258bf258bcf ∷ 38 ∷ 0xc ∷ 39 ∷ 0x80001001 ∷ 54 ∷ 0 ∷ [])

abbrev row_1103 : Bool
row_1103 = calls answered 11 (1 ∷ 0x80001001 ∷ 2 ∷ 0 ∷ 0 ∷ []) (33 ∷ 0 ∷ 34 ∷ 0x80 ∷ 54 ∷ 2 ∷ 55 ∷ 0x10000003 ∷ 56 ∷ 0 ∷ []) 0x0 ([]) (32 ∷ 0x2a1907f6e5d4c388 ∷ 33 ∷ 0x100 ∷ 35 ∷ 0x28f5c28f5c28f49c ∷ 37 ∷ 0x258bf258bf258bcf ∷ 38 ∷ 1 ∷ 39 ∷ 0x80001001 ∷ 54 ∷ 0 ∷ [])

abbrev row_1104 : Bool
row_1104 = calls answered 11 (1 ∷ 0x80001001 ∷ 2 ∷ 0 ∷ 0 ∷ []) (33 ∷ 0 ∷ 34 ∷ 0x180 ∷ 54 ∷ 2 ∷ 55 ∷ 0x10000003 ∷ 56 ∷ 0 ∷ []) 0x0 ([]) (32 ∷ 0x2a1907f6e5d4c388 ∷ 33 ∷ 0x100 ∷ 37 ∷ 0x258bf258bf258bcf ∷ 38 ∷ 1 ∷ 39 ∷ 0x80001001 ∷ 54 ∷ 0 ∷ [])

abbrev row_1105 : Bool
row_1105 = calls answered 11 (1 ∷ 0x80001001 ∷ 2 ∷ 0 ∷ 0 ∷ []) (33 ∷ 0x100 ∷ 34 ∷ 0x180 ∷ 54 ∷ 2 ∷ 55 ∷ 0x10000003 ∷ 56 ∷ 0 ∷ []) 0x0 ([]) (32 ∷ 0x2a1907f6e5d4c388 ∷ 37 ∷ 0x258bf258bf258bcf ∷ 38 ∷ 1 ∷ 39 ∷ 0x80001001 ∷ 54 ∷ 0 ∷ [])

abbrev row_1106 : Bool
row_1106 = calls answered 11 (1 ∷ 0x80001001 ∷ 2 ∷ 0 ∷ 0 ∷ []) (33 ∷ 0xfffffffffffffeff ∷ 34 ∷ 0xfffffffffffffeff ∷ 54 ∷ 2 ∷ 55 ∷ 0x10000003 ∷ 56 ∷ 0 ∷ []) 0x0 ([]) (32 ∷ 0x2a1907f6e5d4c388 ∷ 33 ∷ 0xffffffffffffffff ∷ 35 ∷ 0x28f5c28f5c28f49c ∷ 37 ∷ 0x258bf258bf258bcf ∷ 38 ∷ 1 ∷ 39 ∷ 0x80001001 ∷ 54 ∷ 0 ∷ [])

abbrev row_1107 : Bool
row_1107 = calls answered 11 (1 ∷ 0x80001001 ∷ 2 ∷ 0 ∷ 0 ∷ []) (33 ∷ 0xfffffffffffffeff ∷ 34 ∷ 0xffffffffffffffff ∷ 54 ∷ 2 ∷ 55 ∷ 0x10000003 ∷ 56 ∷ 0 ∷ []) 0x0 ([]) (32 ∷ 0x2a1907f6e5d4c388 ∷ 33 ∷ 0xffffffffffffffff ∷ 37 ∷ 0x258bf258bf258bcf ∷ 38 ∷ 1 ∷ 39 ∷ 0x80001001 ∷ 54 ∷ 0 ∷ [])

abbrev row_1108 : Bool
row_1108 = calls answered 11 (1 ∷ 0x80001001 ∷ 2 ∷ 0 ∷ 0 ∷ []) (33 ∷ 0xffffffffffffffff ∷ 34 ∷ 0xfffffffffffffeff ∷ 54 ∷ 2 ∷ 55 ∷ 0x10000003 ∷ 56 ∷ 0 ∷ []) 0x0 ([]) (32 ∷ 0x2a1907f6e5d4c388 ∷ 35 ∷ 0x28f5c28f5c28f49c ∷ 37 ∷ 0x258bf258bf258bcf ∷ 38 ∷ 1 ∷ 39 ∷ 0x80001001 ∷ 54 ∷ 0 ∷ [])

abbrev row_1109 : Bool
row_1109 = calls answered 11 (1 ∷ 0x80001001 ∷ 3 ∷ 0 ∷ 0 ∷ []) (33 ∷ 0 ∷ 34 ∷ 0x80 ∷ 54 ∷ 2 ∷ 55 ∷ 0x10000003 ∷ 56 ∷ 0 ∷ []) 0x0 ([]) (32 ∷ 0x2a1907f6e5d4c388 ∷ 33 ∷ 0x100 ∷ 35 ∷ 0x28f5c28f5c28f49c ∷ 37 ∷ 0x258bf258bf258bcf ∷ 38 ∷ 0 ∷ 39 ∷ 0x80001001 ∷ 54 ∷ 0 ∷ [])

abbrev row_1110 : Bool
row_1110 = calls answered 11 (1 ∷ 0x80001001 ∷ 3 ∷ 0 ∷ 0 ∷ []) (33 ∷ 0 ∷ 34 ∷ 0x180 ∷ 54 ∷ 2 ∷ 55 ∷ 0x10000003 ∷ 56 ∷ 0 ∷ []) 0x0 ([]) (32 ∷ 0x2a1907f6e5d4c388 ∷ 33 ∷ 0x100 ∷ 37 ∷ 0x258bf258bf258bcf ∷ 38 ∷ 0 ∷ 39 ∷ 0x80001001 ∷ 54 ∷ 0 ∷ [])

abbrev row_1111 : Bool
row_1111 = calls answered 11 (1 ∷ 0x80001001 ∷ 3 ∷ 0 ∷ 0 ∷ []) (33 ∷ 0x100 ∷ 34 ∷ 0x180 ∷ 54 ∷ 2 ∷ 55 ∷ 0x10000003 ∷ 56 ∷ 0 ∷ []) 0x0 ([]) (32 ∷ 0x2a1907f6e5d4c388 ∷ 37 ∷ 0x258bf258bf258bcf ∷ 38 ∷ 0 ∷ 39 ∷ 0x80001001 ∷ 54 ∷ 0 ∷ [])

abbrev row_1112 : Bool
row_1112 = calls answered 11 (1 ∷ 0x80001001 ∷ 3 ∷ 0 ∷ 0 ∷ []) (33 ∷ 0xfffffffffffffeff ∷ 34 ∷ 0xfffffffffffffeff ∷ 54 ∷ 2 ∷ 55 ∷ 0x10000003 ∷ 56 ∷ 0 ∷ []) 0x0 ([]) (32 ∷ 0x2a1907f6e5d4c388 ∷ 33 ∷ 0xffffffffffffffff ∷ 35 ∷ 0x28f5c28f5c28f49c ∷ 37 ∷ 0x258bf258bf258bcf ∷ 38 ∷ 0 ∷ 39 ∷ 0x80001001 ∷ 54 ∷ 0 ∷ [])

abbrev row_1113 : Bool
row_1113 = calls answered 11 (1 ∷ 0x80001001 ∷ 3 ∷ 0 ∷ 0 ∷ []) (33 ∷ 0xfffffffffffffeff ∷ 34 ∷ 0xffffffffffffffff ∷ 54 ∷ 2 ∷ 55 ∷ 0x10000003 ∷ 56 ∷ 0 ∷ []) 0x0 ([]) (32 ∷ 0x2a1907f6e5d4c388 ∷ 33 ∷ 0xffffffffffffffff ∷ 37 ∷ 0x258bf258bf258bcf ∷ 38 ∷ 0 ∷ 39 ∷ 0x80001001 ∷ 54 ∷ 0 ∷ [])

abbrev row_1114 : Bool
row_1114 = calls answered 11 (1 ∷ 0x80001001 ∷ 3 ∷ 0 ∷ 0 ∷ []) (33 ∷ 0xffffffffffffffff ∷ 34 ∷ 0xfffffffffffffeff ∷ 54 ∷ 2 ∷ 55 ∷ 0x10000003 ∷ 56 ∷ 0 ∷ []) 0x0 ([]) (32 ∷ 0x2a1907f6e5d4c388 ∷ 35 ∷ 0x28f5c28f5c28f49c ∷ 37 ∷ 0x258bf258bf258bcf ∷ 38 ∷ 0 ∷ 39 ∷ 0x80001001 ∷ 54 ∷ 0 ∷ [])

abbrev row_1115 : Bool
row_1115 = calls answered 11 (1 ∷ 0x80001001 ∷ 0 ∷ 0 ∷ 0 ∷ []) (33 ∷ 0 ∷ 34 ∷ 0x80 ∷ 54 ∷ 2 ∷ 55 ∷ 0x10000003 ∷ 56 ∷ 0 ∷ []) 0x103 ([]) (46 ∷ 0x3579be02468acee2 ∷ 54 ∷ 0 ∷ [])

abbrev row_1116 : Bool
row_1116 = calls answered 11 (1 ∷ 0x80001001 ∷ 0 ∷ 0 ∷ 0 ∷ []) (33 ∷ 0xfffffffffffffeff ∷ 34 ∷ 0xffffffffffffffff ∷ 54 ∷ 2 ∷ 55 ∷ 0x10000003 ∷ 56 ∷ 0 ∷ []) 0x103 ([]) (46 ∷ 0x3579be02468acee2 ∷ 54 ∷ 0 ∷ [])

abbrev row_1117 : Bool
row_1117 = calls answered 11 (1 ∷ 0x80001001 ∷ 4 ∷ 0 ∷ 0 ∷ []) (33 ∷ 0 ∷ 34 ∷ 0x80 ∷ 54 ∷ 2 ∷ 55 ∷ 0x10000003 ∷ 56 ∷ 0 ∷ []) 0x8 (0 ∷ 0x80001001 ∷ 1 ∷ 4 ∷ []) (54 ∷ 0 ∷ [])

abbrev row_1118 : Bool
row_1118 = calls answered 11 (1 ∷ 0x80001001 ∷ 4 ∷ 0 ∷ 0 ∷ []) (33 ∷ 0xfffffffffffffeff ∷ 34 ∷ 0xffffffffffffffff ∷ 54 ∷ 2 ∷ 55 ∷ 0x10000003 ∷ 56 ∷ 0 ∷ []) 0x8 (0 ∷ 0x80001001 ∷ 1 ∷ 4 ∷ []) (54 ∷ 0 ∷ [])

abbrev row_1119 : Bool
row_1119 = calls answered 11 (1 ∷ 0x80001001 ∷ 5 ∷ 0 ∷ 0 ∷ []) (33 ∷ 0 ∷ 34 ∷ 0x80 ∷ 54 ∷ 2 ∷ 55 ∷ 0x10000003 ∷ 56 ∷ 0 ∷ []) 0x106 ([]) (54 ∷ 0 ∷ [])

abbrev row_1120 : Bool
row_1120 = calls answered 11 (1 ∷ 0x80001001 ∷ 5 ∷ 0 ∷ 0 ∷ []) (33 ∷ 0xfffffffffffffeff ∷ 34 ∷ 0xffffffffffffffff ∷ 54 ∷ 2 ∷ 55 ∷ 0x10000003 ∷ 56 ∷ 0 ∷ []) 0x106 ([]) (54 ∷ 0 ∷ [])

abbrev row_1121 : Bool
row_1121 = calls answered 11 (1 ∷ 0x80001001 ∷ 6 ∷ 0 ∷ 0 ∷ []) (33 ∷ 0 ∷ 34 ∷ 0x80 ∷ 54 ∷ 2 ∷ 55 ∷ 0x10000003 ∷ 56 ∷ 0 ∷ []) 0x106 ([]) (54 ∷ 0 ∷ [])

abbrev row_1122 : Bool
row_1122 = calls answered 11 (1 ∷ 0x80001001 ∷ 6 ∷ 0 ∷ 0 ∷ []) (33 ∷ 0xfffffffffffffeff ∷ 34 ∷ 0xffffffffffffffff ∷ 54 ∷ 2 ∷ 55 ∷ 0x10000003 ∷ 56 ∷ 0 ∷ []) 0x106 ([]) (54 ∷ 0 ∷ [])

abbrev row_1123 : Bool
row_1123 = calls answered 11 (1 ∷ 0x80001001 ∷ 1 ∷ 0 ∷ 0 ∷ []) (33 ∷ 0 ∷ 34 ∷ 0x80 ∷ 54 ∷ 3 ∷ 55 ∷ 0x10000003 ∷ 56 ∷ 1 ∷ []) 0x0 ([]) (32 ∷ 0x2a1907f6e5d4c388 ∷ 33 ∷ 0x100 ∷ 35 ∷ 0x28f5c28f5c28f49c ∷ 37 ∷ 0x258bf258bf258bcf ∷ 38 ∷ 0xc ∷ 39 ∷ 0x80001001 ∷ 54 ∷ 0 ∷ [])

abbrev row_1124 : Bool
row_1124 = calls answered 11 (1 ∷ 0x80001001 ∷ 1 ∷ 0 ∷ 0 ∷ []) (33 ∷ 0 ∷ 34 ∷ 0x180 ∷ 54 ∷ 3 ∷ 55 ∷ 0x10000003 ∷ 56 ∷ 1 ∷ []) 0x0 ([]) (32 ∷ 0x2a1907f6e5d4c388 ∷ 33 ∷ 0x100 ∷ 37 ∷ 0x258bf258bf258bcf ∷ 38 ∷ 0xc ∷ 39 ∷ 0x80001001 ∷ 54 ∷ 0 ∷ [])

abbrev row_1125 : Bool
row_1125 = calls answered 11 (1 ∷ 0x80001001 ∷ 1 ∷ 0 ∷ 0 ∷ []) (33 ∷ 0x100 ∷ 34 ∷ 0x180 ∷ 54 ∷ 3 ∷ 55 ∷ 0x10000003 ∷ 56 ∷ 1 ∷ []) 0x0 ([]) (32 ∷ 0x2a1907f6e5d4c388 ∷ 37 ∷ 0x258bf258bf258bcf ∷ 38 ∷ 0xc ∷ 39 ∷ 0x80001001 ∷ 54 ∷ 0 ∷ [])

abbrev row_1126 : Bool
row_1126 = calls answered 11 (1 ∷ 0x80001001 ∷ 1 ∷ 0 ∷ 0 ∷ []) (33 ∷ 0xfffffffffffffeff ∷ 34 ∷ 0xfffffffffffffeff ∷ 54 ∷ 3 ∷ 55 ∷ 0x10000003 ∷ 56 ∷ 1 ∷ []) 0x0 ([]) (32 ∷ 0x2a1907f6e5d4c388 ∷ 33 ∷ 0xffffffffffffffff ∷ 35 ∷ 0x28f5c28f5c28f49c ∷ 37 ∷ 0x258bf258bf258bcf ∷ 38 ∷ 0xc ∷ 39 ∷ 0x80001001 ∷ 54 ∷ 0 ∷ [])

abbrev row_1127 : Bool
row_1127 = calls answered 11 (1 ∷ 0x80001001 ∷ 1 ∷ 0 ∷ 0 ∷ []) (33 ∷ 0xfffffffffffffeff ∷ 34 ∷ 0xffffffffffffffff ∷ 54 ∷ 3 ∷ 55 ∷ 0x10000003 ∷ 56 ∷ 1 ∷ []) 0x0 ([]) (32 ∷ 0x2a1907f6e5d4c388 ∷ 33 ∷ 0xffffffffffffffff ∷ 37 ∷ 0x258bf258bf258bcf ∷ 38 ∷ 0xc ∷ 39 ∷ 0x80001001 ∷ 54 ∷ 0 ∷ [])

abbrev row_1128 : Bool
row_1128 = calls answered 11 (1 ∷ 0x80001001 ∷ 1 ∷ 0 ∷ 0 ∷ []) (33 ∷ 0xffffffffffffffff ∷ 34 ∷ 0xfffffffffffffeff ∷ 54 ∷ 3 ∷ 55 ∷ 0x10000003 ∷ 56 ∷ 1 ∷ []) 0x0 ([]) (32 ∷ 0x2a1907f6e5d4c388 ∷ 35 ∷ 0x28f5c28f5c28f49c ∷ 37 ∷ 0x258bf258bf258bcf ∷ 38 ∷ 0xc ∷ 39 ∷ 0x80001001 ∷ 54 ∷ 0 ∷ [])

abbrev row_1129 : Bool
row_1129 = calls answered 11 (1 ∷ 0x80001001 ∷ 2 ∷ 0 ∷ 0 ∷ []) (33 ∷ 0 ∷ 34 ∷ 0x80 ∷ 54 ∷ 3 ∷ 55 ∷ 0x10000003 ∷ 56 ∷ 1 ∷ []) 0x0 ([]) (32 ∷ 0x2a1907f6e5d4c388 ∷ 33 ∷ 0x100 ∷ 35 ∷ 0x28f5c28f5c28f49c ∷ 37 ∷ 0x258bf258bf258bcf ∷ 38 ∷ 1 ∷ 39 ∷ 0x80001001 ∷ 54 ∷ 0 ∷ [])

abbrev row_1130 : Bool
row_1130 = calls answered 11 (1 ∷ 0x80001001 ∷ 2 ∷ 0 ∷ 0 ∷ []) (33 ∷ 0 ∷ 34 ∷ 0x180 ∷ 54 ∷ 3 ∷ 55 ∷ 0x10000003 ∷ 56 ∷ 1 ∷ []) 0x0 ([]) (32 ∷ 0x2a1907f6e5d4c388 ∷ 33 ∷ 0x100 ∷ 37 ∷ 0x258bf258bf258bcf ∷ 38 ∷ 1 ∷ 39 ∷ 0x80001001 ∷ 54 ∷ 0 ∷ [])

abbrev row_1131 : Bool
row_1131 = calls answered 11 (1 ∷ 0x80001001 ∷ 2 ∷ 0 ∷ 0 ∷ []) (33 ∷ 0x100 ∷ 34 ∷ 0x180 ∷ 54 ∷ 3 ∷ 55 ∷ 0x10000003 ∷ 56 ∷ 1 ∷ []) 0x0 ([]) (32 ∷ 0x2a1907f6e5d4c388 ∷ 37 ∷ 0x258bf258bf258bcf ∷ 38 ∷ 1 ∷ 39 ∷ 0x80001001 ∷ 54 ∷ 0 ∷ [])

abbrev row_1132 : Bool
row_1132 = calls answered 11 (1 ∷ 0x80001001 ∷ 2 ∷ 0 ∷ 0 ∷ []) (33 ∷ 0xfffffffffffffeff ∷ 34 ∷ 0xfffffffffffffeff ∷ 54 ∷ 3 ∷ 55 ∷ 0x10000003 ∷ 56 ∷ 1 ∷ []) 0x0 ([]) (32 ∷ 0x2a1907f6e5d4c388 ∷ 33 ∷ 0xffffffffffffffff ∷ 35 ∷ 0x28f5c28f5c28f49c ∷ 37 ∷ 0x258bf258bf258bcf ∷ 38 ∷ 1 ∷ 39 ∷ 0x80001001 ∷ 54 ∷ 0 ∷ [])

abbrev row_1133 : Bool
row_1133 = calls answered 11 (1 ∷ 0x80001001 ∷ 2 ∷ 0 ∷ 0 ∷ []) (33 ∷ 0xfffffffffffffeff ∷ 34 ∷ 0xffffffffffffffff ∷ 54 ∷ 3 ∷ 55 ∷ 0x10000003 ∷ 56 ∷ 1 ∷ []) 0x0 ([]) (32 ∷ 0x2a1907f6e5d4c388 ∷ 33 ∷ 0xffffffffffffffff ∷ 37 ∷ 0x258bf258bf258bcf ∷ 38 ∷ 1 ∷ 39 ∷ 0x80001001 ∷ 54 ∷ 0 ∷ [])

abbrev row_1134 : Bool
row_1134 = calls answered 11 (1 ∷ 0x80001001 ∷ 2 ∷ 0 ∷ 0 ∷ []) (33 ∷ 0xffffffffffffffff ∷ 34 ∷ 0xfffffffffffffeff ∷ 54 ∷ 3 ∷ 55 ∷ 0x10000003 ∷ 56 ∷ 1 ∷ []) 0x0 ([]) (32 ∷ 0x2a1907f6e5d4c388 ∷ 35 ∷ 0x28f5c28f5c28f49c ∷ 37 ∷ 0x258bf258bf258bcf ∷ 38 ∷ 1 ∷ 39 ∷ 0x80001001 ∷ 54 ∷ 0 ∷ [])

abbrev row_1135 : Bool
row_1135 = calls answered 11 (1 ∷ 0x80001001 ∷ 3 ∷ 0 ∷ 0 ∷ []) (33 ∷ 0 ∷ 34 ∷ 0x80 ∷ 54 ∷ 3 ∷ 55 ∷ 0x10000003 ∷ 56 ∷ 1 ∷ []) 0x0 ([]) (32 ∷ 0x2a1907f6e5d4c388 ∷ 33 ∷ 0x100 ∷ 35 ∷ 0x28f5c28f5c28f49c ∷ 37 ∷ 0x258bf258bf258bcf ∷ 38 ∷ 0 ∷ 39 ∷ 0x80001001 ∷ 54 ∷ 0 ∷ [])

abbrev row_1136 : Bool
row_1136 = calls answered 11 (1 ∷ 0x80001001 ∷ 3 ∷ 0 ∷ 0 ∷ []) (33 ∷ 0 ∷ 34 ∷ 0x180 ∷ 54 ∷ 3 ∷ 55 ∷ 0x10000003 ∷ 56 ∷ 1 ∷ []) 0x0 ([]) (32 ∷ 0x2a1907f6e5d4c388 ∷ 33 ∷ 0x100 ∷ 37 ∷ 0x258bf258bf258bcf ∷ 38 ∷ 0 ∷ 39 ∷ 0x80001001 ∷ 54 ∷ 0 ∷ [])

abbrev row_1137 : Bool
row_1137 = calls answered 11 (1 ∷ 0x80001001 ∷ 3 ∷ 0 ∷ 0 ∷ []) (33 ∷ 0x100 ∷ 34 ∷ 0x180 ∷ 54 ∷ 3 ∷ 55 ∷ 0x10000003 ∷ 56 ∷ 1 ∷ []) 0x0 ([]) (32 ∷ 0x2a1907f6e5d4c388 ∷ 37 ∷ 0x258bf258bf258bcf ∷ 38 ∷ 0 ∷ 39 ∷ 0x80001001 ∷ 54 ∷ 0 ∷ [])

abbrev row_1138 : Bool
row_1138 = calls answered 11 (1 ∷ 0x80001001 ∷ 3 ∷ 0 ∷ 0 ∷ []) (33 ∷ 0xfffffffffffffeff ∷ 34 ∷ 0xfffffffffffffeff ∷ 54 ∷ 3 ∷ 55 ∷ 0x10000003 ∷ 56 ∷ 1 ∷ []) 0x0 ([]) (32 ∷ 0x2a1907f6e5d4c388 ∷ 33 ∷ 0xffffffffffffffff ∷ 35 ∷ 0x28f5c28f5c28f49c ∷ 37 ∷ 0x258bf258bf258bcf ∷ 38 ∷ 0 ∷ 39 ∷ 0x80001001 ∷ 54 ∷ 0 ∷ [])

abbrev row_1139 : Bool
row_1139 = calls answered 11 (1 ∷ 0x80001001 ∷ 3 ∷ 0 ∷ 0 ∷ []) (33 ∷ 0xfffffffffffffeff ∷ 34 ∷ 0xffffffffffffffff ∷ 54 ∷ 3 ∷ 55 ∷ 0x10000003 ∷ 56 ∷ 1 ∷ []) 0x0 ([]) (32 ∷ 0x2a1907f6e5d4c388 ∷ 33 ∷ 0xffffffffffffffff ∷ 37 ∷ 0x258bf258bf258bcf ∷ 38 ∷ 0 ∷ 39 ∷ 0x80001001 ∷ 54 ∷ 0 ∷ [])

abbrev row_1140 : Bool
row_1140 = calls answered 11 (1 ∷ 0x80001001 ∷ 3 ∷ 0 ∷ 0 ∷ []) (33 ∷ 0xffffffffffffffff ∷ 34 ∷ 0xfffffffffffffeff ∷ 54 ∷ 3 ∷ 55 ∷ 0x10000003 ∷ 56 ∷ 1 ∷ []) 0x0 ([]) (32 ∷ 0x2a1907f6e5d4c388 ∷ 35 ∷ 0x28f5c28f5c28f49c ∷ 37 ∷ 0x258bf258bf258bcf ∷ 38 ∷ 0 ∷ 39 ∷ 0x80001001 ∷ 54 ∷ 0 ∷ [])

abbrev row_1141 : Bool
row_1141 = calls answered 11 (1 ∷ 0x80001001 ∷ 0 ∷ 0 ∷ 0 ∷ []) (33 ∷ 0 ∷ 34 ∷ 0x80 ∷ 54 ∷ 3 ∷ 55 ∷ 0x10000003 ∷ 56 ∷ 1 ∷ []) 0x8 (0 ∷ 0x10000003 ∷ 1 ∷ 1 ∷ []) (54 ∷ 0 ∷ [])

abbrev row_1142 : Bool
row_1142 = calls answered 11 (1 ∷ 0x80001001 ∷ 0 ∷ 0 ∷ 0 ∷ []) (33 ∷ 0xfffffffffffffeff ∷ 34 ∷ 0xffffffffffffffff ∷ 54 ∷ 3 ∷ 55 ∷ 0x10000003 ∷ 56 ∷ 1 ∷ []) 0x8 (0 ∷ 0x10000003 ∷ 1 ∷ 1 ∷ []) (54 ∷ 0 ∷ [])

abbrev row_1143 : Bool
row_1143 = calls answered 11 (1 ∷ 0x80001001 ∷ 4 ∷ 0 ∷ 0 ∷ []) (33 ∷ 0 ∷ 34 ∷ 0x80 ∷ 54 ∷ 3 ∷ 55 ∷ 0x10000003 ∷ 56 ∷ 1 ∷ []) 0x8 (0 ∷ 0x80001001 ∷ 1 ∷ 4 ∷ []) (54 ∷ 0 ∷ [])

abbrev row_1144 : Bool
row_1144 = calls answered 11 (1 ∷ 0x80001001 ∷ 4 ∷ 0 ∷ 0 ∷ []) (33 ∷ 0xfffffffffffffeff ∷ 34 ∷ 0xffffffffffffffff ∷ 54 ∷ 3 ∷ 55 ∷ 0x10000003 ∷ 56 ∷ 1 ∷ []) 0x8 (0 ∷ 0x80001001 ∷ 1 ∷ 4 ∷ []) (54 ∷ 0 ∷ [])

abbrev row_1145 : Bool
row_1145 = calls answered 11 (1 ∷ 0x80001001 ∷ 5 ∷ 0 ∷ 0 ∷ []) (33 ∷ 0 ∷ 34 ∷ 0x80 ∷ 54 ∷ 3 ∷ 55 ∷ 0x10000003 ∷ 56 ∷ 1 ∷ []) 0x106 ([]) (54 ∷ 0 ∷ [])

abbrev row_1146 : Bool
row_1146 = calls answered 11 (1 ∷ 0x80001001 ∷ 5 ∷ 0 ∷ 0 ∷ []) (33 ∷ 0xfffffffffffffeff ∷ 34 ∷ 0xffffffffffffffff ∷ 54 ∷ 3 ∷ 55 ∷ 0x10000003 ∷ 56 ∷ 1 ∷ []) 0x106 ([]) (54 ∷ 0 ∷ [])

abbrev row_1147 : Bool
row_1147 = calls answered 11 (1 ∷ 0x80001001 ∷ 6 ∷ 0 ∷ 0 ∷ []) (33 ∷ 0 ∷ 34 ∷ 0x80 ∷ 54 ∷ 3 ∷ 55 ∷ 0x10000003 ∷ 56 ∷ 1 ∷ []) 0x106 ([]) (54 ∷ 0 ∷ [])

abbrev row_1148 : Bool
row_1148 = calls answered 11 (1 ∷ 0x80001001 ∷ 6 ∷ 0 ∷ 0 ∷ []) (33 ∷ 0xfffffffffffffeff ∷ 34 ∷ 0xffffffffffffffff ∷ 54 ∷ 3 ∷ 55 ∷ 0x10000003 ∷ 56 ∷ 1 ∷ []) 0x106 ([]) (54 ∷ 0 ∷ [])

abbrev row_1149 : Bool
row_1149 = calls answered 11 (1 ∷ 0x80001001 ∷ 1 ∷ 0 ∷ 0 ∷ []) (33 ∷ 0 ∷ 34 ∷ 0x80 ∷ 54 ∷ 3 ∷ 55 ∷ 0x10000003 ∷ 56 ∷ 2 ∷ []) 0x0 ([]) (32 ∷ 0x2a1907f6e5d4c388 ∷ 33 ∷ 0x100 ∷ 35 ∷ 0x28f5c28f5c28f49c ∷ 37 ∷ 0x258bf258bf258bcf ∷ 38 ∷ 0xc ∷ 39 ∷ 0x80001001 ∷ 54 ∷ 0 ∷ [])

abbrev row_1150 : Bool
row_1150 = calls answered 11 (1 ∷ 0x80001001 ∷ 1 ∷ 0 ∷ 0 ∷ []) (33 ∷ 0 ∷ 34 ∷ 0x180 ∷ 54 ∷ 3 ∷ 55 ∷ 0x10000003 ∷ 56 ∷ 2 ∷ []) 0x0 ([]) (32 ∷ 0x2a1907f6e5d4c388 ∷ 33 ∷ 0x100 ∷ 37 ∷ 0x258bf258bf258bcf ∷ 38 ∷ 0xc ∷ 39 ∷ 0x80001001 ∷ 54 ∷ 0 ∷ [])

abbrev row_1151 : Bool
row_1151 = calls answered 11 (1 ∷ 0x80001001 ∷ 1 ∷ 0 ∷ 0 ∷ []) (33 ∷ 0x100 ∷ 34 ∷ 0x180 ∷ 54 ∷ 3 ∷ 55 ∷ 0x10000003 ∷ 56 ∷ 2 ∷ []) 0x0 ([]) (32 ∷ 0x2a1907f6e5d4c388 ∷ 37 ∷ 0x258bf258bf258bcf ∷ 38 ∷ 0xc ∷ 39 ∷ 0x80001001 ∷ 54 ∷ 0 ∷ [])

abbrev row_1152 : Bool
row_1152 = calls answered 11 (1 ∷ 0x80001001 ∷ 1 ∷ 0 ∷ 0 ∷ []) (33 ∷ 0xfffffffffffffeff ∷ 34 ∷ 0xfffffffffffffeff ∷ 54 ∷ 3 ∷ 55 ∷ 0x10000003 ∷ 56 ∷ 2 ∷ []) 0x0 ([]) (32 ∷ 0x2a1907f6e5d4c388 ∷ 33 ∷ 0xffffffffffffffff ∷ 35 ∷ 0x28f5c28f5c28f49c ∷ 37 ∷ 0x258bf258bf258bcf ∷ 38 ∷ 0xc ∷ 39 ∷ 0x80001001 ∷ 54 ∷ 0 ∷ [])

abbrev row_1153 : Bool
row_1153 = calls answered 11 (1 ∷ 0x80001001 ∷ 1 ∷ 0 ∷ 0 ∷ []) (33 ∷ 0xfffffffffffffeff ∷ 34 ∷ 0xffffffffffffffff ∷ 54 ∷ 3 ∷ 55 ∷ 0x10000003 ∷ 56 ∷ 2 ∷ []) 0x0 ([]) (32 ∷ 0x2a1907f6e5d4c388 ∷ 33 ∷ 0xffffffffffffffff ∷ 37 ∷ 0x258bf258bf258bcf ∷ 38 ∷ 0xc ∷ 39 ∷ 0x80001001 ∷ 54 ∷ 0 ∷ [])

abbrev row_1154 : Bool
row_1154 = calls answered 11 (1 ∷ 0x80001001 ∷ 1 ∷ 0 ∷ 0 ∷ []) (33 ∷ 0xffffffffffffffff ∷ 34 ∷ 0xfffffffffffffeff ∷ 54 ∷ 3 ∷ 55 ∷ 0x10000003 ∷ 56 ∷ 2 ∷ []) 0x0 ([]) (32 ∷ 0x2a1907f6e5d4c388 ∷ 35 ∷ 0x28f5c28f5c28f49c ∷ 37 ∷ 0x258bf258bf258bcf ∷ 38 ∷ 0xc ∷ 39 ∷ 0x80001001 ∷ 54 ∷ 0 ∷ [])

abbrev row_1155 : Bool
row_1155 = calls answered 11 (1 ∷ 0x80001001 ∷ 2 ∷ 0 ∷ 0 ∷ []) (33 ∷ 0 ∷ 34 ∷ 0x80 ∷ 54 ∷ 3 ∷ 55 ∷ 0x10000003 ∷ 56 ∷ 2 ∷ []) 0x0 ([]) (32 ∷ 0x2a1907f6e5d4c388 ∷ 33 ∷ 0x100 ∷ 35 ∷ 0x28f5c28f5c28f49c ∷ 37 ∷ 0x258bf258bf258bcf ∷ 38 ∷ 1 ∷ 39 ∷ 0x80001001 ∷ 54 ∷ 0 ∷ [])

abbrev row_1156 : Bool
row_1156 = calls answered 11 (1 ∷ 0x80001001 ∷ 2 ∷ 0 ∷ 0 ∷ []) (33 ∷ 0 ∷ 34 ∷ 0x180 ∷ 54 ∷ 3 ∷ 55 ∷ 0x10000003 ∷ 56 ∷ 2 ∷ []) 0x0 ([]) (32 ∷ 0x2a1907f6e5d4c388 ∷ 33 ∷ 0x100 ∷ 37 ∷ 0x258bf258bf258bcf ∷ 38 ∷ 1 ∷ 39 ∷ 0x80001001 ∷ 54 ∷ 0 ∷ [])

abbrev row_1157 : Bool
row_1157 = calls answered 11 (1 ∷ 0x80001001 ∷ 2 ∷ 0 ∷ 0 ∷ []) (33 ∷ 0x100 ∷ 34 ∷ 0x180 ∷ 54 ∷ 3 ∷ 55 ∷ 0x10000003 ∷ 56 ∷ 2 ∷ []) 0x0 ([]) (32 ∷ 0x2a1907f6e5d4c388 ∷ 37 ∷ 0x258bf258bf258bcf ∷ 38 ∷ 1 ∷ 39 ∷ 0x80001001 ∷ 54 ∷ 0 ∷ [])

abbrev row_1158 : Bool
row_1158 = calls answered 11 (1 ∷ 0x80001001 ∷ 2 ∷ 0 ∷ 0 ∷ []) (33 ∷ 0xfffffffffffffeff ∷ 34 ∷ 0xfffffffffffffeff ∷ 54 ∷ 3 ∷ 55 ∷ 0x10000003 ∷ 56 ∷ 2 ∷ []) 0x0 ([]) (32 ∷ 0x2a1907f6e5d4c388 ∷ 33 ∷ 0xffffffffffffffff ∷ 35 ∷ 0x28f5c28f5c28f49c ∷ 37 ∷ 0x258bf258bf258bcf ∷ 38 ∷ 1 ∷ 39 ∷ 0x80001001 ∷ 54 ∷ 0 ∷ [])

abbrev row_1159 : Bool
row_1159 = calls answered 11 (1 ∷ 0x80001001 ∷ 2 ∷ 0 ∷ 0 ∷ []) (33 ∷ 0xfffffffffffffeff ∷ 34 ∷ 0xffffffffffffffff ∷ 54 ∷ 3 ∷ 55 ∷ 0x10000003 ∷ 56 ∷ 2 ∷ []) 0x0 ([]) (32 ∷ 0x2a1907f6e5d4c388 ∷ 33 ∷ 0xffffffffffffffff ∷ 37 ∷ 0x258bf258bf258bcf ∷ 38 ∷ 1 ∷ 39 ∷ 0x80001001 ∷ 54 ∷ 0 ∷ [])

abbrev row_1160 : Bool
row_1160 = calls answered 11 (1 ∷ 0x80001001 ∷ 2 ∷ 0 ∷ 0 ∷ []) (33 ∷ 0xffffffffffffffff ∷ 34 ∷ 0xfffffffffffffeff ∷ 54 ∷ 3 ∷ 55 ∷ 0x10000003 ∷ 56 ∷ 2 ∷ []) 0x0 ([]) (32 ∷ 0x2a1907f6e5d4c388 ∷ 35 ∷ 0x28f5c28f5c28f49c ∷ 37 ∷ 0x258bf258bf258bcf ∷ 38 ∷ 1 ∷ 39 ∷ 0x80001001 ∷ 54 ∷ 0 ∷ [])

abbrev row_1161 : Bool
row_1161 = calls answered 11 (1 ∷ 0x80001001 ∷ 3 ∷ 0 ∷ 0 ∷ []) (33 ∷ 0 ∷ 34 ∷ 0x80 ∷ 54 ∷ 3 ∷ 55 ∷ 0x10000003 ∷ 56 ∷ 2 ∷ []) 0x0 ([]) (32 ∷ 0x2a1907f6e5d4c388 ∷ 33 ∷ 0x100 ∷ 35 ∷ 0x28f5c28f5c28f49c ∷ 37 ∷ 0x258bf258bf258bcf ∷ 38 ∷ 0 ∷ 39 ∷ 0x80001001 ∷ 54 ∷ 0 ∷ [])

abbrev row_1162 : Bool
row_1162 = calls answered 11 (1 ∷ 0x80001001 ∷ 3 ∷ 0 ∷ 0 ∷ []) (33 ∷ 0 ∷ 34 ∷ 0x180 ∷ 54 ∷ 3 ∷ 55 ∷ 0x10000003 ∷ 56 ∷ 2 ∷ []) 0x0 ([]) (32 ∷ 0x2a1907f6e5d4c388 ∷ 33 ∷ 0x100 ∷ 37 ∷ 0x258bf258bf258bcf ∷ 38 ∷ 0 ∷ 39 ∷ 0x80001001 ∷ 54 ∷ 0 ∷ [])

abbrev row_1163 : Bool
row_1163 = calls answered 11 (1 ∷ 0x80001001 ∷ 3 ∷ 0 ∷ 0 ∷ []) (33 ∷ 0x100 ∷ 34 ∷ 0x180 ∷ 54 ∷ 3 ∷ 55 ∷ 0x10000003 ∷ 56 ∷ 2 ∷ []) 0x0 ([]) (32 ∷ 0x2a1907f6e5d4c388 ∷ 37 ∷ 0x258bf258bf258bcf ∷ 38 ∷ 0 ∷ 39 ∷ 0x80001001 ∷ 54 ∷ 0 ∷ [])

abbrev row_1164 : Bool
row_1164 = calls answered 11 (1 ∷ 0x80001001 ∷ 3 ∷ 0 ∷ 0 ∷ []) (33 ∷ 0xfffffffffffffeff ∷ 34 ∷ 0xfffffffffffffeff ∷ 54 ∷ 3 ∷ 55 ∷ 0x10000003 ∷ 56 ∷ 2 ∷ []) 0x0 ([]) (32 ∷ 0x2a1907f6e5d4c388 ∷ 33 ∷ 0xffffffffffffffff ∷ 35 ∷ 0x28f5c28f5c28f49c ∷ 37 ∷ 0x258bf258bf258bcf ∷ 38 ∷ 0 ∷ 39 ∷ 0x80001001 ∷ 54 ∷ 0 ∷ [])

abbrev row_1165 : Bool
row_1165 = calls answered 11 (1 ∷ 0x80001001 ∷ 3 ∷ 0 ∷ 0 ∷ []) (33 ∷ 0xfffffffffffffeff ∷ 34 ∷ 0xffffffffffffffff ∷ 54 ∷ 3 ∷ 55 ∷ 0x10000003 ∷ 56 ∷ 2 ∷ []) 0x0 ([]) (32 ∷ 0x2a1907f6e5d4c388 ∷ 33 ∷ 0xffffffffffffffff ∷ 37 ∷ 0x258bf258bf258bcf ∷ 38 ∷ 0 ∷ 39 ∷ 0x80001001 ∷ 54 ∷ 0 ∷ [])

abbrev row_1166 : Bool
row_1166 = calls answered 11 (1 ∷ 0x80001001 ∷ 3 ∷ 0 ∷ 0 ∷ []) (33 ∷ 0xffffffffffffffff ∷ 34 ∷ 0xfffffffffffffeff ∷ 54 ∷ 3 ∷ 55 ∷ 0x10000003 ∷ 56 ∷ 2 ∷ []) 0x0 ([]) (32 ∷ 0x2a1907f6e5d4c388 ∷ 35 ∷ 0x28f5c28f5c28f49c ∷ 37 ∷ 0x258bf258bf258bcf ∷ 38 ∷ 0 ∷ 39 ∷ 0x80001001 ∷ 54 ∷ 0 ∷ [])

abbrev row_1167 : Bool
row_1167 = calls answered 11 (1 ∷ 0x80001001 ∷ 0 ∷ 0 ∷ 0 ∷ []) (33 ∷ 0 ∷ 34 ∷ 0x80 ∷ 54 ∷ 3 ∷ 55 ∷ 0x10000003 ∷ 56 ∷ 2 ∷ []) 0x8 (0 ∷ 0x10000003 ∷ 1 ∷ 2 ∷ []) (54 ∷ 0 ∷ [])

abbrev row_1168 : Bool
row_1168 = calls answered 11 (1 ∷ 0x80001001 ∷ 0 ∷ 0 ∷ 0 ∷ []) (33 ∷ 0xfffffffffffffeff ∷ 34 ∷ 0xffffffffffffffff ∷ 54 ∷ 3 ∷ 55 ∷ 0x10000003 ∷ 56 ∷ 2 ∷ []) 0x8 (0 ∷ 0x10000003 ∷ 1 ∷ 2 ∷ []) (54 ∷ 0 ∷ [])

abbrev row_1169 : Bool
row_1169 = calls answered 11 (1 ∷ 0x80001001 ∷ 4 ∷ 0 ∷ 0 ∷ []) (33 ∷ 0 ∷ 34 ∷ 0x80 ∷ 54 ∷ 3 ∷ 55 ∷ 0x10000003 ∷ 56 ∷ 2 ∷ []) 0x8 (0 ∷ 0x80001001 ∷ 1 ∷ 4 ∷ []) (54 ∷ 0 ∷ [])

abbrev row_1170 : Bool
row_1170 = calls answered 11 (1 ∷ 0x80001001 ∷ 4 ∷ 0 ∷ 0 ∷ []) (33 ∷ 0xfffffffffffffeff ∷ 34 ∷ 0xffffffffffffffff ∷ 54 ∷ 3 ∷ 55 ∷ 0x10000003 ∷ 56 ∷ 2 ∷ []) 0x8 (0 ∷ 0x80001001 ∷ 1 ∷ 4 ∷ []) (54 ∷ 0 ∷ [])

abbrev row_1171 : Bool
row_1171 = calls answered 11 (1 ∷ 0x80001001 ∷ 5 ∷ 0 ∷ 0 ∷ []) (33 ∷ 0 ∷ 34 ∷ 0x80 ∷ 54 ∷ 3 ∷ 55 ∷ 0x10000003 ∷ 56 ∷ 2 ∷ []) 0x106 ([]) (54 ∷ 0 ∷ [])

abbrev row_1172 : Bool
row_1172 = calls answered 11 (1 ∷ 0x80001001 ∷ 5 ∷ 0 ∷ 0 ∷ []) (33 ∷ 0xfffffffffffffeff ∷ 34 ∷ 0xffffffffffffffff ∷ 54 ∷ 3 ∷ 55 ∷ 0x10000003 ∷ 56 ∷ 2 ∷ []) 0x106 ([]) (54 ∷ 0 ∷ [])

abbrev row_1173 : Bool
row_1173 = calls answered 11 (1 ∷ 0x80001001 ∷ 6 ∷ 0 ∷ 0 ∷ []) (33 ∷ 0 ∷ 34 ∷ 0x80 ∷ 54 ∷ 3 ∷ 55 ∷ 0x10000003 ∷ 56 ∷ 2 ∷ []) 0x106 ([]) (54 ∷ 0 ∷ [])

abbrev row_1174 : Bool
row_1174 = calls answered 11 (1 ∷ 0x80001001 ∷ 6 ∷ 0 ∷ 0 ∷ []) (33 ∷ 0xfffffffffffffeff ∷ 34 ∷ 0xffffffffffffffff ∷ 54 ∷ 3 ∷ 55 ∷ 0x10000003 ∷ 56 ∷ 2 ∷ []) 0x106 ([]) (54 ∷ 0 ∷ [])

abbrev row_1175 : Bool
row_1175 = calls started 10 (0x16 ∷ 0 ∷ 0x4000000 ∷ 0 ∷ 4 ∷ []) (33 ∷ 0 ∷ 34 ∷ 0x80 ∷ []) 0x21 (0 ∷ 0x258bf258bf258bcf ∷ []) (54 ∷ 2 ∷ [])

abbrev row_1176 : Bool
row_1176 = calls started 10 (0x15 ∷ 7 ∷ 0x4000000 ∷ 0 ∷ 4 ∷ []) (33 ∷ 0 ∷ 34 ∷ 0x80 ∷ []) 0x21 (0 ∷ 0x258bf258bf258bcf ∷ []) (54 ∷ 3 ∷ 55 ∷ 0x10000003 ∷ 56 ∷ 1 ∷ [])

abbrev row_1177 : Bool
row_1177 = calls started 10 (0x17 ∷ 6 ∷ 0x4000000 ∷ 0 ∷ 4 ∷ []) (33 ∷ 0 ∷ 34 ∷ 0x80 ∷ []) 0x21 (0 ∷ 0x258bf258bf258bcf ∷ []) (54 ∷ 3 ∷ 55 ∷ 0x10000002 ∷ 56 ∷ 2 ∷ [])

rows_1177 : T (both row_0 (both row_1 (both row_2 (both row_3 (both row_4 (both row_5 (both row_6 (both row_7 (both row_8 (both row_9 (both row_10 (both row_11 (both row_12 (both row_13 (both row_14 (both row_15 (both row_16 (both row_17 (both row_18 (both row_19 (both row_20 (both row_21 (both row_22 (both row_23 (both row_24 (both row_25 (both row_26 (both row_27 (both row_28 (both row_29 (both row_30 (both row_31 (both row_32 (both row_33 (both row_34 (both row_35 (both row_36 (both row_37 (both row_38 (both row_39 (both row_40 (both row_41 (both row_42 (both row_43 (both row_44 (both row_45 (both row_46 (both row_47 (both row_48 (both row_49 (both row_50 (both row_51 (both row_52 (both row_53 (both row_54 (both row_55 (both row_56 (both row_57 (both row_58 (both row_59 (both row_60 (both row_61 (both row_62 (both row_63 (both row_64 (both row_65 (both row_66 (both row_67 (both row_68 (both row_69 (both row_70 (both row_71 (both row_72 (both row_73 (both row_74 (both row_75 (both row_76 (both row_77 (both row_78 (both row_79 (both row_80 (both row_81 (both row_82 (both row_83 (both row_84 (both row_85 (both row_86 (both row_87 (both row_88 (both row_89 (both row_90 (both row_91 (both row_92 (both row_93 (both row_94 (both row_95 (both row_96 (both row_97 (both row_98 (both row_99 (both row_100 (both row_101 (both row_102 (both row_103 (both row_104 (both row_105 (both row_106 (both row_107 (both row_108 (both row_109 (both row_110 (both row_111 (both row_112 (both row_113 (both row_114 (both row_115 (both row_116 (both row_117 (both row_118 (both row_119 (both row_120 (both row_121 (both row_122 (both row_123 (both row_124 (both row_125 (both row_126 (both row_127 (both row_128 (both row_129 (both row_130 (both row_131 (both row_132 (both row_133 (both row_134 (both row_135 (both row_136 (both row_137 (both row_138 (both row_139 (both row_140 (both row_141 (both row_142 (both row_143 (both row_144 (both row_145 (both row_146 (both row_147 (both row_148 (both row_149 (both row_150 (both row_151 (both row_152 (both row_153 (both row_154 (both row_155 (both row_156 (both row_157 (both row_158 (both row_159 (both row_160 (both row_161 (both row_162 (both row_163 (both row_164 (both row_165 (both row_166 (both row_167 (both row_168 (both row_169 (both row_170 (both row_171 (both row_172 (both row_173 (both row_174 (both row_175 (both row_176 (both row_177 (both row_178 (both row_179 (both row_180 (both row_181 (both row_182 (both row_183 (both row_184 (both row_185 (both row_186 (both row_187 (both row_188 (both row_189 (both row_190 (both row_191 (both row_192 (both row_193 (both row_194 (both row_195 (both row_196 (both row_197 (both row_198 (both row_199 (both row_200 (both row_201 (both row_202 (both row_203 (both row_204 (both row_205 (both row_206 (both row_207 (both row_208 (both row_209 (both row_210 (both row_211 (both row_212 (both row_213 (both row_214 (both row_215 (both row_216 (both row_217 (both row_218 (both row_219 (both row_220 (both row_221 (both row_222 (both row_223 (both row_224 (both row_225 (both row_226 (both row_227 (both row_228 (both row_229 (both row_230 (both row_231 (both row_232 (both row_233 (both row_234 (both row_235 (both row_236 (both row_237 (both row_238 (both row_239 (both row_240 (both row_241 (both row_242 (both row_243 (both row_244 (both row_245 (both row_246 (both row_247 (both row_248 (both row_249 (both row_250 (both row_251 (both row_252 (both row_253 (both row_254 (both row_255 (both row_256 (both row_257 (both row_258 (both row_259 (both row_260 (both row_261 (both row_262 (both row_263 (both row_264 (both row_265 (both row_266 (both row_267 (both row_268 (both row_269 (both row_270 (both row_271 (both row_272 (both row_273 (both row_274 (both row_275 (both row_276 (both row_277 (both row_278 (both row_279 (both row_280 (both row_281 (both row_282 (both row_283 (both row_284 (both row_285 (both row_286 (both row_287 (both row_288 (both row_289 (both row_290 (both row_291 (both row_292 (both row_293 (both row_294 (both row_295 (both row_296 (both row_297 (both row_298 (both row_299 (both row_300 (both row_301 (both row_302 (both row_303 (both row_304 (both row_305 (both row_306 (both row_307 (both row_308 (both row_309 (both row_310 (both row_311 (both row_312 (both row_313 (both row_314 (both row_315 (both row_316 (both row_317 (both row_318 (both row_319 (both row_320 (both row_321 (both row_322 (both row_323 (both row_324 (both row_325 (both row_326 (both row_327 (both row_328 (both row_329 (both row_330 (both row_331 (both row_332 (both row_333 (both row_334 (both row_335 (both row_336 (both row_337 (both row_338 (both row_339 (both row_340 (both row_341 (both row_342 (both row_343 (both row_344 (both row_345 (both row_346 (both row_347 (both row_348 (both row_349 (both row_350 (both row_351 (both row_352 (both row_353 (both row_354 (both row_355 (both row_356 (both row_357 (both row_358 (both row_359 (both row_360 (both row_361 (both row_362 (both row_363 (both row_364 (both row_365 (both row_366 (both row_367 (both row_368 (both row_369 (both row_370 (both row_371 (both row_372 (both row_373 (both row_374 (both row_375 (both row_376 (both row_377 (both row_378 (both row_379 (both row_380 (both row_381 (both row_382 (both row_383 (both row_384 (both row_385 (both row_386 (both row_387 (both row_388 (both row_389 (both row_390 (both row_391 (both row_392 (both row_393 (both row_394 (both row_395 (both row_396 (both row_397 (both row_398 (both row_399 (both row_400 (both row_401 (both row_402 (both row_403 (both row_404 (both row_405 (both row_406 (both row_407 (both row_408 (both row_409 (both row_410 (both row_411 (both row_412 (both row_413 (both row_414 (both row_415 (both row_416 (both row_417 (both row_418 (both row_419 (both row_420 (both row_421 (both row_422 (both row_423 (both row_424 (both row_425 (both row_426 (both row_427 (both row_428 (both row_429 (both row_430 (both row_431 (both row_432 (both row_433 (both row_434 (both row_435 (both row_436 (both row_437 (both row_438 (both row_439 (both row_440 (both row_441 (both row_442 (both row_443 (both row_444 (both row_445 (both row_446 (both row_447 (both row_448 (both row_449 (both row_450 (both row_451 (both row_452 (both row_453 (both row_454 (both row_455 (both row_456 (both row_457 (both row_458 (both row_459 (both row_460 (both row_461 (both row_462 (both row_463 (both row_464 (both row_465 (both row_466 (both row_467 (both row_468 (both row_469 (both row_470 (both row_471 (both row_472 (both row_473 (both row_474 (both row_475 (both row_476 (both row_477 (both row_478 (both row_479 (both row_480 (both row_481 (both row_482 (both row_483 (both row_484 (both row_485 (both row_486 (both row_487 (both row_488 (both row_489 (both row_490 (both row_491 (both row_492 (both row_493 (both row_494 (both row_495 (both row_496 (both row_497 (both row_498 (both row_499 (both row_500 (both row_501 (both row_502 (both row_503 (both row_504 (both row_505 (both row_506 (both row_507 (both row_508 (both row_509 (both row_510 (both row_511 (both row_512 (both row_513 (both row_514 (both row_515 (both row_516 (both row_517 (both row_518 (both row_519 (both row_520 (both row_521 (both row_522 (both row_523 (both row_524 (both row_525 (both row_526 (both row_527 (both row_528 (both row_529 (both row_530 (both row_531 (both row_532 (both row_533 (both row_534 (both row_535 (both row_536 (both row_537 (both row_538 (both row_539 (both row_540 (both row_541 (both row_542 (both row_543 (both row_544 (both row_545 (both row_546 (both row_547 (both row_548 (both row_549 (both row_550 (both row_551 (both row_552 (both row_553 (both row_554 (both row_555 (both row_556 (both row_557 (both row_558 (both row_559 (both row_560 (both row_561 (both row_562 (both row_563 (both row_564 (both row_565 (both row_566 (both row_567 (both row_568 (both row_569 (both row_570 (both row_571 (both row_572 (both row_573 (both row_574 (both row_575 (both row_576 (both row_577 (both row_578 (both row_579 (both row_580 (both row_581 (both row_582 (both row_583 (both row_584 (both row_585 (both row_586 (both row_587 (both row_588 (both row_589 (both row_590 (both row_591 (both row_592 (both row_593 (both row_594 (both row_595 (both row_596 (both row_597 (both row_598 (both row_599 (both row_600 (both row_601 (both row_602 (both row_603 (both row_604 (both row_605 (both row_606 (both row_607 (both row_608 (both row_609 (both row_610 (both row_611 (both row_612 (both row_613 (both row_614 (both row_615 (both row_616 (both row_617 (both row_618 (both row_619 (both row_620 (both row_621 (both row_622 (both row_623 (both row_624 (both row_625 (both row_626 (both row_627 (both row_628 (both row_629 (both row_630 (both row_631 (both row_632 (both row_633 (both row_634 (both row_635 (both row_636 (both row_637 (both row_638 (both row_639 (both row_640 (both row_641 (both row_642 (both row_643 (both row_644 (both row_645 (both row_646 (both row_647 (both row_648 (both row_649 (both row_650 (both row_651 (both row_652 (both row_653 (both row_654 (both row_655 (both row_656 (both row_657 (both row_658 (both row_659 (both row_660 (both row_661 (both row_662 (both row_663 (both row_664 (both row_665 (both row_666 (both row_667 (both row_668 (both row_669 (both row_670 (both row_671 (both row_672 (both row_673 (both row_674 (both row_675 (both row_676 (both row_677 (both row_678 (both row_679 (both row_680 (both row_681 (both row_682 (both row_683 (both row_684 (both row_685 (both row_686 (both row_687 (both row_688 (both row_689 (both row_690 (both row_691 (both row_692 (both row_693 (both row_694 (both row_695 (both row_696 (both row_697 (both row_698 (both row_699 (both row_700 (both row_701 (both row_702 (both row_703 (both row_704 (both row_705 (both row_706 (both row_707 (both row_708 (both row_709 (both row_710 (both row_711 (both row_712 (both row_713 (both row_714 (both row_715 (both row_716 (both row_717 (both row_718 (both row_719 (both row_720 (both row_721 (both row_722 (both row_723 (both row_724 (both row_725 (both row_726 (both row_727 (both row_728 (both row_729 (both row_730 (both row_731 (both row_732 (both row_733 (both row_734 (both row_735 (both row_736 (both row_737 (both row_738 (both row_739 (both row_740 (both row_741 (both row_742 (both row_743 (both row_744 (both row_745 (both row_746 (both row_747 (both row_748 (both row_749 (both row_750 (both row_751 (both row_752 (both row_753 (both row_754 (both row_755 (both row_756 (both row_757 (both row_758 (both row_759 (both row_760 (both row_761 (both row_762 (both row_763 (both row_764 (both row_765 (both row_766 (both row_767 (both row_768 (both row_769 (both row_770 (both row_771 (both row_772 (both row_773 (both row_774 (both row_775 (both row_776 (both row_777 (both row_778 (both row_779 (both row_780 (both row_781 (both row_782 (both row_783 (both row_784 (both row_785 (both row_786 (both row_787 (both row_788 (both row_789 (both row_790 (both row_791 (both row_792 (both row_793 (both row_794 (both row_795 (both row_796 (both row_797 (both row_798 (both row_799 (both row_800 (both row_801 (both row_802 (both row_803 (both row_804 (both row_805 (both row_806 (both row_807 (both row_808 (both row_809 (both row_810 (both row_811 (both row_812 (both row_813 (both row_814 (both row_815 (both row_816 (both row_817 (both row_818 (both row_819 (both row_820 (both row_821 (both row_822 (both row_823 (both row_824 (both row_825 (both row_826 (both row_827 (both row_828 (both row_829 (both row_830 (both row_831 (both row_832 (both row_833 (both row_834 (both row_835 (both row_836 (both row_837 (both row_838 (both row_839 (both row_840 (both row_841 (both row_842 (both row_843 (both row_844 (both row_845 (both row_846 (both row_847 (both row_848 (both row_849 (both row_850 (both row_851 (both row_852 (both row_853 (both row_854 (both row_855 (both row_856 (both row_857 (both row_858 (both row_859 (both row_860 (both row_861 (both row_862 (both row_863 (both row_864 (both row_865 (both row_866 (both row_867 (both row_868 (both row_869 (both row_870 (both row_871 (both row_872 (both row_873 (both row_874 (both row_875 (both row_876 (both row_877 (both row_878 (both row_879 (both row_880 (both row_881 (both row_882 (both row_883 (both row_884 (both row_885 (both row_886 (both row_887 (both row_888 (both row_889 (both row_890 (both row_891 (both row_892 (both row_893 (both row_894 (both row_895 (both row_896 (both row_897 (both row_898 (both row_899 (both row_900 (both row_901 (both row_902 (both row_903 (both row_904 (both row_905 (both row_906 (both row_907 (both row_908 (both row_909 (both row_910 (both row_911 (both row_912 (both row_913 (both row_914 (both row_915 (both row_916 (both row_917 (both row_918 (both row_919 (both row_920 (both row_921 (both row_922 (both row_923 (both row_924 (both row_925 (both row_926 (both row_927 (both row_928 (both row_929 (both row_930 (both row_931 (both row_932 (both row_933 (both row_934 (both row_935 (both row_936 (both row_937 (both row_938 (both row_939 (both row_940 (both row_941 (both row_942 (both row_943 (both row_944 (both row_945 (both row_946 (both row_947 (both row_948 (both row_949 (both row_950 (both row_951 (both row_952 (both row_953 (both row_954 (both row_955 (both row_956 (both row_957 (both row_958 (both row_959 (both row_960 (both row_961 (both row_962 (both row_963 (both row_964 (both row_965 (both row_966 (both row_967 (both row_968 (both row_969 (both row_970 (both row_971 (both row_972 (both row_973 (both row_974 (both row_975 (both row_976 (both row_977 (both row_978 (both row_979 (both row_980 (both row_981 (both row_982 (both row_983 (both row_984 (both row_985 (both row_986 (both row_987 (both row_988 (both row_989 (both row_990 (both row_991 (both row_992 (both row_993 (both row_994 (both row_995 (both row_996 (both row_997 (both row_998 (both row_999 (both row_1000 (both row_1001 (both row_1002 (both row_1003 (both row_1004 (both row_1005 (both row_1006 (both row_1007 (both row_1008 (both row_1009 (both row_1010 (both row_1011 (both row_1012 (both row_1013 (both row_1014 (both row_1015 (both row_1016 (both row_1017 (both row_1018 (both row_1019 (both row_1020 (both row_1021 (both row_1022 (both row_1023 (both row_1024 (both row_1025 (both row_1026 (both row_1027 (both row_1028 (both row_1029 (both row_1030 (both row_1031 (both row_1032 (both row_1033 (both row_1034 (both row_1035 (both row_1036 (both row_1037 (both row_1038 (both row_1039 (both row_1040 (both row_1041 (both row_1042 (both row_1043 (both row_1044 (both row_1045 (both row_1046 (both row_1047 (both row_1048 (both row_1049 (both row_1050 (both row_1051 (both row_1052 (both row_1053 (both row_1054 (both row_1055 (both row_1056 (both row_1057 (both row_1058 (both row_1059 (both row_1060 (both row_1061 (both row_1062 (both row_1063 (both row_1064 (both row_1065 (both row_1066 (both row_1067 (both row_1068 (both row_1069 (both row_1070 (both row_1071 (both row_1072 (both row_1073 (both row_1074 (both row_1075 (both row_1076 (both row_1077 (both row_1078 (both row_1079 (both row_1080 (both row_1081 (both row_1082 (both row_1083 (both row_1084 (both row_1085 (both row_1086 (both row_1087 (both row_1088 (both row_1089 (both row_1090 (both row_1091 (both row_1092 (both row_1093 (both row_1094 (both row_1095 (both row_1096 (both row_1097 (both row_1098 (both row_1099 (both row_1100 (both row_1101 (both row_1102 (both row_1103 (both row_1104 (both row_1105 (both row_1106 (both row_1107 (both row_1108 (both row_1109 (both row_1110 (both row_1111 (both row_1112 (both row_1113 (both row_1114 (both row_1115 (both row_1116 (both row_1117 (both row_1118 (both row_1119 (both row_1120 (both row_1121 (both row_1122 (both row_1123 (both row_1124 (both row_1125 (both row_1126 (both row_1127 (both row_1128 (both row_1129 (both row_1130 (both row_1131 (both row_1132 (both row_1133 (both row_1134 (both row_1135 (both row_1136 (both row_1137 (both row_1138 (both row_1139 (both row_1140 (both row_1141 (both row_1142 (both row_1143 (both row_1144 (both row_1145 (both row_1146 (both row_1147 (both row_1148 (both row_1149 (both row_1150 (both row_1151 (both row_1152 (both row_1153 (both row_1154 (both row_1155 (both row_1156 (both row_1157 (both row_1158 (both row_1159 (both row_1160 (both row_1161 (both row_1162 (both row_1163 (both row_1164 (both row_1165 (both row_1166 (both row_1167 (both row_1168 (both row_1169 (both row_1170 (both row_1171 (both row_1172 (both row_1173 (both row_1174 (both row_1175 (both row_1176 (both row_1177 (true)))))))))))))))))))))))))))))))))))))))))))))))))))))))))))))))))))))))))))))))))))))))))))))))))))))))))))))))))))))))))))))))))))))))))))))))))))))))))))))))))))))))))))))))))))))))))))))))))))))))))))))))))))))))))))))))))))))))))))))))))))))))))))))))))))))))))))))))))))))))))))))))))))))))))))))))))))))))))))))))))))))))))))))))))))))))))))))))))))))))))))))))))))))))))))))))))))))))))))))))))))))))))))))))))))))))))))))))))))))))))))))))))))))))))))))))))))))))))))))))))))))))))))))))))))))))))))))))))))))))))))))))))))))))))))))))))))))))))))))))))))))))))))))))))))))))))))))))))))))))))))))))))))))))))))))))))))))))))))))))))))))))))))))))))))))))))))))))))))))))))))))))))))))))))))))))))))))))))))))))))))))))))))))))))))))))))))))))))))))))))))))))))))))))))))))))))))))))))))))))))))))))))))))))))))))))))))))))))))))))))))))))))))))))))))))))))))))))))))))))))))))))))))))))))))))))))))))))))))))))))))))))))))))))))))))))))))))))))))))))))))))))))))))))))))))))))))))))))))))))))))))))))))))))))))))))))))))))))))))))))))))))))))))))))))))))))))))))))))))))))))))))))))))))))))))))))))))))))))))))))))))))))))))))))))))))))))))))))))))))))))))))))))))))))))
unfolding theIsaConstsTraps.supervisor_external theIsaConstsTraps.known_interrupt theIsaConstsTraps.known_exception theIsaConstsTraps.known_cause theIsaDecoderDecode.load_of theIsaDecoderDecode.store_of theIsaDecoderDecode.decode_by theIsaDecoderDecode.decode_of theIsaDecoderCompressed.quadrant0_of theIsaDecoderCompressed.sp_load_of theIsaDecoderCompressed.quadrant2_of theIsaDecoderCompressed.compressed_by theIsaDecoderCompressed.compressed_of theIsaDecoderLength.transformed_of theIsaDecoderLength.htinst_of theIsaDecoderLength.fetched_of theIsaDecoderLength.op_source theIsaDecoderLength.store_source theIsaExtensionExtend.width_bits theIsaExtensionExtend.signed_by theIsaExtensionExtend.extend_by theIsaExtensionExtend.cut_of theIsaExtensionExtend.extend_of theIsaFieldsCompressed.quadrant_field theIsaFieldsCompressed.c_funct3_field theIsaFieldsCompressed.prime_field theIsaFieldsCompressed.c_rs2_field theIsaFieldsFields.opcode_field theIsaFieldsFields.rd_field theIsaFieldsFields.funct3_field theIsaFieldsFields.rs1_field theIsaFieldsFields.rs2_field theIsaFieldsFields.csr_field theIsaRegistersBits.spvp_of theIsaRegistersBits.sie_of theIsaRegistersBits.with_bits theIsaRegistersValues.hgatp_of theIsaRegistersValues.guest_page_fault_addr theIsaRegistersValues.delegated_exceptions theIsaRegistersValues.delegated_interrupts theScopeOneTrap.width_bytes theScopeOneTrap.access_number theScopeOneTrap.exit_number theScopeOneTrap.ask_number theScopeOneTrap.answer_number theScopeOneTrap.fetch_number theScopeOneTrap.abi_number theScopeOneTrap.flag_of theScopeOneTrap.exit_values theScopeOneTrap.ask_values theScopeOneTrap.fetch_value theScopeOneTrap.answer_values theScopeOneTrap.fetch_of theScopeOneTrap.answer_for theScopeAnswers.word_effect theScopeAnswers.fetch_effect theScopeAnswers.numbers_effect theScopeAnswers.values_effect theScopeAnswers.fitting_effect theScopeAnswers.answer_effect theScopeRefusals.error_number theScopeRefusals.refusal theScopeRefusals.refuses theScopeRefusals.finished_of theScopeRefusals.asking_of theScopeRefusals.failed_of theScopeRefusals.leaves_of theScopeRefusals.refused_of theScopeRefusals.done_of theScopeRefusals.unless_asking theScopeRecord.value_of theScopeRecord.stored theScopeRecord.moved theScopeRecord.timed theScopeRecord.pended theScopeRecord.event_number theScopeRecord.bumped theScopeRecord.counted theScopeRecord.ecall_ask_number theScopeRecord.waiting_ask theScopeRecord.is_idle theScopeRecord.listed theScopeRecord.applied theScopeRecord.no_args theScopeHost.setup_csrs theScopeHost.entry_csrs theScopeHost.write_effect theScopeHost.table_csrs theScopeHost.paging_by theScopeHost.paging_effect theScopeHost.hvip_bit_of theScopeHost.pending_effect theScopeHost.ipi_writes theScopeClasses.class_of theScopeClasses.arguments_of theScopeClasses.class_effect theScopeClasses.start_effect theScopeEcalls.returns_of theScopeEcalls.moves_of theScopeEcalls.gives_of theScopeEcalls.stays_of theScopeEcalls.asks_of theScopeEcalls.set_timer_of theScopeEcalls.clear_ipi_of theScopeEcalls.hypercall_of theScopeEcalls.lesser_of theScopeEcalls.not_supported_effect theScopeEcalls.forward_effect theScopeEcalls.time_effect theScopeEcalls.standard_request theScopeEcalls.spi_effect theScopeEcalls.hsm_effect theScopeEcalls.srst_effect theScopeEcalls.span_effect theScopeEcalls.console_effect theScopeEcalls.dbcn_effect theScopeEcalls.rfnc_effect theScopeEcalls.ecall_effect theScopeEcalls.legacy_request theScopeEcalls.mask_effect theScopeEcalls.copied_effect theScopeEcalls.console_read_effect theScopeEcalls.copied_out_effect theScopeEcalls.ecall_answer theScopeEcalls.completion_number theScopeVirtualInstruction.ask_fetch_of theScopeVirtualInstruction.set_bits theScopeVirtualInstruction.clear_bits theScopeVirtualInstruction.stimecmp_by theScopeVirtualInstruction.stimecmp_word theScopeVirtualInstruction.stimecmp_stval theScopeVirtualInstruction.stimecmp_effect theScopeVirtualInstruction.virtual_effect theScopeVirtualInstruction.missed_of theScopeVirtualInstruction.trap_status_of theScopeVirtualInstruction.injected_of theScopeVirtualInstruction.missed_effect theScopeGuestPageFault.load_under theScopeGuestPageFault.store_under theScopeGuestPageFault.fault_of theScopeGuestPageFault.fault_effect theScopeGuestPageFault.mmio_of theScopeGuestPageFault.page_fault_of theScopeGuestPageFault.completed_of theScopeCalls.new_of theScopeCalls.gpr_reply theScopeCalls.asked_count theScopeCalls.print_count theScopeCalls.fitted theScopeCalls.printable theScopeCalls.printed_of theScopeCalls.effect_of theScopeCalls.base_of theScopeCalls.called_of theScopeReplyWords.reply_kind theScopeReplyWords.reply_number theScopeReplyWords.reply_values theScopeReplyWords.reply_word theScopeReplyWords.out_of theScopeWords.tested theScopeWords.width_of theScopeWords.access_of theScopeWords.abi_of theScopeWords.completion_of theScopeWords.asked_words theScopeWords.waiting_words theScopeWords.kind_word theScopeWords.waiting_by theScopeWords.waiting_of theScopeWords.csrs_of theScopeWords.csrs_words theScopeWords.unpack_of theScopeWords.asked_word_count theScopeWords.waiting_count theScopeWords.trap_left theScopeWords.waiting_left theScopeWords.laid_with theScopeWords.left_by theScopeWords.left_of theScopeWords.call_by theScopePosts.post_call theScopePosts.row_of theScopePosts.one_by_one theScopePosts.posted_of theScopePosts.left_posted theWordsCallWords.call_of theWordsCallWords.reply_words_of theWordsEntryWords.exported_of theWordsEntryPostsWords.exported_row theInPlaceAnswerWords.answer_words theInPlaceEntryTrapCalls.start_call theInPlaceEntryTrapCalls.answer_call theInPlaceRecordView.record_of theInPlaceRecordView.view_of theInPlaceStartWords.trap_words
rows_1177 = tt

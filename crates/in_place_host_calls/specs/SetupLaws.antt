-- A new record's words, and that the page-table call is a host's own.
use Rattle.std.specs.Prelude.{ℕ, ◌%◌, ◌^◌, List, ◌≡◌, refl, drop, replicate, set, eqb}
use Rattle.scope.specs.declared.traps.Error.TheVariants as error
use Rattle.scope.specs.declared.machine.Csrs.{Csrs}
use Rattle.scope.specs.declared.machine.Waiting.{Waiting}
use Rattle.scope.specs.declared.machine.Writes.TheVariants as writes
use Rattle.scope.specs.Host.{paging_by, paging_effect, table_csrs}
use Rattle.scope.specs.Calls.{base_of, called_of, effect_of, new_of}
use Rattle.scope.specs.declared.hosts.HostCall.TheVariants as host_call
use Rattle.scope.specs.Record.{applied, bumped, counted, event_number, stored}
use Rattle.scope.specs.Refusals.{done_of}
use Rattle.scope.specs.ReplyWords.{reply_word}
use Rattle.scope.specs.Words.{asked_words, csrs_of, kind_word, unpack_of, waiting_by, waiting_left, waiting_of, waiting_words}
use Rattle.in_place_record.specs.View.{Done, record_of, view_of}
use Rattle.in_place_host.specs.Host.{Keeps}
use Rattle.in_place_host.specs.Laws.{done_keeps, pick_keeps, refused_keeps}

by_keeps : (c : Csrs) (w : Waiting) (wanted mode root : ℕ) → Keeps (paging_by c w wanted mode root) w
unfolding paging_by
by_keeps c w wanted mode root =
    pick_keeps (eqb mode wanted) (pick_keeps (eqb (root % 2 ^ 14) 0) (done_keeps (table_csrs c mode root) writes.Keep w) (refused_keeps c w error.InvalidInput)) (refused_keeps c w error.InvalidInput)

pub paging_keeps : (c : Csrs) (w : Waiting) (levels mode root : ℕ) → Keeps (paging_effect c w levels mode root) w
unfolding paging_effect
paging_keeps c w levels mode root =
    pick_keeps (eqb levels 3) (by_keeps c w 8 mode root) (pick_keeps (eqb levels 4) (by_keeps c w 9 mode root) (refused_keeps c w error.InvalidInput))

-- zeros but for a0 and a1 show as the record that a guest starts with, and nothing stands in the waiting words
pub new_shows : (hart tree : ℕ) → let r : List ℕ = set (set (replicate 58 0) 10 hart) 11 tree in (view_of r ≡ new_of hart tree) × (drop 54 r ≡ replicate 4 0)
unfolding view_of record_of unpack_of csrs_of waiting_of waiting_by kind_word waiting_words asked_words new_of
new_shows hart tree = (refl, refl)

-- so it is the call that makes a new record, whatever was there
pub new_done : (entry s : List ℕ) (hart tree : ℕ) → (view_of s ≡ new_of hart tree) × (drop 54 s ≡ replicate 4 0) → Done entry (host_call.New hart tree) s 0x40
unfolding called_of base_of effect_of new_of done_of applied stored counted bumped event_number reply_word waiting_left waiting_words
new_done entry s hart tree h = record { shows = h.0; waits = h.1; says = refl }

-- What the laws of proofs/Laws.antt say of words.
use Rattle.std.specs.Prelude.{ℕ, List, get_or}
use Rattle.scope.specs.declared.machine.Csrs.{Csrs}
use Rattle.scope.specs.declared.machine.Effect.{Effect}
use Rattle.scope.specs.Record.{applied}
use Rattle.in_place_record.specs.Steps.{Laid, trap_leaves}
use Rattle.in_place_record.specs.View.{view_of}
use Rattle.in_place_record.specs.Rows.{Left}

-- an effect of a trap on a record of words
abbrev pub On : List ℕ → List ℕ → Effect → Left → Type 0
On r o e l = Laid (trap_leaves r) o (applied (view_of r) e) l.rec l.out l.word

abbrev pub csrs_at : List ℕ → Csrs
csrs_at r =
    record {
      guest = record { sepc = get_or r 32 0; sstatus = get_or r 33 0; hstatus = get_or r 34 0 };
      vs =
          record {
            vsstatus = get_or r 35 0;
            vstvec = get_or r 36 0;
            vsepc = get_or r 37 0;
            vscause = get_or r 38 0;
            vstval = get_or r 39 0;
            vstimecmp = get_or r 40 0;
          };
      hs = record { hie = get_or r 41 0; hvip = get_or r 42 0; hgeie = get_or r 43 0; hgatp = get_or r 44 0 };
    }

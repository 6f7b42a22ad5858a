-- Through the view, the host's calls on words are those on the record.
use Rattle.std.specs.Prelude.{ℕ, Bool, true, false, List, ◌≡◌, refl, drop, length, set, eqb}
use Rattle.std.proofs.Common.{ap, sym, subst, ◌∙◌, drop-set-lt, arith}
use Rattle.std.proofs.lemmas.List.Edits.{sets}
use Rattle.isa_types.specs.Pick.{pick}
use Rattle.scope.specs.Refusals.{error_number, done_of, refused_of, unless_asking, leaves_of}
use Rattle.scope.specs.declared.traps.Error.{Error}
use Rattle.scope.specs.declared.machine.Csrs.{Csrs}
use Rattle.scope.specs.declared.machine.Effect.{Effect}
use Rattle.scope.specs.declared.machine.Event.TheVariants as event
use Rattle.scope.specs.declared.machine.Vcpu.{Vcpu}
use Rattle.scope.specs.declared.machine.Waiting.{Waiting}
use Rattle.scope.specs.declared.machine.Writes.{Writes}
use Rattle.scope.specs.declared.machine.Writes.TheVariants as writes
use Rattle.scope.specs.Record.{bumped, counted, event_number, listed, stored, waiting_ask, applied, no_args}
use Rattle.scope.specs.Words.{csrs_of, csrs_words, unpack_of, waiting_of}
use Rattle.in_place_record.specs.Steps.{Settled, host_leaves}
use Rattle.in_place_record.specs.View.{record_of, view_of}
use Rattle.scope.specs.ReplyWords.{reply_word}
use Rattle.in_place_record.proofs.Shown.{over, put_keeps, put_shows, same}
use Rattle.in_place_record.specs.Spelled.{spelled}
use Rattle.in_place_host.specs.Host.{Keeps, host_words, write_words}

-- the CSRs written show as written
csrs_spelled : (k : List ℕ) (c : Csrs) → let r : List ℕ = spelled 58 0 k in
    view_of (sets r 32 (csrs_words c)) ≡ record { x = (view_of r).x; csrs = c; counts = (view_of r).counts; waiting = (view_of r).waiting }
unfolding view_of record_of unpack_of csrs_of csrs_words waiting_of
csrs_spelled k c = refl

csrs_show : (r : List ℕ) → length r ≡ 58 → (c : Csrs)
    → view_of (sets r 32 (csrs_words c)) ≡ record { x = (view_of r).x; csrs = c; counts = (view_of r).counts; waiting = (view_of r).waiting }
csrs_show r e c =
    over (λ r. view_of (sets r 32 (csrs_words c)) ≡ record { x = (view_of r).x; csrs = c; counts = (view_of r).counts; waiting = (view_of r).waiting })
    (λ k. csrs_spelled k c) r e

pair_spelled : (k : List ℕ) (c : Csrs) (a b : ℕ) → let r : List ℕ = spelled 58 0 k in
    view_of (set (set (sets r 32 (csrs_words c)) 10 a) 11 b) ≡ record { x = set (set (view_of r).x 10 a) 11 b; csrs = c; counts = (view_of r).counts; waiting = (view_of r).waiting }
unfolding view_of record_of unpack_of csrs_of csrs_words waiting_of
pair_spelled k c a b = refl

pair_show : (r : List ℕ) → length r ≡ 58 → (c : Csrs) (a b : ℕ)
    → view_of (set (set (sets r 32 (csrs_words c)) 10 a) 11 b) ≡ record { x = set (set (view_of r).x 10 a) 11 b; csrs = c; counts = (view_of r).counts; waiting = (view_of r).waiting }
pair_show r e c a b =
    over (λ r. view_of (set (set (sets r 32 (csrs_words c)) 10 a) 11 b) ≡ record { x = set (set (view_of r).x 10 a) 11 b; csrs = c; counts = (view_of r).counts; waiting = (view_of r).waiting })
    (λ k. pair_spelled k c a b) r e

write_show : (r : List ℕ) → length r ≡ 58 → (c : Csrs) (w : Writes)
    → view_of (write_words (sets r 32 (csrs_words c)) w) ≡ record { x = stored (view_of r).x w; csrs = c; counts = (view_of r).counts; waiting = (view_of r).waiting }
unfolding write_words stored
write_show r e c writes.Keep = csrs_show r e c
write_show r e c (writes.One i n) =
    put_shows (sets r 32 (csrs_words c)) i n
    ∙ ap (λ (v : Vcpu). record { x = stored v.x (writes.One i n); csrs = v.csrs; counts = v.counts; waiting = v.waiting }) (csrs_show r e c)
write_show r e c (writes.Pair a b) = pair_show r e c a b

-- and the waiting words stay

csrs_keep_spelled : (k : List ℕ) (c : Csrs) → let r : List ℕ = spelled 58 0 k in drop 54 (sets r 32 (csrs_words c)) ≡ drop 54 r
unfolding csrs_words
csrs_keep_spelled k c = refl

csrs_keep : (r : List ℕ) → length r ≡ 58 → (c : Csrs) → drop 54 (sets r 32 (csrs_words c)) ≡ drop 54 r
csrs_keep r e c = over (λ r. drop 54 (sets r 32 (csrs_words c)) ≡ drop 54 r) (λ k. csrs_keep_spelled k c) r e

pair_keeps : (r : List ℕ) → length r ≡ 58 → (c : Csrs) (a b : ℕ) → drop 54 (set (set (sets r 32 (csrs_words c)) 10 a) 11 b) ≡ drop 54 r
pair_keeps r e c a b =
    drop-set-lt 54 (set (sets r 32 (csrs_words c)) 10 a) 11 b (omega arith) ∙ drop-set-lt 54 (sets r 32 (csrs_words c)) 10 a (omega arith)
    ∙ csrs_keep r e c

write_keep : (r : List ℕ) → length r ≡ 58 → (c : Csrs) (w : Writes) → drop 54 (write_words (sets r 32 (csrs_words c)) w) ≡ drop 54 r
unfolding write_words
write_keep r e c writes.Keep = csrs_keep r e c
write_keep r e c (writes.One i n) = put_keeps (sets r 32 (csrs_words c)) i n ∙ csrs_keep r e c
write_keep r e c (writes.Pair a b) = pair_keeps r e c a b

quiet_counts : (k : List ℕ) → counted k event.Quiet ≡ k
unfolding counted bumped event_number
quiet_counts k = refl

-- an effect that counts nothing and leaves what waits, written to the words, shows as applied
pub host_done : (r : List ℕ) → length r ≡ 58 → (e : Effect) → Keeps e (view_of r).waiting → Settled (host_leaves r) (applied (view_of r) e) (host_words r e) (reply_word e.reply)
unfolding host_words applied host_leaves
host_done r n e k =
    record {
      shows =
          write_show r n e.csrs e.writes
          ∙ same refl refl (sym (ap (λ v. counted (view_of r).counts v) k.quiet ∙ quiet_counts (view_of r).counts)) (sym k.waits);
      waits = write_keep r n e.csrs e.writes;
      says = refl;
    }

-- the effects of the host's calls are such

pub done_keeps : (c : Csrs) (n : Writes) (w : Waiting) → Keeps (done_of c n w) w
unfolding done_of
done_keeps c n w = record { waits = refl; quiet = refl }

pub refused_keeps : (c : Csrs) (w : Waiting) (x : Error) → Keeps (refused_of c w x) w
unfolding refused_of leaves_of
refused_keeps c w x = record { waits = refl; quiet = refl }

pub pick_keeps : (b : Bool) {e f : Effect} {w : Waiting} → Keeps e w → Keeps f w → Keeps (pick b e f) w
pick_keeps true k l = k
pick_keeps false k l = l

-- a call that is refused while an ask waits

waits_so : (r : List ℕ) (w : Waiting) (ask : ℕ) (b : Bool) → w ≡ (view_of r).waiting → ask ≡ waiting_ask w → eqb ask 0 ≡ b → eqb (waiting_ask (view_of r).waiting) 0 ≡ b
waits_so r w ask b q a z = ap (λ (u : Waiting). eqb (waiting_ask u) 0) (sym q) ∙ ap (λ (n : ℕ). eqb n 0) (sym a) ∙ z

pub free_made : (r s : List ℕ) (n : ℕ) → length r ≡ 58 → (w : Waiting) (e : Effect) (ask : ℕ) → w ≡ (view_of r).waiting → ask ≡ waiting_ask w → eqb ask 0 ≡ true → Keeps e w
    → (s ≡ host_words r e) × (n ≡ reply_word e.reply) → Settled (host_leaves r) (applied (view_of r) (unless_asking (view_of r) e)) s n
unfolding unless_asking
free_made r s n l w e ask q a z k h =
    let d : Settled (host_leaves r) (applied (view_of r) e) (host_words r e) (reply_word e.reply) = host_done r l e (subst (λ (u : Waiting). Keeps e u) q k) in
    rw (waits_so r w ask true q a z)
    (record { shows = ap view_of h.0 ∙ d.shows; waits = ap (λ (k : List ℕ). drop 54 k) h.0 ∙ d.waits; says = h.1 ∙ d.says })

pub asking_made : (r : List ℕ) (w : Waiting) (e : Effect) (ask : ℕ) → w ≡ (view_of r).waiting → ask ≡ waiting_ask w → eqb ask 0 ≡ false → Settled (host_leaves r) (applied (view_of r) (unless_asking (view_of r) e)) r 0x102
unfolding unless_asking refused_of leaves_of applied no_args stored counted bumped event_number listed reply_word error_number host_leaves
asking_made r w e ask q a z = rw (waits_so r w ask false q a z) (record { shows = refl; waits = refl; says = refl })

-- the n of ask 4, where it waits

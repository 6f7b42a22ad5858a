-- From one call to a sequence: each part of demand 3's conclusion, by the calls one after the other.
use Rattle.std.specs.Prelude.{ℕ, Bool, true, false, List, [], ◌∷◌, ◌++◌, ◌≡◌}
use Rattle.std.proofs.Math.Path.{refl, ap, subst}
use Rattle.std.proofs.Common.{ap₂, sym, ◌∙◌}
use Rattle.std.proofs.Math.ListN.{get_or}
use Rattle.demand3_table.specs.Turns.{Turn, call, print, post}
use Rattle.isa_types.specs.Pick.{or}
use Rattle.scope.specs.declared.hosts.HostCall.{HostCall}
use Rattle.scope.specs.declared.machine.Effect.{Effect}
use Rattle.scope.specs.declared.machine.Vcpu.{Vcpu}
use Rattle.scope.specs.declared.hosts.Post.{Post}
use Rattle.scope.specs.declared.traps.Reply.TheVariants as reply
use Rattle.scope.specs.Posts.{posted_of}
use Rattle.scope.specs.PostsLaws.{row_counts, row_waiting, row_x, same_row}
use Rattle.scope.specs.Record.{counted, applied, listed, no_args}
use Rattle.scope.specs.Calls.{base_of, printed_of, called_of, effect_of}
use Rattle.demand3_table.specs.Table.{call_names, call_reads, names_of, reads_of}
use Rattle.demand3_table.specs.Runs.{sight_of, step_of, run_of, seen_of, Apart, Untouched, renews, wrote, wrote_by, written}
use Rattle.demand3_table.specs.Alike.{Alike, Files}
use Rattle.demand3_table.proofs.Agree.{effect_alike}
use Rattle.demand3_table.proofs.Bases.{base_alike, base_kept, base_new}
use Rattle.demand3_table.proofs.Stored.{neither, same_files, stored_files, stored_kept, stored_joined}

-- a sequence that leaves r untouched does so in each of its beginnings
pub beginning : (r : ℕ) (v : Vcpu) (front back : List Turn) → Untouched r v (front ++ back) → Untouched r v front
unfolding Untouched
beginning r v [] back u = tt
beginning r v (c ∷ front) back u = (u.0, u.1, beginning r (step_of v c) front back u.2)

module _ (r : ℕ) (v w : Vcpu) (a : Alike r v w) where
  -- the same effect on two records that are alike
  applied_alike : (e : Effect) → Alike r (applied v e).vcpu (applied w e).vcpu
  unfolding applied
  applied_alike e =
      record {
        files = stored_files a.files e.writes;
        csrs = refl;
        counts = ap (λ k. counted k e.event) a.counts;
        waiting = refl;
      }

  applied_joined : (e : Effect) → wrote r e.writes ≡ true → get_or (applied v e).vcpu.x r 0 ≡ get_or (applied w e).vcpu.x r 0
  unfolding applied
  applied_joined e t = stored_joined a.files e.writes t

  -- records that agree in r too are one
  same_record : get_or v.x r 0 ≡ get_or w.x r 0 → v ≡ w
  same_record e =
      let fields : ◌≡◌ {A = Vcpu} (record { x = v.x; csrs = v.csrs; counts = v.counts; waiting = v.waiting }) (record { x = w.x; csrs = w.csrs; counts = w.counts; waiting = w.waiting })
      = rw (same_files a.files e, a.csrs, a.counts, a.waiting)
      in fields

-- a row of posts reads no register and writes none
row_alike : (r : ℕ) (v w : Vcpu) → Alike r v w → (ps : List Post) → Alike r (posted_of v ps).vcpu (posted_of w ps).vcpu
row_alike r v w a ps =
    record {
      files = subst (λ (x : List ℕ). Files r x (posted_of w ps).vcpu.x) (sym (row_x v ps)) (subst (λ (y : List ℕ). Files r v.x y) (sym (row_x w ps)) a.files);
      csrs = (same_row v w ps a.csrs a.waiting).csrs;
      counts = row_counts v ps ∙ a.counts ∙ sym (row_counts w ps);
      waiting = row_waiting v ps ∙ a.waiting ∙ sym (row_waiting w ps);
    }

-- one turn
module _ (r : ℕ) (v w : Vcpu) (a : Alike r v w) where
  pub next_alike : (c : Turn) → Apart r (names_of v c) → Apart r (reads_of c) → Alike r (step_of v c) (step_of w c)
  unfolding step_of names_of reads_of called_of
  next_alike (call c) named read =
      subst (λ (e : Effect). Alike r (applied (base_of v c) (effect_of v c)).vcpu (applied (base_of w c) e).vcpu) (effect_alike r v w c a named read)
      (applied_alike r (base_of v c) (base_of w c) (base_alike r v w c a) (effect_of v c))
  next_alike (print buffer) named read = a
  next_alike (post ps) named read = row_alike r v w a ps

  pub sight_alike : (c : Turn) → Apart r (names_of v c) → Apart r (reads_of c) → sight_of v c ≡ sight_of w c
  unfolding sight_of names_of reads_of called_of applied printed_of
  sight_alike (call c) named read = rw (effect_alike r v w c a named read)
  sight_alike (print buffer) named read = rw a.waiting
  sight_alike (post ps) named read = λ i. record { reply = reply.Done; args = listed no_args; bytes = []; posted = (same_row v w ps a.csrs a.waiting).given i }

  pub wrote_alike : (c : Turn) → Apart r (names_of v c) → Apart r (reads_of c) → wrote_by r v c ≡ wrote_by r w c
  unfolding wrote_by names_of reads_of
  wrote_alike (call c) named read = ap (λ (e : Effect). or (renews c) (wrote r e.writes)) (effect_alike r v w c a named read)
  wrote_alike (print buffer) named read = refl
  wrote_alike (post ps) named read = refl

  -- a call that writes r leaves it the same on both
  stepped_joined : (c : HostCall) → Apart r (call_names v c) → Apart r (call_reads c) → wrote r (effect_of v c).writes ≡ true → get_or (called_of v c).vcpu.x r 0 ≡ get_or (called_of w c).vcpu.x r 0
  unfolding called_of
  stepped_joined c named read t =
      subst (λ (e : Effect). get_or (applied (base_of v c) (effect_of v c)).vcpu.x r 0 ≡ get_or (applied (base_of w c) e).vcpu.x r 0) (effect_alike r v w c a named read)
      (applied_joined r (base_of v c) (base_of w c) (base_alike r v w c a) (effect_of v c) t)

  -- a new record is one on both
  renewed : (c : HostCall) → Apart r (call_names v c) → Apart r (call_reads c) → renews c ≡ true → (called_of v c).vcpu ≡ (called_of w c).vcpu
  unfolding called_of
  renewed c named read h = rw (base_new v w c h, effect_alike r v w c a named read)

  called_joined : (c : HostCall) → Apart r (call_names v c) → Apart r (call_reads c) → (b : Bool) → renews c ≡ b → or b (wrote r (effect_of v c).writes) ≡ true → Alike r (called_of v c).vcpu (called_of w c).vcpu → (called_of v c).vcpu ≡ (called_of w c).vcpu
  called_joined c named read true h t k = renewed c named read h
  called_joined c named read false h t k =
      same_record r (called_of v c).vcpu (called_of w c).vcpu k (stepped_joined c named read t)

  pub next_joined : (c : Turn) → Apart r (names_of v c) → Apart r (reads_of c) → wrote_by r v c ≡ true → step_of v c ≡ step_of w c
  unfolding step_of wrote_by names_of reads_of
  next_joined (call c) named read t = called_joined c named read (renews c) refl t (next_alike (call c) named read)
  next_joined (print buffer) named read t = cc
  next_joined (post ps) named read t = cc

next_kept : (r : ℕ) (v : Vcpu) (c : Turn) → wrote_by r v c ≡ false → get_or (step_of v c).x r 0 ≡ get_or v.x r 0
unfolding step_of wrote_by called_of applied
next_kept r v (call c) t =
    let n = neither (renews c) (wrote r (effect_of v c).writes) t in
    stored_kept r (base_of v c).x (effect_of v c).writes n.1 ∙ ap (λ (u : Vcpu). get_or u.x r 0) (base_kept v c n.0)
next_kept r v (print buffer) t = refl
next_kept r v (post ps) t = ap (λ (x : List ℕ). get_or x r 0) (row_x v ps)

-- a sequence of turns

pub sights : (r : ℕ) (v w : Vcpu) (cs : List Turn) → Alike r v w → Untouched r v cs → seen_of v cs ≡ seen_of w cs
unfolding seen_of Untouched
sights r v w [] a u = refl
sights r v w (c ∷ cs) a u =
    ap₂ ◌∷◌ (sight_alike r v w a c u.0 u.1) (sights r (step_of v c) (step_of w c) cs (next_alike r v w a c u.0 u.1) u.2)

pub ends : (r : ℕ) (v w : Vcpu) (cs : List Turn) → Alike r v w → Untouched r v cs → Alike r (run_of v cs) (run_of w cs)
unfolding run_of Untouched
ends r v w [] a u = a
ends r v w (c ∷ cs) a u = ends r (step_of v c) (step_of w c) cs (next_alike r v w a c u.0 u.1) u.2

pub writes : (r : ℕ) (v w : Vcpu) (cs : List Turn) → Alike r v w → Untouched r v cs → written r v cs ≡ written r w cs
unfolding written Untouched
writes r v w [] a u = refl
writes r v w (c ∷ cs) a u =
    ap₂ or (wrote_alike r v w a c u.0 u.1) (writes r (step_of v c) (step_of w c) cs (next_alike r v w a c u.0 u.1) u.2)

-- r keeps its content until a call writes it
kept : (r : ℕ) (v : Vcpu) (cs : List Turn) → written r v cs ≡ false → get_or (run_of v cs).x r 0 ≡ get_or v.x r 0
unfolding run_of written
kept r v [] h = refl
kept r v (c ∷ cs) h =
    let n = neither (wrote_by r v c) (written r (step_of v c) cs) h in
    kept r (step_of v c) cs n.1 ∙ next_kept r v c n.0

pub keeps : (r : ℕ) (v w : Vcpu) (cs : List Turn) → Alike r v w → Untouched r v cs → written r v cs ≡ false → (get_or (run_of v cs).x r 0 ≡ get_or v.x r 0) × (get_or (run_of w cs).x r 0 ≡ get_or w.x r 0)
keeps r v w cs a u h = (kept r v cs h, kept r w cs (sym (writes r v w cs a u) ∙ h))

-- from the first write on the two runs are one
from_then : (v w : Vcpu) (cs : List Turn) (s t : Bool) → or s t ≡ true → (s ≡ true → v ≡ w) → (t ≡ true → run_of v cs ≡ run_of w cs) → run_of v cs ≡ run_of w cs
from_then v w cs true t h now later = ap (λ z. run_of z cs) (now refl)
from_then v w cs false t h now later = later h

pub joins : (r : ℕ) (v w : Vcpu) (cs : List Turn) → Alike r v w → Untouched r v cs → written r v cs ≡ true → run_of v cs ≡ run_of w cs
unfolding run_of written Untouched
joins r v w [] a u h = cc
joins r v w (c ∷ cs) a u h =
    from_then (step_of v c) (step_of w c) cs (wrote_by r v c) (written r (step_of v c) cs) h
    (next_joined r v w a c u.0 u.1)
    (joins r (step_of v c) (step_of w c) cs (next_alike r v w a c u.0 u.1) u.2)

-- Demands 1 and 3, and the counts, of the entry over a lent record.
use Rattle.std.specs.Prelude.{ℕ, suc, ◌+◌, ◌<◌, true, List, ◌∷◌, ◌≡◌, refl, eqb, get_or}
use Rattle.std.proofs.Common.{ap, ap₂, sym, subst, ◌∙◌}
use Rattle.isa_types.specs.Pick.{wrapped}
use Rattle.scope.specs.declared.hosts.HostCall.{HostCall}
use Rattle.scope.specs.declared.hosts.Post.{Post}
use Rattle.scope.specs.declared.hosts.Posted.{Posted}
use Rattle.scope.specs.declared.machine.Vcpu.{Vcpu}
use Rattle.scope.specs.declared.traps.Error.{Error}
use Rattle.by_value_lent.specs.declared.Given.{Given}
use Rattle.by_value_lent.specs.Lent.{Stored}
use Rattle.by_value_posts.specs.Lent.{StoredRow}
use Rattle.demand3_table.specs.Alike.{Alike}
use Rattle.demand3_table.specs.Runs.{Lasting, run_of, seen_of, sight_of, step_of, Untouched}
use Rattle.demand3_table.specs.Turns.{Turn}
use Rattle.demand3.proofs.Sequences as sequences
use Rattle.demand3.specs.Kinds.{traps}
use Rattle.demand3.specs.Counting.{Counted}
use Rattle.demand3.proofs.Counting.{counts}
use Rattle.demand1.proofs.Demand1.{refusal_keeps_the_record}
use Rattle.demand1.proofs.RowLaws.{none_applied_keeps_the_record, row_applies_lem, row_when_lem}
use Rattle.demand1.specs.When.{row_applies, row_when}
use Rattle.scope.specs.Refusals.{error_number, refuses}
use Rattle.demands_lent.specs.Entries.{none, next, row, Back, Entries, back_of, given_for, posted, replied}
use Rattle.demands_lent.specs.Demands.{EntryThird}

-- a sequence through the entry leaves the record of that sequence, and gives back what it shows

ran : {v u : Vcpu} {cs : List Turn} {gs : List Back} → Entries v cs gs u → u ≡ run_of v cs
unfolding run_of step_of
ran none = refl
ran (next {cs = cs} s e) = ran e ∙ ap (λ (k : Vcpu). run_of k cs) s.0
ran (row {cs = cs} s e) = ran e ∙ ap (λ (k : Vcpu). run_of k cs) s.0

gave : {v u : Vcpu} {cs : List Turn} {gs : List Back} → Entries v cs gs u → gs ≡ given_for cs (seen_of v cs)
unfolding seen_of given_for back_of sight_of step_of
gave none = refl
gave (next {cs = cs} s e) =
    ap₂ (λ (g : Given) (gs : List Back). replied g ∷ gs) s.1 (gave e ∙ ap (λ (k : Vcpu). given_for cs (seen_of k cs)) s.0)
gave (row {cs = cs} s e) =
    ap₂ (λ (g : Posted) (gs : List Back). posted g ∷ gs) s.1 (gave e ∙ ap (λ (k : Vcpu). given_for cs (seen_of k cs)) s.0)

-- demand 1: a refusal leaves the lent record as it was

pub entry_refusal_keeps_the_record : (v : Vcpu) (c : HostCall) (w : Vcpu) (g : Given) → Stored v c w g → refuses g.reply ≡ true → w ≡ v
entry_refusal_keeps_the_record v c w g s r =
    s.0 ∙ refusal_keeps_the_record v c (ap (λ (k : Given). refuses k.reply) (sym s.1) ∙ r)

-- so does a row that applies nothing; and a row gives each number exactly where the table has it, with as many applied

pub entry_row_keeps_the_record : (v : Vcpu) (ps : List Post) (w : Vcpu) (g : Posted) → StoredRow v ps w g → g.applied ≡ 0 → w ≡ v
entry_row_keeps_the_record v ps w g s z =
    s.0 ∙ none_applied_keeps_the_record v ps (ap (λ (k : Posted). k.applied) (sym s.1) ∙ z)

pub entry_row_when : (e : Error) (v : Vcpu) (ps : List Post) (w : Vcpu) (g : Posted) → StoredRow v ps w g → (eqb (error_number e) g.refusal ≡ row_when v ps e) × (g.applied ≡ row_applies v ps)
entry_row_when e v ps w g s =
    (ap (λ (k : Posted). eqb (error_number e) k.refusal) s.1 ∙ row_when_lem e v ps, ap (λ (k : Posted). k.applied) s.1 ∙ row_applies_lem v ps)

pub entry_third : (r : ℕ) {v w u t : Vcpu} {cs : List Turn} {gs hs : List Back} → Alike r v w → Untouched r v cs
    → Entries v cs gs u → Entries w cs hs t → EntryThird r v w u t cs gs hs
entry_third r {v} {w} {u} {t} {cs} {gs} {hs} a n e f =
    record {
      given = gave e ∙ ap (given_for cs) (sequences.sights r v w cs a n) ∙ sym (gave f);
      alike = subst (λ (k : Vcpu). Alike r k t) (sym (ran e)) (subst (λ (k : Vcpu). Alike r (run_of v cs) k) (sym (ran f)) (sequences.ends r v w cs a n));
      keeps = λ h.
          let both = sequences.keeps r v w cs a n h in
          (ap (λ (k : Vcpu). get_or k.x r 0) (ran e) ∙ both.0, ap (λ (k : Vcpu). get_or k.x r 0) (ran f) ∙ both.1);
      joins = λ h. ran e ∙ sequences.joins r v w cs a n h ∙ sym (ran f);
    }

-- the counts, where no new record is made
pub entry_counts : {v u : Vcpu} {cs : List Turn} {gs : List Back} → Entries v cs gs u → (i : ℕ) → Lasting cs → Counted v.counts → i < 9
    → get_or u.counts i 0 ≡ wrapped (get_or v.counts i 0 + traps (suc i) v cs)
entry_counts {v} {u} {cs} e i l k h = ap (λ (z : Vcpu). get_or z.counts i 0) (ran e) ∙ counts v cs i l k h

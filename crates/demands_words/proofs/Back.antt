-- Every record has words: laid out in order, they show it.
use Rattle.std.specs.Prelude.{ℕ, ◌≡◌, length}
use mathlib.Core.List.{List, ◌++◌}
use Rattle.std.proofs.Math.Path.{refl, ap, sym}
use Rattle.std.proofs.Common.{◌∙◌, drop-drop}
use Rattle.std.proofs.Math.ListN.{drop, take}
use Rattle.std.proofs.Math.Seq.{drop_at, take_at}
use Rattle.scope.specs.declared.machine.Vcpu.{Vcpu}
use Rattle.scope.specs.declared.machine.Waiting.{Waiting}
use Rattle.scope.specs.declared.machine.Waiting.TheVariants as waiting
use Rattle.scope.specs.Words.{csrs_of, csrs_words, unpack_of, waiting_of, waiting_words, asked_words}
use Rattle.scope.specs.WordsLaws.{csrs_back, waiting_back}
use Rattle.in_place_record.specs.View.{record_of, view_of}
use Rattle.in_place_record.proofs.Shown.{same}
use Rattle.scope.specs.declared.machine.EcallAsk.{EcallAsk}
use Rattle.scope.specs.declared.machine.EcallAsk.TheVariants as asked
use Rattle.demands_words.specs.Back.{words_of}

four_asked : (a : EcallAsk) → take 4 (asked_words a) ≡ asked_words a
unfolding asked_words
four_asked asked.CopyMask = refl
four_asked (asked.CopyIn n) = refl
four_asked (asked.Print n) = refl
four_asked (asked.ReadConsole n a) = refl
four_asked (asked.CopyOut n) = refl
four_asked asked.PutChar = refl
four_asked asked.PutByte = refl
four_asked asked.GetChar = refl
four_asked asked.Forward = refl

four : (w : Waiting) → take 4 (waiting_words w) ≡ waiting_words w
unfolding waiting_words
four waiting.Idle = refl
four (waiting.Load r w s) = refl
four waiting.FetchCsr = refl
four (waiting.FetchFault a k) = refl
four (waiting.Ecall a) = four_asked a

module _ (v : Vcpu) (e : length v.x ≡ 32) (f : length v.counts ≡ 9) where
  at_csrs : drop 32 (words_of v) ≡ csrs_words v.csrs ++ (v.counts ++ waiting_words v.waiting)
  unfolding words_of
  at_csrs = drop_at v.x (csrs_words v.csrs ++ (v.counts ++ waiting_words v.waiting)) 32 e

  at_counts : drop 45 (words_of v) ≡ v.counts ++ waiting_words v.waiting
  unfolding csrs_words
  at_counts = sym (drop-drop 13 32 (words_of v)) ∙ ap (λ (l : List ℕ). drop 13 l) at_csrs

  at_waiting : drop 54 (words_of v) ≡ waiting_words v.waiting
  at_waiting =
      sym (drop-drop 9 45 (words_of v)) ∙ ap (λ (l : List ℕ). drop 9 l) at_counts
      ∙ drop_at v.counts (waiting_words v.waiting) 9 f

  at_x : take 32 (words_of v) ≡ v.x
  unfolding words_of
  at_x = take_at v.x (csrs_words v.csrs ++ (v.counts ++ waiting_words v.waiting)) 32 e

  thirteen : take 13 (csrs_words v.csrs ++ (v.counts ++ waiting_words v.waiting)) ≡ csrs_words v.csrs
  unfolding csrs_words
  thirteen = refl

  pub words_back : view_of (words_of v) ≡ v
  unfolding view_of record_of unpack_of
  words_back =
      same at_x
      (ap (λ (l : List ℕ). csrs_of (take 13 l)) at_csrs ∙ ap csrs_of thirteen ∙ csrs_back v.csrs)
      (ap (λ (l : List ℕ). take 9 l) at_counts ∙ take_at v.counts (waiting_words v.waiting) 9 f)
      (ap (λ (l : List ℕ). waiting_of (take 4 l)) at_waiting ∙ ap waiting_of (four v.waiting) ∙ waiting_back v.waiting)

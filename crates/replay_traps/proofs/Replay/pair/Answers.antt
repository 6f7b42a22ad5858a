use Rattle.std.proofs.Common.{ap, ◌∙◌, le-ltb, eq-eqb, ne_eqb}
use Rattle.scope.specs.Record.{waiting_ask}
use Rattle.replay_traps.specs.InPlace.{state_of}
use Rattle.replay_traps.specs.Laws.{answer_stepped, load_stepped, unfit_stepped}
use Rattle.replay_traps.proofs.Replay.pair.Goals.{else-ask-eq1-via-then-ask-eq1+else-more-gt5, else-ask-eq1-via-else-ask-eq1}
use Rattle.replay_traps.proofs.Replay.pair.Goals as goal

pub returns-then-ask-eq0 : goal.returns-then-ask-eq0
unfolding state_of
returns-then-ask-eq0 c = load_stepped c.args.self.now.progress _ _ _ _ _ _ _ _ (c.ask_of-ask.ensures ∙ ap waiting_ask c.waiting.ensures) c.if-ask-eq0.true c.complete_load-w.ensures c.settle.ensures

pub returns-then-more-gt5 : goal.returns-then-more-gt5
unfolding state_of
returns-then-more-gt5 c = unfit_stepped c.args.self.now.progress _ c.args.self.now.record _ _ _ _ (c.ask_of-ask.ensures ∙ ap waiting_ask c.waiting.ensures) c.if-ask-eq1.true c.if-more-gt5.true c.unfit.ensures.step

pub returns : goal.returns
unfolding state_of
returns c =
    answer_stepped c.args.self.now.progress _ _ _ _ _ _ _ _ _ _ (c.ask_of-ask.ensures ∙ ap waiting_ask c.waiting.ensures) c.if-ask-eq0.false
    (elim c.else-ask-eq1.branch [ else-ask-eq1-via-then-ask-eq1+else-more-gt5 w ↦ simp (eq-eqb _ _ w.if-ask-eq1.true, le-ltb _ _ w.if-more-gt5.false) | else-ask-eq1-via-else-ask-eq1 w ↦ simp (ne_eqb _ _ w.if-ask-eq1.false) ])
    c.answer-w.ensures c.settle-2.ensures

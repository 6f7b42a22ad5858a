use Rattle.decide_posts.specs.Fold.{begun_of}
use Rattle.in_place_entry_posts.specs.Laws.{hvip_word}
use Rattle.in_place_entry_posts.proofs.begin.Goals as goal

pub returns : goal.returns
unfolding begun_of
returns c = simp (c.begin.ensures, c.ask_of-ask.ensures, c.waiting.ensures, hvip_word c.args.r.now c.told-r)

use Rattle.in_place_record.proofs.Laws.{waiting_words_lem}
use Rattle.in_place_read.proofs.waiting.Goals as goal

pub returns : goal.returns
returns c = simp c.waiting_by.ensures (waiting_words_lem _ c.told-r)

use Rattle.in_place_record.proofs.Shown.{made_by}
use Rattle.in_place_answer.specs.Laws.{word_made}
use Rattle.in_place_answer.proofs.stimecmp_word.Goals as goal

pub returns : goal.returns
returns c = made_by (word_made _ _ c.told-r _) (simp (c.decide-d.ensures, c.register-rs1.ensures, c.rs1.ensures) at c.do_csr.ensures)

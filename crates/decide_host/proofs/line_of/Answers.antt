use Rattle.decide_host.specs.Line.{line_of_three}
use Rattle.decide_host.proofs.line_of.Goals as goal

pub returns : goal.returns
returns c = simp (c.select-external.ensures, c.is_supervisor_external.ensures, c.select-timer.ensures, c.select-soft.ensures) (line_of_three _)

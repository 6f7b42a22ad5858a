use Rattle.replay_capture.specs.Laws.{nothing_put, trap_put, bad_put}
use Rattle.replay_capture.proofs.put.Goals as goal

pub returns-in-Nothing : goal.returns-in-Nothing
returns-in-Nothing c = rw c.in-Nothing.is (nothing_put _ _)

pub returns-in-Trap : goal.returns-in-Trap
returns-in-Trap c = rw c.in-Trap.is (trap_put _ _ _ _ _ _ _ _ _ _ _ _ _ _ c.requires c.put-p.ensures c.put-q.ensures c.put-r.ensures c.put.ensures)

pub returns-in-Bad : goal.returns-in-Bad
returns-in-Bad c = rw c.in-Bad.is (bad_put _ _ _ _ _ c.requires c.put-in-Bad.ensures)

use Rattle.replay_order.specs.Laws.{sepc_headed, timer_headed, register_headed}
use Rattle.replay_order.proofs.head.Goals as goal

pub returns-then-i-eq0 : goal.returns-then-i-eq0
returns-then-i-eq0 c = sepc_headed c.args.r.now _ _ c.args.n _ _ c.if-i-eq0.true c.set_entry.ensures

pub returns-then-i-eq1 : goal.returns-then-i-eq1
returns-then-i-eq1 c = timer_headed c.args.r.now _ c.args.n c.told-r c.if-i-eq1.true

pub returns : goal.returns
returns c = register_headed c.args.r.now _ _ c.args.n _ _ c.if-i-eq0.false c.if-i-eq1.false c.set_gpr.ensures

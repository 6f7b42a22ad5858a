use mathlib.Core.Path.{sym, ◌∙◌}
use Rattle.scope.specs.Classes.{class_effect}
use Rattle.in_place_start.specs.Laws.{interrupt_made, not_handled_made, unknown_made}
use Rattle.in_place_start.proofs.trapped.Goals as goal

pub returns-in-Ecall : goal.returns-in-Ecall
unfolding class_effect
returns-in-Ecall c = rw (sym c.class_of.ensures ∙ c.in-Ecall.is) c.ecall.ensures

pub returns-in-VirtualInstruction : goal.returns-in-VirtualInstruction
unfolding class_effect
returns-in-VirtualInstruction c = rw (sym c.class_of.ensures ∙ c.in-VirtualInstruction.is) c.virtual_inst.ensures

pub returns-in-PageFault : goal.returns-in-PageFault
unfolding class_effect
returns-in-PageFault c = rw (sym c.class_of.ensures ∙ c.in-PageFault.is) c.page_fault.ensures

pub returns-in-Interrupt : goal.returns-in-Interrupt
unfolding class_effect
returns-in-Interrupt c = rw (sym c.class_of.ensures ∙ c.in-Interrupt.is) (interrupt_made _ _ c.told-r _)

pub returns-in-NotHandled : goal.returns-in-NotHandled
unfolding class_effect
returns-in-NotHandled c = rw (sym c.class_of.ensures ∙ c.in-NotHandled.is) (not_handled_made _ _ c.told-r)

pub returns-in-Unknown : goal.returns-in-Unknown
unfolding class_effect
returns-in-Unknown c = rw (sym c.class_of.ensures ∙ c.in-Unknown.is) (unknown_made _ _ c.told-r)

-- What a law says of the decisions behind an answer, so that it holds of every row (proofs/Rows.antt).
use Rattle.scope.specs.declared.decided.Answered.{Answered}
use Rattle.scope.specs.declared.machine.Csrs.{Csrs}
use Rattle.scope.specs.declared.machine.Effect.{Effect}
use Rattle.isa_types.specs.declared.GuestPhysAddr.{GuestPhysAddr}
use Rattle.scope.specs.Decided.{answered_effect}
use Rattle.scope.specs.GuestPageFault.{fault_effect}
use Rattle.scope.specs.Refusals.{refused_of}
use Rattle.scope.specs.VirtualInstruction.{stimecmp_effect}
use Rattle.scope.specs.declared.decided.Fault.{Fault}
use Rattle.scope.specs.declared.decided.Stimecmp.{Stimecmp}
use Rattle.scope.specs.declared.machine.Waiting.{Waiting}
use Rattle.scope.specs.declared.traps.Access.{Access}
use Rattle.scope.specs.declared.traps.Error.TheVariants as error

-- what holds of the effects of the decisions behind an answer, for whatever waits
pub record OfDecisions (P : Waiting → Effect → Type 0) (c : Csrs) : Type 0 where
  pub csrs : (n : Waiting) (d : Stimecmp) → P n (stimecmp_effect c d)
  pub faults : (n : Waiting) (at : GuestPhysAddr) (k : Access) (d : Fault) → P n (fault_effect c at k d)
  pub answers : (n : Waiting) (d : Answered) → P n (answered_effect c d)
  pub wrong : (n : Waiting) → P n (refused_of c n error.WrongAnswer)

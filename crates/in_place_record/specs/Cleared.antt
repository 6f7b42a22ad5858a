-- A step over eight zeros is the call that is promised.
use Rattle.std.specs.Prelude.{ℕ, List, ◌≡◌, drop, replicate}
use Rattle.scope.specs.declared.hosts.HostCall.{HostCall}
use Rattle.scope.specs.declared.machine.Outcome.{Outcome}
use Rattle.scope.specs.Words.{waiting_left}

-- eight zeros
abbrev pub blank : List ℕ
blank = replicate 8 0

-- the rule for the waiting words is the call's
abbrev pub RuleOf : List ℕ → HostCall → (Outcome → List ℕ) → Type 0
RuleOf r c leaves = (o : Outcome) → leaves o ≡ waiting_left c (drop 54 r) o.reply o.vcpu.waiting

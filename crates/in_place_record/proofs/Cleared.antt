-- A step over eight zeros is the call that is promised.
use Rattle.std.specs.Prelude.{ℕ, List, ◌≡◌, refl}
use Rattle.std.proofs.Common.{◌∙◌}
use Rattle.scope.specs.Calls.{called_of}
use Rattle.scope.specs.declared.hosts.HostCall.{HostCall}
use Rattle.scope.specs.declared.machine.Outcome.{Outcome}
use Rattle.scope.specs.declared.traps.Args.{Args}
use Rattle.scope.specs.declared.traps.Ask.TheVariants as ask
use Rattle.scope.specs.declared.traps.Ask.{Ask}
use Rattle.scope.specs.declared.traps.Error.TheVariants as error
use Rattle.scope.specs.declared.traps.Error.{Error}
use Rattle.scope.specs.declared.traps.Exit.TheVariants as exit
use Rattle.scope.specs.declared.traps.Exit.{Exit}
use Rattle.scope.specs.declared.traps.Reply.TheVariants as reply
use Rattle.scope.specs.declared.traps.Reply.{Reply}
use Rattle.scope.specs.OneTrap.{ask_number, ask_values, exit_number, exit_values}
use Rattle.scope.specs.Record.{applied, listed}
use Rattle.scope.specs.Refusals.{error_number}
use Rattle.scope.specs.ReplyWords.{out_of, reply_values, reply_word}
use Rattle.in_place_record.specs.Steps.{Laid, Settled, ask_count, beside_of, exit_count, out_over}
use Rattle.in_place_record.specs.View.{Done, Made, view_of}
use Rattle.in_place_record.specs.Cleared.{RuleOf, blank}

exit_blank : (e : Exit) (a : Args) → out_over blank (reply.Exit e) (listed a) ≡ out_of (reply.Exit e) (listed a)
unfolding out_over out_of reply_word reply_values exit_count exit_values exit_number beside_of listed
exit_blank exit.Nothing a = refl
exit_blank (exit.ExternalInterrupt v) a = refl
exit_blank (exit.SendIpi r) a = refl
exit_blank (exit.CpuUp t e b) a = refl
exit_blank (exit.CpuDown s) a = refl
exit_blank exit.Halt a = refl
exit_blank (exit.Hypercall n) a = refl
exit_blank exit.SystemDown a = refl
exit_blank (exit.NestedPageFault at k) a = refl
exit_blank (exit.MmioRead at w) a = refl
exit_blank (exit.MmioWrite at w d) a = refl

ask_blank : (q : Ask) (a : Args) → out_over blank (reply.Ask q) (listed a) ≡ out_of (reply.Ask q) (listed a)
unfolding out_over out_of reply_word reply_values ask_count ask_values ask_number
ask_blank (ask.Fetch at s) a = refl
ask_blank (ask.CopyMask at) a = refl
ask_blank (ask.CopyIn at n) a = refl
ask_blank (ask.Print n) a = refl
ask_blank (ask.ReadConsole n) a = refl
ask_blank (ask.CopyOut at n) a = refl
ask_blank (ask.Emit n) a = refl
ask_blank ask.GetChar a = refl
ask_blank (ask.Forward e f b) a = refl

error_blank : (e : Error) (a : Args) → out_over blank (reply.Error e) (listed a) ≡ out_of (reply.Error e) (listed a)
unfolding out_over out_of reply_word reply_values error_number
error_blank error.InvalidInput a = refl
error_blank error.BadState a = refl
error_blank error.Unsupported a = refl
error_blank error.InvalidTrap a = refl
error_blank error.DecodeFailed a = refl
error_blank error.GuestMemoryFault a = refl
error_blank error.WrongAnswer a = refl

over_blank : (p : Reply) (a : Args) → out_over blank p (listed a) ≡ out_of p (listed a)
unfolding out_over out_of reply_word reply_values
over_blank (reply.Exit e) a = exit_blank e a
over_blank (reply.Ask q) a = ask_blank q a
over_blank reply.Done a = refl
over_blank (reply.Value n) a = refl
over_blank (reply.Error e) a = error_blank e a

called_blank : (r : List ℕ) (c : HostCall) → out_over blank (called_of (view_of r) c).reply (called_of (view_of r) c).args ≡ out_of (called_of (view_of r) c).reply (called_of (view_of r) c).args
unfolding called_of applied
called_blank r c = over_blank _ _

pub cleared : {leaves : Outcome → List ℕ} {r s p : List ℕ} {w : ℕ} (c : HostCall) → RuleOf r c leaves → Laid leaves blank (called_of (view_of r) c) s p w → Made r c s p w
cleared {leaves} {r} c k l =
    record { shows = l.shows; waits = l.waits ∙ k (called_of (view_of r) c); says = l.says; gives = l.gives ∙ called_blank r c }

pub settled : {leaves : Outcome → List ℕ} {r s : List ℕ} {w : ℕ} (c : HostCall) → RuleOf r c leaves → Settled leaves (called_of (view_of r) c) s w → Done r c s w
settled {leaves} {r} c k l = record { shows = l.shows; waits = l.waits ∙ k (called_of (view_of r) c); says = l.says }

use Rattle.std.proofs.Common.{◌≡◌, length}
use Rattle.std.specs.List.{AllByRecursion}
use Rattle.drill_run.specs.Talks.{IsSessionOf}
use Rattle.drill_run.proofs.Making.{AreForgotten}
use Rattle.drill_run.proofs.sessions.Sessions.forget.Given as goal

abbrev pub invariant-loop-responder : goal.invariant-loop-responder
invariant-loop-responder l = record {
  fit : AllByRecursion (IsSessionOf l.fn.self.settings) l.responder-items;
  number : length l.responder-items ≡ length l.fn.self.responders.items;
  none : AreForgotten l.responder-index l.responder-items;
}

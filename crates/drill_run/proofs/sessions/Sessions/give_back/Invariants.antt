use Rattle.drill_run.proofs.Closing.{AreGivenBack}
use Rattle.drill_run.proofs.sessions.Sessions.give_back.Given as goal

abbrev pub invariant-loop-responder : goal.invariant-loop-responder
invariant-loop-responder l =
    AreGivenBack l.fn.self.responders.items l.fn.world l.world l.responder-index l.responder-items

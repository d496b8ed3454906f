use Rattle.drill_run.proofs.Making.{AreNew}
use Rattle.drill_run.proofs.sessions.Sessions.new.Given as goal

abbrev pub invariant-loop : goal.invariant-loop
invariant-loop l = AreNew l.settings l.counter l.responders.items

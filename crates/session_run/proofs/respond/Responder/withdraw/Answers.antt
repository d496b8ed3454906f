use Rattle.session_run.proofs.respond.Responder.withdraw.Goals as goal

pub returns-clause-answered : goal.returns-clause-answered
returns-clause-answered g c = c.commit.ensures _ _

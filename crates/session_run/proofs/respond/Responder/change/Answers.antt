use Rattle.session_run.proofs.respond.Responder.change.Goals as goal

pub returns-clause-answered : goal.returns-clause-answered
returns-clause-answered g c = c.change_text.ensures _ _

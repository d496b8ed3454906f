use Rattle.session_acts.proofs.Told.{services-are-true}
use Rattle.session_acts.proofs.laws.services_are_true.Goals as goal

pub returns : goal.returns
returns c = services-are-true c.dialogues_are_true.ensures

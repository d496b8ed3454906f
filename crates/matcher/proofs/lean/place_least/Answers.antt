use Rattle.matcher.proofs.Leans.{none_used}
use Rattle.matcher.proofs.lean.place_least.Goals as goal

pub place_rest-requires-clause-used : goal.place_rest-requires-clause-used
place_rest-requires-clause-used c = none_used

use Rattle.valence.proofs.Law.{twice-is-once}
use Rattle.valence.proofs.laws.twice_is_once.Goals as goal

pub returns : goal.returns
returns c = twice-is-once

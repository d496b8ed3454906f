use Rattle.valence.proofs.Law.{order-stays}
use Rattle.valence.proofs.laws.order_stays.Goals as goal

pub returns : goal.returns
returns c = order-stays

use Rattle.store_core.specs.Stored.{HoldsPin}
use Rattle.store_rows.proofs.tests.searches.has_thirds.Given as goal

abbrev pub invariant-loop-step : goal.invariant-loop-step
invariant-loop-step g l = HoldsPin l.store l.search.slot l.search.version

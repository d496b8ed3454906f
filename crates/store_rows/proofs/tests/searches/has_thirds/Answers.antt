use Rattle.std.proofs.Common.{inr, refl}
use Rattle.store_rows.proofs.tests.searches.has_thirds.Goals as goal

pub loop-step-init : goal.loop-step-init
loop-step-init g c =
    (c.in-Ok.ensures.held c.in-Ok.search.slot c.in-Ok.search.version).1
    (inr (refl, refl))

pub add_next-requires-after_bounds : goal.add_next-requires-after_bounds
add_next-requires-after_bounds g c κs lives = c.loop-step.invariant

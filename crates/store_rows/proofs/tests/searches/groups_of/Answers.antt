use Rattle.std.proofs.Common.{inr, refl}
use Rattle.store_rows.proofs.tests.searches.groups_of.Goals as goal

pub add_next-requires-after_bounds : goal.add_next-requires-after_bounds
add_next-requires-after_bounds g c κs _ =
    (c.in-Ok.ensures.held c.in-Ok.search.slot c.in-Ok.search.version).1 (inr (refl, refl))

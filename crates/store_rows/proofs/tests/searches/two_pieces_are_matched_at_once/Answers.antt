use Rattle.std.proofs.Common.{inr, refl}
use Rattle.store_rows.proofs.tests.searches.two_pieces_are_matched_at_once.Goals as goal

pub is_next-requires-after_bounds : goal.is_next-requires-after_bounds
is_next-requires-after_bounds g c κs =
    (c.in-Ok.ensures.held c.in-Ok.search.slot c.in-Ok.search.version).1 (inr (refl, refl))

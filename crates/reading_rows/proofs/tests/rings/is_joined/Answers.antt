use Rattle.std.proofs.Common.{arith}
use Rattle.reading_rows.proofs.Drawn.{none_joins}
use Rattle.reading_rows.proofs.tests.rings.is_joined.Goals as goal

pub returns : goal.returns
returns c = none_joins _ _ _ (λ k d l. c.loop-bond.invariant k d (omega arith))

use Rattle.std.proofs.Common.{arith}
use Rattle.store_core.specs.Stored.{alone, empty, served}
use Rattle.store_rows.proofs.tests.kept.empty.Goals as goal

pub returns : goal.returns
returns c = (alone (served (empty 400)), c.fresh.ensures, λ e within a. absurd (omega (arith, within.1)))

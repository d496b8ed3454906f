use Rattle.std.proofs.Common.{sym}
use Rattle.store_core.proofs.kept.KeptEntries.readings.Goals as goal

pub returns-clause-ahead : goal.returns-clause-ahead
returns-clause-ahead c = rw (sym c.self.view_is) c.readings.ensures.ahead

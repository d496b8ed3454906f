use Rattle.std.proofs.Common.{sym}
use Rattle.store_core.proofs.kept.KeptEntries.latest.Goals as goal

pub returns : goal.returns
returns c = rw (sym c.self.view_is) c.latest_of.ensures

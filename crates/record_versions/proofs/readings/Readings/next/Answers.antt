use Rattle.std.proofs.Common.{sym}
use Rattle.record_versions.proofs.readings.Readings.next.Goals as goal

pub returns-clause-next : goal.returns-clause-next
returns-clause-next g c = rw (sym c.self.view_is) c.next_at.ensures

use Rattle.disk_pair.proofs.Calls.{stands_shows}
use Rattle.disk_pair.proofs.law.a_crash_leaves_one.Goals as goal

pub returns : goal.returns
returns g c s st = stands_shows g.D.Disk.model c.args._pair.now s st

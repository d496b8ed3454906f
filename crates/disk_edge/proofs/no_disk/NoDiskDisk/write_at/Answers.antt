use Rattle.std.proofs.Common.{length}
use Rattle.disk_edge.proofs.Untold.{any_tears}
use Rattle.disk_edge.proofs.no_disk.NoDiskDisk.write_at.Goals as goal

pub returns-clause-images : goal.returns-clause-images
returns-clause-images c = any_tears c.args._at (length c.args._bytes.now) c.args.self.now c.args.self.now

use Rattle.disk_pair.proofs.Doubtful.{commit_shown, finish_shown}
use Rattle.disk_pair.proofs.law.a_crash_may_leave_a_doubt.Goals as goal

pub returns-clause-commit : goal.returns-clause-commit
returns-clause-commit g c = commit_shown g.D.Disk.model g.met.D.Disk.content_is_image c.args._pair.now

pub returns-clause-finish : goal.returns-clause-finish
returns-clause-finish g c = finish_shown g.D.Disk.model g.met.D.Disk.content_is_image c.args._pair.now

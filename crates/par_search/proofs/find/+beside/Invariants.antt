use Rattle.std.proofs.Common.{◌+◌, ◌*◌, length}
use Rattle.par_search.proofs.find.+beside.Given as goal

abbrev pub decreases-Shares::find_beside : goal.decreases-Shares::find_beside
decreases-Shares::find_beside g l = 3 * length l.workers.now

abbrev pub decreases-Shares::find_one_beside : goal.decreases-Shares::find_one_beside
decreases-Shares::find_one_beside g l = 3 * length l.rest.now + 2

abbrev pub decreases-Shares::find_one_beside-behind : goal.decreases-Shares::find_one_beside-behind
decreases-Shares::find_one_beside-behind g l = 3 * length l.rest.now + 1

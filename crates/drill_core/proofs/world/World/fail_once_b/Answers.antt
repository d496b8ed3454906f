use Rattle.std.proofs.Common.{sym}
use Rattle.drill_core.proofs.Drills.{raised-on-b}
use Rattle.drill_core.proofs.world.World.fail_once_b.Goals as goal

pub returns-clause-bound : goal.returns-clause-bound
returns-clause-bound c =
    rw (sym c.self.view_is, c.fail_once_b.ensures.only) (raised-on-b c.self.inside.store c.args.call)

use Rattle.std.proofs.Common.{sym}
use Rattle.drill_core.proofs.Worlds.{still}
use Rattle.drill_core.proofs.world.WorldService.compact.Goals as goal

pub invariant_of-self : goal.invariant_of-self
invariant_of-self c =
    still c.self.inside.store c.compact.new.self c.self.inside.commits _ c.self.invariant c.compact.ensures.call

pub returns-clause-held : goal.returns-clause-held
returns-clause-held c = rw (sym c.self.view_is) c.compact.ensures.held

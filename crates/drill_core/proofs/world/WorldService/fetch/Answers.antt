use Rattle.std.proofs.Common.{sym}
use Rattle.drill_core.proofs.Worlds.{still}
use Rattle.drill_core.proofs.world.WorldService.fetch.Goals as goal

pub invariant_of-self : goal.invariant_of-self
invariant_of-self g c =
    still c.self.inside.store c.fetch.new.self c.self.inside.commits _ c.self.invariant c.fetch.ensures.call

pub returns-clause-held : goal.returns-clause-held
returns-clause-held g c = rw (sym c.self.view_is) c.fetch.ensures.held

use Rattle.std.proofs.Common.{sym}
use Rattle.drill_core.proofs.Worlds.{still}
use Rattle.drill_core.proofs.world.WorldService.pin.Goals as goal

pub invariant_of-self : goal.invariant_of-self
invariant_of-self c =
    still c.self.inside.store c.pin.new.self c.self.inside.commits _ c.self.invariant c.pin.ensures.call

pub returns-clause-held : goal.returns-clause-held
returns-clause-held c = rw (sym c.self.view_is) c.pin.ensures.held

pub returns-clause-apart : goal.returns-clause-apart
returns-clause-apart c = rw (sym c.self.view_is) c.pin.ensures.apart

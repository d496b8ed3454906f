use Rattle.std.proofs.Common.{◌∷◌, [], arith, refl}
use Rattle.matcher.proofs.ring.+way_down.Goals as goal

pub returns-then-from-to-clause-way : goal.returns-then-from-to-clause-way
returns-then-from-to-clause-way t c = ([], refl, c.if-from-to.true)

pub returns-clause-way : goal.returns-clause-way
returns-clause-way t c =
    let rest = c.in_ok-links.ensures.way in
    (c.in_ok-next.next ∷ rest.0, omega arith, (c.in_ok-next.ensures.lower, (_, c.in_ok-next.ensures.joined), rest.2))

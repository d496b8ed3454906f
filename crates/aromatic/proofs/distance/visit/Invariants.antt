use Rattle.aromatic.specs.Links.{links_in}
use Rattle.aromatic.proofs.Spreads.{IsVisit}
use Rattle.aromatic.proofs.distance.visit.Given as goal

abbrev pub invariant-loop-link : goal.invariant-loop-link
invariant-loop-link l = IsVisit (links_in l.links) l.target l.head l.atom l.farther l.link-items l.distances
    l.queue.items l.link-index

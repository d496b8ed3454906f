use Rattle.std.proofs.Common.{◌-◌, length}
use Rattle.aromatic.specs.Links.{links_in}
use Rattle.aromatic.specs.Distances.{IsSpread}
use Rattle.aromatic.proofs.distance.spread.Given as goal

abbrev pub invariant-loop-head : goal.invariant-loop-head
invariant-loop-head l = IsSpread (links_in l.links) l.target l.distances l.queue.items l.head

abbrev pub decreases-loop-head : goal.decreases-loop-head
decreases-loop-head l = length l.links - l.head

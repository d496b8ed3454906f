use Rattle.std.proofs.Common.{◌≤◌, length, arith}
use Rattle.std.proofs.lemmas.List.{get_or_default}
use Rattle.aromatic.specs.Links.{links_in}
use Rattle.aromatic.proofs.Routes.{length-links_in}
use Rattle.aromatic.proofs.Spreads.{spread-start, spread-end}
use Rattle.aromatic.proofs.distance.spread.Goals as goal

pub loop-head-init : goal.loop-head-init
loop-head-init c =
    rw (c.in_ok-push.ensures.items, c.clear.ensures.items, c.from.ensures)
    (spread-start (links_in c.args.links.now) c.args.target c.args.distances.now (rw length-links_in c.requires.target)
    (rw length-links_in c.requires.blank))

pub returns-clause-distances : goal.returns-clause-distances
returns-clause-distances c =
    let all : length c.loop-head.queue.items ≤ c.loop-head.head = omega arith in
    spread-end _ _ _ _ _ c.requires.closed c.requires.both_ways c.loop-head.invariant all

pub returns-clause-in_range : goal.returns-clause-in_range
returns-clause-in_range c = λ k d lt. rw (
  ← length-links_in c.args.links.now,
  get_or_default c.loop-head.queue.items k d 0 lt,
) (c.loop-head.invariant.in_range k lt)

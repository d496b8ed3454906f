use Rattle.std.proofs.Common.{◌≡◌, ◌<◌, ◌+◌, List, length, get_or, arith}
use Rattle.std.proofs.lemmas.List.{get_or_read}
use Rattle.aromatic.specs.declared.links.Link.{Link}
use Rattle.aromatic.specs.Links.{links_in}
use Rattle.aromatic.proofs.Routes.{linked_at}
use Rattle.aromatic.proofs.Spreads.{visit-push, visit-skip}
use Rattle.aromatic.proofs.distance.visit.Goals as goal
use Rattle.aromatic.proofs.distance.visit.Goals.{then-distances-from-eq-FAR+in_ok-push, else-distances-from-eq-FAR}

pub bounds-distances-from-in-loop-link : goal.bounds-distances-from-in-loop-link
bounds-distances-from-in-loop-link c =
    let link = linked_at (links_in c.args.links.now) c.index-atom.result.now c.links_of-link-items.result.now
    c.loop-link.link-index _ c.links_of-link-items.ensures c.loop-link-test.true in
    rw (c.from-in-loop-link.ensures, c.loop-link.invariant.spread.count) (c.requires.closed c.index-atom.result.now _
    (_, link))

pub loop-link-preserved : goal.loop-link-preserved
loop-link-preserved c =
    let links : List (List Link) = links_in c.args.links.now in
    let nexts : List Link = c.links_of-link-items.result.now in
    let d : Link = record { to = 0; bond = 0 } in
    let link = linked_at links c.index-atom.result.now nexts c.loop-link.link-index d c.links_of-link-items.ensures
    c.loop-link-test.true in
    let within : (get_or nexts c.loop-link.link-index d).to < length links = c.requires.closed c.index-atom.result.now _
    (_, link) in
    let at : c.index-atom.result.now ≡ get_or c.args.queue.now.items c.args.head 0 =
    get_or_read _ _ _ c.requires.head c.index-atom.ensures 0 in
    let close : get_or c.args.distances.now c.from.result 0 < 18 =
    rw (c.from.ensures, at) (c.requires.spread.near c.args.head c.requires.head) in
    let near : get_or c.args.distances.now c.from.result 0 + 1 < 18 = omega arith in
    elim c.if-distances-from-eq-FAR.branch [
      | then-distances-from-eq-FAR+in_ok-push w ↦
          let far = rw c.from-in-loop-link.ensures at w.if-distances-from-eq-FAR.true in
          rw (w.distances-is, w.queue-is, w.in_ok-push.ensures.items, w.from-then-distances-from-eq-FAR.ensures)
          (visit-push links c.args.target c.args.head c.index-atom.result.now _ nexts c.loop-link.distances
          c.loop-link.queue.items c.loop-link.link-index d c.loop-link.invariant near c.loop-link-test.true within
          far)
      | else-distances-from-eq-FAR w ↦
          let old = rw c.from-in-loop-link.ensures at w.if-distances-from-eq-FAR.false in
          rw (w.distances-is, w.queue-is)
          (visit-skip links c.args.target c.args.head c.index-atom.result.now _ nexts c.loop-link.distances
          c.loop-link.queue.items c.loop-link.link-index d c.loop-link.invariant c.loop-link-test.true within old)
    ]

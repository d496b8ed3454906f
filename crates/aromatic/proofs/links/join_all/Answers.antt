use Rattle.std.proofs.Common.{◌≡◌, length, subst, sym, arith, ◌∙◌}
use Rattle.aromatic.specs.Links.{AreLinks, links_in}
use Rattle.chem_core.specs.Sound.{ends_among}
use Rattle.aromatic.proofs.LinkLists.{links-more}
use Rattle.aromatic.proofs.Sketches.{bond-in_graph}
use Rattle.aromatic.proofs.Routes.{length-links_in}
use Rattle.aromatic.proofs.links.join_all.Goals as goal

pub join-requires-clause-each : goal.join-requires-clause-each
join-requires-clause-each c = sym c.loop-place.invariant.count ∙ length-links_in c.loop-place.links

pub join-requires-clause-a_in_range : goal.join-requires-clause-a_in_range
join-requires-clause-a_in_range c =
    rw (← length-links_in c.loop-place.links, c.loop-place.invariant.count) (bond-in_graph _ _ c.loop-place.place _
    c.requires.graph c.loop-place-test.true).0

pub join-requires-clause-b_in_range : goal.join-requires-clause-b_in_range
join-requires-clause-b_in_range c =
    rw (← length-links_in c.loop-place.links, c.loop-place.invariant.count) (bond-in_graph _ _ c.loop-place.place _
    c.requires.graph c.loop-place-test.true).1

pub loop-place-preserved : goal.loop-place-preserved
loop-place-preserved c = links-more _ _ _ _ _ _ _ c.loop-place-test.true c.loop-place.invariant c.join.auto.links
    c.in_ok-join.ensures

pub returns : goal.returns
returns c =
    let end : c.loop-place.place ≡ length c.args.bonds.now = omega arith in
    subst (λ k. AreLinks (ends_among c.args.bonds.now) c.args.bond_in_ring.now c.args.gives.now k
    (links_in c.loop-place.links)) end c.loop-place.invariant

use Rattle.aromatic.specs.Links.{links_in}
use Rattle.aromatic.proofs.LinkLists.{link-both}
use Rattle.aromatic.proofs.links.join.Goals as goal

pub returns-in_ok-add-2 : goal.returns-in_ok-add-2
returns-in_ok-add-2 c =
    let both = c.are_candidates.ensures.0 c.if-are_candidates.true in
    link-both (links_in c.args.links.now) (links_in c.add.new.links) (links_in c.add-then-are_candidates.new.links)
    c.args.gives.now c.args.place c.args.bond.a c.args.bond.b c.args.ring c.if-ring.true both.0 both.1
    c.in_ok-add.ensures c.in_ok-add-2.ensures

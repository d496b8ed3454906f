use Rattle.std.proofs.Common.{refl, sym, ◌∙◌}
use Rattle.aromatic.specs.Links.{links_in}
use Rattle.aromatic.proofs.MarkSteps.{ends_at_place}
use Rattle.aromatic.proofs.Routes.{length-links_in}
use Rattle.aromatic.proofs.Sketches.{bond-in_graph}
use Rattle.aromatic.proofs.Unlinks.{net-less}
use Rattle.aromatic.proofs.huckel.rule_out.Goals as goal

pub unlink-requires-clause-a_in_range : goal.unlink-requires-clause-a_in_range
unlink-requires-clause-a_in_range c = (bond-in_graph _ _ c.args.place _ c.requires.graph c.requires.place).0

pub unlink-requires-clause-b_in_range : goal.unlink-requires-clause-b_in_range
unlink-requires-clause-b_in_range c = (bond-in_graph _ _ c.args.place _ c.requires.graph c.requires.place).1

pub returns-clause-net : goal.returns-clause-net
returns-clause-net c gives net none =
    let here = ends_at_place c.args.bonds.now c.args.place _ c.requires.place in
    let len = length-links_in c.unlink.new.links ∙ c.unlink.auto.links ∙ sym (length-links_in c.args.links.now) in
    net-less _ c.args.possible.now _ gives (links_in c.args.links.now) (links_in c.unlink.new.links) c.args.place _ _
    here (rw c.requires.each c.requires.place) refl len c.unlink.ensures net none

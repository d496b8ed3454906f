use Rattle.aromatic.specs.Links.{AreLinks, links_in}
use Rattle.chem_core.specs.Sound.{ends_among}
use Rattle.aromatic.proofs.links.join_all.Given as goal

abbrev pub invariant-loop-place : goal.invariant-loop-place
invariant-loop-place l = AreLinks (ends_among l.bonds) l.bond_in_ring l.gives l.place (links_in l.links)

use Rattle.std.proofs.Common.{length}
use Rattle.chem_core.specs.Sound.{ends_among}
use Rattle.aromatic.specs.Links.{links_in}
use Rattle.aromatic.specs.Route.{AreMarksBelow, IsBlank, IsNet}
use Rattle.aromatic.proofs.huckel.mark_each.Given as goal

abbrev pub invariant-loop-place : goal.invariant-loop-place
invariant-loop-place l = record {
  net : IsNet (ends_among l.bonds) l.search.possible.items l.gives (links_in l.search.links.items);
  blank : IsBlank (length l.gives) l.search.scratch;
  marks : AreMarksBelow (ends_among l.bonds) l.gives l.place l.marks;
}

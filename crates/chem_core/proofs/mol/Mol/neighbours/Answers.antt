use Rattle.std.proofs.Common.{◌≡◌, ◌∙◌, ◌<◌, length, map, refl, slice_index, sym, subst}
use Rattle.chem_core.specs.Inside.{end_of}
use Rattle.chem_core.specs.Molecule.{IsMolecule}
use Rattle.chem_core.proofs.Facts.{kept-at}
use Rattle.chem_core.proofs.InTurn.{list-at}
use Rattle.chem_core.proofs.mol.Mol.neighbours.Goals as goal

pub returns : goal.returns
returns c =
    let facts = c.self.inside.facts.items in
    let items = c.self.inside.neighbours.items in
    let starts = map (λ f. f.first_neighbour) facts in
    let lists = c.self.invariant.lists in
    let within = subst (λ m. c.args.atom < length m.atoms) (sym c.self.view_is) c.requires in
    let first = kept-at (λ f. f.first_neighbour) (λ a k. k ≡ slice_index starts a) facts _
    (lists.turn.count ∙ lists.neighbours.count) (λ a h. refl) _ _ within (rw c.from-place.ensures at c.index.ensures) in
    let end : c.neighbours_end-end.result ≡ end_of items starts c.args.atom =
    rw (c.deref.ensures.value, c.from-place.ensures, c.len.ensures, c.self.inside.neighbours.ok.0)
    at c.neighbours_end-end.ensures in
    let found = list-at _ _ _ _ lists c.args.atom _ _ within (c.from-start.ensures ∙ first) end in
    record {
      each = rw (c.deref-2.ensures.value, ← c.self.view_is) found.0;
      count = rw (c.deref-2.ensures.value, ← c.self.view_is) found.1;
      valid = subst IsMolecule c.self.view_is c.self.invariant.molecule;
    }

use Rattle.std.proofs.Common.{◌≡◌, subst}
use Rattle.chem_core.specs.Component.{AreComponents}
use Rattle.chem_core.specs.Steps.{Network}
use Rattle.mol_finish.specs.Meant.{meant_atoms, meant_bonds}
use Rattle.mol_finish.proofs.Meaning.{made-molecule, made-network, made-rings, made-smallest}
use Rattle.mol_finish.proofs.molecule.molecule.Goals as goal

pub make_along-requires : goal.make_along-requires
make_along-requires c =
    let atoms : c.in_ok-atoms.atoms.items ≡ meant_atoms c.args.found.now.atoms.items c.args.found.now.valences.items
    c.args.sketch.now.atoms =
    rw (
      c.in_ok-atoms.ensures,
      c.deref.ensures.value,
      c.deref-2.ensures.value,
      c.deref-3.ensures.value,
      ← c.sketch.view_is,
    ) in
    let bonds : c.in_ok-bonds.bonds.items ≡ meant_bonds c.args.found.now.bonds.items c.args.sketch.now.bonds =
    rw (c.in_ok-bonds.ensures, c.deref-4.ensures.value, c.deref-5.ensures.value, ← c.sketch.view_is) in
    let network = made-network _ _ _ _ _ _ _ atoms bonds c.requires.adjacency in
    record {
      molecule = made-molecule _ _ _ _ _ _ atoms bonds c.requires.sound;
      adjacency = network;
      ring_bonds = made-rings c.args.sketch.now _ _ _ bonds c.requires.ring_bonds;
      smallest = made-smallest _ _ _ _ _ _ _ atoms bonds c.requires.smallest;
      components = subst (λ (g : Network). AreComponents g.atoms g.ends c.in_ok-components.components.items) network
          c.in_ok-components.ensures;
    }

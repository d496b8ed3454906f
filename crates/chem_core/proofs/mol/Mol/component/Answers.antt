use Rattle.std.proofs.Common.{◌<◌, length, sym, subst}
use Rattle.chem_core.specs.Component.{IsComponent}
use Rattle.chem_core.specs.Molecule.{bond_ends}
use Rattle.chem_core.proofs.Facts.{kept-at}
use Rattle.chem_core.proofs.mol.Mol.component.Goals as goal

pub returns : goal.returns
returns c =
    let within = subst (λ m. c.args.atom < length m.atoms) (sym c.self.view_is) c.requires in
    let ends = bond_ends c.self.inside.bonds.items in
    let kept = c.self.invariant.components in
    rw (← c.self.view_is)
    (kept-at (λ f. f.component) (IsComponent ends) _ _ kept.one_each kept.each _ _ within
    (rw c.from.ensures at c.index.ensures))

use Rattle.std.proofs.Common.{arith, sym, ap, subst}
use Rattle.std.proofs.lemmas.Grind.{common_steps}
use Rattle.chem_core.specs.Sound.{IsSound}
use Rattle.valence.proofs.Sums.{bond-in_graph, few_bonds_at}
use Rattle.valence.proofs.Hydrogens.{filled-few, filled-sound}
use Rattle.valence.proofs.fill.fill_hydrogens.Goals as goal

pub bond_sums-sums-requires-clause-in_range : goal.bond_sums-sums-requires-clause-in_range
bond_sums-sums-requires-clause-in_range c =
    rw (c.deref.ensures.value, ap (λ s. s.bonds) c.sketch.view_is)
    (λ k d h.
    let at = bond-in_graph c.args.sketch.now.bonds _ k d c.requires.graph h in
    let few = c.requires.graph.few_atoms in
    (omega (arith, at.0), omega (arith, at.1)))

pub bond_sums-sums-requires-clause-distinct : goal.bond_sums-sums-requires-clause-distinct
bond_sums-sums-requires-clause-distinct c =
    rw (c.deref.ensures.value, ap (λ s. s.bonds) c.sketch.view_is)
    (λ k d h. (bond-in_graph c.args.sketch.now.bonds _ k d c.requires.graph h).2)

pub bond_sums-sums-requires-clause-few : goal.bond_sums-sums-requires-clause-few
bond_sums-sums-requires-clause-few c =
    rw (c.deref.ensures.value, ap (λ s. s.bonds) c.sketch.view_is)
    (few_bonds_at _ _ c.requires.graph)

pub fill-requires-clause-few : goal.fill-requires-clause-few
fill-requires-clause-few c = λ a.
    rw (c.bond_sums-sums.ensures a, c.deref.ensures.value, ap (λ s. s.bonds) c.sketch.view_is)
    (few_bonds_at _ _ c.requires.graph a)

pub returns-clause-filled : goal.returns-clause-filled
returns-clause-filled c = grind (arith, common_steps)

pub returns-clause-sound : goal.returns-clause-sound
returns-clause-sound c = subst IsSound (sym (returns-clause-filled c)) (filled-sound c.args.sketch.now c.requires)

pub returns-clause-few : goal.returns-clause-few
returns-clause-few c = λ few. rw (ap (λ s. s.atoms) (returns-clause-filled c)) (filled-few c.args.sketch.now c.requires few)

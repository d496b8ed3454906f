use Rattle.std.proofs.Common.{ap, ◌∙◌}
use Rattle.std.proofs.lemmas.Result.{err_from_is_err_and}
use Rattle.valence.specs.Suppressed.{suppressed}
use Rattle.mol_finish.proofs.Stages.{structure-made, structure-refused, length-valences}
use Rattle.mol_finish.proofs.answer.of_sketch.Goals as goal

pub perceive_in-requires-clause-rings : goal.perceive_in-requires-clause-rings
perceive_in-requires-clause-rings c =
    rw c.deref.ensures.value (rw c.in_ok-adjacency.ensures at c.in_ok-rings.ensures.bonds)

pub returns-in_err-found : goal.returns-in_err-found
returns-in_err-found c =
    let p = err_from_is_err_and c.from_residual-in_err-found.result c.from_residual-in_err-found.ensures.1 in
    rw (p.1, p.2)
    (structure-refused c.args.sketch _ _ _ _ (c.suppress.ensures.suppressed
    ∙ ap suppressed c.fill_hydrogens.ensures.filled) (rw c.in_ok-adjacency.ensures at c.in_ok-rings.ensures.bonds)
    c.deref.ensures.value c.in_err-found.ensures.refused)

pub molecule-requires-clause-sums : goal.molecule-requires-clause-sums
molecule-requires-clause-sums c = length-valences _ _ _ _ _ c.in_ok-found.ensures.perceived

pub molecule-requires-clause-ring_bonds : goal.molecule-requires-clause-ring_bonds
molecule-requires-clause-ring_bonds c = rw c.in_ok-adjacency.ensures at c.in_ok-rings.ensures.bonds

pub molecule-requires-clause-smallest : goal.molecule-requires-clause-smallest
molecule-requires-clause-smallest c = rw c.in_ok-adjacency.ensures at c.in_ok-rings.ensures.atoms

pub returns : goal.returns
returns c =
    structure-made c.args.sketch _ _ _ _ _ _ _ (c.suppress.ensures.suppressed
    ∙ ap suppressed c.fill_hydrogens.ensures.filled) (rw c.in_ok-adjacency.ensures at c.in_ok-rings.ensures.bonds)
    c.deref.ensures.value c.in_ok-found.ensures.perceived c.in_ok-molecule.ensures

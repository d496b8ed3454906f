use Rattle.std.proofs.Common.{◌∙◌, ap, sym}
use Rattle.chem_core.proofs.Sorts.{ends-within}
use Rattle.chem_core.proofs.mol.Mol.make_along.Goals as goal

pub in_turn-requires-clause-rings : goal.in_turn-requires-clause-rings
in_turn-requires-clause-rings c =
    rw c.deref.ensures.value (c.requires.smallest.one_each ∙ sym (ap (λ n. n.atoms) c.requires.adjacency))

pub in_turn-requires-clause-components : goal.in_turn-requires-clause-components
in_turn-requires-clause-components c =
    rw c.deref-2.ensures.value (c.requires.components.one_each ∙ sym (ap (λ n. n.atoms) c.requires.adjacency))

pub count-requires : goal.count-requires
count-requires c =
    rw (c.deref-4.ensures.value, c.deref-5.ensures.value)
    (ends-within _ c.args.bonds.items c.requires.molecule.graph)

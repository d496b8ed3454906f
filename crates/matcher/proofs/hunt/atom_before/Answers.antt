use Rattle.std.proofs.Common.{◌≡◌, ◌⊎◌, ◌<◌, ap, arith, get_or, length, slice_index, subst, sym}
use Rattle.matcher.proofs.Hunts.{asks_bond}
use Rattle.matcher.proofs.hunt.atom_before.Goals as goal

pub returns-then-from-atoms-clause-asks : goal.returns-then-from-atoms-clause-asks
returns-then-from-atoms-clause-asks c =
    let task = c.args.task.now in
    let bond = c.index.result.now in
    let place = c.args.stop.place in
    let is = subst (λ k. bond ≡ get_or task.graph.now.bonds.items k bond) c.from-2.ensures c.index.ensures in
    let ends = subst (λ o. ((bond.a ≡ place) × (bond.b ≡ o)) ⊎ ((bond.a ≡ o) × (bond.b ≡ place)))
    (sym c.from-4.ensures) c.in_ok-other.ensures in
    let at : slice_index c.args.image.now c.from-4.result < length task.mol.now.atoms = omega
    (arith, ap length c.atoms.ensures.value) in
    asks_bond task c.args.image.now place c.args.stop.bond c.from-4.result bond c.requires (omega arith) is ends at

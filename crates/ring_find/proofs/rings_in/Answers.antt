use Rattle.ring_find.proofs.Ringed.{ring_bonds_from}
use Rattle.ring_find.proofs.rings_in.Goals as goal

pub returns-clause-bonds : goal.returns-clause-bonds
returns-clause-bonds c =
    rw (c.in_ok-bond_in_ring.ensures, c.deref-2.ensures.value) (ring_bonds_from _ _ c.in_ok-lengths.ensures)

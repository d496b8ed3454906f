use Rattle.chem_core.specs.Graph.{IsRingBond}
use Rattle.chem_core.specs.Molecule.{ends_of}
use Rattle.smarts_mean.proofs.Chosen.{Chosen}
use Rattle.smarts_mean.proofs.count.ring_bond_count.Given as goal

-- the ring bonds among those of the neighbours so far are counted
abbrev pub invariant-loop-bond : goal.invariant-loop-bond
invariant-loop-bond l = Chosen (λ p. IsRingBond (ends_of l.mol) p.1) l.neighbours l.bond-index l.count

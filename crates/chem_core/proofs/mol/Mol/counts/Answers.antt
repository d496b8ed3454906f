use Rattle.chem_core.proofs.mol.Mol.counts.Goals as goal

pub returns : goal.returns
returns c = rw (← c.self.view_is) c.self.invariant.counted

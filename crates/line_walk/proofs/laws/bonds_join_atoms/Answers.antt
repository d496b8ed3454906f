use Rattle.line_walk.proofs.InRange as range
use Rattle.line_walk.proofs.laws.bonds_join_atoms.Goals as goal

pub returns : goal.returns
returns g c tree atoms links h = range.bonds_join_atoms g.N.Notation.words tree atoms links h

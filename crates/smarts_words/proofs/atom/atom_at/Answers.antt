use Rattle.std.proofs.Common.{arith}
use Rattle.smiles_words.proofs.Fronts.{front_is}
use Rattle.smarts_words.proofs.AtomRead.{bracket_atom, ok_then}
use Rattle.smarts_words.proofs.atom.atom_at.Goals as goal

pub returns-in-91 : goal.returns-in-91
returns-in-91 c = ok_then c.bracket_at.result c.bracket_at.ensures (λ o at. bracket_atom _ c.args.bytes.now _ _
    (front_is c.args.bytes.now 91 c.in-91.len_at_least (omega arith)) at)

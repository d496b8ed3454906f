use Rattle.smarts_mean.specs.Table.{HoldsIn, Table}
use Rattle.smarts_parse.specs.declared.pattern.AtomPrim.TheVariants as atoms
use Rattle.matcher.proofs.Truths.{IsSeen}
use Rattle.matcher.proofs.candidates.symbol_truth_by_atom.Given as goal

-- the atoms from there on are seen
abbrev pub invariant-loop-bit : goal.invariant-loop-bit
invariant-loop-bit l = (t : Table) → IsSeen (HoldsIn t) l.mol (atoms.Symbol l.number l.lower) l.block l.bit l.word

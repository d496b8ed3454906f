use Rattle.std.proofs.Common.{length}
use Rattle.smarts_words.proofs.BondRead.{BondGoes}
use Rattle.smarts_words.proofs.bond.bond_at.Given as goal

abbrev pub invariant-operands : goal.invariant-operands
invariant-operands l = record { goes : BondGoes l.bytes l.rest l.postfix }

abbrev pub decreases-operands : goal.decreases-operands
decreases-operands l = length l.rest

use Rattle.std.proofs.Common.{map, length}
use Rattle.smarts_words.proofs.InsideRead.{InsideGoes}
use Rattle.smarts_words.proofs.inside.inside_at.Given as goal

abbrev pub invariant-operands : goal.invariant-operands
invariant-operands l = record { goes : InsideGoes l.bytes l.rest l.postfix (map (λ v. v.items) l.parts.items) }

abbrev pub decreases-operands : goal.decreases-operands
decreases-operands l = length l.rest

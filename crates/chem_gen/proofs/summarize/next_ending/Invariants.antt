use Rattle.std.proofs.Common.{◌≡◌, length}
use Rattle.chem_gen.specs.Summary.{lines_of, endings_in}
use Rattle.chem_gen.proofs.summarize.next_ending.Given as goal

-- the endings are those of what is left
abbrev pub invariant-loop-rest : goal.invariant-loop-rest
invariant-loop-rest l = endings_in (lines_of l.rest) ≡ endings_in (lines_of l.fn.text)

abbrev pub decreases-loop-rest : goal.decreases-loop-rest
decreases-loop-rest l = length l.rest

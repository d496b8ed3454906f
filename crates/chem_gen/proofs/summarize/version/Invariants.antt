use Rattle.std.proofs.Common.{◌≡◌, length}
use Rattle.chem_gen.specs.Summary.{lines_of, last_version}
use Rattle.chem_gen.proofs.Cuts.{version_from}
use Rattle.chem_gen.proofs.summarize.version.Given as goal

-- the version so far, and the lines that are left
abbrev pub invariant-loop-rest : goal.invariant-loop-rest
invariant-loop-rest l = version_from l.version (lines_of l.rest) ≡ last_version (lines_of l.fn.text)

abbrev pub decreases-loop-rest : goal.decreases-loop-rest
decreases-loop-rest l = length l.rest

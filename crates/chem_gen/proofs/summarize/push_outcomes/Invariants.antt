use Rattle.std.proofs.Common.{◌≡◌, ◌++◌, drop}
use Rattle.chem_gen.specs.Script.{patterns}
use Rattle.chem_gen.specs.Summary.{lines_of, endings_in, outcomes}
use Rattle.chem_gen.proofs.summarize.push_outcomes.Given as goal

-- what is written, and the outcomes that are left
abbrev pub invariant-loop-place : goal.invariant-loop-place
invariant-loop-place l = l.out.items ++ outcomes (drop l.place patterns) (endings_in (lines_of l.rest)) ≡ l.fn.out.items
    ++ outcomes patterns (endings_in (lines_of l.text))

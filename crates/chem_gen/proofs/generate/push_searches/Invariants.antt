use Rattle.std.proofs.Common.{◌≡◌, ◌++◌}
use Rattle.chem_gen.specs.Script.{searches}
use Rattle.chem_gen.proofs.Picks.{searches_from}
use Rattle.chem_gen.proofs.generate.push_searches.Given as goal

-- what is written, and the searches that are left
abbrev pub invariant-loop-place : goal.invariant-loop-place
invariant-loop-place l = l.out.items ++ searches_from l.place ≡ l.fn.out.items ++ searches

use Rattle.std.proofs.Common.{length, ◌≡◌}
use Rattle.chemdb.proofs.files.open_scripts.Given as goal

-- an end for each script
abbrev pub invariant-loop-script : goal.invariant-loop-script
invariant-loop-script g l = length l.ends.items ≡ l.script-index

use Rattle.std.proofs.Common.{length, ◌≡◌, ◌≤◌}
use Rattle.chem_rows.proofs.tests.ends.Given as goal

-- an end for each turn
abbrev pub invariant-loop : goal.invariant-loop
invariant-loop l = (length l.ends.items ≡ l.counter) × (l.counter ≤ l.count)

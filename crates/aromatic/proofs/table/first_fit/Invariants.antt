use Rattle.std.proofs.Common.{◌≡◌, find, drop}
use Rattle.aromatic.specs.Electrons.{fits}
use Rattle.aromatic.proofs.table.first_fit.Given as goal

abbrev pub invariant-loop-row : goal.invariant-loop-row
invariant-loop-row l = find (λ row. fits row l.environment) l.rows ≡ find (λ row. fits row l.environment)
    (drop l.row-index l.rows)

use Rattle.std.proofs.Common.{◌≡◌, ◌<◌, ◌≤◌, ℕ, Bool, true, false, List, length, get_or}
use Rattle.chem_core.specs.Component.{Reaches}
use Rattle.chem_core.specs.Molecule.{ends_of}
use Rattle.matcher.proofs.Pigeons.{marks}
use Rattle.matcher.proofs.group.has_few_atoms.Given as goal

-- a mark for each atom so far that is in the component
abbrev pub invariant-loop-other : goal.invariant-loop-other
invariant-loop-other l = record {
  few : l.found ≤ l.other;
  marked : (seats : List Bool) × (length seats ≡ l.other) × (marks seats ≡ l.found)
      × ((a : ℕ) → a < l.other → Reaches (ends_of l.mol) l.atom a → get_or seats a false ≡ true);
}

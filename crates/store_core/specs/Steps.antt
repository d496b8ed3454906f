-- The number of entries that a fetch reads. For callers. One step is one reading of an entry, from its chain or from
-- the index beside the chains. The types of `record_versions` give no entry's value without a step.
use Rattle.std.specs.Prelude.{◌≡◌, ◌≢◌, ◌+◌, ◌≤◌, All, AllPairs, Bool, Contains, length, List, ℕ}
use Rattle.store_machine.specs.Answers.{IsAnswer}
use Rattle.store_machine.specs.Structures.{IsScreened}
use Rattle.store_machine.specs.declared.machine.Entry.{Entry}
use Rattle.store_machine.specs.declared.machine.State.{State}

-- From one number to another there is a step for each of these entries. They are kept and live, from an identifier on,
-- their prints hold the wanted bits, and no two are of one identifier.
pub record AreSteps (s : State) (from : ℕ) (want : List Bool) (old new : ℕ) : Type 0 where
  pub entries : List Entry
  pub count : new ≡ old + length entries
  pub apart : AllPairs (λ x y. x.id ≢ y.id) entries
  pub each : All (λ e. (from ≤ e.id) × Contains s.kept e × IsAnswer (IsScreened want) s.history e.version e.id) entries

use Rattle.std.proofs.Common.{◌≡◌, ◌+◌, ◌++◌, ◌≤◌, ◌-◌, All, length, List}
use Rattle.store_machine.specs.Answers.{AreFound, from_on}
use Rattle.store_machine.specs.History.{IsId, snapshot}
use Rattle.store_machine.specs.Structures.{IsScreened}
use Rattle.store_machine.specs.declared.machine.Found.{Found}
use Rattle.store_machine.specs.declared.machine.State.{State}
use Rattle.store_core.specs.Records.{RecordTerm, founds}
use Rattle.store_core.specs.Stored.{StandsFor, served}
use Rattle.store_core.specs.Waiting.{values}
use Rattle.store_core.proofs.Stepped.{SoFar}
use Rattle.store_core.proofs.store.Store.fill.Given as goal

abbrev pub invariant-loop-next : goal.invariant-loop-next
invariant-loop-next g l = record {
  later : l.from ≤ l.place;
  finder : l.finder ≡ l.self.kept.chains;
  goes_on : (s : State) → StandsFor l.self (served s) → (all : List Found)
      → AreFound (IsScreened l.want) (snapshot s.history l.pin.version) all
      → from_on l.from all ≡ founds (l.page.records ++ l.waiting) ++ from_on l.place all;
  taken : (s : State) → StandsFor l.self (served s) → SoFar s l.from l.place l.want l.fn.steps l.steps;
  few : length l.page.records + length l.waiting ≤ l.limit;
  in_range : All (λ (r : RecordTerm). IsId r.id) (values (l.page.records ++ l.waiting));
  room : l.page.room ≡ l.fn.page.room;
}

abbrev pub decreases-loop-next : goal.decreases-loop-next
decreases-loop-next g l = 4294967296 - l.place

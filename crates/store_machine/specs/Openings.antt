-- The state after an opening, to which a crash and an opening lead.
use Rattle.std.specs.Prelude.{◌≡◌, List, [], ◌∷◌, None, true, ℕ}
use Rattle.store_machine.specs.History.{head}
use Rattle.store_machine.specs.Machine.{AreNeeded, Recovers, crashed}
use Rattle.store_machine.specs.Runs.{IsRun}
use Rattle.store_machine.specs.declared.machine.Event.TheVariants.{Crash, Open}
use Rattle.store_machine.specs.declared.machine.Reply.TheVariants.{Crashed, Opened}
use Rattle.store_machine.specs.declared.machine.State.{State}
use Rattle.store_machine.specs.declared.machine.Step.{Step}
use Rattle.store_machine.specs.declared.machine.Times.{Times}

-- A state after an opening: it serves, nothing is pinned, copied or in doubt, the disk's base is the history's, and
-- exactly the entries that the head reads are kept.
pub record IsOpened (commits : ℕ) (s : State) : Type 0 where
  pub serves : s.serves ≡ true
  pub limit : s.limit ≡ commits
  pub pins : s.pins ≡ []
  pub base : s.base ≡ s.history.version
  pub copy : s.copy ≡ None
  pub doubt : s.doubt ≡ None
  pub finish : s.finish ≡ None
  pub kept : AreNeeded s s.kept

-- a crash at a time, and an opening from one time to another, which leaves the second state
abbrev pub reopening : State → State → Times → Times → Times → List Step
reopening s t at begin end =
    record
    { owner = 0; event = Crash; reply = Crashed; before = s; after = crashed s t.history t.generation; begin = at; end = at }
    ∷ record {
      owner = 0;
      event = Open;
      reply = Opened (head t.history);
      before = crashed s t.history t.generation;
      after = t;
      begin = begin;
      end = end;
    } ∷ []

-- each state that a crash may recover can be opened
abbrev pub CrashOpens : Type 0
CrashOpens = (s t : State) (at begin end : Times) → Recovers s t.history t.generation → IsOpened s.limit t
    → IsRun s (reopening s t at begin end) t

-- The versions that the replies of a run show, and the commits that it made.
use Rattle.std.specs.Prelude.{◌≡◌, ◌⊎◌, ◌+◌, ◌++◌, ◌≤◌, Bool, length, List, [], ◌∷◌, Some, ℕ}
use Rattle.store_machine.specs.History.{grown, head, made_at}
use Rattle.store_machine.specs.Laws.{IsSound}
use Rattle.store_machine.specs.Runs.{IsCalm, IsRun, calls_of}
use Rattle.store_machine.specs.Searches.{KeepsPin}
use Rattle.store_machine.specs.declared.machine.Change.{Change}
use Rattle.store_machine.specs.declared.machine.Event.{Event}
use Rattle.store_machine.specs.declared.machine.Event.TheVariants.{Commit, Pin}
use Rattle.store_machine.specs.declared.machine.History.{History}
use Rattle.store_machine.specs.declared.machine.Reply.{Reply}
use Rattle.store_machine.specs.declared.machine.Reply.TheVariants.{Committed, Counted, Looked, Pinned}
use Rattle.store_machine.specs.declared.machine.State.{State}
use Rattle.store_machine.specs.declared.machine.Step.{Step}

-- the reply shows this version
abbrev pub TellsVersion : Reply → ℕ → Type 0
TellsVersion (Committed version) v = v ≡ version
TellsVersion (Pinned slot version) v = v ≡ version
TellsVersion (Looked (Some status)) v = v ≡ made_at status
TellsVersion (Counted version live withdrawn kept pins) v = v ≡ version
TellsVersion _ v = ⊥

-- one of these replies shows this version
abbrev pub IsTold : List (Event × Reply) → ℕ → Type 0
IsTold [] v = ⊥
IsTold (c ∷ cs) v = TellsVersion c.1 v ⊎ IsTold cs v

-- the commit that is acknowledged by the answer to a call
abbrev pub made_by : Change → Reply → List Change
made_by c (Committed version) = c ∷ []
made_by c _ = []

abbrev pub made : Event → Reply → List Change
made (Commit c) reply = made_by c reply
made _ reply = []

-- the commits that steps acknowledged, in order
abbrev pub acknowledged : List Step → List Change
acknowledged [] = []
acknowledged (x ∷ xs) = made x.event x.reply ++ acknowledged xs

-- without a crash, a run adds the commits that it acknowledged to the history
abbrev pub RunsAdd : Type 0
RunsAdd = (s s' : State) (steps : List Step) → IsRun s steps s' → IsCalm steps
    → s'.history ≡ grown s.history (acknowledged steps)

-- commit k of a history
abbrev pub IsCommit : History → ℕ → Change → Type 0
IsCommit h k c = (before more : List Change) × (h.commits ≡ before ++ c ∷ more) × (k ≡ h.version + length before + 1)

-- every commit that was acknowledged as commit k is commit k of the history that the run leaves
abbrev pub CommitsStand : Type 0
CommitsStand = (s s' : State) (steps : List Step) (own : ℕ → Bool) (c : Change) (k : ℕ)
    (before later : List (Event × Reply)) → IsRun s steps s' → IsCalm steps
    → calls_of own steps ≡ before ++ (Commit c, Committed k) ∷ later → IsCommit s'.history k c

-- no reply shows a version to come
abbrev pub ToldIsThere : Type 0
ToldIsThere = (s s' : State) (steps : List Step) (own : ℕ → Bool) (v : ℕ) → IsSound s → IsRun s steps s'
    → IsCalm steps → IsTold (calls_of own steps) v → v ≤ head s'.history

-- a caller's pin was given back before its slot is taken again
abbrev pub SlotsWereFree : Type 0
SlotsWereFree = (s s' : State) (steps : List Step) (own : ℕ → Bool) (slot v v' : ℕ)
    (before pages later : List (Event × Reply)) → IsRun s steps s' → IsCalm steps
    → calls_of own steps ≡ before ++ (Pin, Pinned slot v) ∷ (pages ++ (Pin, Pinned slot v') ∷ later)
    → ¬ KeepsPin slot pages

-- a pin is of no version to come, and of no version before one that its caller saw
abbrev pub PinsAreNew : Type 0
PinsAreNew = (s s' : State) (steps : List Step) (own : ℕ → Bool) (slot version : ℕ)
    (before later : List (Event × Reply)) → IsSound s → IsRun s steps s' → IsCalm steps
    → calls_of own steps ≡ before ++ (Pin, Pinned slot version) ∷ later
    → (version ≤ head s'.history) × ((v : ℕ) → IsTold before v → v ≤ version)

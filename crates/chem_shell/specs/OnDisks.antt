-- For callers: the disks after `init`, `run` and `serve`.
use Rattle.std.specs.Prelude.{◌≡◌, ◌≢◌, ◌⊎◌, ◌++◌, ◌^◌, ◌≤◌, ℕ, suc, All, IfSome, List, [], ◌∷◌, length, Option, true}
use Rattle.std.specs.List.{AllByRecursion}
use Rattle.disk_edge.specs.Disk.{DiskModel, Exactly, IfTold}
use Rattle.journal_core.specs.Journal.{IsEmptyJournal}
use Rattle.journal_core.specs.Looks.{Narrows, Stays}
use Rattle.io_edge.specs.Lines.{lines_of}
use Rattle.session_acts.specs.Cursors.{Calls}
use Rattle.session_acts.specs.Served.{TakesAtMost, Writes}
use Rattle.session_acts.specs.Served.{WornAt}
use Rattle.session_acts.specs.Truths.{IsTrueBeginning}
use Rattle.store_disk.specs.Loads.{OpensAfter, OpensTo}
use Rattle.store_disk.specs.Stored.{AreClocked, IsCaused}
use Rattle.store_disk.specs.declared.disks.Disks.{Disks}
use Rattle.store_machine.specs.Laws.{IsSound}
use Rattle.store_machine.specs.Openings.{IsOpened}
use Rattle.store_machine.specs.Runs.{IsCalm, IsRun, calls_of}
use Rattle.store_machine.specs.declared.machine.History.{History}
use Rattle.store_machine.specs.declared.machine.State.{State}
use Rattle.store_machine.specs.declared.machine.Step.{Step}
use Rattle.store_machine.specs.declared.machine.Times.{Times}
use Rattle.turn_gate.specs.Numbers.{has}
use Rattle.chem_shell.specs.Contents.{IfBothTell}
use Rattle.chem_shell.specs.Crashes.{ShowsAt}
use Rattle.chem_shell.specs.Ends.{ServesScript, with_status}
use Rattle.chem_shell.specs.Status.{IsCreationStatus, IsLoadStatus}
use Rattle.chem_shell.specs.declared.request.Plan.{Plan}
use Rattle.chem_shell.specs.declared.settings.TheConstants.{INPUT_LIMIT}
use Rattle.serve_ends.specs.declared.end.End.{End}
use Rattle.serve_ends.specs.declared.status.TheConstants.{DONE, NO_MEMORY, WORN}
use Rattle.chem_shell.specs.declared.status.TheConstants.{DISK_FAULT, NOT_EMPTY}

-- `init`: if it is done, both disks were empty, `a` has the empty store, and no crash leaves a byte on `b`. If a disk
-- has bytes, both are as before. If memory ran out, `a` is as before. `b` is only read and synced in any case. A disk
-- fault leaves `a` as it was if either disk has bytes
pub record Creates {D : Type 0} (model : DiskModel D) (old new : Disks D) (status : ℕ) : Type 0 where
  pub status_is : IsCreationStatus status
  pub done : status ≡ DONE → IfTold (model.content old.a) (λ l. (l ≡ []) × IsEmptyJournal model new.a)
  pub done_b : status ≡ DONE → IfTold (model.content old.b) (λ l. (l ≡ []) × Exactly [] (model.images new.b))
  pub not_empty : status ≡ NOT_EMPTY → IfBothTell model old (λ x y. (1 ≤ length x) ⊎ (1 ≤ length y))
  pub stays : (status ≡ NOT_EMPTY) ⊎ (status ≡ NO_MEMORY) → Stays model old.a new.a
  pub stays_b : status ≡ NOT_EMPTY → IfTold (model.content old.a) (λ _. Stays model old.b new.b)
  pub narrows_b : Narrows model old.b new.b
  pub kept : status ≡ DISK_FAULT → IfTold (model.content old.a) (λ l. 1 ≤ length l → Stays model old.a new.a)
  pub kept_b : status ≡ DISK_FAULT → IfTold (model.content old.b) (λ l. 1 ≤ length l → Stays model old.a new.a)

-- The calls are all calls of a run without a crash that begins with the history of the disks. The steps lie one after
-- the other on the disks' clocks, from the time of the loading to now. A crash during the loading left images that the
-- disks had. One at a moment of a step leaves of each disk an image of a moment of that step. Each two of these open to
-- each commit that was acknowledged before it, in order, and at most one more. Now each two images open to the run's
-- history, or to this and the commit in doubt, or to a copy whose finish is in doubt. They never open to a running
-- copy. The counts of faults in the run's states are the disks'. Only a commit and a copy call a disk; their calls fail
-- only if a disk counted a fault
pub record AreOnDisks {D : Type 0} (model : DiskModel D) (commits : ℕ) (old new : Disks D) (calls : Calls) : Type 0
  where
    pub first : State
    pub steps : List Step
    pub last : State
    pub opened : IsOpened commits first
    pub sound : IsSound first
    pub opens : IfBothTell model old (OpensTo first.history first.generation)
    pub run : IsRun first steps last
    pub calm : IsCalm steps
    pub all : calls_of (λ _. true) steps ≡ calls
    pub loaded : Times
    pub ended : Times
    pub later : (model.clock old.a ≤ loaded.a) × (model.clock old.b ≤ loaded.b)
    pub clocked : AreClocked loaded steps ended
    pub now : ended ≡ record { a = model.clock new.a; b = model.clock new.b }
    pub loading_a : (image : List ℕ) → model.images_between new.a (model.clock old.a) loaded.a image
        → model.images old.a image
    pub loading_b : (image : List ℕ) → model.images_between new.b (model.clock old.b) loaded.b image
        → model.images old.b image
    pub moments : IfBothTell model new (λ _ _. (before after : List Step) (x : Step) (p q : List ℕ)
        → steps ≡ before ++ x ∷ after
        → model.images_between new.a x.begin.a x.end.a p → model.images_between new.b x.begin.b x.end.b q
        → ShowsAt first before x p q)
    pub left : IfBothTell model new (λ _ _. (p q : List ℕ) → model.images new.a p → model.images new.b q
        → OpensAfter last p q)
    pub causes : AllByRecursion IsCaused steps
    pub begins : (model.faults old.a ≤ first.faults.a) × (model.faults old.b ≤ first.faults.b)
    pub ends : last.faults ≡ record { a = model.faults new.a; b = model.faults new.b }

-- `run` after the store was loaded
pub record RunsOn {D S K : Type 0} (model : DiskModel D) (left : S → Option (List ℕ))
    (written : K → Option (List ℕ)) (plan : Plan) (disks disks' : Disks D) (old new : End S K) : Type 0 where
  pub calls : Calls
  pub on : AreOnDisks model plan.commits disks disks' calls
  pub script : ServesScript left written plan.page calls on.last.history old new

-- An end after a session at a desk, by its calls and the history of their run. If the hall had no turns left, the first
-- replies of a transcript were written, and nothing from the first unanswered call on
pub record ServesAtDesk {S K : Type 0} (left : S → Option (List ℕ)) (written : K → Option (List ℕ)) (page : ℕ)
    (calls : Calls) (history : History) (old new : End S K) : Type 0 where
  pub served : new.status ≢ WORN → ServesScript left written page calls history old new
  pub worn : new.status ≡ WORN → IfSome (left old.source) (λ script. Writes (written old.sink) (written new.sink)
      (λ text. WornAt page (lines_of script) calls text × IsTrueBeginning history page (lines_of script) calls text))
  pub within : TakesAtMost (left old.source) (left new.source) INPUT_LIMIT

-- each end was served at a desk by the calls of an owner of its own, in their order from one on
abbrev pub AreAtDesks : {S K : Type 0} → (S → Option (List ℕ)) → (K → Option (List ℕ)) → ℕ → List Step → History → ℕ
    → List (End S K) → List (End S K) → Type 0
AreAtDesks left written page steps history owner [] news = news ≡ []
AreAtDesks left written page steps history owner (old ∷ olds) [] = ⊥
AreAtDesks left written page steps history owner (old ∷ olds) (new ∷ news) =
    ServesAtDesk left written page (calls_of (has (owner ∷ [])) steps) history old new
    × AreAtDesks left written page steps history (suc owner) olds news

-- `serve` after the store was loaded: there is one run on the disks. Each end has the steps of one owner, from 1 on,
-- and each step has an owner among these. An end is worn only if the run has a step for each of the hall's turns
pub record ServesOn {D S K : Type 0} (model : DiskModel D) (left : S → Option (List ℕ))
    (written : K → Option (List ℕ)) (plan : Plan) (disks disks' : Disks D) (old new : List (End S K)) : Type 0 where
  pub calls : Calls
  pub on : AreOnDisks model plan.commits disks disks' calls
  pub each : AreAtDesks left written plan.page on.steps on.last.history 1 old new
  pub owners : All (λ x. (1 ≤ x.owner) × (x.owner ≤ length old)) on.steps
  pub worn : All (λ (end : End S K). end.status ≡ WORN → length on.steps ≡ 2 ^ 63) new

-- `run` if the store was not loaded: nothing was taken or put, and the disks were only read
pub record IsRefused {D S K : Type 0} (model : DiskModel D) (disks disks' : Disks D) (old new : End S K) : Type 0 where
  pub status : IsLoadStatus new.status
  pub end : new ≡ with_status new.status old
  pub disk_a : Narrows model disks.a disks'.a
  pub disk_b : Narrows model disks.b disks'.b

-- an end of `serve` if the store was not loaded: as for `run`, with this status
abbrev pub IsRefusedAs : {D S K : Type 0} → DiskModel D → Disks D → Disks D → ℕ → End S K → End S K → Type 0
IsRefusedAs model disks disks' status old new = IsRefused model disks disks' old new × (new.status ≡ status)

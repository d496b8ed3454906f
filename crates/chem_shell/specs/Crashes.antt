-- For callers: the remains of a store on two disks after a crash at a moment of a step of a run.
use Rattle.std.specs.Prelude.{◌≡◌, ◌⊎◌, ◌++◌, ◌+◌, ℕ, List, [], ◌∷◌, Some}
use Rattle.store_disk.specs.Loads.{OpensTo}
use Rattle.store_machine.specs.History.{grown, rebase}
use Rattle.store_machine.specs.Machine.{IsWhole, MayAdd}
use Rattle.store_machine.specs.Told.{acknowledged}
use Rattle.store_machine.specs.declared.machine.Change.{Change}
use Rattle.store_machine.specs.declared.machine.Event.TheVariants.{Commit, Compact}
use Rattle.store_machine.specs.declared.machine.State.{State}
use Rattle.store_machine.specs.declared.machine.Step.{Step}

-- nothing, or one commit that was not acknowledged: the one in doubt before the step, or one that the step asks for and
-- may add
abbrev pub IsAtMostOne : Step → List Change → Type 0
IsAtMostOne x more = (more ≡ []) ⊎ ((c : Change) × (more ≡ c ∷ [])
    × ((x.before.doubt ≡ Some c) ⊎ ((x.event ≡ Commit c) × MayAdd x.before c)))

-- the copy of a version is open at a moment of the step: its finish was in doubt, or the step may finish it
abbrev pub MayFinish : Step → ℕ → Type 0
MayFinish x version = (x.before.finish ≡ Some version) ⊎ ((x.event ≡ Compact) × IsWhole x.before version)

-- The base and the generation are those from before the step, or those of such a copy, and then there is no such commit
abbrev pub IsBasedAt : Step → List Change → ℕ → ℕ → Type 0
IsBasedAt x more base generation = ((base ≡ x.before.base) × (generation ≡ x.before.generation))
    ⊎ (MayFinish x base × (generation ≡ x.before.generation + 1) × (more ≡ []))

-- The two images open to the history from before the run, and then the commits that earlier steps acknowledged, in
-- order. At most one more follows; all this from the base on
pub record ShowsAt (first : State) (before : List Step) (x : Step) (p q : List ℕ) : Type 0 where
  pub more : List Change
  pub one : IsAtMostOne x more
  pub base : ℕ
  pub generation : ℕ
  pub based : IsBasedAt x more base generation
  pub opens : OpensTo (rebase (grown first.history (acknowledged before ++ more)) base) generation p q

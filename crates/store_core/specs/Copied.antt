-- The states that a copy of a store reads from its memory, at the version at which it began. For callers.
use Rattle.std.specs.Prelude.{◌≡◌, ◌++◌, ◌<◌, ◌≤◌, All, Contains, IfSome, List, [], ◌∷◌, None, Option, option_copied, option_map, Some, true, ℕ}
use Rattle.store_machine.specs.Kept.{IsNeeded, IsPast, in_use}
use Rattle.store_machine.specs.Laws.{IsSound}
use Rattle.store_machine.specs.Machine.{PruneGives}
use Rattle.store_machine.specs.declared.machine.Entry.{Entry}
use Rattle.store_machine.specs.declared.machine.Reply.TheVariants.{Pruned}
use Rattle.store_machine.specs.declared.machine.State.{State}
use Rattle.store_machine.specs.declared.machine.Status.{Status}
use Rattle.store_core.specs.Kept.{status_in}
use Rattle.store_core.specs.Stored.{StandsFor, StoreTerm, served}
use Rattle.store_core.specs.declared.words.IdState.{IdState}

-- the history has the version, and each entry that is read there is kept
abbrev pub KeepsVersion : State → ℕ → Type 0
KeepsVersion s v = IsPast s v × ((entry : Entry) → IsNeeded s.history (v ∷ []) entry → Contains s.kept entry)

-- the version of the copy that runs, if one runs
abbrev pub copied_at : State → Option ℕ
copied_at s = option_map (λ copy. copy.version) s.copy

-- the version is that of the copy, and is kept
abbrev pub KeepsCopy : Option ℕ → State → Type 0
KeepsCopy version s = (version ≡ copied_at s) × IfSome s.copy (λ copy. KeepsVersion s copy.version)

-- each version in use is kept, and that of the copy
abbrev pub KeepsUsed : Type 0
KeepsUsed = (s : State) (v : ℕ) → IsSound s → s.serves ≡ true → Contains (in_use s) v → KeepsVersion s v

abbrev pub KeepsCopied : Type 0
KeepsCopied = (s : State) → IsSound s → s.serves ≡ true → KeepsCopy (copied_at s) s

-- the state that was found of an identifier, as a snapshot has it
abbrev pub state_of : IdState → ℕ × Status
state_of k = (k.id, status_in k.made_at (option_copied k.entry))

-- The first state at or after an identifier: those before it are of identifiers below that, those after it of greater
-- ones than its own.
pub record FirstFrom (from : ℕ) (es : List (ℕ × Status)) (e : ℕ × Status) : Type 0 where
  pub before : List (ℕ × Status)
  pub more : List (ℕ × Status)
  pub is : es ≡ before ++ e ∷ more
  pub late : from ≤ e.0
  pub lesser : All (λ x. x.0 < from) before
  pub greater : All (λ x. e.0 < x.0) more

-- `None` if all states are of identifiers below
abbrev pub IsFirstFrom : ℕ → List (ℕ × Status) → Option (ℕ × Status) → Type 0
IsFirstFrom from es None = All (λ x. x.0 < from) es
IsFirstFrom from es (Some e) = FirstFrom from es e

-- `dropped` entries were dropped: those left are the ones that the state needs, and the store represents the state with
-- them
pub record Prunes (new : StoreTerm) (s : State) (dropped : ℕ) : Type 0 where
  pub left : List Entry
  pub gives : PruneGives s (Pruned dropped) (record s { kept = left })
  pub stands : StandsFor new (served (record s { kept = left }))

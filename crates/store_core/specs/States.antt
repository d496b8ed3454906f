-- The states of a store in memory at a version, one identifier after another. For callers.
use Rattle.std.specs.Prelude.{◌≡◌, ◌+◌, IfSome, Option, option_map, ℕ}
use Rattle.std.specs.FinMap.{entries}
use Rattle.record_versions.specs.Readings.{IsAhead}
use Rattle.store_machine.specs.History.{IsId, snapshot}
use Rattle.store_machine.specs.declared.machine.State.{State}
use Rattle.store_core.specs.Copied.{IsFirstFrom, KeepsVersion, state_of}
use Rattle.store_core.specs.Kept.{Chains}
use Rattle.store_core.specs.Stored.{Served, StandsFor, StoreTerm, served}
use Rattle.store_core.specs.declared.words.IdState.{IdState}

-- the store, the chains that were not passed yet, and the version at which they are read
pub record StatesTerm : Type 0 where
  pub store : StoreTerm
  pub ahead : Chains
  pub version : ℕ

-- they go on from an identifier
abbrev pub GoOn : ℕ → ℕ → StatesTerm → Type 0
GoOn version from states = (states.version ≡ version) × IsAhead from states.store.kept.chains states.ahead

-- What comes next is the first state from an identifier on, if there is one, and the others go on behind it.
pub record GivesState (old new : StatesTerm) (version from : ℕ) (result : Option IdState) : Type 0 where
  pub first : (s : State) → StandsFor old.store (served s) → KeepsVersion s version
      → IsFirstFrom from (entries (snapshot s.history version)) (option_map state_of result)
  pub in_range : (s : Served) → StandsFor old.store s → IfSome result (λ k. IsId k.id)
  pub goes_on : IfSome result (λ k. GoOn version (k.id + 1) new)

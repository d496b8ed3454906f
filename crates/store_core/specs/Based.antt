-- A store that was given the status of each identifier at a version, and nothing else. For callers.
use Rattle.std.specs.Prelude.{◌++◌, ◌<◌, All, List, [], ◌∷◌, map, ℕ}
use Rattle.store_machine.specs.History.{made_at}
use Rattle.store_machine.specs.declared.machine.Status.{Status}
use Rattle.store_core.specs.Stored.{Served, StandsFor, StoreTerm}

-- the state that it then represents: a base without commits, each entry of which it keeps
abbrev pub based : ℕ → List (ℕ × Status) → Served
based version base = record {
  history = record
      { base = base; version = version; commits = [] };
  limit = 16777215;
  pins = [];
  kept = map (λ e. record { id = e.0; version = made_at e.1 }) base;
}

-- it was given no state yet of this identifier or of a greater one
abbrev pub IsBefore : StoreTerm → ℕ → Type 0
IsBefore store id = (base : List (ℕ × Status)) × StandsFor store (based store.version base) × All (λ e. e.0 < id) base

-- it was given the state of an identifier, whatever it was given of lesser ones
abbrev pub IsGiven : StoreTerm → StoreTerm → ℕ → Status → Type 0
IsGiven old new id status = (base : List (ℕ × Status)) → StandsFor old (based old.version base)
    → All (λ e. e.0 < id) base
    → StandsFor new (based old.version (base ++ (id, status) ∷ []))

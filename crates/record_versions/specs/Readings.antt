-- For callers: the first identifier that has an entry at a version.
use Rattle.std.specs.Prelude.{◌≡◌, ◌<◌, ◌≤◌, List, None, Option, Some, ℕ}
use Rattle.record_versions.specs.Ahead.{Rise}
use Rattle.record_versions.specs.Entries.{IsLatest, chain_of}
use Rattle.record_versions.specs.Rows.{Row}
use Rattle.record_versions.specs.declared.entries.Entry.{Entry}

-- the chains that were not passed yet, and the version at which they are read
pub record Reads (V : Type 0) : Type 0 where
  pub ahead : List (ℕ × Row V)
  pub version : ℕ

module _ {V : Type 0} where
  -- the chains of the identifiers from `from` on, ascending
  abbrev pub IsAhead : ℕ → List (ℕ × Row V) → List (ℕ × Row V) → Type 0
  IsAhead from chains ahead = Rise from ahead
      × ((id : ℕ) → from ≤ id → chain_of ahead id ≡ chain_of chains id)

  -- The first identifier from `from` on that has an entry at or before a version, with the latest such entry; `None` if
  -- no identifier has one.
  abbrev pub IsFirstAt : ℕ → ℕ → List (ℕ × Row V) → Option (ℕ × Entry V) → Type 0
  IsFirstAt version from chains None = (id : ℕ) → from ≤ id → IsLatest version (chain_of chains id) None
  IsFirstAt version from chains (Some first) = (from ≤ first.0)
      × IsLatest version (chain_of chains first.0) (Some first.1)
      × ((id : ℕ) → from ≤ id → id < first.0 → IsLatest version (chain_of chains id) None)

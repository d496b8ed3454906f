-- For private clauses, and for readings: chains that are ahead of a walk.
use Rattle.std.specs.Prelude.{◌≡◌, ◌+◌, ◌≤◌, List, [], ◌∷◌, ℕ}
use Rattle.record_versions.specs.Entries.{chain_of}
use Rattle.record_versions.specs.Rows.{Row}

module _ {V : Type 0} where
  -- an identifier with its chain
  abbrev pub IsOwn : List (ℕ × Row V) → ℕ × Row V → Type 0
  IsOwn all e = chain_of all e.0 ≡ e.1.entries

  abbrev pub AreOwn : List (ℕ × Row V) → List (ℕ × Row V) → Type 0
  AreOwn all [] = Unit {0}
  AreOwn all (e ∷ es) = IsOwn all e × AreOwn all es

  -- identifiers ascend, from one on
  abbrev pub Rise : ℕ → List (ℕ × Row V) → Type 0
  Rise a [] = Unit {0}
  Rise a (e ∷ es) = (a ≤ e.0) × Rise (e.0 + 1) es

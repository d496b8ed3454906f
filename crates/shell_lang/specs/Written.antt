-- For private clauses alone: bytes that were written after the old ones.
use Rattle.std.specs.Prelude.{◌≡◌, ℕ, List, ◌++◌}

abbrev pub Extends : List ℕ → List ℕ → Type 0
Extends old new = (part : List ℕ) × (new ≡ old ++ part)

-- The view of the entries of one identifier.
use Rattle.std.specs.Prelude.{List, ℕ}
use Rattle.record_versions.specs.declared.entries.Entry.{Entry}

-- the entries, oldest first, and the number that there is memory for
pub record Row (V : Type 0) : Type 0 where
  pub entries : List (Entry V)
  pub room : ℕ

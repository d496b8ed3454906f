-- For private clauses alone: the view of entries, in each layout.
use Rattle.std.specs.Prelude.{[], ◌∷◌}
use Rattle.record_versions.specs.Rows.{Row}
use Rattle.record_versions.specs.declared.entries.Form.{Form}
use Rattle.record_versions.specs.declared.entries.Form.TheVariants.{Empty, More, One}

module _ {V : Type 0} where
  -- without a ring there is room for one
  abbrev pub row_in : Form V → Row V
  row_in Empty = record { entries = []; room = 1 }
  row_in (One entry) = record { entries = entry ∷ []; room = 1 }
  row_in (More ring) = ring.value

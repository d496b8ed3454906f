-- The choice between two disks. For callers.
use Rattle.std.specs.Prelude.{Bool, false, true, List, None, Option, Some, ℕ}
use Rattle.journal_core.specs.Fronts.{IsOpen}
use Rattle.disk_pair.specs.Pairs.{ReadsFirst, ReadsSecond}
use Rattle.disk_pair.specs.declared.choice.Which.{Which}
use Rattle.disk_pair.specs.declared.choice.Which.TheVariants.{First, Second}

-- the first of two disks is read, or the second
abbrev pub IsRead : Bool → List ℕ → List ℕ → Type 0
IsRead false a b = ReadsFirst a b
IsRead true a b = ReadsSecond a b

-- the one of two disks that is read, if any
abbrev pub Chosen : Option Which → List ℕ → List ℕ → Type 0
Chosen None a b = (IsOpen a → ⊥) × (IsOpen b → ⊥)
Chosen (Some First) a b = IsRead false a b
Chosen (Some Second) a b = IsRead true a b

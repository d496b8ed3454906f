-- For callers: two disks, and facts about their contents.
use Rattle.std.specs.Prelude.{ℕ, List}
use Rattle.disk_edge.specs.Disk.{DiskModel, IfTold}
use Rattle.store_disk.specs.declared.disks.Disks.{Disks}
use Rattle.chem_shell.specs.declared.outcome.Outcome.{Outcome}

-- the disks that come back
abbrev pub disks_of : {D S K : Type 0} → Outcome D S K → Disks D
disks_of r = record { a = r.a; b = r.b }

-- P holds of the contents of the two disks, if both are known
abbrev pub IfBothTell : {D : Type 0} → DiskModel D → Disks D → (List ℕ → List ℕ → Type 0) → Type 0
IfBothTell model disks P = IfTold (model.content disks.a) (λ x. IfTold (model.content disks.b) (λ y. P x y))

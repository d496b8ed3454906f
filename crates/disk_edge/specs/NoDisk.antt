-- A disk that keeps nothing: its content is not known, and it never fails.
use Rattle.std.specs.Prelude.{◌≡◌, ◌≤◌, ℕ, Option, Some}
use Rattle.std.proofs.Common.{arith}
use Rattle.disk_edge.specs.Disk.{DiskModel}
use Rattle.disk_edge.specs.Untold.{untold}
use Rattle.disk_edge.specs.declared.no_disk.NoDisk.{NoDisk}

abbrev pub model : DiskModel NoDisk
model = untold (λ d. 0) (λ d. Some 0)

pub within : (d : NoDisk) (b : ℕ) → let zero : Option ℕ = Some 0 in zero ≡ Some b → 0 ≤ b
within d b is = omega arith

-- What is set on one disk leaves the other as it is.
use Rattle.std.proofs.Common.{◌≡◌, ◌∙◌, ap, Bool, false, refl, true, ℕ}
use Rattle.disk_edge.specs.Medium.{Medium}
use Rattle.disk_edge.specs.declared.failures.Failures.{Failures}
use Rattle.journal_core.specs.Standing.{Standing}
use Rattle.disk_pair.specs.Changed.{changed}
use Rattle.disk_pair.specs.Term.{Paired, disk_a, disk_b}
use Rattle.disk_pair.specs.declared.choice.Which.{Which}
use Rattle.disk_pair.specs.declared.choice.Which.TheVariants.{First, Second}
use Rattle.disk_pair.specs.declared.other.Other.{Other}
use Rattle.disk_pair.specs.declared.other.Other.TheVariants.{Idle, Copy}
use Rattle.store_disk.specs.OnDisk.{StoreTerm}
use Rattle.drill_core.specs.Faults.{failed_a, failed_b}
use Rattle.drill_core.specs.Worlds.{with_failures}

module _ (f : Medium → Medium) where
  abbrev of : Bool → Standing Medium → Other Medium → Paired Medium
  of second journal other = record { journal = journal; other = other; second = second }

  on-first : (second : Bool) (journal : Standing Medium) (other : Other Medium)
      → disk_a (changed First f (of second journal other)) ≡ f (disk_a (of second journal other))
  on-first false journal other = refl
  on-first true journal (Idle disk doubtful) = refl
  on-first true journal (Copy carry) = refl

  off-first : (second : Bool) (journal : Standing Medium) (other : Other Medium)
      → disk_b (changed First f (of second journal other)) ≡ disk_b (of second journal other)
  off-first false journal other = refl
  off-first true journal (Idle disk doubtful) = refl
  off-first true journal (Copy carry) = refl

  on-second : (second : Bool) (journal : Standing Medium) (other : Other Medium)
      → disk_b (changed Second f (of second journal other)) ≡ f (disk_b (of second journal other))
  on-second true journal other = refl
  on-second false journal (Idle disk doubtful) = refl
  on-second false journal (Copy carry) = refl

  off-second : (second : Bool) (journal : Standing Medium) (other : Other Medium)
      → disk_a (changed Second f (of second journal other)) ≡ disk_a (of second journal other)
  off-second true journal other = refl
  off-second false journal (Idle disk doubtful) = refl
  off-second false journal (Copy carry) = refl

  pub set-on-a : (pair : Paired Medium) → disk_a (changed First f pair) ≡ f (disk_a pair)
  set-on-a pair = on-first pair.second pair.journal pair.other

  pub same-on-b : (pair : Paired Medium) → disk_b (changed First f pair) ≡ disk_b pair
  same-on-b pair = off-first pair.second pair.journal pair.other

  pub set-on-b : (pair : Paired Medium) → disk_b (changed Second f pair) ≡ f (disk_b pair)
  set-on-b pair = on-second pair.second pair.journal pair.other

  pub same-on-a : (pair : Paired Medium) → disk_a (changed Second f pair) ≡ disk_a pair
  same-on-a pair = off-second pair.second pair.journal pair.other

abbrev count : Medium → ℕ
count d = d.failures.count

-- the counts of both disks stay, where the setting leaves that of its own
module _ (set : Failures → Failures) (same : (f : Failures) → (set f).count ≡ f.count) (world : StoreTerm Medium)
  where
    abbrev put : Medium → Medium
    put d = record d { failures = set d.failures }

    pub count-on-a : (disk : Which) → failed_a (with_failures disk world set) ≡ failed_a world
    count-on-a First = ap count (set-on-a put world.pair) ∙ same (disk_a world.pair).failures
    count-on-a Second = ap count (same-on-a put world.pair)

    pub count-on-b : (disk : Which) → failed_b (with_failures disk world set) ≡ failed_b world
    count-on-b First = ap count (same-on-b put world.pair)
    count-on-b Second = ap count (set-on-b put world.pair) ∙ same (disk_b world.pair).failures

-- Two disks as a contract sees them. For callers.
use Rattle.std.specs.Prelude.{◌≡◌, ◌+◌, ◌<◌, ◌^◌, Bool, false, true, List, None, Option, Some, ℕ}
use Rattle.disk_edge.specs.Disk.{Counted, DiskModel, IfTold, Keeps}
use Rattle.disk_edge.specs.Moments.{AtEachMoment}
use Rattle.journal_core.specs.Standing.{Standing}
use Rattle.journal_core.specs.declared.header.Header.{Header}
use Rattle.disk_pair.specs.declared.other.Other.{Other}
use Rattle.disk_pair.specs.declared.other.Other.TheVariants.{Idle, Copy}

-- The journal of the current disk, and the other disk, which is idle or has a running copy. `second`: the current disk
-- is the second one.
pub record Paired (D : Type 0) : Type 0 where
  pub journal : Standing D
  pub other : Other D
  pub second : Bool

-- the other disk
abbrev pub disk_of : {D : Type 0} → Other D → D
disk_of (Idle disk doubtful) = disk
disk_of (Copy carry) = carry.disk

-- true if a finish may be in doubt there
abbrev pub is_doubtful : {D : Type 0} → Other D → Bool
is_doubtful (Idle disk doubtful) = doubtful
is_doubtful (Copy carry) = false

-- the first of two disks, one of which is current
abbrev pub first_of : {D : Type 0} → Bool → D → D → D
first_of false current other = current
first_of true current other = other

-- the first disk, and the second one, whichever of them is current
abbrev pub disk_a : {D : Type 0} → Paired D → D
disk_a pair = first_of pair.second pair.journal.disk (disk_of pair.other)

abbrev pub disk_b : {D : Type 0} → Paired D → D
disk_b pair = first_of pair.second (disk_of pair.other) pair.journal.disk

-- the progress of a copy: its header, its length so far, and the number of its base records
pub record Progress : Type 0 where
  pub header : Header
  pub place : ℕ
  pub bases : ℕ

-- the progress of the running copy; `None` if the other disk is idle
abbrev pub progress_of : {D : Type 0} → Other D → Option Progress
progress_of (Idle disk doubtful) = None
progress_of (Copy carry) = Some (record { header = carry.header; place = carry.place; bases = carry.bases })

-- the progress with this many bytes and base records more
abbrev pub further : ℕ → ℕ → Option Progress → Option Progress
further bytes bases None = None
further bytes bases (Some p) =
    Some (record { header = p.header; place = p.place + bytes; bases = p.bases + bases })

-- the header of a copy in the next generation
abbrev pub next_header : Header → ℕ → ℕ → Header
next_header h base_version base_count =
    record { generation = h.generation + 1; base_version = base_version; base_count = base_count }

-- a copy runs that lacks a base record
abbrev pub LacksBase : Option Progress → Type 0
LacksBase None = ⊥
LacksBase (Some p) = p.bases < p.header.base_count

-- a copy runs that has all its base records
abbrev pub IsBased : Option Progress → Type 0
IsBased None = ⊥
IsBased (Some p) = p.bases ≡ p.header.base_count

-- a running copy ends far below the end of places
abbrev pub HasRoom : Option Progress → Type 0
HasRoom None = Unit {0}
HasRoom (Some p) = p.place < 2 ^ 62

-- Facts that each call keeps of a disk. Its images at past moments are the same, its count of faults does not fall, and
-- its bound does not rise. Unknown content stays unknown.
pub record Goes {D : Type 0} (model : DiskModel D) (old new : D) : Type 0 where
  pub past : Keeps model old new
  pub count : Counted model old new
  pub untold : model.content old ≡ None → model.content new ≡ None

-- P of each image of the first disk and each of the second disk at moments of a call, if the contents of both disks are
-- known
abbrev pub AtEachPair : {D : Type 0} → DiskModel D → Paired D → Paired D → (List ℕ → List ℕ → Type 0) → Type 0
AtEachPair model old new P = IfTold (model.content (disk_a new)) (λ _. IfTold (model.content (disk_b new)) (λ _.
    AtEachMoment model (disk_a old) (disk_a new) (λ x. AtEachMoment model (disk_b old) (disk_b new) (λ y. P x y))))

-- P of each two images that a crash now may leave, if the contents of both disks are known
abbrev pub OfEachPair : {D : Type 0} → DiskModel D → Paired D → (List ℕ → List ℕ → Type 0) → Type 0
OfEachPair model pair P = IfTold (model.content (disk_a pair)) (λ _. IfTold (model.content (disk_b pair)) (λ _.
    (x y : List ℕ) → model.images (disk_a pair) x → model.images (disk_b pair) y → P x y))

-- P of a pair of images that a crash now may leave, if the contents of both disks are known
abbrev pub OfSomePair : {D : Type 0} → DiskModel D → Paired D → (List ℕ → List ℕ → Type 0) → Type 0
OfSomePair model pair P = IfTold (model.content (disk_a pair)) (λ _. IfTold (model.content (disk_b pair)) (λ _.
    (x y : List ℕ) × model.images (disk_a pair) x × model.images (disk_b pair) y × P x y))

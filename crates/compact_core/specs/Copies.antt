-- The bytes of a running copy, and of a disk that is the complete copy or not open. For callers.
use Rattle.std.specs.Prelude.{◌≡◌, ◌≢◌, ◌⊎◌, ◌+◌, ℕ, List, [], ◌∷◌, ◌++◌, drop, length, take, Some}
use Rattle.std.specs.List.{AllByRecursion}
use Rattle.disk_edge.specs.Disk.{DiskModel, Exactly, IfTold}
use Rattle.journal_core.specs.Records.{IsShort, records, Opens}
use Rattle.journal_core.specs.Fronts.{IsOpen, behind_gate, base_records, front_of}
use Rattle.journal_core.specs.declared.format.TheConstants.{OPEN}
use Rattle.journal_core.specs.declared.header.Header.{Header}
use Rattle.compact_core.specs.Carrying.{Carrying}

-- the content, if it is known, is the only image
abbrev pub IsSynced : {D : Type 0} → DiskModel D → D → Type 0
IsSynced model disk = IfTold (model.content disk) (λ l. Exactly l (model.images disk))

-- these bytes are at a place, and more may follow them
abbrev pub IsAt : ℕ → List ℕ → List ℕ → Type 0
IsAt place bytes l = (rest : List ℕ) × (drop place l ≡ bytes ++ rest)

-- the bytes after the gate of the header
unfoldable pub tail_of : Header → List (List ℕ) → List (List ℕ) → List ℕ
tail_of h base commits = (behind_gate h ++ base_records base) ++ records commits

-- A disk's content is known: a gate, these bytes, and more. In each image the gate is this one.
pub record Stands {D : Type 0} (model : DiskModel D) (disk : D) (gate : ℕ) (tail : List ℕ) : Type 0 where
  pub rest : List ℕ
  pub is_told : model.content disk ≡ Some (gate ∷ (tail ++ rest))
  pub each : (c : List ℕ) → model.images disk c → take 1 c ≡ gate ∷ []

-- These bytes follow a gate: the written ones are on the disk, and the last of them are pending.
pub record Gathered {D : Type 0} (model : DiskModel D) (disk : D) (gate : ℕ) (tail pending : List ℕ) : Type 0 where
  pub written : List ℕ
  pub stands : Stands model disk gate written
  pub is : written ++ pending ≡ tail

-- The header follows a gate that is not open.
pub record Started {D : Type 0} (model : DiskModel D) (disk : D) (h : Header) : Type 0 where
  pub gate : ℕ
  pub shut : gate ≢ OPEN
  pub stands : Stands model disk gate (behind_gate h)

-- The copy has these base records and these commits so far, after a gate that is not open.
pub record Copies {D : Type 0} (model : DiskModel D) (carry : Carrying D) (base commits : List (List ℕ))
    : Type 0 where
  pub gate : ℕ
  pub shut : gate ≢ OPEN
  pub gathered : Gathered model carry.disk gate (tail_of carry.header base commits) carry.pending
  pub place : carry.place ≡ length (tail_of carry.header base commits) + 1
  pub bases : carry.bases ≡ length base
  pub fit : AllByRecursion IsShort base
  pub fit_commits : AllByRecursion IsShort commits

-- the complete copy, or not open
abbrev pub IsCopyOrShut : Header → List (List ℕ) → List (List ℕ) → List ℕ → Type 0
IsCopyOrShut h base commits c = Opens (front_of h base) commits c ⊎ (IsOpen c → ⊥)

-- A finish is in doubt: each image is the complete copy or not open, and there is one of either kind.
pub record InDoubt (images : List ℕ → Type 0) (h : Header) (base commits : List (List ℕ)) : Type 0 where
  pub each : (c : List ℕ) → images c → IsCopyOrShut h base commits c
  pub some : (c : List ℕ) × images c × Opens (front_of h base) commits c
  pub not_all : (c : List ℕ) × images c × (IsOpen c → ⊥)

-- The state of two disks. For callers.
use Rattle.std.specs.Prelude.{◌≡◌, ◌⊎◌, ◌<◌, ◌+◌, Bool, false, true, List, length, None, Option, Some, ℕ}
use Rattle.std.specs.List.{AllByRecursion}
use Rattle.disk_edge.specs.Disk.{DiskModel, IfTold}
use Rattle.journal_core.specs.Fronts.{IsFront, IsHeader}
use Rattle.journal_core.specs.Journal.{Doubts, Rests}
use Rattle.journal_core.specs.Records.{IsShort}
use Rattle.journal_core.specs.Standing.{Standing}
use Rattle.compact_core.specs.Carrying.{Carrying}
use Rattle.compact_core.specs.Copies.{Copies}
use Rattle.disk_pair.specs.Pairs.{History, Loses, OpensAs, State}
use Rattle.disk_pair.specs.Term.{Paired}
use Rattle.disk_pair.specs.declared.other.Other.{Other}
use Rattle.disk_pair.specs.declared.other.Other.TheVariants.{Idle, Copy}

-- The journal has these payloads after this front, if its disk's content is known: each image opens to them. If one
-- more is in doubt, each image opens to them or to them and this one, and an image opens with it.
abbrev pub Has : {D : Type 0} → DiskModel D → Standing D → List ℕ → List (List ℕ) → Option (List ℕ) → Type 0
Has model journal front payloads None =
    (journal.doubt ≡ false) × IfTold (model.content journal.disk) (λ _. Rests model journal front payloads)
Has model journal front payloads (Some p) =
    (journal.doubt ≡ true) × IfTold (model.content journal.disk) (λ _. Doubts model journal front payloads p)

-- An idle disk beside the current one: it is not read, or it is the copy whose finish is in doubt.
abbrev pub OtherHas : Bool → ℕ → Option History → (List ℕ → Type 0) → Type 0
OtherHas second g None images = (y : List ℕ) → images y → Loses second g y
OtherHas second g (Some copy) images = (g < copy.header.generation)
    × ((y : List ℕ) → images y → OpensAs copy y ⊎ Loses second g y) × ((y : List ℕ) × images y × OpensAs copy y)

-- A running copy in the next generation has this history so far, and its disk is not open.
pub record Carries {D : Type 0} (model : DiskModel D) (g : ℕ) (carry : Carrying D) (copy : History) : Type 0 where
  pub header : carry.header ≡ copy.header
  pub next : copy.header.generation ≡ g + 1
  pub range : IsHeader copy.header
  pub bases : carry.bases ≡ length copy.base
  pub fit : AllByRecursion IsShort copy.base
  pub copies : IfTold (model.content carry.disk) (λ _. Copies model carry copy.base copy.commits)

-- The other disk beside a current one of this generation: the finish in doubt, and the running copy. A finish is in
-- doubt only if the disk is known to be doubtful.
abbrev pub Beside : {D : Type 0} → DiskModel D → Bool → ℕ → Option History → Option History → Other D → Type 0
Beside model second g finish copy (Idle disk doubtful) = (copy ≡ None) × (doubtful ≡ false → finish ≡ None)
    × IfTold (model.content disk) (λ _. OtherHas second g finish (model.images disk))
Beside model second g finish copy (Copy carry) = (finish ≡ None)
    × ((h : History) × (copy ≡ Some h) × Carries model g carry h)

-- The state of two disks is `s`.
pub record StandsFor {D : Type 0} (model : DiskModel D) (pair : Paired D) (s : State) : Type 0 where
  pub front : List ℕ
  pub is_front : IsFront s.now.header s.now.base front
  pub header : pair.journal.header ≡ s.now.header
  pub journal : Has model pair.journal front s.now.commits s.commit
  pub other : Beside model pair.second s.now.header.generation s.finish s.copy pair.other

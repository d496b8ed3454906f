-- One of the two disks after one call on it. For private clauses alone.
use Rattle.std.specs.Prelude.{◌≡◌, ◌⊎◌, ◌<◌, ◌++◌, Bool, Err, false, List, [], ◌∷◌, None, Ok, OnErr, OnOk, Option, Result, Some, true, ℕ}
use Rattle.disk_edge.specs.Disk.{DiskModel, Faulted, IfTold, OnFailed}
use Rattle.disk_edge.specs.Moments.{AtEachMoment}
use Rattle.disk_edge.specs.declared.disk.DiskFail.{DiskFail}
use Rattle.journal_core.specs.Records.{Opens}
use Rattle.journal_core.specs.Standing.{Standing}
use Rattle.journal_core.specs.declared.header.Header.{Header}
use Rattle.compact_core.specs.Carrying.{Carrying}
use Rattle.disk_pair.specs.Gives.{OnFault, empty_copy}
use Rattle.disk_pair.specs.Pairs.{History, Loses, OpensAs}
use Rattle.disk_pair.specs.Stands.{Beside, Carries}
use Rattle.disk_pair.specs.Term.{Goes, disk_of, progress_of}
use Rattle.disk_pair.specs.declared.other.Other.{Other}
use Rattle.disk_pair.specs.declared.other.Other.TheVariants.{Idle}
use Rattle.disk_pair.specs.declared.fault.PutFault.{PutFault}
use Rattle.disk_pair.specs.declared.fault.PutFault.TheVariants.{DiskFault, NoMemory}

-- an older doubt stays or is ended
abbrev pub StaysOrEnds : (List (List ℕ) → Option (List ℕ) → Type 0) → List (List ℕ) → Option (List ℕ) → Type 0
StaysOrEnds Has ps doubt = Has ps doubt ⊎ Has ps None

abbrev pub PutGives : Result (Unit {0}) PutFault → (List (List ℕ) → Option (List ℕ) → Type 0) → List (List ℕ)
    → Option (List ℕ) → List ℕ → Type 0
PutGives (Ok _) Has ps doubt payload = Has (ps ++ payload ∷ []) None
PutGives (Err (DiskFault true)) Has ps doubt payload = Has ps (Some payload)
PutGives (Err (DiskFault false)) Has ps doubt payload = StaysOrEnds Has ps doubt
PutGives (Err NoMemory) Has ps doubt payload = StaysOrEnds Has ps doubt

-- an image opens to the payloads, or to these and the one in doubt
abbrev pub ShowsDoubt : List ℕ → List (List ℕ) → Option (List ℕ) → List ℕ → Type 0
ShowsDoubt front ps doubt image = Opens front ps image
    ⊎ ((p : List ℕ) × (doubt ≡ Some p) × Opens front (ps ++ p ∷ []) image)

-- or to these and the new one
abbrev pub ShowsOne : List ℕ → List (List ℕ) → Option (List ℕ) → List ℕ → List ℕ → Type 0
ShowsOne front ps doubt payload image = ShowsDoubt front ps doubt image ⊎ Opens front (ps ++ payload ∷ []) image

-- An image of the other disk: it is the copy whose finish is in doubt, or is not read.
abbrev pub IsOther : Bool → ℕ → Option History → List ℕ → Type 0
IsOther second g finish y = ((v : History) × (finish ≡ Some v) × (g < v.header.generation) × OpensAs v y)
    ⊎ Loses second g y

-- so is each image at a moment of a call, if that disk's content is known
abbrev pub OtherMoments : {D : Type 0} → DiskModel D → D → D → Bool → ℕ → Option History → Type 0
OtherMoments model old new second g finish =
    IfTold (model.content new) (λ _. AtEachMoment model old new (IsOther second g finish))

-- The other disk after a call that ends a finish in doubt. A running copy goes on.
pub record EndsFinish {D : Type 0} (model : DiskModel D) (result : Result (Unit {0}) DiskFail) (old new : Other D)
    : Type 0 where
  pub ok : OnOk result ((second : Bool) (g : ℕ) (finish copy : Option History)
      → Beside model second g finish copy old → Beside model second g None copy new)
  pub err : OnErr result ((second : Bool) (g : ℕ) (finish copy : Option History)
      → Beside model second g finish copy old → Beside model second g finish copy new)
  pub moments : (second : Bool) (g : ℕ) (finish copy : Option History) → Beside model second g finish copy old
      → OtherMoments model (disk_of old) (disk_of new) second g finish
  pub progress : progress_of new ≡ progress_of old
  pub goes : Goes model (disk_of old) (disk_of new)
  pub cause : OnFailed result (Faulted model (disk_of old) (disk_of new))

-- the other disk after a start: B of the finish in doubt and the running copy
abbrev pub BesideStart : Result (Unit {0}) PutFault → (Option History → Option History → Type 0) → Option History
    → Header → Type 0
BesideStart (Ok _) B finish header = B None (Some (empty_copy header))
BesideStart (Err (DiskFault true)) B finish header = ⊥
BesideStart (Err (DiskFault false)) B finish header = B finish None ⊎ B None None
BesideStart (Err NoMemory) B finish header = B finish None ⊎ B None None

-- after a call that adds to a copy: B of the running copy
abbrev pub BesideCopy : Result (Unit {0}) PutFault → (Option History → Type 0) → History → History → Type 0
BesideCopy (Ok _) B old new = B (Some new)
BesideCopy (Err (DiskFault true)) B old new = ⊥
BesideCopy (Err (DiskFault false)) B old new = B None
BesideCopy (Err NoMemory) B old new = B (Some old)

-- A running copy after a call that adds to it. A copy that has P gets longer, or is given up, or stays. At no moment an
-- image of its disk is read.
pub record AddsTo {D : Type 0} (model : DiskModel D) (result : Result (Unit {0}) PutFault) (carry : Carrying D)
    (new : Other D) (P : History → Type 0) (longer : History → History) : Type 0 where
  pub gives : (second : Bool) (g : ℕ) (h : History) → P h → Carries model g carry h
      → BesideCopy result (λ copy. Beside model second g None copy new) h (longer h)
  pub moments : (second : Bool) (g : ℕ) (h : History) → Carries model g carry h
      → OtherMoments model carry.disk (disk_of new) second g None
  pub goes : Goes model carry.disk (disk_of new)
  pub cause : OnFault result (Faulted model carry.disk (disk_of new))

-- after a finish that was refused
abbrev pub BesideFault : PutFault → (Option History → Option History → Type 0) → History → Type 0
BesideFault (DiskFault true) B copy = B (Some copy) None
BesideFault (DiskFault false) B copy = B None None
BesideFault NoMemory B copy = B None (Some copy)

-- the copy's disk after a finish
abbrev pub after_finish : {D : Type 0} → Result (Standing D) (Other D × PutFault) → D
after_finish (Ok journal) = journal.disk
after_finish (Err refused) = disk_of refused.0

-- the other disk if there is one; the current one replaces it if it is missing, which is never the case between calls
abbrev pub held : {D : Type 0} → D → Option (Other D) → Other D
held current None = Idle current true
held current (Some other) = other

abbrev pub IsThere : {D : Type 0} → Option (Other D) → Type 0
IsThere None = ⊥
IsThere (Some other) = Unit {0}

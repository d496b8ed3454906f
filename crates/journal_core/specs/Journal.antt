-- The meaning of a journal. For callers.
use Rattle.std.specs.Prelude.{◌≡◌, ℕ, List, [], ◌∷◌, ◌++◌, length, Some}
use Rattle.std.specs.List.{AllByRecursion}
use Rattle.disk_edge.specs.Disk.{DiskModel, Exactly}
use Rattle.journal_core.specs.Records.{IsShort, header, prefix, text, Opens, Staged, BeforeOrAfter}
use Rattle.journal_core.specs.Standing.{Standing}

-- The disk holds a journal with no records, synced.
abbrev pub IsEmptyJournal : {D : Type 0} → DiskModel D → D → Type 0
IsEmptyJournal model disk = (model.content disk ≡ Some (text header [])) × Exactly (text header []) (model.images disk)

-- The journal has read these payloads after the front. The disk's content is known and synced, and it begins with the
-- front and their records; the journal's place is after them.
pub record Reads {D : Type 0} (model : DiskModel D) (journal : Standing D) (front : List ℕ)
    (payloads : List (List ℕ)) : Type 0 where
  pub told : List ℕ
  pub tail : List ℕ
  pub is_told : model.content journal.disk ≡ Some told
  pub exactly : Exactly told (model.images journal.disk)
  pub is : told ≡ prefix front payloads ++ tail
  pub place : journal.place ≡ length (prefix front payloads)
  pub fit : AllByRecursion IsShort payloads

-- The disk's content is known. Each image opens to these payloads, and the journal is at the gate after them.
pub record Rests {D : Type 0} (model : DiskModel D) (journal : Standing D) (front : List ℕ)
    (payloads : List (List ℕ)) : Type 0 where
  pub told : List ℕ
  pub is_told : model.content journal.disk ≡ Some told
  pub place : journal.place ≡ length (prefix front payloads)
  pub each : (c : List ℕ) → model.images journal.disk c → Opens front payloads c

-- This payload is in doubt: each image opens to the payloads without it or with it, and some image with it.
pub record Doubts {D : Type 0} (model : DiskModel D) (journal : Standing D) (front : List ℕ)
    (payloads : List (List ℕ)) (payload : List ℕ) : Type 0 where
  pub told : List ℕ
  pub is_told : model.content journal.disk ≡ Some told
  pub place : journal.place ≡ length (prefix front payloads)
  pub each : (c : List ℕ) → model.images journal.disk c → BeforeOrAfter front payloads payload c
  pub some : (c : List ℕ) × model.images journal.disk c × Opens front (payloads ++ payload ∷ []) c
  pub staged : (c : List ℕ) → model.images journal.disk c → Staged front payloads payload c

-- An entry of a base, and its bytes: a byte for its kind, and the identifier and the version in four bytes each
-- (little-endian). A live one also has a byte for the format, and the text. For callers.
use Rattle.std.specs.Prelude.{◌≡◌, ◌≤◌, ◌<◌, ◌^◌, ℕ, List, [], ◌∷◌, ◌++◌}
use Rattle.std.specs.Int.{to_le_bytes, w32}
use Rattle.commit_log.specs.Change.{format_byte}
use Rattle.commit_log.specs.declared.base.BaseEntry.{BaseEntry}
use Rattle.commit_log.specs.declared.base.BaseState.{BaseState}
use Rattle.commit_log.specs.declared.base.BaseState.TheVariants.{Live, Withdrawn}
use Rattle.commit_log.specs.declared.change.Format.{Format}

-- the state of an identifier, without the place of its text in memory
pub data EntryState : Type 0 where
  live : (format : Format) (text : List ℕ) → EntryState
  withdrawn : EntryState

pub record Entry : Type 0 where
  pub id : ℕ
  pub version : ℕ
  pub state : EntryState

abbrev pub state_of : BaseState → EntryState
state_of (Live format text) = live format text.items
state_of Withdrawn = withdrawn

abbrev pub entry_of : BaseEntry → Entry
entry_of e = record { id = e.id; version = e.version; state = state_of e.state }

-- the byte for its kind
abbrev pub kind : EntryState → ℕ
kind (live format text) = 4
kind withdrawn = 5

-- the bytes after the numbers
abbrev pub tail : EntryState → List ℕ
tail (live format text) = format_byte format ∷ text
tail withdrawn = []

abbrev pub written : Entry → List ℕ
written e = kind e.state ∷ (to_le_bytes w32 e.id ++ to_le_bytes w32 e.version ++ tail e.state)

-- the identifier is in range, and the version has four bytes
abbrev pub IsInRange : Entry → Type 0
IsInRange e = (1 ≤ e.id) × (e.id ≤ 999999999) × (e.version < 2 ^ 32)

-- no entry in range is written so
abbrev pub IsNoEntry : List ℕ → Type 0
IsNoEntry payload = (e : Entry) → IsInRange e → payload ≡ written e → ⊥

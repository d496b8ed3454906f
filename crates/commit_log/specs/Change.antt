-- A change, and its bytes: a byte for its kind, and the identifier in four bytes (little-endian). A registration or a
-- revision also has a byte for the format, and the text. For callers.
use Rattle.std.specs.Prelude.{◌≡◌, ◌≤◌, ℕ, List, ◌∷◌, ◌++◌}
use Rattle.std.specs.Int.{to_le_bytes, w32}
use Rattle.commit_log.specs.declared.change.Format.{Format}
use Rattle.commit_log.specs.declared.change.Format.TheVariants.{Smiles, Molfile}
use Rattle.commit_log.specs.declared.change.Wire.{Wire}
use Rattle.commit_log.specs.declared.change.Wire.TheVariants.{Register, Revise, Withdraw}

-- a change without the place of its text in memory
pub data Change : Type 0 where
  registered : (id : ℕ) (format : Format) (text : List ℕ) → Change
  revised : (id : ℕ) (format : Format) (text : List ℕ) → Change
  withdrawn : (id : ℕ) → Change

abbrev pub change_of : Wire → Change
change_of (Register id format text) = registered id format text.items
change_of (Revise id format text) = revised id format text.items
change_of (Withdraw id) = withdrawn id

abbrev pub format_byte : Format → ℕ
format_byte Smiles = 1
format_byte Molfile = 2

abbrev pub written : Change → List ℕ
written (registered id format text) = 1 ∷ (to_le_bytes w32 id ++ format_byte format ∷ text)
written (revised id format text) = 2 ∷ (to_le_bytes w32 id ++ format_byte format ∷ text)
written (withdrawn id) = 3 ∷ to_le_bytes w32 id

abbrev pub identifier : Change → ℕ
identifier (registered id format text) = id
identifier (revised id format text) = id
identifier (withdrawn id) = id

-- the identifier is in range
abbrev pub IsInRange : Change → Type 0
IsInRange change = (1 ≤ identifier change) × (identifier change ≤ 999999999)

-- no change in range is written so
abbrev pub IsNoChange : List ℕ → Type 0
IsNoChange payload = (change : Change) → IsInRange change → payload ≡ written change → ⊥

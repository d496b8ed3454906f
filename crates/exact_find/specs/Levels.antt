-- The number of bonds that lead from an atom to others. For private clauses alone.
use Rattle.std.specs.Prelude.{◌≡◌, ◌≢◌, ◌⊎◌, ℕ, ◌+◌, ◌<◌, ◌≤◌, List, length, slice_index}
use Rattle.chem_core.specs.declared.mol.BondKind.{BondKind}
use Rattle.chem_core.specs.Molecule.{Molecule, IsMolecule}
use Rattle.exact_find.specs.declared.levels.TheConstants.{FAR, IN_PAIR}
use Rattle.exact_find.specs.Same.{HasBond}
use Rattle.exact_find.specs.Colours.{AreInRange}

-- each atom is not reached, or in a pair
abbrev pub AreFree : ℕ → List ℕ → Type 0
AreFree atoms levels = (x : ℕ) → x < atoms → (slice_index levels x ≡ FAR) ⊎ (slice_index levels x ≡ IN_PAIR)

abbrev pub Reaches : List ℕ → ℕ → Type 0
Reaches levels x = slice_index levels x < IN_PAIR

-- The atoms of the list are those that are reached, each once. Bonds lead to the next level, to levels so far, or to an
-- atom in a pair. A bond leads to each level but the first.
pub record IsReached (m : Molecule) (start : ℕ) (before after list : List ℕ) : Type 0 where
  pub listed : AreInRange (length m.atoms) list
  pub low : (i : ℕ) → i < length list → Reaches after (slice_index list i)
  pub each : (x : ℕ) → x < length m.atoms → Reaches after x → (i : ℕ) × (i < length list) × (slice_index list i ≡ x)
  pub first : slice_index after start ≡ 0
  pub free : (x : ℕ) → x < length m.atoms → Reaches after x → x ≢ start → slice_index before x ≡ FAR
  pub paired : (x : ℕ) → x < length m.atoms → slice_index after x ≡ IN_PAIR → slice_index before x ≡ IN_PAIR
  pub closed : (x y : ℕ) (kind : BondKind) → Reaches after x → HasBond m x y kind
      → (slice_index after y ≡ IN_PAIR) ⊎ (slice_index after y ≤ slice_index after x + 1)
  pub led : (x : ℕ) → x < length m.atoms → Reaches after x → x ≢ start → (y : ℕ) × (kind : BondKind)
      × HasBond m y x kind × Reaches after y × (slice_index after x ≡ slice_index after y + 1)

-- As `IsReached`, on the way: the neighbours of the atoms below a place of the list are listed, and levels rise along
-- it.
pub record IsSpread (m : Molecule) (start : ℕ) (initial levels list : List ℕ) (at last : ℕ) : Type 0 where
  pub sound : IsMolecule m
  pub some : 0 < last
  pub passed : at ≤ last
  pub within : (i : ℕ) → i < last → slice_index list i < length m.atoms
  pub low : (i : ℕ) → i < last → slice_index levels (slice_index list i) ≤ i
  pub apart : (i j : ℕ) → i < last → j < last → slice_index list i ≡ slice_index list j → i ≡ j
  pub rising : (i j : ℕ) → i ≤ j → j < last
      → slice_index levels (slice_index list i) ≤ slice_index levels (slice_index list j)
  pub top : (j : ℕ) → j < last → at < last
      → slice_index levels (slice_index list j) ≤ slice_index levels (slice_index list at) + 1
  pub each : (x : ℕ) → x < length m.atoms → Reaches levels x → (i : ℕ) × (i < last) × (slice_index list i ≡ x)
  pub first : slice_index levels start ≡ 0
  pub initially : AreFree (length m.atoms) initial
  pub same : (x : ℕ) → x < length m.atoms → IN_PAIR ≤ slice_index levels x → slice_index levels x ≡ slice_index initial x
  pub free : (x : ℕ) → x < length m.atoms → Reaches levels x → x ≢ start → slice_index initial x ≡ FAR
  pub closed : (i : ℕ) → i < at → (y : ℕ) (kind : BondKind) → HasBond m (slice_index list i) y kind
      → (slice_index levels y ≡ IN_PAIR) ⊎ (slice_index levels y ≤ slice_index levels (slice_index list i) + 1)
  pub led : (x : ℕ) → x < length m.atoms → Reaches levels x → x ≢ start → (y : ℕ) × (kind : BondKind)
      × HasBond m y x kind × Reaches levels y × (slice_index levels x ≡ slice_index levels y + 1)

-- Colours of atoms: numbers that each map keeps. For private clauses alone.
use Rattle.std.specs.Prelude.{◌≡◌, ℕ, ◌+◌, ◌*◌, ◌/◌, ◌%◌, ◌^◌, ◌<◌, List, length, sum, slice_index, slice_index_or, bit_xor}
use Rattle.chem_core.specs.declared.mol.BondKind.{BondKind}
use Rattle.chem_core.specs.declared.mol.BondKind.TheVariants.{Single, Double, Triple, Quad, Aromatic}
use Rattle.chem_core.specs.Graph.{AreNeighbours}
use Rattle.chem_core.specs.Molecule.{Molecule, IsMolecule, ends_of}
use Rattle.exact_find.specs.Same.{HasBond}
use Rattle.exact_find.specs.Pairs.{IsMap, Has}

abbrev folded : ℕ → ℕ → ℕ → ℕ
folded shift factor n = (bit_xor n (n / 2 ^ shift) * factor) % 2 ^ 64

-- a number that looks like any other
unfoldable pub scrambled : ℕ → ℕ
scrambled n = folded 29 0xBF58476D1CE4E5B9 (folded 32 0x9E3779B97F4A7C15 n)

abbrev pub kind_number : BondKind → ℕ
kind_number Single = 1
kind_number Double = 2
kind_number Triple = 3
kind_number Quad = 4
kind_number Aromatic = 5

-- the colour of an atom, from its own colour before and the sum of its neighbours' colours as they are seen
abbrev pub blended : ℕ → ℕ → ℕ
blended own seen = scrambled (((own * 3) % 2 ^ 64 + seen) % 2 ^ 64)

abbrev pub levelled : ℕ → ℕ → ℕ
levelled colour level = scrambled ((colour + level) % 2 ^ 64)

-- a neighbour's colour as it is seen through a bond
abbrev pub seen_through : ℕ → BondKind → ℕ
seen_through colour kind = scrambled ((colour + kind_number kind) % 2 ^ 64)

abbrev pub taken : List ℕ → ℕ → ℕ
taken colours x = slice_index colours x

-- different atoms below a limit
pub record AreInRange (atoms : ℕ) (list : List ℕ) : Type 0 where
  pub within : (i : ℕ) → i < length list → slice_index list i < atoms
  pub apart : (i j : ℕ) → i < length list → j < length list → slice_index list i ≡ slice_index list j → i ≡ j

-- the neighbours' colours as they are seen, one number for each
pub record IsSeen (m : Molecule) (colours : List ℕ) (x : ℕ) (ns : List (ℕ × ℕ)) (seen : List ℕ) : Type 0 where
  pub value : (k : ℕ) → k < length seen → (kind : BondKind) → HasBond m x (slice_index_or ns k (0, 0)).0 kind
      → slice_index seen k ≡ seen_through (slice_index colours (slice_index_or ns k (0, 0)).0) kind

-- the colour of an atom after a round
pub record IsNew (m : Molecule) (colours : List ℕ) (x : ℕ) (colour : ℕ) : Type 0 where
  pub ns : List (ℕ × ℕ)
  pub seen : List ℕ
  pub are : AreNeighbours (ends_of m) x ns
  pub long : length seen ≡ length ns
  pub each : IsSeen m colours x ns seen
  pub is : colour ≡ blended (slice_index colours x) (sum seen % 2 ^ 64)

-- the colours of the atoms of the list are new, the others are as before
pub record IsRound (m : Molecule) (list before after : List ℕ) : Type 0 where
  pub each : (i : ℕ) → i < length list → IsNew m before (slice_index list i) (slice_index after (slice_index list i))
  pub others : (x : ℕ) → ((i : ℕ) → i < length list → slice_index list i ≡ x → ⊥)
      → slice_index after x ≡ slice_index before x

pub record IsBegun (list levels before after : List ℕ) : Type 0 where
  pub each : (i : ℕ) → i < length list → slice_index after (slice_index list i)
      ≡ levelled (slice_index before (slice_index list i)) (slice_index levels (slice_index list i))
  pub others : (x : ℕ) → ((i : ℕ) → i < length list → slice_index list i ≡ x → ⊥)
      → slice_index after x ≡ slice_index before x

-- the map takes atoms to atoms of their colours
abbrev pub AreKept : Molecule → (ℕ → ℕ) → List ℕ → List ℕ → Type 0
AreKept m f left right = (x : ℕ) → x < length m.atoms → slice_index left x ≡ slice_index right (f x)

-- the map takes the atoms of one list to those of the other
pub record AreMatched (f g : ℕ → ℕ) (left right : List ℕ) : Type 0 where
  pub there : (i : ℕ) → i < length left → (j : ℕ) × (j < length right) × (slice_index right j ≡ f (slice_index left i))
  pub back : (j : ℕ) → j < length right → (i : ℕ) × (i < length left) × (slice_index left i ≡ g (slice_index right j))

-- each map from m to n takes atoms to atoms of their colours
abbrev pub AreRough : Molecule → Molecule → List ℕ → List ℕ → Type 0
AreRough m n left right = (f g : ℕ → ℕ) → IsMap m n f g → AreKept m f left right

-- numbers for each atom that a map along the pairs keeps before, it keeps after
abbrev pub KeepAlong : List (ℕ × ℕ) → List ℕ → List ℕ → List ℕ → List ℕ → Type 0
KeepAlong ps left right new new_right = (m : Molecule) (f g : ℕ → ℕ) → ((x : ℕ) → g (f x) ≡ x)
    → ((a b : ℕ) → Has ps a b → f a ≡ b) → AreKept m f left right → AreKept m f new new_right

pub record IsRough (m n : Molecule) (left right : List ℕ) : Type 0 where
  pub sound : IsMolecule m
  pub sound_right : IsMolecule n
  pub kept : AreRough m n left right

-- Aromatic atoms and bonds: those on a Hückel cycle. For callers.
use Rattle.std.specs.Prelude.{◌≡◌, ◌⊎◌, ℕ, ◌+◌, ◌%◌, ◌<◌, ◌≤◌, ◌↔◌, not, ◌==◌, ◌||◌, ◌&&◌, Bool, true, false, List, length, map, sum_by, slice_get, slice_index_or, Contains, All, IsSome, Option, None, Some, unwrap_or, if◌then◌else◌}
use Rattle.std.specs.List.{list_any, enumerate_from, zip}
use Rattle.chem_core.specs.declared.sketch.SketchAtom.{SketchAtom}
use Rattle.chem_core.specs.declared.sketch.SketchBond.{SketchBond}
use Rattle.chem_core.specs.declared.sketch.SketchKind.{SketchKind}
use Rattle.chem_core.specs.declared.sketch.SketchKind.TheVariants.{Colon}
use Rattle.chem_core.specs.Sketch.{SketchTerm, ends_at, order_of}
use Rattle.chem_core.specs.Sound.{sketch_ends}
use Rattle.chem_core.specs.Graph.{Ends, IsSimpleCycle, LiesOn}
use Rattle.aromatic.specs.declared.limits.TheConstants.{LONGEST}
use Rattle.aromatic.specs.declared.perception.AromFault.{AromFault}
use Rattle.aromatic.specs.declared.perception.AromFault.TheVariants.{Aromatic, NoMemory}
use Rattle.aromatic.specs.declared.table.Row.{Row}
use Rattle.aromatic.specs.Electrons.{row_at, electrons, is_double, by_ring_double}

-- a simple cycle of at most LONGEST atoms, all of which give electrons, that sum to 2 modulo 4
pub record IsHuckelBy (ends : Ends) (gives : ℕ → Option ℕ) (atoms : List ℕ) : Type 0 where
  pub cycle : IsSimpleCycle ends atoms
  pub most : length atoms ≤ LONGEST
  pub candidates : All (λ a. IsSome (gives a)) atoms
  pub count : sum_by (λ a. unwrap_or (gives a) 0) atoms % 4 ≡ 2

-- as `IsHuckelBy`, of candidates: a simple cycle of 3 to 18 candidates whose electrons sum to 2 modulo 4
abbrev pub IsHuckelCycle : SketchTerm → List Bool → List ℕ → Type 0
IsHuckelCycle s rings atoms = IsHuckelBy (sketch_ends s) (electrons s rings) atoms

abbrev pub IsAromaticAtom : SketchTerm → List Bool → ℕ → Type 0
IsAromaticAtom s rings a = (atoms : List ℕ) × IsHuckelCycle s rings atoms × Contains atoms a

abbrev pub IsAromaticBond : SketchTerm → List Bool → ℕ → Type 0
IsAromaticBond s rings b = (atoms : List ℕ) × IsHuckelCycle s rings atoms × LiesOn (sketch_ends s) b atoms

abbrev pub is_colon : SketchKind → Bool
is_colon Colon = true
is_colon _ = false

-- a bond `:` ends at the atom
abbrev pub has_colon : List SketchBond → ℕ → Bool
has_colon bonds a = list_any (λ bond. is_colon bond.kind && ends_at a bond) bonds

-- The atom is refused: it is written in lower case and lies on no Hückel cycle, or it is not and a bond `:` ends at it.
abbrev pub IsRefused : SketchTerm → List Bool → ℕ → SketchAtom → Type 0
IsRefused s rings a x = ((x.lower ≡ true) × (IsAromaticAtom s rings a → ⊥))
    ⊎ ((x.lower ≡ false) × (has_colon s.bonds a ≡ true))

-- the share of a bond in the valence of an atom that it ends at: 1 if it is aromatic, else its order
abbrev pub share : ℕ → SketchBond → Bool → ℕ
share a bond aromatic = if ends_at a bond then (if aromatic then 1 else order_of bond.kind) else 0

-- a double bond that ends at the atom has become aromatic
abbrev pub has_aromatic_double : List SketchBond → List Bool → ℕ → Bool
has_aromatic_double bonds aromatic a = list_any (λ p. ends_at a p.0 && (p.1 && is_double p.0.kind)) (zip bonds aromatic)

-- The row gives one electron, and the double bond in a ring that it rests on, if it does, has become aromatic.
abbrev pub adds_by : Bool → Option Row → Bool
adds_by aromatic_double None = false
adds_by aromatic_double (Some row) = (row.electrons == 1) && (not (by_ring_double row) || aromatic_double)

-- as `adds_by`, at an atom
abbrev pub adds_one : List SketchBond → List Bool → ℕ → Option Row → Bool
adds_one bonds aromatic a row = adds_by (has_aromatic_double bonds aromatic a) row

-- the sum of the shares of an atom's bonds in its valence
abbrev pub bonded : List SketchBond → List Bool → ℕ → ℕ
bonded bonds aromatic a = sum_by (λ p. share a p.0 p.1) (zip bonds aromatic)

-- the bonds of an atom, its hydrogens, and one more if it is aromatic and its row adds one
abbrev pub valence_of : SketchTerm → List Bool → List Bool → List Bool → ℕ → SketchAtom → ℕ
valence_of s rings aromatic_atoms aromatic_bonds a x =
    bonded s.bonds aromatic_bonds a + x.hydrogens
    + (if slice_index_or aromatic_atoms a false && adds_one s.bonds aromatic_bonds a (row_at s rings a) then 1 else 0)

-- The result of perception: a truth value for each atom and for each bond, and a valence for each atom.
pub record IsPerceived (s : SketchTerm) (rings : List Bool) (aromatic_atoms aromatic_bonds : List Bool)
    (sums : List ℕ) : Type 0 where
  pub atom_each : length aromatic_atoms ≡ length s.atoms
  pub bond_each : length aromatic_bonds ≡ length s.bonds
  pub atoms : (a : ℕ) → a < length s.atoms → (slice_index_or aromatic_atoms a false ≡ true) ↔ IsAromaticAtom s rings a
  pub bonds : (b : ℕ) → b < length s.bonds → (slice_index_or aromatic_bonds b false ≡ true) ↔ IsAromaticBond s rings b
  pub valences : sums ≡ map (λ p. valence_of s rings aromatic_atoms aromatic_bonds p.0 p.1) (enumerate_from 0 s.atoms)
  -- no atom is refused
  pub accepted : (a : ℕ) (x : SketchAtom) → slice_get s.atoms a ≡ Some x → IsRefused s rings a x → ⊥

-- the least atom that is refused is written as the w-th
abbrev pub IsFirstRefused : SketchTerm → List Bool → ℕ → Type 0
IsFirstRefused s rings w =
    (a : ℕ) × (x : SketchAtom) × (slice_get s.atoms a ≡ Some x) × IsRefused s rings a x × (x.written ≡ w)
    × ((b : ℕ) (y : SketchAtom) → b < a → slice_get s.atoms b ≡ Some y → IsRefused s rings b y → ⊥)

-- an atom is at fault exactly if it is the first that is refused; of memory nothing is said
abbrev pub IsFaultOf : SketchTerm → List Bool → AromFault → Type 0
IsFaultOf s rings (Aromatic w) = IsFirstRefused s rings w
IsFaultOf s rings NoMemory = Unit {0}

-- The invariant of a molecule's fields. For private clauses alone.
use Rattle.std.specs.Prelude.{◌≡◌, ℕ, ◌+◌, ◌*◌, ◌<◌, ◌≤◌, ◌↔◌, ◌++◌, Bool, false, List, [], length, map, None, Option, slice_get, slice_index, slice_index_or, slice_range, Some, true, IsPermutation}
use Rattle.std.specs.Int.{bit_at}
use Rattle.std.specs.List.Sorted.{IsNonDecreasing}
use Rattle.chem_core.specs.declared.adjacency.Step.{Step}
use Rattle.chem_core.specs.declared.sort_counts.SortCounts.{SortCounts}
use Rattle.chem_core.specs.declared.mol.Atom.{Atom}
use Rattle.chem_core.specs.declared.mol.AtomFacts.{AtomFacts}
use Rattle.chem_core.specs.declared.mol.Bond.{Bond}
use Rattle.chem_core.specs.declared.symbols.Symbols.{Symbols}
use Rattle.chem_core.specs.Bits.{HasBit}
use Rattle.chem_core.specs.Graph.{Ends, AreNeighbourLists, IsRingBond, degree}
use Rattle.chem_core.specs.Molecule.{IsMolecule, bond_ends}
use Rattle.chem_core.specs.RingFacts.{AreSmallestRings}
use Rattle.chem_core.specs.Component.{AreComponents}
use Rattle.chem_core.specs.Sorts.{AreCounts}
use Rattle.chem_core.specs.Symbols.{HasClass}
use Rattle.chem_core.specs.Words.{bits_of}

-- the end of list k: the start of the next one, or the end of all
abbrev pub end_of : {X : Type 0} → List X → List ℕ → ℕ → ℕ
end_of items starts k = slice_index_or starts (k + 1) (length items)

-- lists one after another, each from its start to its end
pub record AreInTurn {X : Type 0} (lists : List (List X)) (items : List X) (starts : List ℕ) : Type 0 where
  pub count : length starts ≡ length lists
  pub each : (k : ℕ) → k < length lists → (slice_index starts k ≤ end_of items starts k)
      × (end_of items starts k ≤ length items)
      × (slice_range items (slice_index starts k) (end_of items starts k) ≡ slice_index_or lists k [])

-- the neighbours of `atoms` atoms, one after another; each atom has one for each bond that ends at it
pub record AreNeighboursInTurn (ends : Ends) (atoms : ℕ) (items : List (ℕ × ℕ)) (starts : List ℕ) : Type 0 where
  pub lists : List (List (ℕ × ℕ))
  pub neighbours : AreNeighbourLists ends atoms lists
  pub counts : (a : ℕ) → a < atoms → length (slice_index_or lists a []) ≡ degree ends a
  pub turn : AreInTurn lists items starts

-- after the pairs of before come those of the steps, in ascending order
pub record AreSortedBehind (before : List (ℕ × ℕ)) (steps : List Step) (after : List (ℕ × ℕ)) : Type 0 where
  pub added : List (ℕ × ℕ)
  pub behind : after ≡ before ++ added
  pub same : IsPermutation (map (λ s. (s.to, s.bond)) steps) added
  pub ascending : IsNonDecreasing (map (λ p. p.0) added)

-- a symbol as a byte, and another byte if there is no atom
abbrev pub code : ℕ → Bool → ℕ
code number true = 2 * number + 1
code number false = 2 * number

abbrev pub code_in : Option Atom → ℕ
code_in None = 255
code_in (Some x) = code x.number x.aromatic

-- the symbols of the first 64 atoms, and a bit for each class of an atom
pub record AreSymbols (atoms : List Atom) (symbols : Symbols) : Type 0 where
  pub codes : (i : ℕ) → i < 64 → slice_index symbols.codes i ≡ code_in (slice_get atoms i)
  pub classes : (c : ℕ) → c < 64 → bit_at symbols.classes c ≡ 1 ↔ HasClass atoms c

pub record IsSoundInside (atoms : List Atom) (bonds : List Bond) (counts : SortCounts) (symbols : Symbols)
    (facts : List AtomFacts) (neighbours : List (ℕ × ℕ)) (ring_bonds : List ℕ) : Type 0 where
  pub molecule : IsMolecule (record { atoms = atoms; bonds = bonds })
  pub counted : AreCounts atoms bonds counts
  pub coded : AreSymbols atoms symbols
  pub lists : AreNeighboursInTurn (bond_ends bonds) (length atoms) neighbours (map (λ f. f.first_neighbour) facts)
  pub rings : (b : ℕ) → b < length bonds → HasBit (bits_of ring_bonds) b ↔ IsRingBond (bond_ends bonds) b
  pub smallest : AreSmallestRings (length atoms) (bond_ends bonds) (map (λ f. f.smallest_ring) facts)
  pub components : AreComponents (length atoms) (bond_ends bonds) (map (λ f. f.component) facts)

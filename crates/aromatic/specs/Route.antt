-- Paths of links, from one end of a bond on the way to its other end. For private clauses alone.
use Rattle.std.specs.Prelude.{◌≡◌, ◌≢◌, ℕ, ◌+◌, ◌-◌, ◌%◌, ◌<◌, ◌≤◌, List, ◌++◌, length, map, replicate, sum_by, slice_index, slice_index_or, AllPairs, Contains, Option, None, unwrap_or, Bool, true, false, ◌↔◌}
use Rattle.chem_core.specs.Sketch.{SketchTerm}
use Rattle.chem_core.specs.Graph.{Ends, IsSimpleGraph, JoinsAt, LiesOn}
use Rattle.aromatic.specs.Electrons.{row_at}
use Rattle.aromatic.specs.Huckel.{IsAromaticAtom, IsAromaticBond, IsHuckelBy}
use Rattle.aromatic.specs.Links.{AreLinks, IsLinked, links_at}
use Rattle.aromatic.specs.declared.cycle.Scratch.{Scratch}
use Rattle.aromatic.specs.declared.limits.TheConstants.{LONGEST, SHORTEST}
use Rattle.aromatic.specs.declared.links.Link.{Link}
use Rattle.aromatic.specs.declared.table.Row.{Row}

-- the atoms that links lead to
abbrev pub atoms_of : List Link → List ℕ
atoms_of path = map (λ l. l.to) path

abbrev pub last_of : List ℕ → ℕ
last_of path = slice_index path (length path - 1)

abbrev pub given_at : List (Option ℕ) → ℕ → ℕ
given_at gives a = unwrap_or (slice_index_or gives a None) 0

-- 1 to LONGEST distinct atoms, each linked to the one before it
pub record IsTrail (links : List (List Link)) (path : List ℕ) : Type 0 where
  pub some : 1 ≤ length path
  pub most : length path ≤ LONGEST
  pub in_range : (k : ℕ) → k < length path → slice_index path k < length links
  pub distinct : AllPairs ◌≢◌ path
  pub linked : (i : ℕ) → i + 1 < length path → IsLinked links (slice_index path i) (slice_index path (i + 1))

-- a truth value for each atom: it is on the path
abbrev pub AreFlags : List Bool → List Link → Type 0
AreFlags flags path = (a : ℕ) → (slice_index_or flags a false ≡ true) ↔ Contains (atoms_of path) a

-- between two searches: no atom has a distance, or is on a path
abbrev pub IsBlank : ℕ → Scratch → Type 0
IsBlank atoms scratch = (scratch.distances.items ≡ replicate atoms LONGEST)
    × (scratch.path.flags.items ≡ replicate atoms false)

-- such a path of at least three atoms that ends at the target, and whose electrons sum to 2 modulo 4
pub record IsRoute (links : List (List Link)) (gives : List (Option ℕ)) (target : ℕ) (path : List ℕ) : Type 0 where
  pub trail : IsTrail links path
  pub three : SHORTEST ≤ length path
  pub ends : last_of path ≡ target
  pub count : sum_by (λ a. given_at gives a) path % 4 ≡ 2

-- the path can be completed
abbrev pub CanReach : List (List Link) → List (Option ℕ) → ℕ → List ℕ → Type 0
CanReach links gives target path = (rest : List ℕ) × IsRoute links gives target (path ++ rest)

-- each link but the first is one of the atom that the link before it leads to
abbrev pub AreSteps : List (List Link) → List Link → Type 0
AreSteps links path = (i : ℕ) (d : Link) → i + 1 < length path → Contains (links_at links (slice_index_or path i d).to)
    (slice_index_or path (i + 1) d)

-- the path begins with the old one, goes on by links, and is a route
pub record Completes (links : List (List Link)) (gives : List (Option ℕ)) (target : ℕ) (old path : List Link) : Type 0
  where
    pub begins : (rest : List Link) × (path ≡ old ++ rest)
    pub steps : AreSteps links path
    pub route : IsRoute links gives target (atoms_of path)

-- ---- cycles and marks, by the electrons of each atom

-- the bond lies on a Hückel cycle
abbrev pub IsAromaticBy : Ends → List (Option ℕ) → ℕ → Type 0
IsAromaticBy ends gives b = (atoms : List ℕ) × IsHuckelBy ends (λ a. slice_index_or gives a None) atoms
    × LiesOn ends b atoms

-- The bonds that searches may go over, with each bond on a Hückel cycle among them. The links are those between the
-- candidates that these bonds join.
pub record IsNet (ends : Ends) (possible : List Bool) (gives : List (Option ℕ)) (links : List (List Link)) : Type 0
  where
    pub graph : IsSimpleGraph (length gives) ends
    pub count : length possible ≡ length ends
    pub whole : (b : ℕ) → IsAromaticBy ends gives b → slice_index_or possible b false ≡ true
    pub linked : AreLinks ends possible gives (length ends) links

-- each marked bond lies on a Hückel cycle, and of the bonds below place k each that lies on one is marked
pub record AreMarksBelow (ends : Ends) (gives : List (Option ℕ)) (k : ℕ) (marks : List Bool) : Type 0 where
  pub count : length marks ≡ length ends
  pub sound : (b : ℕ) → slice_index_or marks b false ≡ true → IsAromaticBy ends gives b
  pub each : (b : ℕ) → b < k → IsAromaticBy ends gives b → slice_index_or marks b false ≡ true

-- ---- facts about a sketch

-- a marked bond below place k ends at the atom
abbrev pub IsMarkedEnd : Ends → List Bool → ℕ → ℕ → Type 0
IsMarkedEnd ends marks k a = (b n : ℕ) × (b < k) × JoinsAt ends b a n × (slice_index_or marks b false ≡ true)

-- the row of each atom
pub record AreRows (s : SketchTerm) (rings : List Bool) (rows : List (Option Row)) : Type 0 where
  pub count : length rows ≡ length s.atoms
  pub each : (a : ℕ) → a < length s.atoms → slice_index_or rows a None ≡ row_at s rings a

-- a truth value for each bond: it lies on a Hückel cycle
pub record AreAromaticBonds (s : SketchTerm) (rings marks : List Bool) : Type 0 where
  pub count : length marks ≡ length s.bonds
  pub each : (b : ℕ) → b < length s.bonds → (slice_index_or marks b false ≡ true) ↔ IsAromaticBond s rings b

-- a truth value for each atom: it lies on a Hückel cycle
pub record AreAromaticAtoms (s : SketchTerm) (rings flags : List Bool) : Type 0 where
  pub count : length flags ≡ length s.atoms
  pub each : (a : ℕ) → (slice_index_or flags a false ≡ true) ↔ IsAromaticAtom s rings a

-- Bonds as pairs of ends: neighbours, cycles, rings. Atoms and bonds are named by their places, from 0. For callers.
use Rattle.std.specs.Prelude.{◌≡◌, ◌≢◌, ◌⊎◌, ℕ, ◌+◌, ◌%◌, ◌<◌, ◌≤◌, List, length, slice_get, slice_index, slice_index_or, [], count_by, Some, All, AllPairs, Contains, ◌==◌, ◌||◌, map}
use Rattle.std.specs.List.Sorted.{IsStrictlyIncreasing}
use Rattle.chem_core.specs.declared.limits.TheConstants.{MOST_ATOMS, MOST_BONDS, MOST_NEIGHBOURS}

-- the two ends of each bond
abbrev pub Ends : Type 0
Ends = List (ℕ × ℕ)

-- the bond at place b joins the atoms x and y
abbrev pub JoinsAt : Ends → ℕ → ℕ → ℕ → Type 0
JoinsAt ends b x y = (slice_get ends b ≡ Some (x, y)) ⊎ (slice_get ends b ≡ Some (y, x))

-- a bond joins the atoms x and y
abbrev pub Joined : Ends → ℕ → ℕ → Type 0
Joined ends x y = (b : ℕ) × JoinsAt ends b x y

-- the number of neighbours of the atom: the bonds that end at it
abbrev pub degree : Ends → ℕ → ℕ
degree ends a = count_by (λ e. (e.0 == a) || (e.1 == a)) ends

-- Within the limits on atoms, bonds and neighbours of an atom. Ends are distinct and in range, and no two bonds join
-- the same atoms.
pub record IsSimpleGraph (atoms : ℕ) (ends : Ends) : Type 0 where
  pub few_atoms : atoms ≤ MOST_ATOMS
  pub few_bonds : length ends ≤ MOST_BONDS
  pub few_neighbours : (a : ℕ) → degree ends a ≤ MOST_NEIGHBOURS
  pub in_range : All (λ e. (e.0 < atoms) × (e.1 < atoms)) ends
  pub distinct : All (λ e. e.0 ≢ e.1) ends
  pub once : (b c x y : ℕ) → JoinsAt ends b x y → JoinsAt ends c x y → b ≡ c

-- the neighbours of an atom, each with the bond to it, in ascending order
pub record AreNeighbours (ends : Ends) (a : ℕ) (pairs : List (ℕ × ℕ)) : Type 0 where
  pub ascending : IsStrictlyIncreasing (map (λ p. p.0) pairs)
  pub joined : (n b : ℕ) → Contains pairs (n, b) → JoinsAt ends b a n
  pub each : (n b : ℕ) → JoinsAt ends b a n → Contains pairs (n, b)

-- the lists of neighbours of all atoms, by the atom's place
pub record AreNeighbourLists (ends : Ends) (atoms : ℕ) (lists : List (List (ℕ × ℕ))) : Type 0 where
  pub count : length lists ≡ atoms
  pub each : (a : ℕ) → a < atoms → AreNeighbours ends a (slice_index_or lists a [])

-- the place after i in a list that is closed to a cycle
abbrev pub next_place : List ℕ → ℕ → ℕ
next_place atoms i = (i + 1) % length atoms

-- a simple cycle: at least three distinct atoms, neighbours joined, the last joined to the first
pub record IsSimpleCycle (ends : Ends) (atoms : List ℕ) : Type 0 where
  pub three : 3 ≤ length atoms
  pub distinct : AllPairs ◌≢◌ atoms
  pub joined : (i : ℕ) → i < length atoms → Joined ends (slice_index atoms i) (slice_index atoms (next_place atoms i))

-- the bond joins two neighbours of the cycle
abbrev pub LiesOn : Ends → ℕ → List ℕ → Type 0
LiesOn ends b atoms = (i : ℕ) × (i < length atoms) × JoinsAt ends b (slice_index atoms i)
    (slice_index atoms (next_place atoms i))

-- a ring bond joins two neighbours of a simple cycle
abbrev pub IsRingBond : Ends → ℕ → Type 0
IsRingBond ends b = (atoms : List ℕ) × IsSimpleCycle ends atoms × LiesOn ends b atoms

-- a ring atom is an end of a ring bond
abbrev pub IsRingAtom : Ends → ℕ → Type 0
IsRingAtom ends a = (b n : ℕ) × JoinsAt ends b a n × IsRingBond ends b

-- n is the least length of a simple cycle through the atom, and 0 if there is no such cycle
abbrev pub IsSmallestRing : Ends → ℕ → ℕ → Type 0
IsSmallestRing ends a n = ((n ≡ 0) × ((atoms : List ℕ) → IsSimpleCycle ends atoms → Contains atoms a → ⊥))
    ⊎ ((atoms : List ℕ) × IsSimpleCycle ends atoms × Contains atoms a × (length atoms ≡ n)
    × ((others : List ℕ) → IsSimpleCycle ends others → Contains others a → n ≤ length others))

-- n is the number of ring bonds that end at the atom: these, each once
abbrev pub IsRingBondCount : Ends → ℕ → ℕ → Type 0
IsRingBondCount ends a n = (bonds : List ℕ) × IsStrictlyIncreasing bonds × (length bonds ≡ n)
    × ((b : ℕ) → Contains bonds b → ((x : ℕ) × JoinsAt ends b a x) × IsRingBond ends b)
    × ((b x : ℕ) → JoinsAt ends b a x → IsRingBond ends b → Contains bonds b)

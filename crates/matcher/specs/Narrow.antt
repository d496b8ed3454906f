-- For private clauses alone: how the bonds of a graph narrow the candidates of its places, of at most 64 atoms.
use Rattle.std.specs.Prelude.{◌≡◌, ◌≢◌, ℕ, ◌+◌, ◌<◌, ◌≤◌, List, length, Bool, All, AllPairs, bit_and, bit_or, count_ones, slice_index, slice_index_or, IsTrue}
use Rattle.std.specs.Int.{bit_at}
use Rattle.chem_core.specs.Graph.{IsRingBond, JoinsAt}
use Rattle.chem_core.specs.Molecule.{Molecule, ends_of}
use Rattle.smarts_parse.specs.Pattern.{GraphTerm, graph_of}
use Rattle.smarts_parse.specs.Sound.{pattern_ends}
use Rattle.matcher.specs.declared.task.Task.{Task}
use Rattle.matcher.specs.declared.narrow.Around.{Around}
use Rattle.matcher.specs.declared.ring.Closing.{Closing}
use Rattle.matcher.specs.declared.narrow.Pass.{Pass}
use Rattle.matcher.specs.declared.narrow.Pass.TheVariants.{Refused, Changed, Stable}
use Rattle.matcher.specs.Ring.{AreRingMarks, IsMarked}
use Rattle.matcher.specs.Task.{Embeds}
use Rattle.matcher.specs.Wanted.{IsWithin}

-- the word of each atom has its neighbours
abbrev pub AreNear : Molecule → List ℕ → Type 0
AreNear m near = (b x y : ℕ) → JoinsAt (ends_of m) b x y → bit_at (slice_index near x) y ≡ 1

-- the word of each atom has its neighbours by ring bonds
abbrev pub AreRingNear : Molecule → List ℕ → Type 0
AreRingNear m near = (b x y : ℕ) → JoinsAt (ends_of m) b x y → IsRingBond (ends_of m) b
    → bit_at (slice_index near x) y ≡ 1

-- The notes are right: the marked bonds of the graph lie on rings. All neighbours are near if a bond is open, and those
-- by ring bonds if one is on a ring.
pub record IsNoted (task : Task) (closing : Closing) (all ring : List ℕ) : Type 0 where
  pub marks : AreRingMarks (graph_of task.graph.now) closing.on_ring.items
  pub near : IsTrue closing.has_open → AreNear task.mol.now all
  pub ring_near : IsTrue closing.has_ring → AreRingNear task.mol.now ring

-- each embedding takes the ends of a marked bond to an atom and one of those near it
abbrev pub IsReach : Task → List Bool → List ℕ → Type 0
IsReach task marks near = (image : List ℕ) → Embeds task image → (j x y : ℕ) → IsMarked marks j
    → JoinsAt (pattern_ends (graph_of task.graph.now)) j x y
    → bit_at (slice_index near (slice_index image x)) (slice_index image y) ≡ 1

-- There are `number` different places to which marked bonds among the first k lead from a place, and their candidates
-- are among the atoms.
pub record AreAround (g : GraphTerm) (marks : List Bool) (words : List ℕ) (place k atoms number : ℕ) : Type 0 where
  pub places : List ℕ
  pub size : length places ≡ number
  pub distinct : AllPairs ◌≢◌ places
  pub bonded : All (λ q. (j : ℕ) × (j < k) × IsMarked marks j × JoinsAt (pattern_ends g) j place q) places
  pub within : All (λ q. IsWithin (slice_index words q) atoms) places

-- the number and the atoms around a place of the list
abbrev pub around_at : List Around → ℕ → Around
around_at arounds place = slice_index_or arounds place (record { count = 0; atoms = 0 })

-- the new word has the atoms of the old one with at least `count` of the others near them, and only atoms of the old
-- one
pub record IsNarrowed (near : List ℕ) (from count atoms kept : ℕ) : Type 0 where
  pub enough : (a : ℕ) → a < 64 → bit_at from a ≡ 1 → count ≤ count_ones (bit_and (slice_index near a) atoms)
      → bit_at kept a ≡ 1
  pub within : (a : ℕ) → bit_at kept a ≡ 1 → bit_at from a ≡ 1

-- `around` with one place more, whose candidates the word has
abbrev pub more_around : Around → ℕ → Around
more_around around word = record { count = around.count + 1; atoms = bit_or around.atoms word }

-- each embedding maps the place to an atom with at least `around.count` of the atoms near it
abbrev pub HasAround : Task → List ℕ → ℕ → Around → Type 0
HasAround task near place around = (image : List ℕ) → Embeds task image
    → around.count ≤ count_ones (bit_and (slice_index near (slice_index image place)) around.atoms)

-- P holds if the pass refuses
abbrev pub IfRefused : Pass → Type 0 → Type 0
IfRefused Refused P = P
IfRefused Changed P = Unit {0}
IfRefused Stable P = Unit {0}

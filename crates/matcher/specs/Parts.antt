-- For private clauses alone: recursive parts, and a table with the atoms at which those of smaller numbers hold.
use Rattle.std.specs.Prelude.{◌≡◌, ℕ, ◌+◌, ◌*◌, ◌<◌, ◌≤◌, ◌↔◌, List, [], ◌∷◌, length, slice_get, slice_index, Some}
use Rattle.std.specs.Int.{bit_at}
use Rattle.chem_core.specs.declared.mol.Atom.{Atom}
use Rattle.chem_core.specs.Molecule.{Molecule}
use Rattle.chem_core.specs.Symbols.{class_of}
use Rattle.smarts_mean.specs.Table.{HoldsIn, Table}
use Rattle.smarts_parse.specs.Embedding.{PartsHold}
use Rattle.smarts_parse.specs.Pattern.{GraphTerm}
use Rattle.smarts_parse.specs.Sound.{IsSoundGraph}
use Rattle.matcher.specs.Partial.{CanComplete, Parts}

-- the invariant of the recursive parts of a pattern
pub record AreSoundParts (recs : List GraphTerm) : Type 0 where
  pub each : (j : ℕ) (g : GraphTerm) → slice_get recs j ≡ Some g → IsSoundGraph j g
  pub few_atoms : (j : ℕ) (g : GraphTerm) → slice_get recs j ≡ Some g → length g.atoms ≤ 256
  pub few : length recs ≤ 64

-- parts of numbers below n hold alike at atoms of the classes that are wanted of them
abbrev pub HoldAlike : List ℕ → Molecule → ℕ → Parts → Parts → Type 0
HoldAlike wanted m n P Q = (k a : ℕ) (x : Atom) → k < n → slice_get m.atoms a ≡ Some x
    → bit_at (slice_index wanted k) (class_of x) ≡ 1 → P k a ↔ Q k a

-- for each part of a number below n, the table has the atoms at which it holds, among those at which it is asked
abbrev pub AreNoted : List GraphTerm → Molecule → List ℕ → ℕ → Table → Type 0
AreNoted recs m wanted n table = HoldAlike wanted m n (HoldsIn table) (PartsHold recs m n)

-- the word has those atoms of a block, of the classes, at which an embedding of the graph begins
abbrev pub AreBeginnings : Parts → GraphTerm → Molecule → ℕ → ℕ → ℕ → Type 0
AreBeginnings parts g m classes block word = (i : ℕ) (x : Atom) → i < 64 → slice_get m.atoms (64 * block + i) ≡ Some x
    → bit_at classes (class_of x) ≡ 1 → bit_at word i ≡ 1 ↔ CanComplete parts g m ((64 * block + i) ∷ [])

-- For private clauses alone: the atoms to which each place of a graph may be mapped, as bits of words.
use Rattle.std.specs.Prelude.{◌≡◌, ◌↔◌, ℕ, ◌+◌, ◌*◌, ◌/◌, ◌%◌, ◌<◌, List, length, slice_get, slice_index, Some}
use Rattle.std.specs.Int.{bit_at}
use Rattle.chem_core.specs.Molecule.{Molecule}
use Rattle.smarts_mean.specs.Table.{HoldsIn}
use Rattle.smarts_parse.specs.declared.pattern.AtomPrim.{AtomPrim}
use Rattle.smarts_parse.specs.Pattern.{GraphTerm, Term, graph_of}
use Rattle.smarts_parse.specs.Truth.{AtomTrue}
use Rattle.matcher.specs.declared.task.Task.{Task}
use Rattle.matcher.specs.Partial.{Parts}
use Rattle.matcher.specs.Task.{Embeds}

-- the bit of the place for the atom is set
abbrev pub IsCandidate : List ℕ → ℕ → ℕ → Type 0
IsCandidate words place atom = bit_at (slice_index words (256 * (atom / 64) + place)) (atom % 64) ≡ 1

-- the expression of the place is true at the atom
abbrev pub IsTrueIn : Parts → GraphTerm → Molecule → ℕ → ℕ → Type 0
IsTrueIn parts g m place atom = (e : Term AtomPrim) → slice_get g.atoms place ≡ Some e → AtomTrue parts e m atom

abbrev pub IsTrueAt : Task → ℕ → ℕ → Type 0
IsTrueAt task = IsTrueIn (HoldsIn task.table.now) (graph_of task.graph.now) task.mol.now

-- the word has those atoms of the word `within`, for a block, at which the expression is true
abbrev pub IsTruth : Parts → Molecule → Term AtomPrim → ℕ → ℕ → ℕ → Type 0
IsTruth parts m e block within word = (i : ℕ) → i < 64
    → bit_at word i ≡ 1 ↔ ((bit_at within i ≡ 1) × AtomTrue parts e m (64 * block + i))

-- the word has those atoms of the block at which the expression of the place is true
abbrev pub IsTruthAt : Task → ℕ → ℕ → ℕ → Type 0
IsTruthAt task block place word = (e : Term AtomPrim) → slice_get (graph_of task.graph.now).atoms place ≡ Some e
    → (i : ℕ) → i < 64 → 64 * block + i < length task.mol.now.atoms
    → bit_at word i ≡ 1 ↔ AtomTrue (HoldsIn task.table.now) e task.mol.now (64 * block + i)

-- the candidates of each place are the atoms at which its expression is true
abbrev pub AreTruthsIn : Parts → GraphTerm → Molecule → List ℕ → Type 0
AreTruthsIn parts g m words = (p a : ℕ) → p < length g.atoms → a < length m.atoms
    → IsCandidate words p a ↔ IsTrueIn parts g m p a

abbrev pub AreTruths : Task → List ℕ → Type 0
AreTruths task = AreTruthsIn (HoldsIn task.table.now) (graph_of task.graph.now) task.mol.now

-- each expression is true at its place's candidates, and each embedding has each place at one of them
pub record AreCandidates (task : Task) (words : List ℕ) : Type 0 where
  pub held : (p a : ℕ) → p < length task.graph.now.atoms.items → a < length task.mol.now.atoms
      → IsCandidate words p a → IsTrueAt task p a
  pub whole : (image : List ℕ) → Embeds task image → (p : ℕ) → p < length image
      → IsCandidate words p (slice_index image p)

-- For private clauses alone: groups of places, each in one component of the molecule, different groups in different
-- ones.
use Rattle.std.specs.Prelude.{◌≡◌, ◌≢◌, ◌↔◌, ℕ, ◌<◌, ◌==◌, Bool, true, false, List, count_by, length, slice_index, slice_index_or}
use Rattle.chem_core.specs.Component.{IsComponent, Reaches}
use Rattle.chem_core.specs.Molecule.{Molecule, ends_of}
use Rattle.matcher.specs.declared.task.Task.{Task}
use Rattle.matcher.specs.Task.{Embeds}

-- the group of a place, 0 if it has none
abbrev pub group_at : Task → ℕ → ℕ
group_at task place = slice_index task.graph.now.groups.items place

-- A place of a group keeps to groups at an atom. A taken place of a group is of this group exactly if its atom is in
-- the atom's component.
abbrev pub KeepsGroup : Task → List ℕ → ℕ → ℕ → Type 0
KeepsGroup task taken group atom = (q : ℕ) → q < length taken → slice_index taken q < length task.mol.now.atoms
    → group_at task q ≢ 0
    → (group_at task q ≡ group) ↔ Reaches (ends_of task.mol.now) (slice_index taken q) atom

-- as `KeepsGroup`, of any place
abbrev pub KeepsGroups : Task → List ℕ → ℕ → ℕ → Type 0
KeepsGroups task taken place atom = group_at task place ≢ 0 → KeepsGroup task taken (group_at task place) atom

-- the first place of a group
pub record BeginsGroup (task : Task) (place : ℕ) : Type 0 where
  pub some : group_at task place ≢ 0
  pub first : (q : ℕ) → q < place → group_at task q ≢ group_at task place

-- no embedding has the place at the atom
abbrev pub IsNowhere : Task → ℕ → ℕ → Type 0
IsNowhere task place atom = (image : List ℕ) → Embeds task image → slice_index image place ≢ atom

-- the group is this one
abbrev pub is_of_group : ℕ → ℕ → Bool
is_of_group group other = other == group

-- the component of the atom has fewer than `count` atoms: the marked atoms are fewer, and have all of it
pub record HasFew (m : Molecule) (atom count : ℕ) : Type 0 where
  pub marks : List Bool
  pub all : (a : ℕ) → a < length m.atoms → Reaches (ends_of m) atom a → slice_index_or marks a false ≡ true
  pub few : count_by (λ mark. mark) marks < count

-- the component of the atom is marked, at its least atom
abbrev pub IsInMarked : Molecule → List Bool → ℕ → Type 0
IsInMarked m marks atom = (least : ℕ) × IsComponent (ends_of m) atom least × (slice_index_or marks least false ≡ true)

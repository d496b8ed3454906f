-- For private clauses alone: the range of each atom's bonds to earlier atoms among the bonds of a graph, and other
-- facts about the atom.
use Rattle.std.specs.Prelude.{◌≡◌, ◌⊎◌, ℕ, ◌+◌, ◌-◌, ◌<◌, ◌≤◌, List, drop, false, length, max, slice_get, slice_index, slice_index_or, take, true, Some}
use Rattle.smarts_parse.specs.declared.pattern.AtomPrim.{AtomPrim}
use Rattle.smarts_parse.specs.Pattern.{BondTerm, GraphTerm, Term}
use Rattle.matcher.specs.Class.{Covers}
use Rattle.matcher.specs.declared.plan.EarlierBonds.{EarlierBonds}
use Rattle.matcher.specs.Partial.{IsSearchable}

-- the step at a place; past the list's end an empty one
abbrev pub step_at : List EarlierBonds → ℕ → EarlierBonds
step_at steps k = slice_index_or steps k (record { from = 0; to = 0; classes = 0; again = false })

-- Each of the first n bonds is in the step of its higher end. A step that is not empty begins with a bond whose higher
-- end is its atom.
pub record ArePlanned (bonds : List BondTerm) (n atoms : ℕ) (steps : List EarlierBonds) : Type 0 where
  pub room : atoms ≤ length steps
  pub within : (k : ℕ) (d : BondTerm) → k < n → let bond = slice_index_or bonds k d
      in ((step_at steps (max bond.a bond.b)).from ≤ k) × (k < (step_at steps (max bond.a bond.b)).to)
  pub ends : (k : ℕ) → k < atoms → (step_at steps k).to ≤ n
  pub proper : (k : ℕ) → k < atoms → ((step_at steps k).to ≡ 0) ⊎ ((step_at steps k).from < (step_at steps k).to)
  pub first : (k : ℕ) (d : BondTerm) → k < atoms → (step_at steps k).from < (step_at steps k).to
      → let bond = slice_index_or bonds (step_at steps k).from d in max bond.a bond.b ≡ k

-- each step has the classes of the atoms to which its atom may be mapped
abbrev pub AreCovered : List (Term AtomPrim) → ℕ → List EarlierBonds → Type 0
AreCovered atoms n steps = (k : ℕ) → k < n → (d : Term AtomPrim)
    → Covers (step_at steps k).classes (slice_index_or atoms k d)

-- the expression of an atom is that of the one before
abbrev pub IsRepeat : List (Term AtomPrim) → ℕ → Type 0
IsRepeat atoms k = (0 < k) × ((d : Term AtomPrim) → slice_index_or atoms (k - 1) d ≡ slice_index_or atoms k d)

-- each step that says so is such a repeat
abbrev pub AreRepeats : List (Term AtomPrim) → ℕ → List EarlierBonds → Type 0
AreRepeats atoms n steps = (k : ℕ) → k < n → (step_at steps k).again ≡ true → IsRepeat atoms k

-- a graph that can be searched for, and its steps
pub record IsReady (g : GraphTerm) (steps : List EarlierBonds) : Type 0 where
  pub searchable : IsSearchable g
  pub planned : ArePlanned g.bonds (length g.bonds) (length g.atoms) steps
  pub covered : AreCovered g.atoms (length g.atoms) steps
  pub repeats : AreRepeats g.atoms (length g.atoms) steps

-- the steps of a graph are among others, from a place on
pub record StandsAt (g : GraphTerm) (steps : List EarlierBonds) (begin : ℕ) : Type 0 where
  pub fits : begin + length g.atoms ≤ length steps
  pub ready : IsReady g (take (length g.atoms) (drop begin steps))

-- as `StandsAt`, of each of the first n recursive parts, at its place
abbrev pub ArePartsPlanned : List GraphTerm → ℕ → List EarlierBonds → List ℕ → Type 0
ArePartsPlanned recs n steps begins = (k : ℕ) (g : GraphTerm) → k < n → slice_get recs k ≡ Some g
    → StandsAt g steps (slice_index begins k)

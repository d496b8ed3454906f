-- A pattern as its walks read it, and the steps that they took, for private clauses alone.
use Rattle.std.specs.Prelude.{◌≡◌, ◌≢◌, ℕ, ◌<◌, Bool, true, List, ◌∷◌, length, reverse, Contains, Some}
use Rattle.chem_core.specs.Bits.{HasBit}
use Rattle.smarts_parse.specs.Pattern.{graph_of}
use Rattle.path_print.specs.declared.pattern.Sheet.{Sheet}
use Rattle.path_print.specs.declared.pattern.Twins.{Twins}
use Rattle.path_print.specs.declared.step.Step.{Step}
use Rattle.path_print.specs.Path.{Family, View, label_of}
use Rattle.path_print.specs.Prints.{graph_view}
use Rattle.path_print.specs.Texts.{PathTerm, IsBitFrom, last_of}
use Rattle.path_print.specs.Squares.{IsSheet}

-- the sheet has the facts that the expressions of its graph imply
abbrev pub IsReady : Sheet → Type 0
IsReady s = IsSheet (graph_of s.graph.now) s.known.now s.square.now s.rows.now s.counts.now

abbrev pub views_of : Sheet → Family → View
views_of s = graph_view (graph_of s.graph.now)

abbrev pub IsAtom : Sheet → ℕ → Type 0
IsAtom s a = a < length (graph_of s.graph.now).atoms

-- the step from the end of a path to the atom y
pub record IsStep (s : Sheet) (p : PathTerm) (y : ℕ) (step : Step) : Type 0 where
  pub byte : (family : Family) → (views_of s family).byte (last_of p.atoms) y ≡ Some step.byte
  pub label : (family : Family) → (views_of s family).label y ≡ label_of family step.known

-- all bits of paths that grow from these atoms are set
abbrev pub AreSet : (Family → View) → List ℕ → List Bool → Type 0
AreSet views atoms print = (bit : ℕ) → IsBitFrom views atoms bit → HasBit print bit

-- a second atom by the same step, from which all paths to the first are marked
abbrev pub HasSecond : Sheet → PathTerm → Twins → List Bool → Type 0
HasSecond s p t print = (y : ℕ) × IsStep s p y t.step × (Contains p.atoms y → ⊥) × (y ≢ t.first)
    × AreSet (views_of s) (t.first ∷ reverse (y ∷ reverse p.atoms)) print

-- an atom by a step from the end of a path, from which all paths are marked, and perhaps a second
pub record AreTwins (s : Sheet) (p : PathTerm) (t : Twins) (print : List Bool) : Type 0 where
  pub atom : IsAtom s t.first
  pub step : IsStep s p t.first t.step
  pub new : Contains p.atoms t.first → ⊥
  pub marked : AreSet (views_of s) (t.first ∷ reverse p.atoms) print
  pub second : t.both ≡ true → HasSecond s p t print

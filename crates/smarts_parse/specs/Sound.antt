-- Facts of every pattern that is read.
use Rattle.std.specs.Prelude.{◌≡◌, ◌≢◌, ℕ, ◌+◌, ◌<◌, ◌≤◌, length, map, slice_get, sum_by, Some, All}
use Rattle.chem_core.specs.Graph.{Ends, JoinsAt}
use Rattle.smarts_parse.specs.declared.pattern.AtomPrim.{AtomPrim}
use Rattle.smarts_parse.specs.declared.pattern.AtomPrim.TheVariants.{Rec}
use Rattle.smarts_parse.specs.Pattern.{Term, Prim, Not, And, Or, GraphTerm, PatternTerm}

-- the two ends of each bond
abbrev pub pattern_ends : GraphTerm → Ends
pattern_ends g = map (λ b. (b.a, b.b)) g.bonds

-- a recursive part that is named has a number below n
abbrev pub PrimNamesBelow : ℕ → AtomPrim → Type 0
PrimNamesBelow n (Rec k) = k < n
PrimNamesBelow n _ = Unit {0}

-- the recursive parts that the expression names have numbers below n
abbrev pub NamesBelow : ℕ → Term AtomPrim → Type 0
NamesBelow n (Prim p) = PrimNamesBelow n p
NamesBelow n (Not e) = NamesBelow n e
NamesBelow n (And e f) = NamesBelow n e × NamesBelow n f
NamesBelow n (Or e f) = NamesBelow n e × NamesBelow n f

-- a graph has an atom; its bonds' ends are distinct and in range, and no two bonds join the same atoms. It names parts
-- below n alone, and each atom has a group or 0
pub record IsSoundGraph (n : ℕ) (g : GraphTerm) : Type 0 where
  pub some : 0 < length g.atoms
  pub in_range : All (λ e. (e.0 < length g.atoms) × (e.1 < length g.atoms)) (pattern_ends g)
  pub distinct : All (λ e. e.0 ≢ e.1) (pattern_ends g)
  pub once : (b c x y : ℕ) → JoinsAt (pattern_ends g) b x y → JoinsAt (pattern_ends g) c x y → b ≡ c
  pub names : All (NamesBelow n) g.atoms
  pub groups : length g.groups ≡ length g.atoms

-- at most 256 atoms in all parts together and 64 recursive parts, each of which names only parts of smaller number
pub record IsSoundPattern (p : PatternTerm) : Type 0 where
  pub top : IsSoundGraph (length p.recs) p.top
  pub parts : (j : ℕ) (g : GraphTerm) → slice_get p.recs j ≡ Some g → IsSoundGraph j g
  pub few_parts : length p.recs ≤ 64
  pub few_atoms : length p.top.atoms + sum_by (λ g. length g.atoms) p.recs ≤ 256

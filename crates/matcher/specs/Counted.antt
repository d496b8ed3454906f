-- For private clauses alone: how many atoms and bonds of each sort a pattern asks for.
use Rattle.std.specs.Prelude.{◌≡◌, ◌==◌, ◌&&◌, ◌||◌, ◌<◌, ℕ, Bool, bit_and, bit_or, count_by, length, List, min, slice_index, take}
use Rattle.chem_core.specs.declared.sort_counts.BondSort.{BondSort}
use Rattle.chem_core.specs.declared.sort_counts.SortCounts.{SortCounts}
use Rattle.chem_core.specs.Molecule.{Molecule}
use Rattle.chem_core.specs.Sorts.{AreCounts, Lacks, atom_sort, bond_sort}
use Rattle.smarts_parse.specs.declared.pattern.BondPrim.{BondPrim}
use Rattle.smarts_parse.specs.declared.pattern.BondPrim.TheVariants as bonds
use Rattle.smarts_parse.specs.Embedding.{Matches}
use Rattle.smarts_parse.specs.Pattern.{BondTerm, GraphTerm, PatternTerm, Term, Prim, Not, And, Or}
use Rattle.matcher.specs.Class.{is_within}
use Rattle.matcher.specs.declared.plan.EarlierBonds.{EarlierBonds}
use Rattle.matcher.specs.Plan.{step_at}

-- the kinds of the bonds at which a primitive may be true, a bit for each
abbrev pub prim_kinds : BondPrim → ℕ
prim_kinds bonds.Single = 1
prim_kinds bonds.Double = 2
prim_kinds bonds.Triple = 4
prim_kinds bonds.Quad = 8
prim_kinds bonds.Aromatic = 16
prim_kinds bonds.Unwritten = 17
prim_kinds bonds.Any = 31
prim_kinds bonds.Ring = 31

-- and those of an expression, maybe with others
abbrev pub kinds_of : Term BondPrim → ℕ
kinds_of (Prim p) = prim_kinds p
kinds_of (Not e) = 31
kinds_of (And e f) = bit_and (kinds_of e) (kinds_of f)
kinds_of (Or e f) = bit_or (kinds_of e) (kinds_of f)

-- the first word has all bits of the second
abbrev pub is_inside : ℕ → ℕ → Bool
is_inside all some = bit_or some all == all

-- a bond that may be of these kinds, with ends that may be of these classes, is surely of the sort
abbrev pub is_surely : BondSort → ℕ → ℕ → ℕ → Bool
is_surely s kinds a b = is_inside s.kinds kinds
    && ((is_inside s.one a && is_inside s.other b) || (is_inside s.one b && is_inside s.other a))

-- the bond of the graph lies at bonds of the sort alone
abbrev pub is_sure : BondSort → List EarlierBonds → BondTerm → Bool
is_sure s steps bond = is_surely s (kinds_of bond.expr) (step_at steps bond.a).classes (step_at steps bond.b).classes

-- how many places and bonds of a graph are surely of each sort
pub record AreGraphCounts (g : GraphTerm) (steps : List EarlierBonds) (counts : SortCounts) : Type 0 where
  pub of_atoms : (k : ℕ) → k < 8
      → slice_index counts.atoms k ≡ min 255 (count_by (is_within (atom_sort k)) (take (length g.atoms) steps))
  pub of_bonds : (k : ℕ) → k < 8 → slice_index counts.bonds k ≡ min 255 (count_by (is_sure (bond_sort k) steps) g.bonds)

-- no molecule in which the pattern embeds lacks one of the counts
abbrev pub AreAsked : PatternTerm → SortCounts → Type 0
AreAsked p asked = (m : Molecule) (have : SortCounts) → AreCounts m.atoms m.bonds have → Matches p m
    → ¬ Lacks have asked

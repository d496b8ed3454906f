-- A structure as it is written, without its place in memory. For callers.
use Rattle.std.specs.Prelude.{ℕ, Bool, ◌==◌, ◌||◌, List}
use Rattle.chem_core.specs.declared.sketch.SketchAtom.{SketchAtom}
use Rattle.chem_core.specs.declared.sketch.SketchBond.{SketchBond}
use Rattle.chem_core.specs.declared.sketch.SketchKind.{SketchKind}
use Rattle.chem_core.specs.declared.sketch.SketchKind.TheVariants.{Unwritten, Single, Double, Triple, Quad, Colon}

pub record SketchTerm : Type 0 where
  pub atoms : List SketchAtom
  pub bonds : List SketchBond

-- a bond's order; a bond without a symbol and `:` are single, if they are not aromatic
abbrev pub order_of : SketchKind → ℕ
order_of Unwritten = 1
order_of Single = 1
order_of Double = 2
order_of Triple = 3
order_of Quad = 4
order_of Colon = 1

-- the bond ends at the atom
abbrev pub ends_at : ℕ → SketchBond → Bool
ends_at a bond = (bond.a == a) || (bond.b == a)

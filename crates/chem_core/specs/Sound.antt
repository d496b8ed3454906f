-- The invariant of every sketch that a reader gives. For callers.
use Rattle.std.specs.Prelude.{◌≤◌, List, length, map, All, pos, neg_ℤ, ◌≤ℤ◌}
use Rattle.chem_core.specs.declared.sketch.SketchAtom.{SketchAtom}
use Rattle.chem_core.specs.declared.sketch.SketchBond.{SketchBond}
use Rattle.chem_core.specs.declared.sketch.Fill.{Fill}
use Rattle.chem_core.specs.declared.sketch.Fill.TheVariants.{Given, Organic, Table, Fixed}
use Rattle.chem_core.specs.Graph.{Ends, IsSimpleGraph}
use Rattle.chem_core.specs.Sketch.{SketchTerm}

-- the two ends of each bond of a list
abbrev pub ends_among : List SketchBond → Ends
ends_among bonds = map (λ b. (b.a, b.b)) bonds

-- the two ends of each bond of a sketch
abbrev pub sketch_ends : SketchTerm → Ends
sketch_ends s = ends_among s.bonds

-- at most 2 radical electrons, and a written valence of at most 15
abbrev pub IsFill : Fill → Type 0
IsFill Given = Unit {0}
IsFill Organic = Unit {0}
IsFill (Table radicals) = radicals ≤ 2
IsFill (Fixed valence) = valence ≤ 15

pub record IsSketchAtom (atom : SketchAtom) : Type 0 where
  pub number : atom.number ≤ 103
  pub isotope : atom.isotope ≤ 999
  pub lowest_charge : neg_ℤ (pos 15) ≤ℤ atom.charge
  pub highest_charge : atom.charge ≤ℤ pos 15
  pub fill : IsFill atom.fill
  pub hydrogens : atom.hydrogens ≤ 27

pub record IsSound (s : SketchTerm) : Type 0 where
  pub graph : IsSimpleGraph (length s.atoms) (sketch_ends s)
  pub each : All IsSketchAtom s.atoms

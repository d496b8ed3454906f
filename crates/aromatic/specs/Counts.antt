-- The counts of an atom's bonds, one bond after another. For private clauses alone.
use Rattle.std.specs.Prelude.{◌≡◌, ℕ, ◌+◌, ◌<◌, ◌&&◌, not, Bool, List, length, slice_get, Some, if◌then◌else◌}
use Rattle.chem_core.specs.declared.sketch.SketchAtom.{SketchAtom}
use Rattle.chem_core.specs.declared.sketch.SketchBond.{SketchBond}
use Rattle.chem_core.specs.declared.sketch.SketchKind.{SketchKind}
use Rattle.aromatic.specs.declared.environment.Environment.{Environment}
use Rattle.aromatic.specs.Electrons.{is_double, is_hetero, is_higher, is_oxygen, environment_among}

-- an atom before any bond
abbrev pub without_bonds : SketchAtom → Environment
without_bonds x = record {
  number = x.number;
  charge = x.charge;
  lower = x.lower;
  hydrogens = x.hydrogens;
  neighbours = 0;
  ring_bonds = 0;
  higher = 0;
  ring_doubles = 0;
  outer_doubles = 0;
  to_oxygen = 0;
  to_hetero = 0;
}

-- one more if the test holds
abbrev pub more : ℕ → Bool → ℕ
more n test = n + (if test then 1 else 0)

-- one more bond, which leads to an element of this number
abbrev pub add : Environment → SketchKind → Bool → ℕ → Environment
add x kind ring number = record x {
  neighbours = x.neighbours + 1;
  ring_bonds = more x.ring_bonds ring;
  higher = more x.higher (is_higher kind);
  ring_doubles = more x.ring_doubles (ring && is_double kind);
  outer_doubles = more x.outer_doubles (not ring && is_double kind);
  to_oxygen = more x.to_oxygen (not ring && (is_double kind && is_oxygen number));
  to_hetero = more x.to_hetero (not ring && (is_double kind && is_hetero number));
}

-- no count is near the end of its type
pub record HasFewBonds (x : Environment) : Type 0 where
  pub neighbours : x.neighbours < 1000
  pub ring_bonds : x.ring_bonds < 1000
  pub higher : x.higher < 1000
  pub ring_doubles : x.ring_doubles < 1000
  pub outer_doubles : x.outer_doubles < 1000
  pub to_oxygen : x.to_oxygen < 1000
  pub to_hetero : x.to_hetero < 1000

-- the facts that the table reads of each atom and of these bonds, by the atom's place
pub record AreEnvironments (atoms : List SketchAtom) (pairs : List (SketchBond × Bool))
    (environments : List Environment) : Type 0 where
  pub count : length environments ≡ length atoms
  pub each : (a : ℕ) (x : SketchAtom) → slice_get atoms a ≡ Some x → slice_get environments a
      ≡ Some (environment_among atoms a x pairs)

-- The sum of the orders of an atom's bonds, and facts about them. For private clauses alone.
use Rattle.std.specs.Prelude.{◌≡◌, ℕ, ◌+◌, ◌<◌, ◌&&◌, ◌||◌, not, Bool, true, false, List, slice_get, slice_index_or, Option, None, Some, if◌then◌else◌}
use Rattle.chem_core.specs.declared.sketch.SketchAtom.{SketchAtom}
use Rattle.chem_core.specs.declared.sketch.SketchBond.{SketchBond}
use Rattle.chem_core.specs.declared.sketch.SketchKind.{SketchKind}
use Rattle.chem_core.specs.Sketch.{order_of}
use Rattle.aromatic.specs.declared.table.Row.{Row}
use Rattle.aromatic.specs.declared.bond_tallies.Tally.{Tally}
use Rattle.aromatic.specs.Electrons.{is_double}
use Rattle.aromatic.specs.Huckel.{bonded, has_aromatic_double, has_colon, is_colon, adds_by}

-- an atom without bonds
abbrev pub no_bonds : Tally
no_bonds = record { bonded = 0; aromatic_double = false; colon = false }

-- one more bond
abbrev pub with_bond : Tally → SketchKind → Bool → Tally
with_bond t kind aromatic = record {
  bonded = t.bonded + (if aromatic then 1 else order_of kind);
  aromatic_double = t.aromatic_double || (aromatic && is_double kind);
  colon = t.colon || is_colon kind;
}

-- the sum of the orders of its bonds, and facts about them
abbrev pub tally_of : List SketchBond → List Bool → ℕ → Tally
tally_of bonds aromatic a = record {
  bonded = bonded bonds aromatic a;
  aromatic_double = has_aromatic_double bonds aromatic a;
  colon = has_colon bonds a;
}

-- the tally at a place, and that of no bonds past the last
abbrev pub tally_at : List Tally → ℕ → Tally
tally_at tallies a = slice_index_or tallies a no_bonds

-- the tally of each atom, by its place
abbrev pub AreTallies : List SketchBond → List Bool → List Tally → Type 0
AreTallies bonds aromatic tallies = (a : ℕ) → tally_at tallies a ≡ tally_of bonds aromatic a

-- the atom is refused, by whether it is aromatic and whether a bond `:` ends at it
abbrev pub refused_by : Bool → Bool → SketchAtom → Bool
refused_by aromatic colon x = if x.lower then not aromatic else colon

-- as `refused_by`, of the atom at a place
abbrev pub refused_at : List Bool → List Tally → ℕ → SketchAtom → Bool
refused_at aromatic tallies a x = refused_by (slice_index_or aromatic a false) (tally_at tallies a).colon x

-- no atom passes the test
abbrev pub NonePasses : (ℕ → SketchAtom → Bool) → List SketchAtom → Type 0
NonePasses test atoms = (a : ℕ) (x : SketchAtom) → slice_get atoms a ≡ Some x → test a x ≡ false

-- the first atom that passes the test is written as the w-th
abbrev pub IsFirstToPass : (ℕ → SketchAtom → Bool) → List SketchAtom → ℕ → Type 0
IsFirstToPass test atoms w =
    (a : ℕ) × (x : SketchAtom) × (slice_get atoms a ≡ Some x) × (test a x ≡ true) × (x.written ≡ w)
    × ((b : ℕ) (y : SketchAtom) → b < a → slice_get atoms b ≡ Some y → test b y ≡ false)

-- the valence of an atom, by the tally of its bonds, its row, and whether it is aromatic
abbrev pub valence_told : Tally → Option Row → Bool → SketchAtom → ℕ
valence_told tally row aromatic x = tally.bonded + x.hydrogens
    + (if aromatic && adds_by tally.aromatic_double row then 1 else 0)

-- as `valence_told`, of the atom at a place
abbrev pub valence_at : List Bool → List Tally → List (Option Row) → ℕ → SketchAtom → ℕ
valence_at aromatic tallies rows a x = valence_told (tally_at tallies a) (slice_index_or rows a None)
    (slice_index_or aromatic a false) x

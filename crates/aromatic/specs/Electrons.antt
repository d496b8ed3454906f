-- The electrons that an atom gives to an aromatic ring. The table is this project's own profile. For callers.
use Rattle.std.specs.Prelude.{ℕ, ℤ, ◌+◌, ◌==◌, ◌&&◌, ◌||◌, not, nat_le, Bool, true, false, List, [], ◌∷◌, slice_get, slice_index_or, count_by, map, Option, None, Some, option_and_then, option_map, if◌then◌else◌, pos, neg_ℤ}
use Rattle.std.specs.List.{find, list_any, zip}
use Rattle.std.specs.Ordering.{int_eq}
use Rattle.chem_core.specs.declared.sketch.SketchAtom.{SketchAtom}
use Rattle.chem_core.specs.declared.sketch.SketchBond.{SketchBond}
use Rattle.chem_core.specs.declared.sketch.SketchKind.{SketchKind}
use Rattle.chem_core.specs.declared.sketch.SketchKind.TheVariants.{Double, Triple, Quad}
use Rattle.chem_core.specs.Sketch.{SketchTerm, ends_at}
use Rattle.aromatic.specs.declared.environment.Environment.{Environment}
use Rattle.aromatic.specs.declared.table.Row.{Row}
use Rattle.aromatic.specs.declared.table.Family.{Family}
use Rattle.aromatic.specs.declared.table.Family.TheVariants.{Boron, Carbon, Nitrogen, NitrogenOrPhosphorus, NitrogenGroup, OxygenGroup}
use Rattle.aromatic.specs.declared.table.Doubles.{Doubles}
use Rattle.aromatic.specs.declared.table.Doubles.TheVariants.{Absent, Ring, RingAndOxygen, Oxygen, Hetero}

abbrev pub is_double : SketchKind → Bool
is_double Double = true
is_double _ = false

-- of order 3 or 4
abbrev pub is_higher : SketchKind → Bool
is_higher Triple = true
is_higher Quad = true
is_higher _ = false

-- the number of an atom's element, and 0 if there is no such atom
abbrev pub number_at : List SketchAtom → ℕ → ℕ
number_at atoms a = slice_index_or (map (λ x. x.number) atoms) a 0

-- the number of the element at the other end of a bond
abbrev pub element_beyond : List SketchAtom → ℕ → SketchBond → ℕ
element_beyond atoms a bond = number_at atoms (if bond.a == a then bond.b else bond.a)

abbrev pub is_oxygen : ℕ → Bool
is_oxygen number = number == 8

-- O, N or S
abbrev pub is_hetero : ℕ → Bool
is_hetero number = (number == 8) || ((number == 7) || (number == 16))

-- the number of bonds, each with whether it is a ring bond, that end at the atom and pass the test
abbrev pub count_at : List (SketchBond × Bool) → ℕ → (SketchBond → Bool → Bool) → ℕ
count_at pairs a test = count_by (λ p. ends_at a p.0 && test p.0 p.1) pairs

-- the facts that the table reads of an atom and of these bonds
abbrev pub environment_among : List SketchAtom → ℕ → SketchAtom → List (SketchBond × Bool) → Environment
environment_among atoms a x pairs = record {
  number = x.number;
  charge = x.charge;
  lower = x.lower;
  hydrogens = x.hydrogens;
  neighbours = count_at pairs a (λ bond ring. true);
  ring_bonds = count_at pairs a (λ bond ring. ring);
  higher = count_at pairs a (λ bond ring. is_higher bond.kind);
  ring_doubles = count_at pairs a (λ bond ring. ring && is_double bond.kind);
  outer_doubles = count_at pairs a (λ bond ring. not ring && is_double bond.kind);
  to_oxygen = count_at pairs a (λ bond ring. not ring
      && (is_double bond.kind && is_oxygen (element_beyond atoms a bond)));
  to_hetero = count_at pairs a (λ bond ring. not ring
      && (is_double bond.kind && is_hetero (element_beyond atoms a bond)));
}

abbrev pub environment_of : SketchTerm → List Bool → ℕ → SketchAtom → Environment
environment_of s rings a x = environment_among s.atoms a x (zip s.bonds rings)

-- ---- the table

abbrev pub members : Family → List ℕ
members Boron = 5 ∷ []
members Carbon = 6 ∷ []
members Nitrogen = 7 ∷ []
members NitrogenOrPhosphorus = 7 ∷ 15 ∷ []
members NitrogenGroup = 7 ∷ 15 ∷ 33 ∷ []
members OxygenGroup = 8 ∷ 16 ∷ 34 ∷ []

abbrev pub has_number : Family → ℕ → Bool
has_number family number = list_any (λ n. number == n) (members family)

abbrev pub has_doubles : Doubles → Environment → Bool
-- no double bond
has_doubles Absent x = (x.ring_doubles == 0) && (x.outer_doubles == 0)
-- exactly one, a ring bond
has_doubles Ring x = (x.ring_doubles == 1) && (x.outer_doubles == 0)
-- exactly two: one that is a ring bond, and one that is not, to O
has_doubles RingAndOxygen x = (x.ring_doubles == 1) && (x.outer_doubles == 1) && (x.to_oxygen == 1)
-- exactly one, no ring bond, to O
has_doubles Oxygen x = (x.ring_doubles == 0) && (x.outer_doubles == 1) && (x.to_oxygen == 1)
-- exactly one, no ring bond, to O, N or S
has_doubles Hetero x = (x.ring_doubles == 0) && (x.outer_doubles == 1) && (x.to_hetero == 1)

-- this number of neighbours and hydrogens, or any number
abbrev pub has_connected : Option ℕ → Environment → Bool
has_connected None x = true
has_connected (Some n) x = (x.neighbours + x.hydrogens) == n

-- A row that asks for no lower case holds for both.
unfoldable pub fits : Row → Environment → Bool
fits row x =
    has_number row.family x.number && int_eq row.charge x.charge && (not row.lower || x.lower)
    && has_doubles row.doubles x && has_connected row.connected x

-- a row: elements, charge, whether it asks for a symbol in lower case, double bonds, neighbours and hydrogens,
-- electrons
abbrev row : Family → ℤ → Bool → Doubles → Option ℕ → ℕ → Row
row family charge lower doubles connected electrons = record {
  family = family;
  charge = charge;
  lower = lower;
  doubles = doubles;
  connected = connected;
  electrons = electrons;
}

unfoldable pub rows : List Row
rows =
    row Carbon (pos 0) false Ring None 1 ∷
    row NitrogenGroup (pos 0) false Ring None 1 ∷
    row NitrogenGroup (pos 1) false Ring None 1 ∷
    row OxygenGroup (pos 1) false Ring None 1 ∷
    row Boron (neg_ℤ (pos 1)) false Ring None 1 ∷
    row Nitrogen (pos 0) false RingAndOxygen None 1 ∷
    row Nitrogen (pos 0) true Oxygen (Some 3) 1 ∷
    row Carbon (pos 0) false Hetero None 0 ∷
    row Carbon (pos 0) true Absent (Some 3) 1 ∷
    row NitrogenGroup (pos 0) true Absent (Some 2) 1 ∷
    row NitrogenGroup (pos 1) true Absent (Some 3) 1 ∷
    row OxygenGroup (pos 1) true Absent (Some 2) 1 ∷
    row Boron (pos 0) true Absent (Some 2) 1 ∷
    row Boron (neg_ℤ (pos 1)) true Absent (Some 3) 1 ∷
    row NitrogenGroup (pos 0) false Absent (Some 3) 2 ∷
    row NitrogenOrPhosphorus (neg_ℤ (pos 1)) false Absent (Some 2) 2 ∷
    row OxygenGroup (pos 0) false Absent (Some 2) 2 ∷
    row Carbon (neg_ℤ (pos 1)) false Absent (Some 3) 2 ∷
    row Carbon (pos 1) false Absent (Some 3) 0 ∷
    row Boron (pos 0) false Absent (Some 3) 0 ∷
    []

abbrev pub is_by_ring : Doubles → Bool
is_by_ring Ring = true
is_by_ring RingAndOxygen = true
is_by_ring _ = false

-- the row rests on a double bond in a ring
abbrev pub by_ring_double : Row → Bool
by_ring_double row = is_by_ring row.doubles

-- the first row that fits
abbrev pub row_of : Environment → Option Row
row_of x = find (λ row. fits row x) rows

-- two or three neighbours, at least two ring bonds, and no bond of order 3 or 4
abbrev pub is_eligible : Environment → Bool
is_eligible x = ((x.neighbours == 2) || (x.neighbours == 3)) && nat_le 2 x.ring_bonds && (x.higher == 0)

-- the row of an atom with these facts, if it is a candidate
abbrev pub candidate_row : Environment → Option Row
candidate_row x = if is_eligible x then row_of x else None

-- the row of an atom, if it is a candidate
abbrev pub row_at : SketchTerm → List Bool → ℕ → Option Row
row_at s rings a = option_and_then (λ x. candidate_row (environment_of s rings a x)) (slice_get s.atoms a)

-- the electrons that an atom gives; `None` if it is not a candidate
abbrev pub electrons : SketchTerm → List Bool → ℕ → Option ℕ
electrons s rings a = option_map (λ row. row.electrons) (row_at s rings a)

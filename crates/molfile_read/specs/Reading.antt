-- The sketch of a molfile, or the first fault (CTfile formats, V2000). For callers.
use Rattle.std.specs.Prelude.{◌≡◌, ◌≢◌, ◌⊎◌, ℕ, ◌+◌, ◌<◌, ◌≤◌, ◌==◌, not, Bool, false, List, [], length, take, drop, map, position, All, Option, Some, None, unwrap_or, Result, Ok, Err, ℤ, pos, negsuc, if◌then◌else◌}
use Rattle.std.specs.List.{enumerate_from}
use Rattle.std.specs.Ordering.{int_eq}
use Rattle.chem_core.specs.declared.sketch.SketchAtom.{SketchAtom}
use Rattle.chem_core.specs.declared.sketch.SketchKind.TheVariants.{Colon}
use Rattle.chem_core.specs.declared.sketch.Fill.{Fill}
use Rattle.chem_core.specs.declared.sketch.Fill.TheVariants.{Table, Fixed}
use Rattle.chem_core.specs.declared.limits.TheConstants.{MOST_NEIGHBOURS}
use Rattle.chem_core.specs.Graph.{degree}
use Rattle.chem_core.specs.Sketch.{SketchTerm}
use Rattle.chem_core.specs.Sound.{sketch_ends}
use Rattle.molfile_read.specs.declared.fault.MolfileFault.{MolfileFault}
use Rattle.molfile_read.specs.declared.fault.MolfileFault.TheVariants.{Columns, Limit, Cut, NoMemory}
use Rattle.molfile_read.specs.declared.read.TheConstants.{MOST_BYTES}
use Rattle.molfile_read.specs.declared.atom.AtomLine.{AtomLine}
use Rattle.molfile_read.specs.declared.setting.Setting.{Setting}
use Rattle.molfile_read.specs.Text.{Line, numbered_lines}
use Rattle.molfile_read.specs.Steps.{◌>>=◌, each}
use Rattle.molfile_read.specs.Counts.{first_counts}
use Rattle.molfile_read.specs.Atoms.{atom_read}
use Rattle.molfile_read.specs.Bonds.{bonds_read}
use Rattle.molfile_read.specs.Properties.{settings_read, property_lines, is_ended, last_set, charge_of, radical_of, isotope_of, sets_charges, sets_isotopes}

-- the charge of a charge field: 1 to 3 are +3 to +1, 5 to 7 are -1 to -3
abbrev pub field_charge : ℕ → ℤ
field_charge n =
    if n == 1 then pos 3 else (if n == 2 then pos 2 else (if n == 3 then pos 1 else
    (if n == 5 then negsuc 0 else (if n == 6 then negsuc 1 else (if n == 7 then negsuc 2 else pos 0)))))

-- the radical electrons of a charge field: 4 is a doublet
abbrev pub field_electrons : ℕ → ℕ
field_electrons n = if n == 4 then 1 else 0

-- a valence field: nothing for 0, and 15 is the valence 0
abbrev pub fill_of : ℕ → ℕ → Fill
fill_of valence electrons = if valence == 0 then Table electrons else (if valence == 15 then Fixed 0 else Fixed valence)

-- The atom at a place, by its line, by its last settings, and by whether a line sets charges or radicals. Any such line
-- replaces all charge fields, and their radicals too.
abbrev pub made_atom : ℕ → AtomLine → Bool → Option ℤ → Option ℕ → Option ℕ → SketchAtom
made_atom place atom charges_set charge radical isotope = record {
  number = atom.number;
  isotope = unwrap_or isotope atom.isotope;
  charge = if charges_set then unwrap_or charge (pos 0) else field_charge atom.charge;
  lower = false;
  fill = fill_of atom.valence (if charges_set then unwrap_or radical 0 else field_electrons atom.charge);
  hydrogens = 0;
  written = place;
}

abbrev pub sketch_atom : List Setting → ℕ → AtomLine → SketchAtom
sketch_atom settings place atom =
    made_atom place atom (sets_charges settings)
    (last_set charge_of place settings) (last_set radical_of place settings) (last_set isotope_of place settings)

abbrev pub sketch_atoms : List Setting → List AtomLine → List SketchAtom
sketch_atoms settings atoms = map (λ p. sketch_atom settings p.0 p.1) (enumerate_from 0 atoms)

-- another mass than the element's, which only lines on isotopes can say here
abbrev pub has_mass : AtomLine → Bool
has_mass atom = not (int_eq atom.mass (pos 0))

-- the fault of the first atom line with a mass difference, unless a line sets isotopes
abbrev pub mass_fault : Option ℕ → Result (Unit {0}) MolfileFault
mass_fault None = Ok tt
mass_fault (Some place) = Err (Columns (5 + place))

abbrev pub masses_read : List AtomLine → List Setting → Result (Unit {0}) MolfileFault
masses_read atoms settings = if sets_isotopes settings then Ok tt else mass_fault (position has_mass atoms)

-- The reading of the lines: three header lines, the counts line, its number of atom lines and bond lines, and property
-- lines up to the end. First come the faults of lines, in order, then a missing end, then a mass difference.
unfoldable pub drawn : List Line → Result SketchTerm MolfileFault
drawn lines =
    first_counts (drop 3 lines) >>= λ counts.
    let block = drop 4 lines in
    let bonds_on = drop counts.atoms block in
    let properties_on = drop counts.bonds bonds_on in
    each atom_read (take counts.atoms block) >>= λ atoms.
    bonds_read counts.atoms [] (take counts.bonds bonds_on) >>= λ bonds.
    settings_read counts.atoms (property_lines false properties_on) >>= λ settings.
    (if not (is_ended false properties_on) then Err Cut else
    (masses_read atoms settings >>= λ _. Ok (record { atoms = sketch_atoms settings atoms; bonds = bonds })))

-- no atom has more neighbours than a structure may have
abbrev pub HasFewNeighbours : SketchTerm → Type 0
HasFewNeighbours s = (a : ℕ) → degree (sketch_ends s) a ≤ MOST_NEIGHBOURS

-- The answer to a text: the sketch, or the first fault. Want of memory may come at any text.
abbrev pub IsReading : List ℕ → Result SketchTerm MolfileFault → Type 0
IsReading text (Ok s) = (length text ≤ MOST_BYTES) × (drawn (numbered_lines text) ≡ Ok s) × HasFewNeighbours s
IsReading text (Err Limit) =
    (MOST_BYTES < length text) ⊎ ((s : SketchTerm) × (drawn (numbered_lines text) ≡ Ok s) × ¬ HasFewNeighbours s)
IsReading text (Err NoMemory) = Unit {0}
IsReading text (Err fault) = (length text ≤ MOST_BYTES) × (drawn (numbered_lines text) ≡ Err fault)

-- no atom is in lower case, and no bond is `:`
pub record HasNoAromaticMark (s : SketchTerm) : Type 0 where
  pub atoms : All (λ a. a.lower ≡ false) s.atoms
  pub bonds : All (λ b. b.kind ≢ Colon) s.bonds

-- The promises between the parts of the reader. For private clauses alone.
use Rattle.std.specs.Prelude.{◌≡◌, ◌≢◌, ◌⊎◌, ℕ, ◌<◌, ◌≤◌, Bool, true, false, nat_lt, List, [], ◌∷◌, ◌++◌, length, All, Option, Some, None, Result, Ok, Err, pos, neg_ℤ, ◌≤ℤ◌, if◌then◌else◌}
use Rattle.std.specs.List.{AllByRecursion}
use Rattle.chem_core.specs.declared.sketch.SketchAtom.{SketchAtom}
use Rattle.chem_core.specs.declared.sketch.SketchBond.{SketchBond}
use Rattle.chem_core.specs.declared.sketch.SketchKind.{SketchKind}
use Rattle.chem_core.specs.declared.sketch.SketchKind.TheVariants.{Unwritten, Single, Double, Triple, Quad, Colon}
use Rattle.chem_core.specs.declared.limits.TheConstants.{MOST_ATOMS}
use Rattle.chem_core.specs.Sketch.{SketchTerm}
use Rattle.chem_core.specs.Sound.{IsSketchAtom}
use Rattle.molfile_read.specs.declared.fault.MolfileFault.{MolfileFault}
use Rattle.molfile_read.specs.declared.fault.MolfileFault.TheVariants.{Cut, NoMemory}
use Rattle.molfile_read.specs.declared.atom.AtomLine.{AtomLine}
use Rattle.molfile_read.specs.declared.setting.Value.{Value}
use Rattle.molfile_read.specs.declared.setting.Value.TheVariants.{Charge, Radical, Isotope}
use Rattle.molfile_read.specs.declared.setting.Setting.{Setting}
use Rattle.molfile_read.specs.Text.{Line}
use Rattle.molfile_read.specs.Bonds.{are_joined}

-- Why `count` lines were not read: memory ran out, their first fault, or no line has a fault, and some lines are
-- missing.
abbrev pub Faults : {A : Type 0} → Result A MolfileFault → ℕ → List Line → MolfileFault → Type 0
Faults {A} read count lines fault =
    (fault ≡ NoMemory) ⊎ ((read ≡ Err fault) ⊎ ((fault ≡ Cut) × (length lines < count) × ((x : A) × (read ≡ Ok x))))

-- Adding the values that were read to the old ones: all of them, or memory ran out, or their fault.
abbrev pub Appends : {A B : Type 0}
    → Result (List A) MolfileFault → List A → List A → Result B MolfileFault → Type 0
Appends {A} read old new (Ok x) = (xs : List A) × (read ≡ Ok xs) × (new ≡ old ++ xs)
Appends read old new (Err fault) = (fault ≡ NoMemory) ⊎ (read ≡ Err fault)

-- as `Appends`, if there is only one fault
abbrev pub Adds : {A : Type 0} → Option (List A) → List A → List A → Bool → Type 0
Adds {A} read old new true = (xs : List A) × (read ≡ Some xs) × (new ≡ old ++ xs)
Adds read old new false = read ≡ None

-- Why the property lines were not read: memory ran out, their first fault, or no fault, and the end is missing.
abbrev pub Stops : {A : Type 0} → Result A MolfileFault → Bool → MolfileFault → Type 0
Stops {A} read ended fault =
    (fault ≡ NoMemory) ⊎ ((read ≡ Err fault) ⊎ ((fault ≡ Cut) × (ended ≡ false) × ((x : A) × (read ≡ Ok x))))

-- the fields of an atom line are within their limits
pub record IsAtomLine (atom : AtomLine) : Type 0 where
  pub number : atom.number ≤ 103
  pub isotope : atom.isotope ≤ 3
  pub charge : atom.charge ≤ 7
  pub valence : atom.valence ≤ 15

-- two ends, the lower first
abbrev pub ordered_ends : ℕ → ℕ → ℕ × ℕ
ordered_ends a b = if nat_lt a b then (a, b) else (b, a)

-- the kinds of bonds that molfiles have
abbrev pub IsKind : SketchKind → Type 0
IsKind Single = Unit {0}
IsKind Double = Unit {0}
IsKind Triple = Unit {0}
IsKind Unwritten = ⊥
IsKind Quad = ⊥
IsKind Colon = ⊥

-- the bond joins two of `atoms` atoms, and has one of these kinds
abbrev pub JoinsTwo : ℕ → SketchBond → Type 0
JoinsTwo atoms b = (b.a < atoms) × (b.b < atoms) × (b.a ≢ b.b) × IsKind b.kind

-- no bond joins the atoms of a later one
abbrev pub AreOnce : List SketchBond → Type 0
AreOnce [] = Unit {0}
AreOnce (b ∷ bs) = (are_joined bs b.a b.b ≡ false) × AreOnce bs

abbrev pub AreBondsAmong : ℕ → List SketchBond → Type 0
AreBondsAmong atoms bonds = AllByRecursion (JoinsTwo atoms) bonds × AreOnce bonds

-- a value is within its limits
abbrev pub IsValue : Value → Type 0
IsValue (Charge n) = (neg_ℤ (pos 15) ≤ℤ n) × (n ≤ℤ pos 15)
IsValue (Radical n) = n ≤ 2
IsValue (Isotope n) = n ≤ 999

-- a setting of one of `atoms` atoms
abbrev pub IsSetting : ℕ → Setting → Type 0
IsSetting atoms s = (s.atom < atoms) × IsValue s.value

-- atoms that a sketch may have, in upper case and without hydrogens
abbrev pub AreAtoms : List SketchAtom → Type 0
AreAtoms atoms =
    All IsSketchAtom atoms × All (λ a. a.hydrogens ≤ 9) atoms × (length atoms ≤ MOST_ATOMS)
    × All (λ a. a.lower ≡ false) atoms

-- the sketch, or why it was not made
abbrev pub IsDrawn : Result SketchTerm MolfileFault → Result SketchTerm MolfileFault → Type 0
IsDrawn drawn (Ok s) = drawn ≡ Ok s
IsDrawn drawn (Err fault) = (fault ≡ NoMemory) ⊎ (drawn ≡ Err fault)

-- Bond lines that are read one after another.
use Rattle.std.proofs.Common.{◌≡◌, ℕ, ◌+◌, ◌-◌, ◌<◌, true, false, List, [], ◌∷◌, ◌++◌, take, Result, Ok, Err, sym, ◌∙◌, ap}
use Rattle.std.specs.Prelude.{if◌then◌else◌}
use Rattle.chem_core.specs.declared.sketch.SketchBond.{SketchBond}
use Rattle.molfile_read.specs.declared.fault.MolfileFault.{MolfileFault}
use Rattle.molfile_read.specs.declared.fault.MolfileFault.TheVariants.{Bond}
use Rattle.molfile_read.specs.Text.{Line}
use Rattle.molfile_read.specs.Steps.{◌>>=◌}
use Rattle.molfile_read.specs.Bonds.{bond_line, bonds_read, are_joined}
use Rattle.molfile_read.proofs.Steps.{take_line}

abbrev after : ℕ → List SketchBond → List Line → Result SketchBond MolfileFault → Result (List SketchBond) MolfileFault
after atoms before lines read = read >>= λ b. bonds_read atoms (before ++ b ∷ []) lines

abbrev checked : ℕ → List SketchBond → Result SketchBond MolfileFault → Result SketchBond MolfileFault
checked at before read = read >>= λ b. (if are_joined before b.a b.b then Err (Bond at) else Ok b)

next : (atoms n i : ℕ) (before : List SketchBond) (lines rest : List Line) (l : Line) → i < n → lines ≡ l ∷ rest
    → bonds_read atoms before (take (n - i) lines) ≡ after atoms before (take (n - (i + 1)) rest)
    (checked l.0 before (bond_line atoms l))
next atoms n i before lines rest l lt e = ap (bonds_read atoms before) (take_line n i lines rest l lt e)

pub bond_stops : (atoms n i : ℕ) (before : List SketchBond) (lines rest : List Line) (l : Line) (fault : MolfileFault)
    (whole : Result (List SketchBond) MolfileFault) → i < n → lines ≡ l ∷ rest
    → bond_line atoms l ≡ Err fault → bonds_read atoms before (take (n - i) lines) ≡ whole → whole ≡ Err fault
bond_stops atoms n i before lines rest l fault whole lt e is so =
    sym so ∙ next atoms n i before lines rest l lt e
    ∙ ap (λ r. after atoms before (take (n - (i + 1)) rest) (checked l.0 before r)) is

pub bond_twice : (atoms n i : ℕ) (before : List SketchBond) (lines rest : List Line) (l : Line) (b : SketchBond)
    (whole : Result (List SketchBond) MolfileFault) → i < n → lines ≡ l ∷ rest
    → bond_line atoms l ≡ Ok b → are_joined before b.a b.b ≡ true → bonds_read atoms before (take (n - i) lines) ≡ whole
    → whole ≡ Err (Bond l.0)
bond_twice atoms n i before lines rest l b whole lt e is joined so =
    sym so ∙ next atoms n i before lines rest l lt e
    ∙ ap (λ r. after atoms before (take (n - (i + 1)) rest) (checked l.0 before r)) is
    ∙ ap (λ t. after atoms before (take (n - (i + 1)) rest) (if t then Err (Bond l.0) else Ok b)) joined

pub bond_goes_on : (atoms n i : ℕ) (before : List SketchBond) (lines rest : List Line) (l : Line) (b : SketchBond)
    (whole : Result (List SketchBond) MolfileFault) → i < n → lines ≡ l ∷ rest
    → bond_line atoms l ≡ Ok b → are_joined before b.a b.b ≡ false → bonds_read atoms before (take (n - i) lines)
    ≡ whole → bonds_read atoms (before ++ b ∷ []) (take (n - (i + 1)) rest) ≡ whole
bond_goes_on atoms n i before lines rest l b whole lt e is free so =
    sym (ap (λ t. after atoms before (take (n - (i + 1)) rest) (if t then Err (Bond l.0) else Ok b)) free)
    ∙ sym (ap (λ r. after atoms before (take (n - (i + 1)) rest) (checked l.0 before r)) is)
    ∙ sym (next atoms n i before lines rest l lt e) ∙ so

pub bonds_end : (atoms k : ℕ) (before : List SketchBond) (lines : List Line)
    (whole : Result (List SketchBond) MolfileFault) → take k lines ≡ [] → bonds_read atoms before (take k lines) ≡ whole
    → whole ≡ Ok before
bonds_end atoms k before lines whole e so = sym so ∙ ap (bonds_read atoms before) e

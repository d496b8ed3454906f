-- No line is refused as above a limit.
use Rattle.std.proofs.Common.{◌≡◌, ℕ, Bool, true, false, List, [], ◌∷◌, ◌++◌, drop, take, Option, Some, None, Result, Ok, Err}
use Rattle.std.specs.Option.{ok_or}
use Rattle.std.specs.Result.{IfErr}
use Rattle.std.proofs.lemmas.Result.{IfErr-at_err}
use Rattle.std.specs.Prelude.{if◌then◌else◌, ◌==◌, ◌||◌, ◌&&◌, not, ◌+◌, ◌-◌, position, option_and_then}
use Rattle.chem_core.specs.declared.sketch.SketchBond.{SketchBond}
use Rattle.molfile_read.specs.declared.fault.MolfileFault.{MolfileFault}
use Rattle.molfile_read.specs.declared.fault.MolfileFault.TheVariants.{Header, Columns, Bond, Query, Limit, Cut}
use Rattle.chem_core.specs.Sketch.{SketchTerm}
use Rattle.molfile_read.specs.declared.counts.Counts.{Counts}
use Rattle.molfile_read.specs.declared.atom.AtomLine.{AtomLine}
use Rattle.molfile_read.specs.declared.setting.Setting.{Setting}
use Rattle.molfile_read.specs.declared.setting.Tag.{Tag}
use Rattle.molfile_read.specs.Text.{Line}
use Rattle.molfile_read.specs.Steps.{◌>>=◌, each}
use Rattle.molfile_read.specs.Counts.{is_zero, is_version_read, counts_read, first_counts}
use Rattle.molfile_read.specs.Field.{columns, number_in, signed_number_in}
use Rattle.molfile_read.specs.Symbol.{element_of}
use Rattle.molfile_read.specs.Atoms.{given, symbol_in, is_query_atom, atom_read}
use Rattle.molfile_read.specs.Bonds.{is_query_bond, kind_of_type, is_atom, are_joined, bond_line, bond_read, bonds_read}
use Rattle.molfile_read.specs.Properties.{words, counted_pairs, is_query_line, is_passed_over, tag_of, tagged, property_read, property_lines, is_ended, settings_read, sets_isotopes}
use Rattle.molfile_read.specs.Reading.{has_mass, mass_fault, masses_read, drawn}
use Rattle.molfile_read.proofs.Drawn.{atoms_of, bonds_of, end_of}

abbrev IsLess : MolfileFault → Type 0
IsLess Limit = ⊥
IsLess fault = Unit {0}

-- not refused as above a limit
pub record OfLines (A : Type 0) (r : Result A MolfileFault) : Type 0 where
  pub less : IfErr r IsLess

bind : {A B : Type 0} → (r : Result A MolfileFault) (f : A → Result B MolfileFault) → OfLines A r
    → ((x : A) → OfLines B (f x)) → OfLines B (r >>= f)
bind (Ok x) f h k = k x
bind (Err fault) f h k = record { less = h.less }

branch : {A : Type 0} → (b : Bool) (x y : Result A MolfileFault) → OfLines A x → OfLines A y
    → OfLines A (if b then x else y)
branch true x y h k = h
branch false x y h k = k

found : {A : Type 0} → (o : Option A) (fault : MolfileFault) → IsLess fault → OfLines A (ok_or o fault)
found None fault h = record { less = h }
found (Some x) fault h = record { less = tt {0} }

fine : {A : Type 0} → (x : A) → OfLines A (Ok x)
fine x = record { less = tt }

refused : (A : Type 0) (fault : MolfileFault) → IsLess fault → OfLines A (Err fault)
refused A fault h = record { less = h }

of_counts : (line : List ℕ) → OfLines Counts (counts_read line)
unfolding counts_read
of_counts line =
    bind _ _ (found (number_in 999 (columns 1 3 line)) Header tt)
    (λ a. bind _ _ (found (number_in 999 (columns 4 6 line)) Header tt) (λ b.
    branch ((a == 0) || (not (is_zero (number_in 999 (columns 16 18 line))) || not (is_version_read line))) (Err Header)
    _ (refused Counts Header tt)
    (branch (not (is_zero (number_in 999 (columns 7 9 line)))) (Err (Query 4)) _ (refused Counts (Query 4) tt)
    (fine _))))

of_first : (lines : List Line) → OfLines Counts (first_counts lines)
of_first [] = refused Counts Cut tt
of_first (l ∷ ls) = of_counts l.1

of_given : {A : Type 0} → (at : ℕ) (o : Option A) → OfLines A (given at o)
of_given at o = found o (Columns at) tt

of_atom : (l : Line) → OfLines AtomLine (atom_read l)
unfolding atom_read
of_atom l =
    branch (is_query_atom l.1) (Err (Query l.0)) _ (refused AtomLine (Query l.0) tt)
    (bind _ _ (of_given l.0 (element_of (symbol_in l.1)))
    (λ e. bind _ _ (of_given l.0 (signed_number_in 99 (columns 35 36 l.1)))
    (λ m. bind _ _ (of_given l.0 (number_in 7 (columns 37 39 l.1))) (λ c.
    bind _ _ (of_given l.0 (number_in 999 (columns 43 45 l.1)))
    (λ h. bind _ _ (of_given l.0 (number_in 15 (columns 49 51 l.1))) (λ v. fine _))))))

of_bond_line : (atoms : ℕ) (l : Line) → OfLines SketchBond (bond_line atoms l)
unfolding bond_line
of_bond_line atoms l =
    branch (is_query_bond l.1) (Err (Query l.0)) _ (refused SketchBond (Query l.0) tt)
    (bind _ _ (of_given l.0 (number_in 999 (columns 1 3 l.1)))
    (λ a. bind _ _ (of_given l.0 (number_in 999 (columns 4 6 l.1))) (λ b.
    bind _ _ (of_given l.0 (option_and_then kind_of_type (number_in 999 (columns 7 9 l.1))))
    (λ k. bind _ _ (of_given l.0 (number_in 999 (columns 16 18 l.1))) (λ t.
    branch (is_atom atoms a && (is_atom atoms b && not (a == b))) (Ok (record { a = a - 1; b = b - 1; kind = k }))
    (Err (Bond l.0)) (fine _) (refused SketchBond (Bond l.0) tt))))))

of_bond : (atoms : ℕ) (before : List SketchBond) (l : Line) → OfLines SketchBond (bond_read atoms before l)
of_bond atoms before l =
    bind (bond_line atoms l) _ (of_bond_line atoms l) (λ b. branch (are_joined before b.a b.b) (Err (Bond l.0)) (Ok b)
    (refused SketchBond (Bond l.0) tt) (fine b))

of_bonds : (atoms : ℕ) (before : List SketchBond) (lines : List Line)
    → OfLines (List SketchBond) (bonds_read atoms before lines)
of_bonds atoms before [] = fine before
of_bonds atoms before (l ∷ ls) = bind (bond_read atoms before l) (λ b. bonds_read atoms (before ++ b ∷ []) ls)
    (of_bond atoms before l) (λ b. of_bonds atoms (before ++ b ∷ []) ls)

of_each : {A : Type 0} → (read : Line → Result A MolfileFault) → ((l : Line) → OfLines A (read l)) → (lines : List Line)
    → OfLines (List A) (each read lines)
of_each read h [] = fine []
of_each read h (l ∷ ls) = bind (read l) (λ x. each read ls >>= λ xs. Ok (x ∷ xs)) (h l)
    (λ x. bind (each read ls) (λ xs. Ok (x ∷ xs)) (of_each read h ls) (λ xs. fine (x ∷ xs)))

of_tagged : (atoms : ℕ) (l : Line) (tag : Option Tag) → OfLines (List Setting) (tagged atoms l tag)
of_tagged atoms l None =
    branch (is_query_line l.1) (Err (Query l.0)) _ (refused (List Setting) (Query l.0) tt)
    (branch (is_passed_over l.1) (Ok []) (Err (Columns l.0)) (fine []) (refused (List Setting) (Columns l.0) tt))
of_tagged atoms l (Some tag) = of_given l.0 (counted_pairs tag atoms (words (drop 6 l.1)))

of_settings : (atoms : ℕ) (lines : List Line) → OfLines (List Setting) (settings_read atoms lines)
of_settings atoms [] = fine []
of_settings atoms (l ∷ ls) =
    bind (property_read atoms l) (λ xs. settings_read atoms ls >>= λ ys. Ok (xs ++ ys)) (of_tagged atoms l (tag_of l.1))
    (λ xs. bind (settings_read atoms ls) (λ ys. Ok (xs ++ ys)) (of_settings atoms ls) (λ ys. fine (xs ++ ys)))

of_mass : (o : Option ℕ) → OfLines (Unit {0}) (mass_fault o)
of_mass None = fine tt
of_mass (Some p) = refused (Unit {0}) (Columns (5 + p)) tt

of_end : (counts : Counts) (atoms : List AtomLine) (bonds : List SketchBond) (on : List Line)
    → OfLines SketchTerm (end_of counts atoms bonds on)
of_end counts atoms bonds on =
    bind (settings_read counts.atoms (property_lines false on)) _ (of_settings counts.atoms (property_lines false on))
    (λ settings.
    branch (not (is_ended false on)) (Err Cut) _ (refused SketchTerm Cut tt)
    (bind (masses_read atoms settings) _ (branch (sets_isotopes settings) (Ok tt) _ (fine tt)
    (of_mass (position has_mass atoms))) (λ u. fine _)))

of_drawn : (lines : List Line) → OfLines SketchTerm (drawn lines)
unfolding drawn
of_drawn lines =
    bind (first_counts (drop 3 lines)) (λ counts. atoms_of counts (drop 4 lines)) (of_first (drop 3 lines)) (λ counts.
    bind (each atom_read (take counts.atoms (drop 4 lines))) (λ atoms.
    bonds_of counts atoms (drop counts.atoms (drop 4 lines))) (of_each atom_read of_atom
    (take counts.atoms (drop 4 lines))) (λ atoms.
    bind (bonds_read counts.atoms [] (take counts.bonds (drop counts.atoms (drop 4 lines)))) (λ bonds.
    end_of counts atoms bonds (drop counts.bonds (drop counts.atoms (drop 4 lines))))
    (of_bonds counts.atoms [] (take counts.bonds (drop counts.atoms (drop 4 lines)))) (λ bonds.
    of_end counts atoms bonds (drop counts.bonds (drop counts.atoms (drop 4 lines))))))

-- what the lines say is never above a limit
pub never_limit : (lines : List Line) → drawn lines ≡ Err Limit → ⊥
never_limit lines e = IfErr-at_err IsLess e (of_drawn lines).less

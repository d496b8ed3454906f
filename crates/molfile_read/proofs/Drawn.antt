-- What the lines are read as, stage by stage.
use Rattle.std.proofs.Common.{◌≡◌, ◌<◌, ◌⊎◌, inl, inr, Bool, true, false, List, [], drop, take, length, Result, Ok, Err, refl, sym, ap, ◌∙◌, arith}
use Rattle.std.proofs.lemmas.List.{drop_all}
use Rattle.std.specs.Prelude.{if◌then◌else◌, not}
use Rattle.chem_core.specs.declared.sketch.SketchBond.{SketchBond}
use Rattle.chem_core.specs.Sketch.{SketchTerm}
use Rattle.molfile_read.specs.declared.fault.MolfileFault.{MolfileFault}
use Rattle.molfile_read.specs.declared.fault.MolfileFault.TheVariants.{Cut, NoMemory}
use Rattle.molfile_read.specs.declared.counts.Counts.{Counts}
use Rattle.molfile_read.specs.declared.atom.AtomLine.{AtomLine}
use Rattle.molfile_read.specs.declared.setting.Setting.{Setting}
use Rattle.molfile_read.specs.Text.{Line}
use Rattle.molfile_read.specs.Steps.{◌>>=◌, each}
use Rattle.molfile_read.specs.Counts.{first_counts}
use Rattle.molfile_read.specs.Atoms.{atom_read}
use Rattle.molfile_read.specs.Bonds.{bonds_read}
use Rattle.molfile_read.specs.Properties.{settings_read, property_lines, is_ended}
use Rattle.std.specs.Result.{IsErrAnd}
use Rattle.molfile_read.specs.Parts.{Faults, Stops, IsDrawn}
use Rattle.molfile_read.specs.Reading.{masses_read, sketch_atoms, drawn}
use Rattle.molfile_read.proofs.Steps.{take_nothing, drop_nothing}

-- after the bonds
abbrev pub end_of : Counts → List AtomLine → List SketchBond → List Line → Result SketchTerm MolfileFault
end_of counts atoms bonds on =
    settings_read counts.atoms (property_lines false on) >>= λ settings.
    (if not (is_ended false on) then Err Cut else (masses_read atoms settings >>= λ _.
    Ok (record { atoms = sketch_atoms settings atoms; bonds = bonds })))

-- after the atoms
abbrev pub bonds_of : Counts → List AtomLine → List Line → Result SketchTerm MolfileFault
bonds_of counts atoms on = bonds_read counts.atoms [] (take counts.bonds on) >>= λ bonds.
    end_of counts atoms bonds (drop counts.bonds on)

-- after the counts
abbrev pub atoms_of : Counts → List Line → Result SketchTerm MolfileFault
atoms_of counts on = each atom_read (take counts.atoms on) >>= λ atoms. bonds_of counts atoms (drop counts.atoms on)

pub drawn_is : (lines : List Line) → drawn lines ≡ (first_counts (drop 3 lines) >>= λ counts.
    atoms_of counts (drop 4 lines))
unfolding drawn
drawn_is lines = refl

pub counts_fault : (lines : List Line) (fault : MolfileFault) → first_counts (drop 3 lines) ≡ Err fault
    → drawn lines ≡ Err fault
counts_fault lines fault e = drawn_is lines ∙ ap (λ r. r >>= λ counts. atoms_of counts (drop 4 lines)) e

pub counts_found : (lines : List Line) (counts : Counts) → first_counts (drop 3 lines) ≡ Ok counts
    → drawn lines ≡ atoms_of counts (drop 4 lines)
counts_found lines counts e = drawn_is lines ∙ ap (λ r. r >>= λ counts. atoms_of counts (drop 4 lines)) e

pub atoms_fault : (counts : Counts) (on : List Line) (fault : MolfileFault) → each atom_read (take counts.atoms on)
    ≡ Err fault → atoms_of counts on ≡ Err fault
atoms_fault counts on fault e = ap (λ r. r >>= λ atoms. bonds_of counts atoms (drop counts.atoms on)) e

pub atoms_found : (counts : Counts) (on : List Line) (atoms : List AtomLine) → each atom_read (take counts.atoms on)
    ≡ Ok atoms → atoms_of counts on ≡ bonds_of counts atoms (drop counts.atoms on)
atoms_found counts on atoms e = ap (λ r. r >>= λ atoms. bonds_of counts atoms (drop counts.atoms on)) e

pub bonds_fault : (counts : Counts) (atoms : List AtomLine) (on : List Line) (fault : MolfileFault)
    → bonds_read counts.atoms [] (take counts.bonds on) ≡ Err fault → bonds_of counts atoms on ≡ Err fault
bonds_fault counts atoms on fault e = ap (λ r. r >>= λ bonds. end_of counts atoms bonds (drop counts.bonds on)) e

pub bonds_found : (counts : Counts) (atoms : List AtomLine) (on : List Line) (bonds : List SketchBond)
    → bonds_read counts.atoms [] (take counts.bonds on) ≡ Ok bonds → bonds_of counts atoms on
    ≡ end_of counts atoms bonds (drop counts.bonds on)
bonds_found counts atoms on bonds e = ap (λ r. r >>= λ bonds. end_of counts atoms bonds (drop counts.bonds on)) e

abbrev last : List AtomLine → List SketchBond → Bool → List Setting → Result SketchTerm MolfileFault
last atoms bonds ended settings = if not ended then Err Cut else (masses_read atoms settings >>= λ _.
    Ok (record { atoms = sketch_atoms settings atoms; bonds = bonds }))

pub settings_fault : (counts : Counts) (atoms : List AtomLine) (bonds : List SketchBond) (on : List Line)
    (fault : MolfileFault) → settings_read counts.atoms (property_lines false on) ≡ Err fault
    → end_of counts atoms bonds on ≡ Err fault
settings_fault counts atoms bonds on fault e = ap (λ r. r >>= last atoms bonds (is_ended false on)) e

pub settings_found : (counts : Counts) (atoms : List AtomLine) (bonds : List SketchBond) (on : List Line)
    (settings : List Setting) → settings_read counts.atoms (property_lines false on) ≡ Ok settings
    → is_ended false on ≡ true → end_of counts atoms bonds on ≡ (masses_read atoms settings >>= λ _.
    Ok (record { atoms = sketch_atoms settings atoms; bonds = bonds }))
settings_found counts atoms bonds on settings e ended = ap (λ r. r >>= last atoms bonds (is_ended false on)) e
    ∙ ap (λ b. last atoms bonds b settings) ended

pub end_missing : (counts : Counts) (atoms : List AtomLine) (bonds : List SketchBond) (on : List Line)
    (settings : List Setting) → settings_read counts.atoms (property_lines false on) ≡ Ok settings
    → is_ended false on ≡ false → end_of counts atoms bonds on ≡ Err Cut
end_missing counts atoms bonds on settings e ended = ap (λ r. r >>= last atoms bonds (is_ended false on)) e
    ∙ ap (λ b. last atoms bonds b settings) ended

pub masses_fault : (atoms : List AtomLine) (bonds : List SketchBond) (settings : List Setting) (fault : MolfileFault)
    → masses_read atoms settings ≡ Err fault
    → ◌≡◌ {A = Result SketchTerm MolfileFault} (masses_read atoms settings >>= λ _.
    Ok (record { atoms = sketch_atoms settings atoms; bonds = bonds })) (Err fault)
masses_fault atoms bonds settings fault e =
    ap (λ r. r >>= λ _. Ok (let s : SketchTerm = record { atoms = sketch_atoms settings atoms; bonds = bonds } in s)) e

pub masses_found : (atoms : List AtomLine) (bonds : List SketchBond) (settings : List Setting)
    → masses_read atoms settings ≡ Ok tt
    → ◌≡◌ {A = Result SketchTerm MolfileFault} (masses_read atoms settings >>= λ _.
    Ok (record { atoms = sketch_atoms settings atoms; bonds = bonds })) (Ok
    (record { atoms = sketch_atoms settings atoms; bonds = bonds }))
masses_found atoms bonds settings e =
    ap (λ r. r >>= λ _. Ok (let s : SketchTerm = record { atoms = sketch_atoms settings atoms; bonds = bonds } in s)) e

-- no line is left
pub nothing_after : (counts : Counts) (atoms : List AtomLine) (bonds : List SketchBond) (on : List Line) → on ≡ []
    → end_of counts atoms bonds on ≡ Err Cut
nothing_after counts atoms bonds on e = ap (end_of counts atoms bonds) e

-- some bond lines are missing, and those that are there have no fault
pub bonds_missing : (counts : Counts) (atoms : List AtomLine) (on : List Line) (bonds : List SketchBond)
    → bonds_read counts.atoms [] (take counts.bonds on) ≡ Ok bonds → length on < counts.bonds → bonds_of counts atoms on
    ≡ Err Cut
bonds_missing counts atoms on bonds e short = bonds_found counts atoms on bonds e
    ∙ nothing_after counts atoms bonds (drop counts.bonds on) (drop_all counts.bonds on (omega arith))

no_bonds : (counts : Counts) (atoms : List AtomLine) → bonds_of counts atoms [] ≡ Err Cut
no_bonds counts atoms =
    bonds_found counts atoms [] [] (ap (bonds_read counts.atoms []) (take_nothing counts.bonds))
    ∙ nothing_after counts atoms [] (drop counts.bonds []) (drop_nothing counts.bonds)

-- some atom lines are missing, and those that are there have no fault
pub atoms_missing : (counts : Counts) (on : List Line) (atoms : List AtomLine) → each atom_read (take counts.atoms on)
    ≡ Ok atoms → length on < counts.atoms → atoms_of counts on ≡ Err Cut
atoms_missing counts on atoms e short =
    atoms_found counts on atoms e ∙ ap (bonds_of counts atoms) (drop_all counts.atoms on (omega arith))
    ∙ no_bonds counts atoms

-- why the lines were not read
abbrev pub Answered : List Line → MolfileFault → Type 0
Answered lines fault = (fault ≡ NoMemory) ⊎ (drawn lines ≡ Err fault)

pub atoms_refused : (lines on : List Line) (counts : Counts) (fault : MolfileFault) → first_counts (drop 3 lines)
    ≡ Ok counts → on ≡ drop 4 lines → Faults (each atom_read (take counts.atoms on)) counts.atoms on fault
    → Answered lines fault
atoms_refused lines on counts fault first at (inl h) = inl h
atoms_refused lines on counts fault first at (inr (inl h)) =
    inr (counts_found lines counts first ∙ ap (atoms_of counts) (sym at) ∙ atoms_fault counts on fault h)
atoms_refused lines on counts fault first at (inr (inr h)) =
    inr (counts_found lines counts first ∙ ap (atoms_of counts) (sym at) ∙ atoms_missing counts on h.2.0 h.2.1 h.1
    ∙ ap (λ e. Err e) (sym h.0))

pub after_atoms : (lines on next : List Line) (counts : Counts) (atoms : List AtomLine) → first_counts (drop 3 lines)
    ≡ Ok counts → on ≡ drop 4 lines → each atom_read (take counts.atoms on) ≡ Ok atoms → next ≡ drop counts.atoms on
    → drawn lines ≡ bonds_of counts atoms next
after_atoms lines on next counts atoms first at read next_is =
    counts_found lines counts first ∙ ap (atoms_of counts) (sym at) ∙ atoms_found counts on atoms read
    ∙ ap (bonds_of counts atoms) (sym next_is)

pub bonds_refused : (lines on : List Line) (counts : Counts) (atoms : List AtomLine) (fault : MolfileFault)
    → drawn lines ≡ bonds_of counts atoms on → Faults (bonds_read counts.atoms [] (take counts.bonds on)) counts.bonds
    on fault → Answered lines fault
bonds_refused lines on counts atoms fault so (inl h) = inl h
bonds_refused lines on counts atoms fault so (inr (inl h)) = inr (so ∙ bonds_fault counts atoms on fault h)
bonds_refused lines on counts atoms fault so (inr (inr h)) = inr (so ∙ bonds_missing counts atoms on h.2.0 h.2.1 h.1
    ∙ ap (λ e. Err e) (sym h.0))

pub after_bonds : (lines on next : List Line) (counts : Counts) (atoms : List AtomLine) (bonds : List SketchBond)
    → drawn lines ≡ bonds_of counts atoms on → bonds_read counts.atoms [] (take counts.bonds on) ≡ Ok bonds
    → next ≡ drop counts.bonds on
    → drawn lines ≡ end_of counts atoms bonds next
after_bonds lines on next counts atoms bonds so read next_is = so ∙ bonds_found counts atoms on bonds read
    ∙ ap (end_of counts atoms bonds) (sym next_is)

pub settings_refused : (lines on : List Line) (counts : Counts) (atoms : List AtomLine) (bonds : List SketchBond)
    (fault : MolfileFault) → drawn lines ≡ end_of counts atoms bonds on
    → Stops (settings_read counts.atoms (property_lines false on)) (is_ended false on) fault → Answered lines fault
settings_refused lines on counts atoms bonds fault so (inl h) = inl h
settings_refused lines on counts atoms bonds fault so (inr (inl h)) =
    inr (so ∙ settings_fault counts atoms bonds on fault h)
settings_refused lines on counts atoms bonds fault so (inr (inr h)) =
    inr (so ∙ end_missing counts atoms bonds on h.2.0 h.2.1 h.1 ∙ ap (λ e. Err e) (sym h.0))

-- an answer that hands on a fault
pub handed_on : (lines : List Line) (r : Result SketchTerm MolfileFault) (fault : MolfileFault)
    → IsErrAnd r (λ f. f ≡ fault) → Answered lines fault → IsDrawn (drawn lines) r
handed_on lines (Ok s) fault h k = absurd h
handed_on lines (Err f) fault h (inl e) = inl (h ∙ e)
handed_on lines (Err f) fault h (inr e) = inr (e ∙ ap (λ x. Err x) (sym h))

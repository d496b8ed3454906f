use Rattle.std.proofs.Common.{◌≡◌, sym, ap, ◌∙◌, inr, Ok, arith, subst, ℕ, length}
use Rattle.molfile_read.specs.Text.{numbered_lines}
use Rattle.molfile_read.specs.Reading.{drawn, sketch_atoms}
use Rattle.std.specs.List.{AllByRecursion}
use Rattle.chem_core.specs.Sketch.{SketchTerm}
use Rattle.molfile_read.specs.Parts.{JoinsTwo}
use Rattle.molfile_read.proofs.Drawn.{Answered, counts_fault, atoms_refused, after_atoms, bonds_refused, after_bonds, settings_refused, settings_found, masses_fault, masses_found, handed_on}
use Rattle.molfile_read.proofs.read.drawn.Goals as goal

pub returns-in_err-counts-clause-value : goal.returns-in_err-counts-clause-value
returns-in_err-counts-clause-value c =
    let so = inr (counts_fault c.new-lines.result c.in_err-counts.field-0.0 (sym c.in_err-counts.ensures.value)) in
    handed_on (numbered_lines c.args.text.now) c.from_residual.result c.in_err-counts.field-0.0
    c.from_residual.ensures.1 (subst (λ ls. Answered ls c.in_err-counts.field-0.0) c.new-lines.ensures so)

pub returns-in_err-atoms-clause-value : goal.returns-in_err-atoms-clause-value
returns-in_err-atoms-clause-value c =
    let so = atoms_refused c.new-lines.result c.read_counts.new.lines c.in_ok-counts.counts c.in_err-atoms.field-0.0
    (sym c.in_ok-counts.ensures.value) c.in_ok-counts.ensures.rest c.in_err-atoms.ensures.fault in
    handed_on (numbered_lines c.args.text.now) _ c.in_err-atoms.field-0.0 c.from_residual-in_err-atoms.ensures.1
    (subst (λ ls. Answered ls c.in_err-atoms.field-0.0) c.new-lines.ensures so)

pub returns-in_err-bonds-clause-value : goal.returns-in_err-bonds-clause-value
returns-in_err-bonds-clause-value c =
    let on = after_atoms c.new-lines.result c.read_counts.new.lines c.read_atoms.new.lines c.in_ok-counts.counts
    c.in_ok-atoms.atoms.items (sym c.in_ok-counts.ensures.value) c.in_ok-counts.ensures.rest
    c.in_ok-atoms.ensures.found.0 c.in_ok-atoms.ensures.found.1 in
    let so = bonds_refused c.new-lines.result c.read_atoms.new.lines c.in_ok-counts.counts c.in_ok-atoms.atoms.items
    c.in_err-bonds.field-0.0 on c.in_err-bonds.ensures.fault in
    handed_on (numbered_lines c.args.text.now) _ c.in_err-bonds.field-0.0 c.from_residual-in_err-bonds.ensures.1
    (subst (λ ls. Answered ls c.in_err-bonds.field-0.0) c.new-lines.ensures so)

pub returns-in_err-settings-clause-value : goal.returns-in_err-settings-clause-value
returns-in_err-settings-clause-value c =
    let on = after_atoms c.new-lines.result c.read_counts.new.lines c.read_atoms.new.lines c.in_ok-counts.counts
    c.in_ok-atoms.atoms.items (sym c.in_ok-counts.ensures.value) c.in_ok-counts.ensures.rest
    c.in_ok-atoms.ensures.found.0 c.in_ok-atoms.ensures.found.1 in
    let more = after_bonds c.new-lines.result c.read_atoms.new.lines c.read_bonds.new.lines c.in_ok-counts.counts
    c.in_ok-atoms.atoms.items c.in_ok-bonds.bonds.items on c.in_ok-bonds.ensures.found.0
    c.in_ok-bonds.ensures.found.1 in
    let so = settings_refused c.new-lines.result c.read_bonds.new.lines c.in_ok-counts.counts c.in_ok-atoms.atoms.items
    c.in_ok-bonds.bonds.items c.in_err-settings.field-0.0 more c.in_err-settings.ensures.fault in
    handed_on (numbered_lines c.args.text.now) _ c.in_err-settings.field-0.0 c.from_residual-in_err-settings.ensures.1
    (subst (λ ls. Answered ls c.in_err-settings.field-0.0) c.new-lines.ensures so)

pub returns-in_err-check_masses-clause-value : goal.returns-in_err-check_masses-clause-value
returns-in_err-check_masses-clause-value c =
    let on = after_atoms c.new-lines.result c.read_counts.new.lines c.read_atoms.new.lines c.in_ok-counts.counts
    c.in_ok-atoms.atoms.items (sym c.in_ok-counts.ensures.value) c.in_ok-counts.ensures.rest
    c.in_ok-atoms.ensures.found.0 c.in_ok-atoms.ensures.found.1 in
    let more = after_bonds c.new-lines.result c.read_atoms.new.lines c.read_bonds.new.lines c.in_ok-counts.counts
    c.in_ok-atoms.atoms.items c.in_ok-bonds.bonds.items on c.in_ok-bonds.ensures.found.0
    c.in_ok-bonds.ensures.found.1 in
    let end = more ∙ settings_found c.in_ok-counts.counts c.in_ok-atoms.atoms.items c.in_ok-bonds.bonds.items
    c.read_bonds.new.lines c.in_ok-settings.settings.items c.in_ok-settings.ensures.found.0
    c.in_ok-settings.ensures.found.1 in
    let so = inr (end ∙ masses_fault c.in_ok-atoms.atoms.items c.in_ok-bonds.bonds.items c.in_ok-settings.settings.items
    c.in_err-check_masses.field-0.0 (rw (c.deref.ensures.value, c.deref-2.ensures.value) at
    c.in_err-check_masses.ensures)) in
    handed_on (numbered_lines c.args.text.now) _ c.in_err-check_masses.field-0.0
    c.from_residual-in_err-check_masses.ensures.1 (subst (λ ls. Answered ls c.in_err-check_masses.field-0.0)
    c.new-lines.ensures so)

pub returns-clause-value : goal.returns-clause-value
returns-clause-value c =
    let on = after_atoms c.new-lines.result c.read_counts.new.lines c.read_atoms.new.lines c.in_ok-counts.counts
    c.in_ok-atoms.atoms.items (sym c.in_ok-counts.ensures.value) c.in_ok-counts.ensures.rest
    c.in_ok-atoms.ensures.found.0 c.in_ok-atoms.ensures.found.1 in
    let more = after_bonds c.new-lines.result c.read_atoms.new.lines c.read_bonds.new.lines c.in_ok-counts.counts
    c.in_ok-atoms.atoms.items c.in_ok-bonds.bonds.items on c.in_ok-bonds.ensures.found.0
    c.in_ok-bonds.ensures.found.1 in
    let end = more ∙ settings_found c.in_ok-counts.counts c.in_ok-atoms.atoms.items c.in_ok-bonds.bonds.items
    c.read_bonds.new.lines c.in_ok-settings.settings.items c.in_ok-settings.ensures.found.0
    c.in_ok-settings.ensures.found.1 in
    let made : c.in_ok-atoms-2.atoms.items ≡ sketch_atoms c.in_ok-settings.settings.items c.in_ok-atoms.atoms.items =
    rw (c.deref-3.ensures.value, c.deref-4.ensures.value) at c.in_ok-atoms-2.ensures.value in
    ap drawn (sym c.new-lines.ensures) ∙ end
    ∙ masses_found c.in_ok-atoms.atoms.items c.in_ok-bonds.bonds.items c.in_ok-settings.settings.items
    (rw (c.deref.ensures.value, c.deref-2.ensures.value) at c.in_ok-check_masses.ensures)
    ∙ ap (λ v. Ok (let s : SketchTerm = record { atoms = v; bonds = c.in_ok-bonds.bonds.items } in s)) (sym made)

pub returns-clause-bonds : goal.returns-clause-bonds
returns-clause-bonds c =
    let n : c.in_ok-counts.counts.atoms ≡ length c.in_ok-atoms-2.atoms.items =
    sym (c.in_ok-atoms-2.ensures.len ∙ ap length c.deref-3.ensures.value ∙ c.in_ok-atoms.ensures.found.2) in
    let many = c.in_ok-bonds.ensures.found.2 in
    let few = c.in_ok-counts.ensures.range.1 in (
      (
        subst (λ (k : ℕ). AllByRecursion (JoinsTwo k) c.in_ok-bonds.bonds.items) n c.in_ok-bonds.ensures.sound.0,
        c.in_ok-bonds.ensures.sound.1,
      ),
      omega arith,
    )

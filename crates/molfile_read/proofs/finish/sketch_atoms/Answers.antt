use Rattle.std.proofs.Common.{◌<◌, length, refl, sym, ap, subst, ◌∙◌, arith, List}
use Rattle.std.proofs.lemmas.List.{take_all}
use Rattle.chem_core.specs.declared.sketch.SketchAtom.{SketchAtom}
use Rattle.std.specs.Prelude.{pos}
use Rattle.molfile_read.specs.declared.atom.AtomLine.{AtomLine}
use Rattle.molfile_read.specs.Reading.{sketch_atoms}
use Rattle.molfile_read.specs.Parts.{AreAtoms}
use Rattle.molfile_read.proofs.Made.{are_atoms, atoms_more, length-sketch_atoms}
use Rattle.molfile_read.proofs.finish.sketch_atoms.Goals as goal

abbrev other : AtomLine
other = record { number = 0; isotope = 0; mass = pos 0; charge = 0; valence = 0 }

pub loop-place-preserved : goal.loop-place-preserved
loop-place-preserved c =
    let within : c.loop-place.place < length c.args.atoms.now = omega arith in
    let few : c.loop-place.place < 999 = let f = c.requires.few in omega arith in
    atoms_more c.args.settings.now c.args.atoms.now c.loop-place.place other c.loop-place.made.items
    c.push.new.self.items c.made_atom.result within c.loop-place.invariant
    (c.made_atom.ensures ∙ rw (
      c.sets_charges-charged.ensures,
      c.last_values-values.ensures.charges c.loop-place.place
          few,
      c.last_values-values.ensures.radicals c.loop-place.place few,
      c.last_values-values.ensures.isotopes c.loop-place.place few,
    ) refl)
    c.in_ok-push.ensures.items

pub returns-clause-value : goal.returns-clause-value
returns-clause-value c = c.loop-place.invariant ∙ ap (sketch_atoms c.args.settings.now)
    (take_all c.loop-place.place c.args.atoms.now c.loop-place-test.false)

pub returns-clause-sound : goal.returns-clause-sound
returns-clause-sound c =
    let is = c.loop-place.invariant ∙ ap (sketch_atoms c.args.settings.now)
    (take_all c.loop-place.place c.args.atoms.now c.loop-place-test.false) in
    subst (λ (v : List SketchAtom). AreAtoms v) (sym is) (are_atoms (length c.args.atoms.now) c.args.settings.now
    c.args.atoms.now c.requires.settings c.requires.fields c.requires.few)

pub returns-clause-len : goal.returns-clause-len
returns-clause-len c =
    let is = c.loop-place.invariant ∙ ap (sketch_atoms c.args.settings.now)
    (take_all c.loop-place.place c.args.atoms.now c.loop-place-test.false) in
    ap length is ∙ length-sketch_atoms c.args.settings.now c.args.atoms.now

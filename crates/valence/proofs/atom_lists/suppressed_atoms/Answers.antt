use Rattle.std.proofs.Common.{refl, arith, sym, ◌∙◌}
use Rattle.std.proofs.lemmas.List.{length-set}
use Rattle.chem_core.specs.Sketch.{SketchTerm}
use Rattle.valence.proofs.Flags.{unset, known-more, later-more, suppressed-within, suppressed-past}
use Rattle.valence.proofs.atom_lists.suppressed_atoms.Goals as goal

pub loop-place-init : goal.loop-place-init
loop-place-init c = record { long = refl; known = λ a h. absurd (omega arith); later = λ a h. unset 999 a }

pub loop-place-preserved : goal.loop-place-preserved
loop-place-preserved c =
    let s : SketchTerm = record { atoms = c.args.atoms.now; bonds = c.args.bonds.now } in
    let within = c.loop-place-test.true in
    let few = c.requires.few in
    let long = c.loop-place.invariant.long in
    let is = c.is_taken.ensures ∙ sym (suppressed-within s c.loop-place.place _ within
    (c.degrees-degrees.ensures c.loop-place.place) (c.heavy_neighbours-leads.ensures c.loop-place.place)) in
    record {
      long = rw length-set long;
      known = known-more s c.loop-place.goes c.loop-place.place c.is_taken.result (omega (arith, long, few, within)) is
          c.loop-place.invariant.known;
      later = later-more c.loop-place.goes c.loop-place.place c.is_taken.result c.loop-place.invariant.later;
    }

pub returns : goal.returns
returns c =
    let s : SketchTerm = record { atoms = c.args.atoms.now; bonds = c.args.bonds.now } in
    let end = c.loop-place-test.false in
    suppressed-past s c.loop-place.goes c.loop-place.place end c.loop-place.invariant.known c.loop-place.invariant.later

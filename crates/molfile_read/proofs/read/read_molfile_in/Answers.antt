use Rattle.std.specs.List.{AllByRecursion}
use Rattle.std.proofs.Common.{ℕ, ◌<◌, ◌≤◌, ◌≢◌, List, length, ◌≡◌, sym, ap, subst, ◌∙◌, inr}
use Rattle.chem_core.specs.declared.sketch.SketchBond.{SketchBond}
use Rattle.chem_core.specs.Graph.{degree}
use Rattle.chem_core.specs.Sketch.{SketchTerm}
use Rattle.chem_core.specs.Sound.{ends_among}
use Rattle.molfile_read.proofs.Joined.{sound_sketch, no_colons, apart}
use Rattle.molfile_read.proofs.Readings.{fault_handed}
use Rattle.molfile_read.proofs.read.read_molfile_in.Goals as goal

abbrev AreFew : List SketchBond → Type 0
AreFew bonds = (a : ℕ) → degree (ends_among bonds) a ≤ 12

pub returns-in_err-sketch-clause-reading : goal.returns-in_err-sketch-clause-reading
returns-in_err-sketch-clause-reading c =
    fault_handed c.args.text.now c.from_residual.result c.in_err-sketch.field-0.0 c.if-text-gt-MOST_BYTES.false
    c.from_residual.ensures.1 c.in_err-sketch.ensures.value

pub returns-then-not-branch-clause-reading : goal.returns-then-not-branch-clause-reading
returns-then-not-branch-clause-reading c =
    let same = c.deref.ensures.value ∙ ap (λ (s : SketchTerm). s.bonds) c.sketch.view_is in
    inr (
      c.in_ok-sketch.sketch,
      c.in_ok-sketch.ensures.value,
      λ few. let k =
          c.in_ok-are_few_neighbours.ensures.1 (subst AreFew (sym same) few) in let f = c.if-not-branch.true in cc,
    )

pub returns-clause-reading : goal.returns-clause-reading
returns-clause-reading c =
    let same = c.deref.ensures.value ∙ ap (λ (s : SketchTerm). s.bonds) c.sketch.view_is in (
      c.if-text-gt-MOST_BYTES.false,
      c.in_ok-sketch.ensures.value,
      subst AreFew same (c.in_ok-are_few_neighbours.ensures.0 c.if-not-branch.false),
    )

pub returns-clause-sound : goal.returns-clause-sound
returns-clause-sound c =
    let same = c.deref.ensures.value ∙ ap (λ (s : SketchTerm). s.bonds) c.sketch.view_is in
    let atoms = c.in_ok-sketch.ensures.atoms in
    let bonds = c.in_ok-sketch.ensures.bonds in
    sound_sketch c.in_ok-sketch.sketch.atoms c.in_ok-sketch.sketch.bonds bonds.0 atoms.0 atoms.2 bonds.1
    (subst AreFew same (c.in_ok-are_few_neighbours.ensures.0 c.if-not-branch.false))

pub returns-clause-no_aromatic_mark : goal.returns-clause-no_aromatic_mark
returns-clause-no_aromatic_mark c = record {
  atoms = c.in_ok-sketch.ensures.atoms.3;
  bonds = no_colons _ c.in_ok-sketch.sketch.bonds c.in_ok-sketch.ensures.bonds.0.0;
}

pub are_few_neighbours-requires : goal.are_few_neighbours-requires
are_few_neighbours-requires c =
    let same = c.deref.ensures.value ∙ ap (λ (s : SketchTerm). s.bonds) c.sketch.view_is in
    let P : ℕ → List SketchBond → Type 0 = λ n. AllByRecursion (λ b. (b.a < n) × (b.b < n) × (b.a ≢ b.b)) in
    let count : length c.in_ok-sketch.sketch.atoms ≡ c.len.result =
    sym (c.len.ensures ∙ c.sketch.inside.atoms.ok.0 ∙ ap (λ (s : SketchTerm). length s.atoms) c.sketch.view_is) in
    subst (P c.len.result) (sym same) (subst (λ n. P n c.in_ok-sketch.sketch.bonds) count
    (apart (length c.in_ok-sketch.sketch.atoms) c.in_ok-sketch.sketch.bonds c.in_ok-sketch.ensures.bonds.0.0))

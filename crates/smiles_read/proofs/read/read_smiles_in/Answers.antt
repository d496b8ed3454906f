use Rattle.std.proofs.Common.{◌<◌, ◌≢◌, inr, List, length, map, sym, ap, subst, ◌∙◌}
use Rattle.std.specs.List.{AllByRecursion}
use Rattle.chem_core.specs.declared.sketch.SketchBond.{SketchBond}
use Rattle.chem_core.specs.Sketch.{SketchTerm}
use Rattle.smiles_read.specs.Sketch.{link_of, IsSketchOf}
use Rattle.smiles_read.specs.Reading.{IsWithinLimits}
use Rattle.smiles_read.proofs.Answer.{AreFew, sketch_of, answered, sketch_ends_apart}
use Rattle.smiles_read.proofs.Sound.{JoinAtoms, sound_where, graph_joins, few_hydrogens}
use Rattle.smiles_read.proofs.read.read_smiles_in.Goals as goal

pub returns-then-not-has_few_parts-clause-reading : goal.returns-then-not-has_few_parts-clause-reading
returns-then-not-has_few_parts-clause-reading c =
    let graph = c.in_ok-graph.graph in
    let a = answered c.args.text.now graph c.in_ok-graph.ensures.reading c.in_ok-graph.ensures.depth in
    inr (
      a.tree,
      sketch_of graph,
      a.is,
      a.sketch,
      λ w. let k = c.has_few_parts.ensures.1 (a.few w) in let f = c.if-not-has_few_parts.true in cc,
    )

pub are_few_neighbours-requires : goal.are_few_neighbours-requires
are_few_neighbours-requires c =
    let graph = c.in_ok-graph.graph in
    let is = c.sketch-2.view_is ∙ c.in_ok-sketch.ensures in
    let same = c.deref.ensures.value ∙ ap (λ (s : SketchTerm). s.bonds) is in
    let P : List SketchBond → Type 0 = AllByRecursion (λ b. (b.a < c.len.result) × (b.b < c.len.result) × (b.a ≢ b.b))
    in
    let count = c.len.ensures ∙ c.sketch-2.inside.atoms.ok.0 ∙ ap (λ (s : SketchTerm). length s.atoms) is in
    subst P (sym same) (sketch_ends_apart graph c.len.result count c.in_ok-graph.ensures.ends)

pub returns-then-not-branch-clause-reading : goal.returns-then-not-branch-clause-reading
returns-then-not-branch-clause-reading c =
    let graph = c.in_ok-graph.graph in
    let a = answered c.args.text.now graph c.in_ok-graph.ensures.reading c.in_ok-graph.ensures.depth in
    let same = c.deref.ensures.value ∙ ap (λ (s : SketchTerm). s.bonds) (c.sketch-2.view_is ∙ c.in_ok-sketch.ensures) in
    inr (
      a.tree,
      sketch_of graph,
      a.is,
      a.sketch,
      λ w. let k = c.in_ok-are_few_neighbours.ensures.1 (subst AreFew (sym same) w.neighbours) in
          let f = c.if-not-branch.true in cc,
    )

pub returns-clause-reading : goal.returns-clause-reading
returns-clause-reading c =
    let graph = c.in_ok-graph.graph in
    let a = answered c.args.text.now graph c.in_ok-graph.ensures.reading c.in_ok-graph.ensures.depth in
    let same = c.deref.ensures.value ∙ ap (λ (s : SketchTerm). s.bonds) (c.sketch-2.view_is ∙ c.in_ok-sketch.ensures) in
    let few = subst AreFew same (c.in_ok-are_few_neighbours.ensures.0 c.if-not-branch.false) in
    let within = a.within (c.has_few_parts.ensures.0 c.if-not-has_few_parts.false) few in
    let P : SketchTerm → Type 0 = λ s. IsSketchOf a.tree s in
    let Q : SketchTerm → Type 0 = λ s. IsWithinLimits a.tree s in (
      c.if-text-gt-MOST_BYTES.false,
      a.tree,
      a.is,
      subst P (sym c.in_ok-sketch.ensures) a.sketch,
      subst Q (sym c.in_ok-sketch.ensures) within,
    )

pub returns-clause-sound : goal.returns-clause-sound
returns-clause-sound c =
    let graph = c.in_ok-graph.graph in
    let P : SketchTerm → Type 0 = λ s. JoinAtoms (length s.atoms) (map link_of s.bonds) in
    sound_where c.args.text.now _ (subst P (sym c.in_ok-sketch.ensures) (graph_joins graph c.in_ok-graph.ensures.ends))
    (returns-clause-reading c)

pub returns-clause-few_hydrogens : goal.returns-clause-few_hydrogens
returns-clause-few_hydrogens c = few_hydrogens c.args.text.now _ (returns-clause-reading c)

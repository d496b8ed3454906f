use Rattle.std.proofs.Common.{ℕ, ◌+◌, List, [], map, drop, length, get_or, sym, ◌∙◌, ap, subst, arith}
use Rattle.std.proofs.lemmas.List.{drop_all}
use Rattle.smarts_parse.specs.declared.pattern.Graph.{Graph}
use Rattle.smarts_parse.specs.Pattern.{graph_of}
use Rattle.smarts_parse.specs.Whole.{nodes_of}
use Rattle.smarts_parse.specs.Meaning.{numbers_from, IsGraphTerm}
use Rattle.smarts_parse.specs.Draft.{WalkGraph}
use Rattle.smarts_parse.specs.Build.{IsBuilt}
use Rattle.smarts_parse.proofs.Building.{none_built, drop_at, top_ready, pattern_built}
use Rattle.smarts_parse.proofs.build.pattern.Goals as goal

pub loop-part-init : goal.loop-part-init
loop-part-init c = λ whole b.
    let F : List ℕ → Type 0 = λ v. IsBuilt whole.parts c.args.closed.parts.items v
    (map graph_of c.new-recs.result.items) in
    let G : List Graph → Type 0 = λ v. IsBuilt whole.parts c.args.closed.parts.items [] (map graph_of v) in
    subst F (sym c.new-unplaced.ensures.items) (subst G (sym c.new-recs.ensures.items)
    (none_built whole c.args.closed b))

pub put_graph-requires : goal.put_graph-requires
put_graph-requires c =
    let whole = c.requires.0 in
    let items = c.args.closed.parts.items in
    let i = c.loop-part.part-index in
    let x = c.part-item.result in
    let value = c.deref-part-items.ensures.value in
    let k = ap length value in
    let F : List WalkGraph → Type 0 = λ v.
    IsBuilt whole.parts v c.loop-part.unplaced.items (map graph_of c.loop-part.recs.items) in (
      whole.parts,
      drop (i + 1) items,
      subst F (drop_at items i x (omega arith) (c.part-item.is ∙ ap (λ v. get_or v i x) value))
          (c.loop-part.invariant whole c.requires.1),
    )

pub loop-part-preserved : goal.loop-part-preserved
loop-part-preserved c = λ whole b.
    let items = c.args.closed.parts.items in
    let i = c.loop-part.part-index in
    let x = c.part-item.result in
    let value = c.deref-part-items.ensures.value in
    let k = ap length value in
    let F : List WalkGraph → Type 0 = λ v.
    IsBuilt whole.parts v c.loop-part.unplaced.items (map graph_of c.loop-part.recs.items) in
    c.in_ok-put_graph.ensures whole.parts (drop (i + 1) items)
    (subst F (drop_at items i x (omega arith) (c.part-item.is ∙ ap (λ v. get_or v i x) value))
    (c.loop-part.invariant whole b))

pub graph-requires : goal.graph-requires
graph-requires c =
    let whole = c.requires.0 in
    let items = c.args.closed.parts.items in
    let F : List WalkGraph → Type 0 = λ v.
    IsBuilt whole.parts v c.loop-part.unplaced.items (map graph_of c.loop-part.recs.items) in
    let k = ap length c.deref-part-items.ensures.value in
    let done = subst F (drop_all c.loop-part.part-index items (omega arith))
    (c.loop-part.invariant whole c.requires.1) in (
      nodes_of whole,
      [],
      numbers_from 0 whole.parts,
      top_ready whole c.args.closed c.loop-part.unplaced.items (map graph_of c.loop-part.recs.items) c.requires.1 done,
    )

pub returns : goal.returns
returns c = λ whole b.
    let items = c.args.closed.parts.items in
    let recs = map graph_of c.loop-part.recs.items in
    let F : List WalkGraph → Type 0 = λ v. IsBuilt whole.parts v c.loop-part.unplaced.items recs in
    let k = ap length c.deref-part-items.ensures.value in
    let done = subst F (drop_all c.loop-part.part-index items (omega arith)) (c.loop-part.invariant whole b) in
    let ready = top_ready whole c.args.closed c.loop-part.unplaced.items recs b done in
    let G : List ℕ → Type 0 = λ v.
    IsGraphTerm (nodes_of whole) (numbers_from 0 whole.parts) v (graph_of c.in_ok-top.top) in
    pattern_built whole c.args.closed c.loop-part.unplaced.items recs b done (graph_of c.in_ok-top.top)
    (subst G b.are.groups (c.in_ok-top.ensures (nodes_of whole) [] (numbers_from 0 whole.parts) ready).0)

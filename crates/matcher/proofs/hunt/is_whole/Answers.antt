use Rattle.std.proofs.Common.{◌≡◌, ◌≤◌, ◌∙◌, arith, length, sym, take}
use Rattle.std.proofs.lemmas.List.{length-map, length-take-le}
use Rattle.smarts_mean.specs.Table.{HoldsIn}
use Rattle.smarts_parse.specs.Pattern.{graph_of, term_of}
use Rattle.matcher.proofs.Partials.{IsPartial-whole}
use Rattle.matcher.proofs.hunt.is_whole.Goals as goal

pub returns : goal.returns
returns c = λ _.
    let task = c.args.task.now in
    let items = task.graph.now.atoms.items in
    let n = c.loop-placed.placed in
    let image = c.args.image.now in
    let all : n ≡ length items = omega (
      arith,
      c.loop-placed-test.false,
      c.loop-placed.auto.placed-end,
      c.len-placed-end.ensures,
    ) in
    let room : n ≤ length image = let r = c.requires.room in omega arith in
    let full : length (take n image) ≡ length (graph_of task.graph.now).atoms = length-take-le n image room ∙ all
    ∙ sym (length-map items term_of) in (
      take n image,
      IsPartial-whole (HoldsIn task.table.now) (graph_of task.graph.now) task.mol.now
          (take n image) c.requires.ready.searchable.ends full c.loop-placed.invariant,
    )

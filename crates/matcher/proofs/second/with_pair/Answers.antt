use Rattle.std.proofs.Common.{◌≡◌, ◌<◌, ◌≤◌, ◌∙◌, ap, arith, length, refl}
use Rattle.std.proofs.lemmas.List.{length-map}
use Rattle.smarts_mean.specs.Table.{HoldsIn}
use Rattle.smarts_parse.specs.Pattern.{bond_of, graph_of, term_of}
use Rattle.matcher.proofs.Pairs.{pair_begins}
use Rattle.matcher.proofs.Seconds.{second_begins}
use Rattle.matcher.proofs.second.with_pair.Goals as goal

pub returns : goal.returns
returns c = λ i l.
    let task = c.args.task.now in
    let parts = HoldsIn task.table.now in
    let g = graph_of task.graph.now in
    let m = task.mol.now in
    let words = c.args.candidates.now.words.items in
    let bonds = task.graph.now.bonds.items in
    let bond = c.index-bond.result.now in
    let small : length m.atoms ≤ 64 = omega (arith, ap length c.atoms.ensures.value) in
    let two : length g.atoms ≡ 2 = length-map task.graph.now.atoms.items term_of
    ∙ c.is_pair.ensures.two c.if-not-is_pair.false in
    let one : length g.bonds ≡ 1 = length-map bonds bond_of ∙ c.is_pair.ensures.one c.if-not-is_pair.false in
    let room : 1 < length words = omega (arith, c.args.candidates.now.room) in (
      λ t. pair_begins parts g m words task.steps.now bonds bond c.args.block c.args.all c.index.result.now
          c.leading_to.result i small c.atoms.ensures.valid refl c.requires.ready two one
          (c.is_pair.ensures.same c.if-not-is_pair.false) c.requires.truths (omega arith) c.index-bond.ensures room
          c.index.ensures c.leading_to.ensures.only c.requires.first l t,
      λ w. second_begins parts g m words task.steps.now bonds bond c.args.block c.args.all c.index.result.now
          c.leading_to.result i small refl c.requires.ready (omega arith) c.requires.truths (omega arith)
          c.index-bond.ensures room c.index.ensures c.leading_to.ensures.all l w.0 w.1,
    )

use Rattle.std.proofs.Common.{arith}
use Rattle.exact_find.proofs.Images.{bond_within}
use Rattle.exact_find.proofs.Maps.{turned}
use Rattle.exact_find.proofs.Near.{near_bond}
use Rattle.exact_find.proofs.walk.are_several.Goals as goal

pub index-requires-in-loop-b : goal.index-requires-in-loop-b
index-requires-in-loop-b c =
    let bond = near_bond c.args.right.now c.args.near c.neighbours-neighbours.result.now c.loop-b.b-index
    c.neighbours-neighbours.ensures.each c.loop-b-test.true in
    let within = bond_within c.args.right.now _ c.args.near bond.0 c.neighbours-neighbours.ensures.valid
    (turned c.args.right.now c.args.near _ bond.0 bond.1) in
    let few = c.neighbours-neighbours.ensures.valid.graph.few_atoms in
    omega (arith, within, few, c.from-in-loop-b.ensures, c.args.rough.now.right_room)

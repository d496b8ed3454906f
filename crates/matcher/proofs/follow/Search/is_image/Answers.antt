use Rattle.std.proofs.Common.{arith, below_more}
use Rattle.std.proofs.lemmas.List.{length-map}
use Rattle.smarts_parse.specs.Pattern.{bond_of}
use Rattle.matcher.proofs.Follows.{image_embeds}
use Rattle.matcher.proofs.follow.Search.is_image.Goals as goal

pub has_bond-requires-clause-sorted : goal.has_bond-requires-clause-sorted
has_bond-requires-clause-sorted c = c.requires.sorted c.loop-number.number
    (omega (arith, length-map c.args.self.now.task.now.graph.now.bonds.items bond_of))

pub has_bond-requires-clause-placed : goal.has_bond-requires-clause-placed
has_bond-requires-clause-placed c = c.are_placed.ensures c.if-not-are_placed.false

pub loop-number-preserved : goal.loop-number-preserved
loop-number-preserved c = below_more _ _ c.loop-number.invariant (c.has_bond.ensures c.if-not-has_bond.false)

pub returns : goal.returns
returns c = λ _.
    let s = c.args.self.now in
    let ready = c.requires.ready in
    image_embeds s.task.now s.candidates.now c.args.image.now ready.ready ready.few ready.candidates c.requires.room
    c.requires.alone (c.are_placed.ensures c.if-not-are_placed.false)
    (λ k l. c.loop-number.invariant k (omega (arith, length-map s.task.now.graph.now.bonds.items bond_of)))

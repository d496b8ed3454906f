use Rattle.std.proofs.Common.{◌≤◌, subst, sym, ◌∙◌}
use Rattle.aromatic.proofs.Sketches.{bond-in_graph}
use Rattle.aromatic.proofs.Tallies.{below-few, tallies-few, tally-more, tally-whole}
use Rattle.aromatic.proofs.bond_tallies.add_bonds.Goals as goal

pub add_at_ends-requires-clause-a_in_range : goal.add_at_ends-requires-clause-a_in_range
add_at_ends-requires-clause-a_in_range c =
    rw c.loop-place.auto.tallies (bond-in_graph _ _ c.loop-place.place _ c.requires.graph c.loop-place-test.true).0

pub add_at_ends-requires-clause-b_in_range : goal.add_at_ends-requires-clause-b_in_range
add_at_ends-requires-clause-b_in_range c =
    rw c.loop-place.auto.tallies (bond-in_graph _ _ c.loop-place.place _ c.requires.graph c.loop-place-test.true).1

pub add_at_ends-requires-clause-distinct : goal.add_at_ends-requires-clause-distinct
add_at_ends-requires-clause-distinct c =
    (bond-in_graph _ _ c.loop-place.place _ c.requires.graph c.loop-place-test.true).2

pub add_at_ends-requires-clause-few : goal.add_at_ends-requires-clause-few
add_at_ends-requires-clause-few c = λ a.
    subst (λ t. t.bonded ≤ 48) (sym (c.loop-place.invariant a)) (below-few c.args.bonds.now c.args.aromatic.now _
    c.loop-place.place a c.requires.graph)

pub loop-place-preserved : goal.loop-place-preserved
loop-place-preserved c = λ a.
    c.add_at_ends.ensures a ∙ rw (c.loop-place.invariant a)
    (sym (tally-more c.args.bonds.now c.args.aromatic.now a c.loop-place.place _ c.loop-place-test.true
    c.requires.each))

pub returns-clause-each : goal.returns-clause-each
returns-clause-each c = λ a. c.loop-place.invariant a ∙ tally-whole c.args.bonds.now c.args.aromatic.now a
    c.loop-place.place c.loop-place-test.false

pub returns-clause-few : goal.returns-clause-few
returns-clause-few c =
    tallies-few c.args.bonds.now c.args.aromatic.now _ c.loop-place.tallies c.requires.graph
    (λ a. c.loop-place.invariant a ∙ tally-whole c.args.bonds.now c.args.aromatic.now a c.loop-place.place
    c.loop-place-test.false)

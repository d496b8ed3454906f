-- The pair of the atom among the neighbours names the bond.
use Rattle.std.proofs.Common.{arith}
use Rattle.matcher.proofs.Joins.{joined_at, joins_in_range, not_joined, one_bond}
use Rattle.matcher.proofs.fit.bond_between.Goals as goal

pub returns-then-neighbour-to-clause-found : goal.returns-then-neighbour-to-clause-found
returns-then-neighbour-to-clause-found c = joined_at _ _ _ _ _ _ c.neighbours-neighbours.ensures.each
    c.loop-neighbour-test.true c.if-neighbour-to.true

pub returns-then-neighbour-to-clause-bond : goal.returns-then-neighbour-to-clause-bond
returns-then-neighbour-to-clause-bond c = (joins_in_range c.args.mol.now _ c.args.from c.args.to
    c.neighbours-neighbours.ensures.valid (returns-then-neighbour-to-clause-found c)).0

pub returns-then-neighbour-to-clause-only : goal.returns-then-neighbour-to-clause-only
returns-then-neighbour-to-clause-only c = λ other joins.
    one_bond _ _ _ _ c.neighbours-neighbours.ensures.each other _ joins (returns-then-neighbour-to-clause-found c)

pub returns-clause-none : goal.returns-clause-none
returns-clause-none c = not_joined _ _ _ _ c.neighbours-neighbours.ensures.each
    (λ k d l. c.loop-neighbour.invariant k d (omega (arith, l)))

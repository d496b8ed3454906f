use Rattle.std.proofs.Common.{length, ap, arith}
use Rattle.exact_find.proofs.Near.{near_each, near_kind, near_within, one_kind}
use Rattle.exact_find.proofs.fit.kind_between.Goals as goal

pub bounds-bonds-from : goal.bounds-bonds-from
bounds-bonds-from c =
    let within = near_within c.args.mol.now c.args.atom c.neighbours-neighbours.result.now
    c.loop-neighbour.neighbour-index c.neighbours-neighbours.ensures.each c.loop-neighbour-test.true in
    omega (arith, within, c.from.ensures, ap length c.bonds.ensures.value)

pub returns-then-neighbour-other-clause-some : goal.returns-then-neighbour-other-clause-some
returns-then-neighbour-other-clause-some c =
    near_kind c.args.mol.now c.args.atom c.args.other c.neighbours-neighbours.result.now
    c.loop-neighbour.neighbour-index c.bonds.result.now c.from.result _ c.neighbours-neighbours.ensures.each
    c.loop-neighbour-test.true c.bonds.ensures.value c.from.ensures c.if-neighbour-other.true

pub returns-then-neighbour-other-clause-one : goal.returns-then-neighbour-other-clause-one
returns-then-neighbour-other-clause-one c = λ k has.
    one_kind c.args.mol.now c.args.atom c.args.other _ k c.bonds.ensures.valid
    (near_kind c.args.mol.now c.args.atom c.args.other c.neighbours-neighbours.result.now
    c.loop-neighbour.neighbour-index c.bonds.result.now c.from.result _ c.neighbours-neighbours.ensures.each
    c.loop-neighbour-test.true c.bonds.ensures.value c.from.ensures c.if-neighbour-other.true) has

pub returns-clause-none : goal.returns-clause-none
returns-clause-none c = λ kind has.
    let at = near_each c.args.mol.now c.args.atom c.args.other kind c.neighbours-neighbours.result.now
    c.neighbours-neighbours.ensures.each has in
    c.loop-neighbour.invariant at.0 (omega (arith, at.1, c.loop-neighbour-test.false)) at.2

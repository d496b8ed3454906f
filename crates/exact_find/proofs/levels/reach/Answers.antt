use Rattle.std.proofs.Common.{◌≡◌, ◌<◌, ◌-◌, ◌+◌, length, set, sym, subst, arith, rules}
use Rattle.exact_find.specs.Levels.{IsSpread}
use Rattle.exact_find.proofs.Spread.{spread-few, spread-first, spread-whole}
use Rattle.exact_find.proofs.levels.reach.Goals as goal

pub loop-at-init : goal.loop-at-init
loop-at-init c =
    subst (λ x. IsSpread c.args.mol.now c.args.start c.args.levels.now (set c.args.levels.now x 0)
    (set c.args.list.now 0 c.args.start) 0 1) (sym c.from.ensures)
    (spread-first c.args.mol.now c.args.start c.args.levels.now c.args.list.now c.requires.molecule c.requires.room
    c.requires.list_room c.requires.in_range c.requires.clear)

pub overflow_add-at : goal.overflow_add-at
overflow_add-at c =
    let s = c.loop-at.invariant in
    let few = spread-few c.args.mol.now c.args.start c.args.levels.now c.loop-at.levels c.loop-at.list c.loop-at.at
    c.loop-at.last s in
    omega (arith, c.loop-at-test.true, c.requires.molecule.graph.few_atoms)

pub loop-at-smaller : goal.loop-at-smaller
loop-at-smaller c =
    let s = c.loop-at.invariant in
    let few = spread-few c.args.mol.now c.args.start c.args.levels.now c.loop-at.levels c.loop-at.list c.loop-at.at
    c.loop-at.last s in
    let less : length c.args.mol.now.atoms - (c.loop-at.at + 1) < length c.args.mol.now.atoms - c.loop-at.at =
    omega (arith, c.loop-at-test.true) in
    less

pub loop-at-preserved : goal.loop-at-preserved
loop-at-preserved c = c.reach_from-last.ensures.spread c.args.start c.args.levels.now c.loop-at.invariant

pub returns-clause-few : goal.returns-clause-few
returns-clause-few c =
    let few = spread-few c.args.mol.now c.args.start c.args.levels.now c.loop-at.levels c.loop-at.list c.loop-at.at
    c.loop-at.last c.loop-at.invariant in
    omega (arith, c.requires.list_room)

pub returns-clause-reached : goal.returns-clause-reached
returns-clause-reached c =
    let same : length c.loop-at.list ≡ length c.args.list.now = search rules in
    spread-whole c.args.mol.now c.args.start c.args.levels.now c.loop-at.levels c.loop-at.list c.loop-at.at c.loop-at.last
    c.loop-at-test.false (omega (arith, c.requires.list_room)) c.loop-at.invariant

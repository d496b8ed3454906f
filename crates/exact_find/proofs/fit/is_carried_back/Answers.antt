use Rattle.std.proofs.Common.{length, ap, refl, arith}
use Rattle.std.proofs.lemmas.Bool.{false≢true}
use Rattle.exact_find.specs.Pairs.{flip}
use Rattle.exact_find.proofs.Near.{carried_all, carried_none, carried_one, near_kind, near_within}
use Rattle.exact_find.proofs.fit.is_carried_back.Goals as goal
use Rattle.exact_find.proofs.fit.is_carried_back.Goals.{in-Some+else-not-has_bond, in_default}

pub bounds-bonds-from : goal.bounds-bonds-from
bounds-bonds-from c =
    let within = near_within c.args.right.now c.args.b c.neighbours-neighbours.result.now
    c.loop-neighbour.neighbour-index c.neighbours-neighbours.ensures.each c.loop-neighbour-test.true in
    omega (arith, within, c.from.ensures, ap length c.bonds.ensures.value)

pub returns-then-not-has_bond : goal.returns-then-not-has_bond
returns-then-not-has_bond c = (
  (λ no'. absurd (false≢true no')),
  (λ all.
      absurd (false≢true (c.if-not-has_bond.ensures.1 (all _ c.in-Some.other _ c.in-Some.ensures.some
      (near_kind c.args.right.now c.args.b _ c.neighbours-neighbours.result.now c.loop-neighbour.neighbour-index
      c.bonds.result.now c.from.result _ c.neighbours-neighbours.ensures.each c.loop-neighbour-test.true
      c.bonds.ensures.value c.from.ensures refl))))),
)

pub loop-neighbour-preserved : goal.loop-neighbour-preserved
loop-neighbour-preserved c =
    elim c.match-partner_back.branch [
      | in-Some+else-not-has_bond w ↦
          carried_one c.args.right.now c.args.left.now (flip c.args.pairs.now) c.args.b c.args.a c.neighbours-neighbours.result.now
          c.loop-neighbour.neighbour-index w.in-Some.other _ w.bonds.ensures.valid c.requires.partial.back
          w.in-Some.ensures.some
          (near_kind c.args.right.now c.args.b _ c.neighbours-neighbours.result.now c.loop-neighbour.neighbour-index
          w.bonds.result.now w.from.result _ c.neighbours-neighbours.ensures.each c.loop-neighbour-test.true
          w.bonds.ensures.value w.from.ensures refl)
          (w.has_bond.ensures.0 w.if-not-has_bond.false) c.loop-neighbour.invariant
      | in_default w ↦
          carried_none c.args.right.now c.args.left.now (flip c.args.pairs.now) c.args.b c.args.a c.neighbours-neighbours.result.now
          c.loop-neighbour.neighbour-index w.in_default.ensures.none c.loop-neighbour.invariant
    ]

pub returns : goal.returns
returns c = (
  (λ yes'. carried_all c.args.right.now c.args.left.now (flip c.args.pairs.now) c.args.b c.args.a
      c.neighbours-neighbours.result.now c.neighbours-neighbours.ensures.each
      (λ k h. c.loop-neighbour.invariant k (omega (arith, h, c.loop-neighbour-test.false)))),
  (λ all. refl),
)

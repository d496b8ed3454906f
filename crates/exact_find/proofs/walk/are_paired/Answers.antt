use Rattle.std.proofs.Common.{◌∙◌, ap, sym, subst, refl, arith, not}
use Rattle.std.proofs.lemmas.Bool.{false≢true, cases_eq}
use Rattle.std.proofs.Common.{inl, inr, get_or}
use Rattle.exact_find.specs.Pairs.{Has, IsPaired, flip}
use Rattle.exact_find.proofs.Grow.{none_value, some_value}
use Rattle.exact_find.proofs.Near.{near_bond, near_each}
use Rattle.exact_find.proofs.walk.are_paired.Goals as goal

pub returns-then-is_none : goal.returns-then-is_none
returns-then-is_none c = (
  (λ no'. absurd (false≢true no')),
  (λ all.
      let bond = near_bond c.args.right.now c.args.b c.neighbours-neighbours.result.now c.loop-neighbour.neighbour-index
      c.neighbours-neighbours.ensures.each c.loop-neighbour-test.true in
      absurd (none_value c.partner_back.result _ (c.is_none.ensures ∙ ap not c.if-is_none.true)
      c.partner_back.ensures.none (all _ bond.0 bond.1))),
)

pub loop-neighbour-preserved : goal.loop-neighbour-preserved
loop-neighbour-preserved c = λ k h.
    elim (cases_eq k c.loop-neighbour.neighbour-index) [
      | inl same ↦
          let here : IsPaired (flip c.args.pairs.now)
          (get_or c.neighbours-neighbours.result.now c.loop-neighbour.neighbour-index (0, 0)).0 =
          some_value c.partner_back.result (Has (flip c.args.pairs.now)
          (get_or c.neighbours-neighbours.result.now c.loop-neighbour.neighbour-index (0, 0)).0)
          (c.is_none.ensures ∙ ap not c.if-is_none.false) c.partner_back.ensures.some in
          subst (λ j. IsPaired (flip c.args.pairs.now) (get_or c.neighbours-neighbours.result.now j (0, 0)).0) (sym same)
          here
      | inr other ↦ c.loop-neighbour.invariant k (omega arith)
    ]

pub returns : goal.returns
returns c = (
  (λ yes' d kind bond.
      let at = near_each c.args.right.now c.args.b d kind c.neighbours-neighbours.result.now
      c.neighbours-neighbours.ensures.each bond in
      subst (IsPaired (flip c.args.pairs.now)) at.2
      (c.loop-neighbour.invariant at.0 (omega (arith, at.1, c.loop-neighbour-test.false)))),
  (λ all. refl),
)

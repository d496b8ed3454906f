use Rattle.std.proofs.Common.{inl, inr, subst, arith}
use Rattle.std.proofs.lemmas.Bool.{cases_eq}
use Rattle.ring_find.specs.Strip.{IsDeadEnd}
use Rattle.chem_core.proofs.Neighbours.{joined_within}
use Rattle.chem_core.proofs.Steps.{step_within}
use Rattle.ring_find.proofs.Strips.{keeps_more, ends_more, ends_done}
use Rattle.ring_find.proofs.strip.strip_from.Goals as goal

pub only_kept-requires-clause-within : goal.only_kept-requires-clause-within
only_kept-requires-clause-within c = λ k d l.
    let w = step_within _ _ _ _ k d c.steps_from.ensures.valid c.steps_from.ensures.steps l in
    omega (arith, w.0, c.loop-step.invariant.keeps.one_each)

pub loop-step-preserved : goal.loop-step-preserved
loop-step-preserved c =
    let only = c.in-Some.ensures in
    let ends = ends_more _ _ _ _ _ _ c.loop-step.invariant.keeps c.steps_from.ensures.steps only
    c.loop-step.invariant.ends in
    record {
      within = (joined_within _ _ _ _ _ c.steps_from.ensures.valid (c.steps_from.ensures.steps.joins _ only.0)).1;
      keeps = rw c.from.ensures (keeps_more _ _ _ _ _ c.loop-step.invariant.keeps c.steps_from.ensures.steps only);
      ends = rw c.from.ensures ends;
    }

pub loop-step-init : goal.loop-step-init
loop-step-init c = record {
  within = c.requires.atom;
  keeps = c.requires.rings;
  ends = λ v low ne. c.requires.ends v (omega arith);
}

pub returns-clause-ends : goal.returns-clause-ends
returns-clause-ends c = λ v low dead.
    elim (cases_eq v c.loop-step.at) [
      | inl e ↦ ends_done _ _ _ _ c.steps_from.ensures.steps c.in_default.ensures
          (subst (λ w. IsDeadEnd c.args.graph.now.ends c.loop-step.kept w) e dead)
      | inr ne ↦ c.loop-step.invariant.ends v low ne dead
    ]

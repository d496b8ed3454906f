use Rattle.std.proofs.Common.{refl, subst, arith}
use Rattle.std.proofs.lemmas.List.{get_or_read}
use Rattle.chem_core.specs.Steps.{AreStepsFrom}
use Rattle.chem_core.specs.declared.adjacency.Step.{Step}
use Rattle.chem_core.proofs.Steps.{step_within}
use Rattle.mol_finish.proofs.Namings.{visit_push, visit_skip, visit_done}
use Rattle.mol_finish.proofs.components.visit.Goals as goal
use Rattle.mol_finish.proofs.components.visit.Goals.{then-components-from+in_ok-push, else-components-from}

pub loop-step-init : goal.loop-step-init
loop-step-init c =
    record {
      graph = c.steps_from-step-items.ensures.valid;
      steps_from = subst (λ a. AreStepsFrom c.args.adjacency.now.ends a c.steps_from-step-items.result.now)
          (get_or_read _ _ _ c.requires.next c.index.ensures 0) c.steps_from-step-items.ensures.steps;
      from = record { naming = c.requires.before; queued = c.requires.queue; kept = λ a named. named };
      within = c.requires.next;
      here = refl;
      done = λ i d low. absurd (omega (arith, low));
    }

pub bounds-components-from : goal.bounds-components-from
bounds-components-from c =
    let i = c.loop-step.invariant in
    rw (c.from.ensures, i.from.naming.one_each) (step_within _ _ _ _ _ _ i.graph i.steps_from c.loop-step-test.true).1

pub loop-step-preserved : goal.loop-step-preserved
loop-step-preserved c =
    let d : Step = record { to = 0; bond = 0 } in
    elim c.if-components-from.branch [
      | then-components-from+in_ok-push w ↦
          let fresh = rw c.from.ensures at w.if-components-from.true in
          rw (w.components-is, w.queue-is, w.in_ok-push.ensures.items, w.from-then-components-from.ensures)
          (visit_push _ _ _ _ _ _ _ _ _ _ d c.requires.in_range c.loop-step.invariant c.loop-step-test.true fresh)
      | else-components-from w ↦
          let named = rw c.from.ensures at w.if-components-from.false in
          rw (w.components-is, w.queue-is)
          (visit_skip _ _ _ _ _ _ _ _ _ _ d c.loop-step.invariant c.loop-step-test.true named)
    ]

pub returns-clause-after : goal.returns-clause-after
returns-clause-after c = visit_done _ _ _ _ _ _ _ _ _ _ c.loop-step.invariant c.loop-step-test.false

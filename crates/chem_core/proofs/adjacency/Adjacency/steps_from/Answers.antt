use Rattle.std.proofs.Common.{◌≡◌, ◌∙◌, ◌<◌, subst, sym}
use Rattle.chem_core.specs.Steps.{AreStepsFrom, steps_among}
use Rattle.chem_core.proofs.Steps.{are_steps_from}
use Rattle.chem_core.proofs.StepsFilled.{list_inside}
use Rattle.chem_core.proofs.adjacency.Adjacency.steps_from.Goals as goal

pub returns-clause-steps : goal.returns-clause-steps
returns-clause-steps c =
    let ends = c.self.inside.ends.items in
    let within = subst (λ m. c.args.atom < m.atoms) (sym c.self.view_is) c.requires in
    let is : c.as_slice.result.now ≡ steps_among ends c.args.atom =
    c.as_slice.ensures.value ∙ list_inside (λ v. v.items) _ _ c.args.atom _ c.self.invariant within
    (rw c.from.ensures at c.index.ensures) in
    rw (← c.self.view_is) (subst (AreStepsFrom ends c.args.atom) (sym is) (are_steps_from ends c.args.atom))

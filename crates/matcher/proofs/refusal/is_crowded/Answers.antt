use Rattle.std.proofs.Common.{arith}
use Rattle.std.proofs.lemmas.List.{length-map}
use Rattle.smarts_mean.specs.Table.{HoldsIn}
use Rattle.smarts_parse.specs.Pattern.{graph_of, term_of}
use Rattle.matcher.specs.Plan.{step_at}
use Rattle.matcher.proofs.Refusals.{crowded}
use Rattle.matcher.proofs.refusal.is_crowded.Goals as goal

pub returns : goal.returns
returns c =
    let task = c.args.task.now in
    let places = c.places_within.ensures in
    let atoms = rw c.atoms.ensures.value at c.atoms_within-atoms.ensures in
    let fewer = c.if-places_within-atoms.false in
    λ _. crowded (HoldsIn task.table.now) (graph_of task.graph.now) task.mol.now task.steps.now c.len.result
    (step_at task.steps.now 0).classes
    c.requires.ready (omega (arith, length-map task.graph.now.atoms.items term_of, task.graph.now.atoms.ok.0))
    (omega (arith, places, atoms, fewer))

use Rattle.std.proofs.Common.{◌<◌, ◌≤◌, arith, length, subst, sym}
use Rattle.std.proofs.lemmas.List.{length-map}
use Rattle.smarts_mean.specs.Table.{HoldsIn}
use Rattle.smarts_parse.specs.Pattern.{graph_of, term_of}
use Rattle.matcher.proofs.Pigeons.{marks}
use Rattle.matcher.proofs.Refusals.{excluded}
use Rattle.matcher.proofs.refusal.excludes.Goals as goal

pub returns : goal.returns
returns c =
    let few : length c.args.places.now ≤ length (graph_of c.args.task.now.graph.now).atoms = subst
    (λ n. length c.args.places.now ≤ n) (sym (length-map c.args.task.now.graph.now.atoms.items term_of))
    c.requires.places in
    let fewer : marks c.args.atoms.now < marks c.args.places.now = omega arith in
    λ _. excluded (HoldsIn c.args.task.now.table.now) (graph_of c.args.task.now.graph.now) c.args.task.now.mol.now
    c.args.front.now c.args.places.now c.args.atoms.now few fewer
    (λ k l. c.loop-place.invariant k (omega (arith, l, c.loop-place-test.false)))

use Rattle.std.proofs.Common.{◌<◌, ap, arith, length, max, subst, sym, ◌∙◌}
use Rattle.std.proofs.lemmas.List.{get_or-map, length-map}
use Rattle.smarts_mean.specs.Table.{HoldsIn}
use Rattle.smarts_parse.specs.Pattern.{bond_of, graph_of, term_of}
use Rattle.matcher.proofs.Plans.{high_below}
use Rattle.matcher.proofs.Refusals.{no_place}
use Rattle.matcher.proofs.refusal.has_bond.Goals as goal

pub may_lie-requires-clause-ends : goal.may_lie-requires-clause-ends
may_lie-requires-clause-ends c =
    let g = graph_of c.args.task.now.graph.now in
    subst (λ n. max c.index-bond.result.now.a c.index-bond.result.now.b < n)
    (length-map c.args.task.now.graph.now.atoms.items term_of)
    (high_below c.args.task.now.graph.now.bonds.items g c.args.place c.index-bond.result.now c.requires.place
    c.index-bond.ensures c.requires.ready.searchable.ends)

pub returns : goal.returns
returns c =
    let task = c.args.task.now in
    let bonds = task.graph.now.bonds.items in
    let bond = c.index-bond.result.now in
    λ _. no_place (HoldsIn task.table.now) (graph_of task.graph.now) task.mol.now c.args.place (bond_of bond)
    (subst (λ n. c.args.place < n) (sym (length-map bonds bond_of)) c.requires.place)
    (λ d. get_or-map bond_of bonds c.args.place bond d c.requires.place ∙ ap bond_of (sym c.index-bond.ensures))
    (λ b l. c.loop-other.invariant b (omega (arith, l, ap length c.bonds.ensures.value, c.loop-other-test.false)))
    c.bonds.ensures.valid

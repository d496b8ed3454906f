use Rattle.std.proofs.Common.{◌<◌, ◌++◌, ◌∷◌, [], arith, length, refl, subst, sym}
use Rattle.std.proofs.lemmas.List.{length-map}
use Rattle.smarts_parse.specs.Embedding.{BondEmbeds}
use Rattle.smarts_parse.specs.Pattern.{graph_of, term_of}
use Rattle.matcher.proofs.Plans.{first_bond}
use Rattle.matcher.proofs.fit.first_embeds.Goals as goal

pub bond_embeds-requires-clause-high : goal.bond_embeds-requires-clause-high
bond_embeds-requires-clause-high c =
    let task = c.args.task.now in
    let few = subst (λ n. length c.args.front.now < n) (sym (length-map task.graph.now.atoms.items term_of))
    c.requires.few in
    (first_bond task.graph.now.bonds.items (graph_of task.graph.now) task.steps.now
    (length c.args.front.now) c.index.result.now refl c.requires.ready few (omega arith) c.index.ensures).0

pub bond_embeds-requires-clause-apart : goal.bond_embeds-requires-clause-apart
bond_embeds-requires-clause-apart c =
    let task = c.args.task.now in
    let few = subst (λ n. length c.args.front.now < n) (sym (length-map task.graph.now.atoms.items term_of))
    c.requires.few in
    (first_bond task.graph.now.bonds.items (graph_of task.graph.now) task.steps.now
    (length c.args.front.now) c.index.result.now refl c.requires.ready few (omega arith) c.index.ensures).1

pub returns : goal.returns
returns c = λ t d lt.
    let task = c.args.task.now in
    let few = subst (λ n. length c.args.front.now < n) (sym (length-map task.graph.now.atoms.items term_of))
    c.requires.few in
    let first = first_bond task.graph.now.bonds.items (graph_of task.graph.now) task.steps.now
    (length c.args.front.now) c.index.result.now refl c.requires.ready few lt c.index.ensures in
    subst (BondEmbeds task.mol.now (c.args.front.now ++ c.args.atom ∷ [])) (sym (first.2 d)) (c.bond_embeds.ensures.0 t)

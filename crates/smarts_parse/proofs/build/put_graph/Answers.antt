use Rattle.std.proofs.Common.{◌≡◌, ℕ, List, [], ◌∷◌, ◌++◌, length, map, replicate, sym, ◌∙◌, ap, subst, arith}
use Rattle.std.proofs.lemmas.Grind.{common_steps}
use Rattle.std.proofs.lemmas.List.{map-append, length-map}
use Rattle.smarts_parse.specs.Pattern.{GraphTerm, graph_of}
use Rattle.smarts_parse.specs.Meaning.{IsGraphTerm}
use Rattle.smarts_parse.specs.Build.{IsBuilt}
use Rattle.smarts_parse.proofs.Building.{next}
use Rattle.smarts_parse.proofs.build.put_graph.Goals as goal

pub graph-requires : goal.graph-requires
graph-requires c =
    let n = next c.requires.0 c.args.part.now c.requires.1 c.args.unplaced.now.items
    (map graph_of c.args.recs.now.items) c.requires.2 in
    (n.nodes, n.front, n.numbers, n.ready)

pub overflow_cast-len : goal.overflow_cast-len
overflow_cast-len c =
    let n = next c.requires.0 c.args.part.now c.requires.1 c.args.unplaced.now.items
    (map graph_of c.args.recs.now.items) c.requires.2 in
    let few = n.number in
    record { fits = omega (arith, length-map c.args.recs.now.items graph_of) }

pub returns : goal.returns
returns c = λ all left h.
    let recs = map graph_of c.args.recs.now.items in
    let n = next all c.args.part.now left c.args.unplaced.now.items recs h in
    let g = c.in_ok-graph.ensures n.nodes n.front n.numbers n.ready in
    let k = c.len-2.result in
    let size = c.len.result in
    let each : size ≡ length c.args.part.now.atoms.items = omega (arith, c.len.ensures) in
    let zeros : c.in_ok-groups.groups.items ≡ replicate size 0 =
    c.in_ok-groups.ensures.items_if_clones_equal (λ y e. e) in
    let H : List ℕ → Type 0 = λ v. IsGraphTerm n.nodes n.numbers v (graph_of c.in_ok-graph.graph) in
    let count : k ≡ length recs = omega (arith, c.len-2.ensures, length-map c.args.recs.now.items graph_of) in
    let e : c.push.new.self.items ≡ c.graph.new.unplaced.items ++ k ∷ [] = grind (arith, common_steps) in
    let f : c.push-2.new.self.items ≡ c.args.recs.now.items ++ c.in_ok-graph.graph ∷ [] = grind (arith, common_steps) in
    let F : List ℕ → Type 0 = λ v. IsBuilt all left v (map graph_of c.push-2.new.self.items) in
    let G : List GraphTerm → Type 0 = λ v. IsBuilt all left (n.front ++ k ∷ []) v in
    subst F (sym (e ∙ ap (λ v. v ++ k ∷ []) g.1))
    (subst G (sym (ap (map graph_of) f ∙ map-append graph_of c.args.recs.now.items (c.in_ok-graph.graph ∷ [])))
    (n.after (graph_of c.in_ok-graph.graph) k size each (subst H zeros g.0) count))

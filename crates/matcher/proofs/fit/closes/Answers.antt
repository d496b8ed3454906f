-- The bonds of a step, but for its first.
use Rattle.std.proofs.Common.{◌≡◌, ◌≢◌, ◌++◌, ◌∷◌, [], arith, length, max, refl}
use Rattle.std.proofs.lemmas.List.{length-drop, length-map, length-take}
use Rattle.smarts_parse.specs.Embedding.{BondEmbeds}
use Rattle.smarts_parse.specs.Pattern.{graph_of}
use Rattle.matcher.proofs.Plans.{all_of_step, step_of_all}
use Rattle.matcher.proofs.Places.{all_apart}
use Rattle.matcher.proofs.fit.closes.Goals as goal

pub bonds_embed-requires-clause-apart : goal.bonds_embed-requires-clause-apart
bonds_embed-requires-clause-apart c =
    let g = graph_of c.args.task.now.graph.now in
    rw (c.others-others.ensures, c.deref.ensures.value)
    (step_of_all c.args.task.now.graph.now.bonds.items g (λ bond. bond.a ≢ bond.b) _ _ refl
    (all_apart g c.requires.ready.searchable.apart))

pub returns : goal.returns
returns c =
    let task = c.args.task.now in
    let g = graph_of task.graph.now in
    let m = task.mol.now in
    let front = c.args.front.now in
    let bonds = task.graph.now.bonds.items in
    let rest = rw c.deref.ensures.value at c.others-others.ensures in (
      λ t. all_of_step bonds g task.steps.now (length front) (BondEmbeds m (front ++ c.args.atom ∷ [])) refl
          c.requires.ready (rw rest at (c.bonds_embed.ensures.0 t)) c.requires.first,
      λ all. c.bonds_embed.ensures.1 (rw rest (step_of_all bonds g (λ bond. max bond.a bond.b ≡ length front
          → BondEmbeds m (front ++ c.args.atom ∷ []) bond) _ _ refl all)),
    )

pub returns-then-count-le1 : goal.returns-then-count-le1
returns-then-count-le1 c =
    let task = c.args.task.now in
    let g = graph_of task.graph.now in
    let front = c.args.front.now in (
      λ t. all_of_step task.graph.now.bonds.items g task.steps.now (length front)
          (BondEmbeds task.mol.now (front ++ c.args.atom ∷ [])) refl c.requires.ready
          (λ k d l. let few = rw (length-map, length-take, length-drop) at l in absurd (omega arith)) c.requires.first,
      λ all. refl,
    )

use Rattle.std.proofs.Common.{length, ap, ◌∙◌}
use Rattle.std.proofs.lemmas.List.{length-map}
use Rattle.aromatic.specs.Counts.{without_bonds}
use Rattle.aromatic.proofs.Sketches.{bond-in_graph, few_pairs, environments-none, environments-more, environments-small, environments-whole}
use Rattle.aromatic.proofs.environment.count_bonds.Goals as goal

pub count_at_ends-requires-clause-a_in_range : goal.count_at_ends-requires-clause-a_in_range
count_at_ends-requires-clause-a_in_range c =
    (bond-in_graph _ _ c.loop-place.place _ c.requires.sound.graph c.loop-place-test.true).0

pub count_at_ends-requires-clause-b_in_range : goal.count_at_ends-requires-clause-b_in_range
count_at_ends-requires-clause-b_in_range c =
    (bond-in_graph _ _ c.loop-place.place _ c.requires.sound.graph c.loop-place-test.true).1

pub count_at_ends-requires-clause-distinct : goal.count_at_ends-requires-clause-distinct
count_at_ends-requires-clause-distinct c =
    (bond-in_graph _ _ c.loop-place.place _ c.requires.sound.graph c.loop-place-test.true).2

pub count_at_ends-requires-clause-small : goal.count_at_ends-requires-clause-small
count_at_ends-requires-clause-small c =
    let count = c.loop-place.auto.environments ∙ ap (λ xs. length xs) c.requires.without_bonds
    ∙ length-map c.args.atoms.now without_bonds in
    environments-small c.args.atoms.now _ c.loop-place.environments count
    (few_pairs _ c.args.bonds.now c.args.bond_in_ring.now
    c.loop-place.place c.requires.sound.graph) c.loop-place.invariant

pub loop-place-init : goal.loop-place-init
loop-place-init c = environments-none c.args.atoms.now c.args.environments.now c.requires.without_bonds

pub loop-place-preserved : goal.loop-place-preserved
loop-place-preserved c =
    environments-more c.args.atoms.now c.args.bonds.now c.args.bond_in_ring.now c.loop-place.environments
    c.count_at_ends.new.environments
    c.loop-place.place _ c.loop-place-test.true c.requires.rings c.loop-place.invariant c.count_at_ends.ensures

pub returns : goal.returns
returns c =
    let count = c.loop-place.auto.environments ∙ ap (λ xs. length xs) c.requires.without_bonds
    ∙ length-map c.args.atoms.now without_bonds in
    environments-whole c.args.atoms.now c.args.bonds.now c.args.bond_in_ring.now c.loop-place.environments
    c.loop-place.place count
    c.loop-place-test.false c.loop-place.invariant

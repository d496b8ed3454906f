use Rattle.std.proofs.Common.{◌≡◌, ◌∙◌, ◌++◌, ◌∷◌, [], IsPermutation, ap, arith, length, map, refl}
use Rattle.std.proofs.lemmas.List.{length-append, map-append}
use Rattle.chem_core.specs.Graph.{IsSimpleGraph}
use Rattle.chem_core.proofs.Facts.{kept-more}
use Rattle.chem_core.proofs.InTurn.{turn-neighbours}
use Rattle.chem_core.proofs.StepsSorted.{pairs_among, sorted_count, sorted_neighbours}
use Rattle.chem_core.proofs.mol.in_turn.Goals as goal

pub loop-atom-preserved : goal.loop-atom-preserved
loop-atom-preserved c =
    let a = c.loop-atom.atom in
    let ends = c.args.adjacency.now.ends in
    let known = c.loop-atom.invariant in
    let graph : IsSimpleGraph c.args.adjacency.now.atoms ends = c.atoms-atoms.ensures.valid in
    let sorted = c.in_ok-push_sorted.ensures in
    let same : IsPermutation (pairs_among ends a) sorted.added = rw c.steps_from.ensures.value at sorted.same in
    let are = sorted_neighbours ends c.args.adjacency.now.atoms a sorted.added graph same sorted.ascending in
    let count = sorted_count ends a sorted.added same in
    let facts = c.in_ok-push.ensures.items in
    let start : c.len.result ≡ length c.loop-atom.pairs.items = c.len.ensures ∙ c.loop-atom.pairs.ok.0 in
    let starts = ap (map (λ f. f.first_neighbour)) facts ∙ map-append (λ f. f.first_neighbour) _ _
    ∙ ap (λ n. map (λ f. f.first_neighbour) c.loop-atom.facts.items ++ n ∷ []) start in
    let within = c.loop-atom-test.true in
    record {
      turn = turn-neighbours ends a _ _ sorted.added _ _ known.turn are count sorted.behind starts;
      rings = kept-more (λ f. f.smallest_ring) _ _ _ _ a known.rings facts (omega arith) refl;
      components = kept-more (λ f. f.component) _ _ _ _ a known.components facts (omega arith) refl;
      few = omega (
        arith,
        known.few,
        count,
        graph.few_neighbours a,
        ap length sorted.behind,
        length-append c.loop-atom.pairs.items sorted.added,
      );
    }

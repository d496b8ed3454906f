use Rattle.std.proofs.Common.{◌≡◌, ◌*◌, ◌≤◌, length, map, take}
use Rattle.chem_core.specs.Inside.{AreNeighboursInTurn}
use Rattle.chem_core.proofs.mol.in_turn.Given as goal

abbrev pub invariant-loop-atom : goal.invariant-loop-atom
invariant-loop-atom l = record {
  turn : AreNeighboursInTurn l.adjacency.ends l.atom l.pairs.items (map (λ f. f.first_neighbour) l.facts.items);
  rings : map (λ f. f.smallest_ring) l.facts.items ≡ take l.atom l.smallest_rings;
  components : map (λ f. f.component) l.facts.items ≡ take l.atom l.components;
  few : length l.pairs.items ≤ 12 * l.atom;
}

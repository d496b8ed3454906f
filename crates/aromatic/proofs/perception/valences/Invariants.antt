use Rattle.std.proofs.Common.{◌≡◌, map, take}
use Rattle.std.specs.List.{enumerate_from}
use Rattle.aromatic.specs.Tallies.{valence_at}
use Rattle.aromatic.proofs.perception.valences.Given as goal

abbrev pub invariant-loop-place : goal.invariant-loop-place
invariant-loop-place l = l.values.items ≡ map (λ p. valence_at l.flags l.tallies l.rows p.0 p.1)
    (take l.place (enumerate_from 0 l.atoms))

use Rattle.std.proofs.Common.{◌≡◌, ◌++◌, map, take, drop, slice_index}
use Rattle.std.specs.List.{enumerate_from}
use Rattle.valence.specs.Filled.{filled_atom}
use Rattle.valence.proofs.fill.fill.Given as goal

abbrev pub invariant-loop-place : goal.invariant-loop-place
invariant-loop-place l =
    l.atoms ≡ map (λ p. filled_atom (slice_index l.sums p.0) p.1) (enumerate_from 0 (take l.place l.initial.atoms))
    ++ drop l.place l.initial.atoms

use Rattle.std.proofs.Common.{◌≡◌, ◌++◌, map, take, drop, slice_index}
use Rattle.valence.specs.Suppressed.{renumbered}
use Rattle.valence.proofs.suppression.renumber.Given as goal

abbrev pub invariant-loop-bond : goal.invariant-loop-bond
invariant-loop-bond l =
    l.bonds ≡ map (renumbered (λ k. slice_index l.places k)) (take l.bond-index l.initial.bonds)
    ++ drop l.bond-index l.initial.bonds

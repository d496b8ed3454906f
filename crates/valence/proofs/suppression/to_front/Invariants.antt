use Rattle.std.proofs.Common.{slice_index, slice_index_or, false}
use Rattle.valence.proofs.Kept.{StaysInFront}
use Rattle.valence.proofs.suppression.to_front.Given as goal

abbrev pub invariant-loop-place : goal.invariant-loop-place
invariant-loop-place l =
    StaysInFront (λ k. slice_index_or l.goes k false) (λ k. slice_index l.gains k) l.initial.atoms l.atoms l.kept
    l.place

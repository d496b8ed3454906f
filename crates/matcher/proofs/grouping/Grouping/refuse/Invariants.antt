use Rattle.matcher.specs.Candidates.{AreCandidates}
use Rattle.matcher.proofs.grouping.Grouping.refuse.Given as goal

abbrev pub invariant-loop-place : goal.invariant-loop-place
invariant-loop-place l = AreCandidates l.task l.candidates.words.items

use Rattle.matcher.specs.Candidates.{AreCandidates}
use Rattle.matcher.proofs.narrow.Reach.narrow.Given as goal

-- no candidate is lost
abbrev pub invariant-loop : goal.invariant-loop
invariant-loop l = AreCandidates l.task l.words

use Rattle.matcher.specs.Candidates.{AreCandidates}
use Rattle.matcher.specs.Narrow.{IsNarrowed}
use Rattle.matcher.proofs.narrow.narrow_words.Given as goal

-- no candidate is lost, and the last word is narrowed
abbrev pub invariant-loop-place : goal.invariant-loop-place
invariant-loop-place l = record {
  candidates : AreCandidates l.task l.words;
  last : IsNarrowed l.near l.last.from l.last.around.count l.last.around.atoms l.last.kept;
}

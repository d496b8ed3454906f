use Rattle.std.proofs.Common.{◌≡◌, ◌<◌, ℕ, true}
use Rattle.matcher.specs.Candidates.{AreCandidates}
use Rattle.matcher.specs.Group.{IsNowhere}
use Rattle.matcher.proofs.grouping.Grouping.narrow.Given as goal

-- what is left are candidates, and if none is, no embedding has the place at an atom so far
abbrev pub invariant-loop-atom : goal.invariant-loop-atom
invariant-loop-atom l = record {
  candidates : AreCandidates l.task l.candidates.words.items;
  nowhere : l.none ≡ true → (a : ℕ) → a < l.atom → IsNowhere l.task l.place a;
}

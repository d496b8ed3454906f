use Rattle.matcher.specs.Follow.{ArePlaced}
use Rattle.matcher.proofs.Follows.{AreFresh}
use Rattle.matcher.proofs.follow.Search.are_placed.Given as goal

-- the places so far are at candidates, and the word has other atoms alone
abbrev pub invariant-loop-place : goal.invariant-loop-place
invariant-loop-place l = record {
  placed : ArePlaced l.self.task.now l.self.candidates.now l.image l.place;
  fresh : AreFresh l.self.task.now.mol.now l.image l.place l.free;
}

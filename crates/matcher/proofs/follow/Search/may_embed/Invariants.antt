use Rattle.std.proofs.Common.{◌<◌, length}
use Rattle.matcher.specs.Follow.{AllRemain, IsFree}
use Rattle.matcher.proofs.follow.Search.may_embed.Given as goal

-- each embedding remains to be found, and the word has the atoms where no earlier stop stands
abbrev pub invariant-loop-turn : goal.invariant-loop-turn
invariant-loop-turn l = record {
  within : l.at < length l.self.stops.now;
  free : IsFree l.self.task.now.mol.now l.at l.atoms l.free;
  remain : AllRemain l.self.task.now l.self.stops.now l.at l.atoms l.left;
}

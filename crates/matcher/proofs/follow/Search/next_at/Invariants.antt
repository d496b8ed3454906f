use Rattle.matcher.specs.Follow.{HasNext}
use Rattle.matcher.proofs.follow.Search.next_at.Given as goal

-- the joins so far lead to each atom where an embedding has the stop
abbrev pub invariant-loop-number : goal.invariant-loop-number
invariant-loop-number l = HasNext l.self.task.now l.self.stops.now l.at l.atoms l.word

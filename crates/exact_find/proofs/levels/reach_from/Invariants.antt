use Rattle.exact_find.proofs.Spread.{IsWidened}
use Rattle.exact_find.proofs.levels.reach_from.Given as goal

abbrev pub invariant-loop-neighbour : goal.invariant-loop-neighbour
invariant-loop-neighbour l =
    IsWidened l.mol l.initial.levels l.initial.list l.at l.before l.level l.neighbours l.neighbour-index l.levels l.list l.last

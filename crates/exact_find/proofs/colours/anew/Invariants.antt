use Rattle.std.proofs.Common.{◌≡◌, ◌%◌, ◌^◌, ℕ, List, length, sum}
use Rattle.exact_find.specs.Colours.{IsSeen}
use Rattle.exact_find.proofs.colours.anew.Given as goal

-- what is seen so far
abbrev pub invariant-loop-neighbour : goal.invariant-loop-neighbour
invariant-loop-neighbour l = (seen : List ℕ) × (length seen ≡ l.neighbour-index)
    × IsSeen l.mol l.colours l.atom l.neighbours seen × (l.seen ≡ sum seen % 2 ^ 64)

use Rattle.std.proofs.Common.{◌≡◌, ◌%◌, ◌^◌, map, sum, take}
use Rattle.exact_find.specs.Colours.{taken}
use Rattle.exact_find.proofs.colours.total.Given as goal

abbrev pub invariant-loop-atom : goal.invariant-loop-atom
invariant-loop-atom l = l.sum ≡ sum (map (taken l.colours) (take l.atom-index l.list)) % 2 ^ 64

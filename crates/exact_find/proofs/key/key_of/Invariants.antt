use Rattle.std.proofs.Common.{take}
use Rattle.std.specs.List.{enumerate_from}
use Rattle.std.proofs.Common.{map}
use Rattle.exact_find.specs.Key.{code}
use Rattle.exact_find.proofs.Sums.{IsSummed}
use Rattle.exact_find.proofs.key.key_of.Given as goal

abbrev pub invariant-loop-place : goal.invariant-loop-place
invariant-loop-place l = IsSummed l.sum l.squares l.place
    (map (code l.mol) (enumerate_from 0 (take l.place l.mol.atoms)))

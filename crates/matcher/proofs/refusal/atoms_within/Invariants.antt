use Rattle.std.proofs.Common.{◌≡◌, count_by, take}
use Rattle.matcher.specs.Class.{is_among}
use Rattle.matcher.proofs.refusal.atoms_within.Given as goal

-- how many of the atoms so far are of the classes
abbrev pub invariant-loop-atom : goal.invariant-loop-atom
invariant-loop-atom l = l.count ≡ count_by (is_among l.classes) (take l.atom-index l.atoms)

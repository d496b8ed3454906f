use Rattle.std.proofs.Common.{◌≡◌, count_by, take}
use Rattle.matcher.specs.Group.{is_of_group}
use Rattle.matcher.proofs.group.places_of.Given as goal

-- how many of the places so far are of the group
abbrev pub invariant-loop-other : goal.invariant-loop-other
invariant-loop-other l = l.count ≡ count_by (is_of_group l.group) (take l.other-index l.groups)

use Rattle.std.proofs.Common.{◌≡◌, ◌<◌, ℕ, slice_index}
use Rattle.matcher.proofs.grouping.Grouping.may_begin.Given as goal

-- no place so far is taken
abbrev pub invariant-loop-other : goal.invariant-loop-other
invariant-loop-other l = (k : ℕ) → k < l.other → slice_index l.self.image.items k ≡ l.no_atom

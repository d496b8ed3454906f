use Rattle.std.proofs.Common.{ℕ, ◌*◌, ◌<◌, slice_index}
use Rattle.matcher.specs.Follow.{AreJoinedBy}
use Rattle.matcher.proofs.follow.note_all.Given as goal

-- the words of the sets so far are noted
abbrev pub invariant-loop-set : goal.invariant-loop-set
invariant-loop-set l = (k : ℕ) → k < l.set → AreJoinedBy l.mol (slice_index l.kinds k) l.joined (64 * k)

use Rattle.std.proofs.Common.{ℕ, ◌+◌, ◌*◌, ◌<◌, length, slice_index}
use Rattle.matcher.specs.Candidates.{IsTruthAt}
use Rattle.matcher.proofs.candidates.find_truths.Given as goal

-- the words of the blocks so far are found
abbrev pub invariant-loop-block : goal.invariant-loop-block
invariant-loop-block l = (b p : ℕ) → b < l.block → p < length l.task.graph.now.atoms.items
    → IsTruthAt l.task b p (slice_index l.words (256 * b + p))

use Rattle.std.proofs.Common.{◌≡◌, ◌≢◌, ◌≤◌, ◌<◌, ℕ, length, slice_index}
use Rattle.ring_find.proofs.search.unmark.Given as goal

-- what is still marked comes later in the queue
abbrev pub invariant-loop-atom : goal.invariant-loop-atom
invariant-loop-atom l =
    (v : ℕ) → slice_index l.marks v ≢ 0 → (k : ℕ) × (l.atom-index ≤ k) × (k < length l.queue)
    × (slice_index l.queue k ≡ v)

use Rattle.std.proofs.Common.{◌≡◌, ◌≢◌, ◌≤◌, ◌<◌, ℕ, length, slice_index}
use Rattle.aromatic.proofs.distance.forget.Given as goal

-- what still has a distance comes later in the queue
abbrev pub invariant-loop-atom : goal.invariant-loop-atom
invariant-loop-atom l =
    (v : ℕ) → v < length l.distances → slice_index l.distances v ≢ 18 → (k : ℕ) × (l.atom-index ≤ k)
    × (k < length l.queue) × (slice_index l.queue k ≡ v)

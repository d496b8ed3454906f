use Rattle.std.proofs.Common.{◌<◌, ◌+◌, ◌≢◌, ℕ}
use Rattle.std.specs.List.{count_by}
use Rattle.ring_find.specs.BondRings.{KeepsRings}
use Rattle.ring_find.specs.Strip.{IsDeadEnd}
use Rattle.ring_find.proofs.strip.strip_from.Given as goal

abbrev pub invariant-loop-step : goal.invariant-loop-step
invariant-loop-step l = record {
  within : l.at < l.graph.atoms;
  keeps : KeepsRings l.graph.ends l.kept;
  ends : (v : ℕ) → v < l.atom + 1 → v ≢ l.at → IsDeadEnd l.graph.ends l.kept v → ⊥;
}

abbrev pub decreases-loop-step : goal.decreases-loop-step
decreases-loop-step l = count_by (λ k. k) l.kept

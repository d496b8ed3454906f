use Rattle.std.proofs.Common.{◌<◌, ℕ}
use Rattle.ring_find.specs.BondRings.{KeepsRings}
use Rattle.ring_find.specs.Strip.{IsDeadEnd}
use Rattle.ring_find.proofs.strip.strip_dead_ends.Given as goal

abbrev pub invariant-loop-atom : goal.invariant-loop-atom
invariant-loop-atom l = record {
  keeps : KeepsRings l.graph.ends l.kept.items;
  ends : (v : ℕ) → v < l.atom → IsDeadEnd l.graph.ends l.kept.items v → ⊥;
}

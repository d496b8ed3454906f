use Rattle.std.proofs.Common.{◌≡◌, ℕ, ◌<◌, ◌≤◌, length}
use Rattle.smarts_parse.specs.Pattern.{graph_of}
use Rattle.matcher.specs.Plan.{ArePlanned, AreCovered, AreRepeats, step_at}
use Rattle.matcher.proofs.plan.plan.Given as goal

-- each step so far has its classes and no bond
abbrev pub invariant-loop-atom : goal.invariant-loop-atom
invariant-loop-atom l = record {
  room : length l.graph.atoms.items ≤ length l.steps;
  none : (k : ℕ) → k < l.atom → (step_at l.steps k).to ≡ 0;
  covered : AreCovered (graph_of l.graph).atoms l.atom l.steps;
  repeats : AreRepeats (graph_of l.graph).atoms l.atom l.steps;
}

-- the bonds so far are planned
abbrev pub invariant-loop-place : goal.invariant-loop-place
invariant-loop-place l = record {
  planned : ArePlanned (graph_of l.graph).bonds l.place (length (graph_of l.graph).atoms) l.steps;
  covered : AreCovered (graph_of l.graph).atoms (length (graph_of l.graph).atoms) l.steps;
  repeats : AreRepeats (graph_of l.graph).atoms (length (graph_of l.graph).atoms) l.steps;
}

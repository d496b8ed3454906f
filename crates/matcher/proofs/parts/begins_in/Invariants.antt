use Rattle.std.proofs.Common.{◌≡◌}
use Rattle.smarts_mean.specs.Table.{HoldsIn}
use Rattle.smarts_parse.specs.Pattern.{graph_of}
use Rattle.matcher.proofs.Beginnings.{AreAsked}
use Rattle.matcher.proofs.parts.begins_in.Given as goal

-- the atoms so far are asked, and nothing else has changed
abbrev pub invariant-loop-turn : goal.invariant-loop-turn
invariant-loop-turn l = record {
  asked : AreAsked (HoldsIn l.initial.memory.table) (graph_of l.graph) l.mol l.classes l.block l._turn l.all l.left
      l.held;
  table : l.memory.table ≡ l.initial.memory.table;
  candidates : l.memory.candidates ≡ l.initial.memory.candidates;
}

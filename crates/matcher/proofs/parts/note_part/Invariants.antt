use Rattle.smarts_mean.specs.Table.{HoldsIn}
use Rattle.smarts_parse.specs.Pattern.{graph_of, pattern_of}
use Rattle.matcher.specs.Candidates.{AreTruthsIn}
use Rattle.matcher.proofs.PartsHeld.{IsRow}
use Rattle.matcher.proofs.parts.note_part.Given as goal

-- the candidates are still so, and the part is noted at the blocks so far
abbrev pub invariant-loop-block : goal.invariant-loop-block
invariant-loop-block l = record {
  truths : AreTruthsIn (HoldsIn l.memory.table) (graph_of l.graph) l.mol l.memory.candidates.words.items;
  row : IsRow (pattern_of l.pattern).recs l.mol l.prepared.wanted.classes.items l.part l.block l.memory.table;
}

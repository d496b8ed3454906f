use Rattle.std.proofs.Common.{ℕ}
use Rattle.exact_find.specs.Colours.{KeepAlong}
use Rattle.exact_find.specs.Levels.{AreFree}
use Rattle.exact_find.proofs.sides.Work.put_all.Given as goal

abbrev pub invariant-loop-place : goal.invariant-loop-place
invariant-loop-place l = record {
  free : (n : ℕ) → AreFree n l.initial.self.left.levels.items → AreFree n l.self.left.levels.items;
  free_right : (n : ℕ) → AreFree n l.initial.self.right.levels.items → AreFree n l.self.right.levels.items;
  levels : KeepAlong l.pairs l.initial.self.left.levels.items l.initial.self.right.levels.items
      l.self.left.levels.items l.self.right.levels.items;
  colours : KeepAlong l.pairs l.initial.self.left.colours.items l.initial.self.right.colours.items
      l.self.left.colours.items l.self.right.colours.items;
}

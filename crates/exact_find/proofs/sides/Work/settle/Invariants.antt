use Rattle.std.proofs.Common.{◌≡◌, ℕ, take}
use Rattle.exact_find.specs.Colours.{AreKept, AreMatched}
use Rattle.exact_find.specs.Pairs.{IsMap}
use Rattle.exact_find.proofs.sides.Work.settle.Given as goal

abbrev pub invariant-loop-round : goal.invariant-loop-round
invariant-loop-round l = record {
  list : l.self.left.list.items ≡ l.initial.self.left.list.items;
  list_right : l.self.right.list.items ≡ l.initial.self.right.list.items;
  kept : (f g : ℕ → ℕ) → IsMap l.left l.right f g
      → AreMatched f g (take l.ours l.initial.self.left.list.items) (take l.theirs l.initial.self.right.list.items)
      → AreKept l.left f l.initial.self.left.colours.items l.initial.self.right.colours.items
      → AreKept l.left f l.self.left.colours.items l.self.right.colours.items;
}

use Rattle.std.specs.List.{AllWithin}
use Rattle.screen_index.specs.Pairs.{Holds}
use Rattle.screen_index.proofs.union.union_of.Given as goal

abbrev pub invariant-loop-entry : goal.invariant-loop-entry
invariant-loop-entry g l = AllWithin (λ x. Holds l.union x.print) l.entries 0 l.entry-index

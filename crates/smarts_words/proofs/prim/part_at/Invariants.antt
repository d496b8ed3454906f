use Rattle.std.proofs.Common.{◌≡◌, ◌≤◌, List, ℕ, ◌++◌, length}
use Rattle.smarts_words.proofs.Balance.{IsOpen, IsLeft}
use Rattle.smarts_words.proofs.prim.part_at.Given as goal

abbrev pub invariant-loop-rest : goal.invariant-loop-rest
invariant-loop-rest l = record {
  front : (xs : List ℕ) × (l.bytes ≡ xs ++ l.rest) × (length xs ≡ l.count) × IsOpen xs l.depth;
  left : IsLeft l.bytes l.rest l.depth;
  few : l.depth ≤ l.count;
}

abbrev pub decreases-loop-rest : goal.decreases-loop-rest
decreases-loop-rest l = length l.rest

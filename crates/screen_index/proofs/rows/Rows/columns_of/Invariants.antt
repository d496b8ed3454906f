use Rattle.std.proofs.Common.{Bool, List, ◌≡◌, ◌<◌, ℕ}
use Rattle.std.specs.Int.{bit_at}
use Rattle.chem_core.specs.Words.{bits_of}
use Rattle.screen_index.specs.Pairs.{Holds, Notes}
use Rattle.screen_index.proofs.rows.Rows.columns_of.Given as goal

abbrev pub invariant-loop-place : goal.invariant-loop-place
invariant-loop-place l = (print : List Bool) (column : ℕ) → column < 64
    → Notes (bits_of l.self-inside.words.items) print column → Holds print (bits_of l.words)
    → bit_at l.columns column ≡ 1

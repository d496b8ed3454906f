use Rattle.smarts_mean.specs.Table.{HoldsIn}
use Rattle.smarts_parse.specs.Pattern.{Prim}
use Rattle.matcher.proofs.HalfTruths.{IsHalfTruth}
use Rattle.matcher.proofs.candidates.asked_truth.Given as goal

-- the atoms so far are asked
abbrev pub invariant-loop-turn : goal.invariant-loop-turn
invariant-loop-turn l = IsHalfTruth (HoldsIn l.table) l.mol (Prim l.prim) l.block l.within l._turn l.left l.word

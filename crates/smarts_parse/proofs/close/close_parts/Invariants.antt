use Rattle.std.proofs.Common.{List, vec_len, reverse}
use Rattle.smarts_parse.specs.Whole.{Tree}
use Rattle.smarts_parse.specs.Draft.{AreRead}
use Rattle.smarts_parse.proofs.Closed.{ClosedSoFar}
use Rattle.smarts_parse.proofs.close.close_parts.Given as goal

-- the last readers are closed
abbrev pub invariant-parts : goal.invariant-parts
invariant-parts l = (trees : List Tree) → AreRead trees (reverse l.fn.parts.items)
    → ClosedSoFar trees l.closed.items l.left.items

abbrev pub decreases-parts : goal.decreases-parts
decreases-parts l = vec_len l.left

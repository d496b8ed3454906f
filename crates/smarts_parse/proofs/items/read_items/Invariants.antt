use Rattle.std.proofs.Common.{length}
use Rattle.smarts_parse.proofs.ItemsRead.{SoFar}
use Rattle.smarts_parse.proofs.items.read_items.Given as goal

-- what is read so far are items, and the rest is items exactly where the text is
abbrev pub invariant-items : goal.invariant-items
invariant-items l = SoFar l.text l.rest l.reader l.groups.items l.count

abbrev pub decreases-items : goal.decreases-items
decreases-items l = length l.rest

use Rattle.std.proofs.Common.{◌-◌, length, map}
use Rattle.smarts_parse.specs.Draft.{left_of}
use Rattle.smarts_parse.proofs.Worklist.{Worklist}
use Rattle.smarts_parse.proofs.draft.read_draft.Given as goal

-- what is left, with what was read, is the whole text
abbrev pub invariant-parts : goal.invariant-parts
invariant-parts l = Worklist l.text l.items.reader l.items.groups.items l.sizes l.parts.items (map left_of l.left.items)

-- each turn reads a part more, and the text has as many bytes as parts at least
abbrev pub decreases-parts : goal.decreases-parts
decreases-parts l = length l.text - l.sizes.parts

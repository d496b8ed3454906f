use Rattle.std.proofs.Common.{◌≡◌, ◌++◌, map, take}
use Rattle.smarts_parse.specs.Whole.{part_texts}
use Rattle.smarts_parse.specs.Draft.{left_of, at_level}
use Rattle.smarts_parse.proofs.draft.put_parts.Given as goal

abbrev pub invariant-loop-atom : goal.invariant-loop-atom
invariant-loop-atom l = map left_of l.left.items ≡ map left_of l.initial.left.items
    ++ at_level l.level (part_texts (take l.atom-index l.atoms))

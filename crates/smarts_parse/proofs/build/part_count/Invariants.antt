use Rattle.std.proofs.Common.{◌≡◌, length, take}
use Rattle.smarts_parse.specs.Whole.{part_texts}
use Rattle.smarts_parse.proofs.build.part_count.Given as goal

abbrev pub invariant-loop-atom : goal.invariant-loop-atom
invariant-loop-atom l = l.count ≡ length (part_texts (take l.atom-index l.atoms))

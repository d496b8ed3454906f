use Rattle.std.proofs.Common.{map, take}
use Rattle.smarts_parse.specs.Pattern.{bond_of}
use Rattle.smarts_parse.specs.Meaning.{AreBondTerms}
use Rattle.smarts_parse.proofs.build.bonds.Given as goal

abbrev pub invariant-loop-link : goal.invariant-loop-link
invariant-loop-link l = AreBondTerms (take l.link-index l.links) (map bond_of l.bonds.items)

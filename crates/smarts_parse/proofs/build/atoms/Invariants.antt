use Rattle.std.proofs.Common.{drop, map}
use Rattle.smarts_parse.specs.Pattern.{term_of}
use Rattle.smarts_parse.specs.Meaning.{postfix}
use Rattle.smarts_parse.proofs.Building.{AtomsLeft}
use Rattle.smarts_parse.proofs.build.atoms.Given as goal

abbrev pub invariant-loop-atom : goal.invariant-loop-atom
invariant-loop-atom l = AtomsLeft (drop l.atom-index l.atoms) l.atoms l.left l.numbers
    (map postfix (map term_of l.exprs.items))

use Rattle.std.proofs.Common.{ap, arith}
use Rattle.chem_core.specs.Organic.{chlorine, bromine}
use Rattle.smiles_words.proofs.Fronts.{front_two}
use Rattle.smarts_words.specs.Bracket.{organic, single}
use Rattle.smarts_words.proofs.atom.bare_at.Goals as goal

pub returns-in-67-clause-found : goal.returns-in-67-clause-found
returns-in-67-clause-found c = (
  organic chlorine,
  tt,
  tt,
  front_two c.args.bytes.now 67 108 c.in-67.len_at_least
      (omega arith) (omega arith),
  ap single c.symbol.ensures,
)

pub returns-in-66-clause-found : goal.returns-in-66-clause-found
returns-in-66-clause-found c = (
  organic bromine,
  tt,
  tt,
  front_two c.args.bytes.now 66 114 c.in-66.len_at_least
      (omega arith) (omega arith),
  ap single c.symbol-in-66.ensures,
)

use Rattle.std.proofs.Common.{arith}
use Rattle.smiles_words.proofs.Symbols.{two_is_lower}
use Rattle.smarts_words.proofs.symbol.pair_element.Goals as goal

pub returns-then-second-lt97 : goal.returns-then-second-lt97
returns-then-second-lt97 c number e = let le = two_is_lower number c.args.first c.args.second e in omega arith

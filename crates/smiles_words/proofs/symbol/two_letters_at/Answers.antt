use Rattle.std.proofs.Common.{get_or, ap, arith}
use Rattle.smiles_words.proofs.Symbols.{two_is_lower}
use Rattle.smiles_words.proofs.symbol.two_letters_at.Goals as goal

pub returns-then-second-lt97-clause-none : goal.returns-then-second-lt97-clause-none
returns-then-second-lt97-clause-none c x y k rest h e =
    let le = two_is_lower k x y e in
    let second = ap (λ w. get_or w 1 0) h in
    omega arith

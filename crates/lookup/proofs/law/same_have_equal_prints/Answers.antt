use Rattle.lookup.proofs.Prints.{bit_carried}
use Rattle.lookup.proofs.law.same_have_equal_prints.Goals as goal

pub returns : goal.returns
returns c = λ m n is_m is_n same bit.
    (bit_carried m n is_m is_n same bit, bit_carried n m is_n is_m (c.same_is_symmetric.ensures m n is_m is_n same) bit)

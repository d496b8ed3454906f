use Rattle.std.proofs.Common.{◌&&◌, ◌||◌}
use Rattle.chem_core.proofs.sort_counts.BondSort.has.Goals as goal

pub returns : goal.returns
returns c = λ i.
    c.has_bit-of_kind.ensures i
    && ((c.has_bit-one_a.ensures i && c.has_bit-other_b.ensures i)
    || (c.has_bit-one_b.ensures i && c.has_bit-other_a.ensures i))

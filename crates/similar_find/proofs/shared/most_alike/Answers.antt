use Rattle.similar_find.proofs.Bits.{bounded}
use Rattle.similar_find.proofs.shared.most_alike.Goals as goal

pub returns-clause-bound : goal.returns-clause-bound
returns-clause-bound c = λ left right e a b.
    rw c.max.ensures (rw c.max-more.ensures (rw c.min-fewer.ensures
    (bounded left right c.args.left_bits c.args.right_bits e a b)))

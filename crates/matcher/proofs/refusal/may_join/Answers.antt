use Rattle.std.proofs.Common.{arith}
use Rattle.matcher.proofs.refusal.may_join.Goals as goal

pub returns-then-not-may_stand : goal.returns-then-not-may_stand
returns-then-not-may_stand c = λ _ image e p q.
    c.may_stand.ensures c.if-not-may_stand.true (omega arith) image e
    (rw c.from.ensures p)

pub returns : goal.returns
returns c = λ f image e p q. c.may_stand-2.ensures f (omega arith) image e (rw c.from-2.ensures q)

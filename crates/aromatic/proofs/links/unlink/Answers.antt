use Rattle.std.proofs.Common.{inl, inr}
use Rattle.aromatic.proofs.links.unlink.Goals as goal

pub returns : goal.returns
returns c a n b = (
  λ q.
      let one = (c.take-2.ensures a n b).0 q in
      let two = (c.take.ensures a n b).0 one.0 in
      (two.0, λ is end. elim end [ inl x ↦ two.1 is x | inr y ↦ one.1 is y ]),
  λ q. (c.take-2.ensures a n b).1 ((c.take.ensures a n b).1 (q.0, λ is x. q.1 is (inl x)), λ is y. q.1 is (inr y)),
)

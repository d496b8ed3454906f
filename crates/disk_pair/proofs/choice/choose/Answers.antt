use Rattle.std.proofs.Common.{◌≡◌, List, None, Option, Some, ℕ, arith, subst}
use Rattle.journal_core.proofs.FrontLaws.{one_generation}
use Rattle.journal_core.specs.Fronts.{IsOpen, IsOpenAt, IsPeeked}
use Rattle.journal_core.specs.declared.header.Header.{Header}
use Rattle.disk_pair.proofs.Openings.{peeked_open}
use Rattle.disk_pair.proofs.choice.choose.Goals as goal

opened : (found : Option Header) (h : Header) (l : List ℕ) → found ≡ Some h → IsPeeked found l
    → IsOpenAt h.generation l
opened found h l is p = peeked_open h l (subst (λ (o : Option Header). IsPeeked o l) is p)

closed : (found : Option Header) (l : List ℕ) → found ≡ None → IsPeeked found l → IsOpen l → ⊥
closed found l is p = subst (λ (o : Option Header). IsPeeked o l) is p

pub returns-in-None-Some : goal.returns-in-None-Some
returns-in-None-Some c a b p q = (
  c.in-None-Some.field-0-1.generation,
  opened c.args.second c.in-None-Some.field-0-1 b c.in-None-Some.is-1 q,
  λ k at. absurd (closed c.args.first a c.in-None-Some.is-0 p (k, at)),
)

pub returns-in-Some-None : goal.returns-in-Some-None
returns-in-Some-None c a b p q = (
  c.in-Some-None.field-0-0.generation,
  opened c.args.first c.in-Some-None.field-0-0 a c.in-Some-None.is-0 p,
  λ k at. absurd (closed c.args.second b c.in-Some-None.is-1 q (k, at)),
)

pub returns-then-b-a : goal.returns-then-b-a
returns-then-b-a c a b p q = (
  c.in-Some-Some.b.generation,
  opened c.args.second c.in-Some-Some.b b c.in-Some-Some.is-1 q,
  λ k at.
      let same = one_generation k c.in-Some-Some.a.generation a at
      (opened c.args.first c.in-Some-Some.a a c.in-Some-Some.is-0 p) in
      omega (arith, same, c.if-b-a.true),
)

pub returns-else-b-a : goal.returns-else-b-a
returns-else-b-a c a b p q = (
  c.in-Some-Some.a.generation,
  opened c.args.first c.in-Some-Some.a a c.in-Some-Some.is-0 p,
  λ k at.
      let same = one_generation k c.in-Some-Some.b.generation b at
      (opened c.args.second c.in-Some-Some.b b c.in-Some-Some.is-1 q) in
      omega (arith, same, c.if-b-a.false),
)

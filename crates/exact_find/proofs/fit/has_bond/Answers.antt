use Rattle.std.proofs.Common.{◌≡◌, ◌↔◌, IsTrue, subst}
use Rattle.std.proofs.lemmas.Bool.{false≢true}
use Rattle.exact_find.specs.Same.{HasBond}
use Rattle.std.proofs.Common.{rules}
use Rattle.exact_find.proofs.fit.has_bond.Goals as goal

pub returns-in-Some : goal.returns-in-Some
returns-in-Some c =
    let tells : IsTrue c.eq.result ↔ (c.in-Some.found ≡ c.args.kind) = search rules in (
      (λ yes'. subst (HasBond c.args.mol.now c.args.atom c.args.other) (tells.0 yes') c.in-Some.ensures.some),
      (λ has. tells.1 (c.in-Some.ensures.one c.args.kind has)),
    )

pub returns-in-None : goal.returns-in-None
returns-in-None c = ((λ no'. absurd (false≢true no')), (λ has. absurd (c.in-None.ensures.none c.args.kind has)))

use Rattle.std.proofs.Common.{◌≡◌, get_or, refl, ap, arith}
use Rattle.smiles_words.proofs.Fronts.{front_is}
use Rattle.smarts_words.specs.Expression.{semicolon, comma, ampersand, beside}
use Rattle.smarts_words.specs.State.{joins}
use Rattle.smarts_words.proofs.inside.joint_at.Goals as goal

pub returns-in-59-clause-found : goal.returns-in-59-clause-found
returns-in-59-clause-found c = joins semicolon refl (front_is c.args.bytes.now 59 c.in-59.len_at_least (omega arith))
    (λ e. absurd (cc))

pub returns-in-44-clause-found : goal.returns-in-44-clause-found
returns-in-44-clause-found c = joins comma refl (front_is c.args.bytes.now 44 c.in-44.len_at_least (omega arith))
    (λ e. absurd (cc))

pub returns-in-38-clause-found : goal.returns-in-38-clause-found
returns-in-38-clause-found c = joins ampersand refl (front_is c.args.bytes.now 38 c.in-38.len_at_least (omega arith))
    (λ e. absurd (cc))

pub returns-in_default-clause-found : goal.returns-in_default-clause-found
returns-in_default-clause-found c = joins beside refl refl (λ _ b bs e.
    let k : get_or c.args.bytes.now 0 0 ≡ b = ap (λ v. get_or v 0 0) e in
    (λ h. omega arith, λ h. omega arith, λ h. omega arith))

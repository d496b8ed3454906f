use mir.Syntax.{w16}
use mir.Val.{SFits}
use Rattle.std.proofs.Common.{ℤ, Some, rules, sym, subst}
use Rattle.std.proofs.lemmas.Int.{to_z-of_z}
use Rattle.line_walk.specs.Follow.{Reads}
use Rattle.smarts_words.specs.Bracket.{charge_text, IsCharge, charge_value}
use Rattle.smarts_words.specs.Follow.{BeginsEnd}
use Rattle.smarts_words.proofs.Hydrogens.{charge_some, charge_none}
use Rattle.smarts_words.proofs.bracket.some_charge_at.Goals as goal

pub returns-in-Some : goal.returns-in-Some
returns-in-Some c =
    let fits : SFits w16 c.in-Some.charge = search rules in
    subst (λ (v : ℤ). Reads charge_text IsCharge charge_value BeginsEnd c.args.bytes.now
    (Some (Some v, c.in-Some.rest.now))) (sym (to_z-of_z w16 c.in-Some.charge fits)) (charge_some c.args.bytes.now
    c.in-Some.rest.now c.in-Some.charge c.in-Some.ensures)

pub returns-in-None : goal.returns-in-None
returns-in-None c = charge_none c.args.bytes.now c.in-None.ensures

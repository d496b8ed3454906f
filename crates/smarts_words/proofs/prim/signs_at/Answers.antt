use mir.Syntax.{w16}
use mir.Val.{SFits}
use Rattle.std.proofs.Common.{rules, ◌∙◌, ap}
use Rattle.std.proofs.lemmas.Int.{to_z-of_z}
use Rattle.smarts_words.specs.declared.word.AtomWord.TheVariants as words
use Rattle.smarts_words.proofs.prim.signs_at.Goals as goal

pub returns : goal.returns
returns c =
    let fits : SFits w16 c.in_ok-charge.charge = search rules in
    let f = c.in_ok-charge.ensures.found in
    record {
      found = (f.0, f.1, f.2, f.3, ap (λ v. words.Charge v) (to_z-of_z w16 c.in_ok-charge.charge fits ∙ f.4));
      only = c.in_ok-charge.ensures.only;
    }

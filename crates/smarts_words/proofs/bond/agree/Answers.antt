use Rattle.std.proofs.Common.{◌≡◌, ◌≢◌, ◌↔◌, List, [], Option, Some, None, sym, subst, arith, rules}
use Rattle.std.proofs.lemmas.Grind.{common_steps}
use Rattle.smarts_words.specs.declared.word.Step.{Step}
use Rattle.smarts_words.specs.declared.word.BondWord.{BondWord}
use Rattle.smarts_words.specs.Bonds.{agreed_bond}
use Rattle.smarts_words.proofs.Agreed.{disagree}
use Rattle.smarts_words.proofs.bond.agree.Goals as goal

abbrev Disagree : List (Step BondWord) → List (Step BondWord) → Option (List (Step BondWord)) → Type 0
Disagree first second o = (o ≡ None) ↔ ((first ≢ []) × (second ≢ []) × (first ≢ second))

pub returns-then-is_empty-2-clause-disagree : goal.returns-then-is_empty-2-clause-disagree
returns-then-is_empty-2-clause-disagree c =
    let v : ◌≡◌ {A = Option (List (Step BondWord))} (Some c.args.first) (agreed_bond c.args.first c.args.second) =
    first_of (search rules, grind (arith, common_steps)) in
    let P : Option (List (Step BondWord)) → Type 0 = λ o. Disagree c.args.first c.args.second o in
    subst P (sym v) (disagree c.args.first c.args.second)

pub returns-clause-disagree : goal.returns-clause-disagree
returns-clause-disagree c =
    let v : ◌≡◌ {A = Option (List (Step BondWord))} None (agreed_bond c.args.first c.args.second) =
    first_of (search rules, grind (arith, common_steps)) in
    let P : Option (List (Step BondWord)) → Type 0 = λ o. Disagree c.args.first c.args.second o in
    subst P (sym v) (disagree c.args.first c.args.second)

use Rattle.std.proofs.Common.{◌∙◌, ℕ, Option, codes, subst}
use Rattle.std.specs.Prelude.{IfOk, OnErr}
use Rattle.clap.proofs.WalkLemmas.{first_value-rows}
use Rattle.clap.specs.Words.{Text, found_of}
use Rattle.store_core.specs.declared.store.TheConstants.{MOST_COMMITS}
use Rattle.chem_shell.specs.Words.{IsSetting}
use Rattle.chem_shell.proofs.words.commits.Goals as goal

pub returns-clause-ok : goal.returns-clause-ok
returns-clause-ok c =
    let text = c.get_str.ensures ∙ first_value-rows (found_of c.args.found.now) (codes "commits") in
    subst (λ (o : Option Text). IfOk c.setting.result (IsSetting o MOST_COMMITS MOST_COMMITS)) text
    c.setting.ensures.ok

pub returns-clause-err : goal.returns-clause-err
returns-clause-err c =
    let text = c.get_str.ensures ∙ first_value-rows (found_of c.args.found.now) (codes "commits") in
    subst (λ (o : Option Text). OnErr c.setting.result ((n : ℕ) → ¬ IsSetting o MOST_COMMITS MOST_COMMITS n)) text
    c.setting.ensures.err

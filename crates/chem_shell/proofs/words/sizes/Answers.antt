use Rattle.std.proofs.Common.{◌∙◌, ℕ, Option, option_map, codes, sym, subst}
use Rattle.clap.proofs.WalkLemmas.{first_value-rows}
use Rattle.clap.specs.Words.{Text, found_of}
use Rattle.chem_shell.specs.Words.{IsSetting}
use Rattle.chem_shell.proofs.Asked.{on_err}
use Rattle.chem_shell.proofs.words.sizes.Goals as goal

pub returns-in_err-workers-clause-err : goal.returns-in_err-workers-clause-err
returns-in_err-workers-clause-err c =
    let text = c.get_str.ensures ∙ first_value-rows (found_of c.args.found.now) (codes "workers") in
    let none : (n : ℕ) → IsSetting (option_map (λ t. t.now) c.get_str.result) 16 1 n → ⊥ =
    c.in_err-workers.ensures.err in
    on_err c.from_residual.result
    (λ workers page is. none workers (subst (λ (o : Option Text). IsSetting o 16 1 workers) (sym text) is.0))

pub returns-in_err-page-clause-err : goal.returns-in_err-page-clause-err
returns-in_err-page-clause-err c =
    let text = c.get_str-2.ensures ∙ first_value-rows (found_of c.args.found.now) (codes "page") in
    let none : (n : ℕ) → IsSetting (option_map (λ t. t.now) c.get_str-2.result) 256 256 n → ⊥ =
    c.in_err-page.ensures.err in
    on_err c.from_residual-in_err-page.result
    (λ workers page is. none page (subst (λ (o : Option Text). IsSetting o 256 256 page) (sym text) is.1))

pub returns-clause-ok : goal.returns-clause-ok
returns-clause-ok c =
    let workers = c.get_str.ensures ∙ first_value-rows (found_of c.args.found.now) (codes "workers") in
    let page = c.get_str-2.ensures ∙ first_value-rows (found_of c.args.found.now) (codes "page") in (
      subst (λ (o : Option Text). IsSetting o 16 1 c.in_ok-workers.workers) workers c.in_ok-workers.ensures.ok,
      subst (λ (o : Option Text). IsSetting o 256 256 c.in_ok-page.page) page c.in_ok-page.ensures.ok,
    )

use Rattle.std.proofs.Common.{rules, ◌∙◌, List, Option, codes, sym, subst, refl}
use Rattle.clap.proofs.WalkLemmas.{first_value-rows, raw_values-rows}
use Rattle.clap.specs.Words.{Text, found_of}
use Rattle.chem_shell.specs.Words.{IsFile}
use Rattle.chem_shell.proofs.Asked.{image_of_none, none_of_image, on_err}
use Rattle.chem_shell.proofs.words.init.Goals as goal

pub returns-in_err-file-clause-err : goal.returns-in_err-file-clause-err
returns-in_err-file-clause-err c =
    let args = c.get_raw.ensures ∙ raw_values-rows (found_of c.args.found.now) (codes "args") in
    on_err c.from_residual.result (λ plan row. c.in_err-file.ensures.err row.args.word
    (subst (λ (a : Option (List Text)). IsFile a row.args.word) (sym args) row.args.is))

pub returns-in_err-unused-clause-err : goal.returns-in_err-unused-clause-err
returns-in_err-unused-clause-err c =
    let text = c.get_str.ensures ∙ first_value-rows (found_of c.args.found.now) (codes "workers") in
    on_err c.from_residual-in_err-unused.result
    (λ plan row. c.in_err-unused.ensures.err (none_of_image _ c.get_str.result _ text row.no_workers))

pub returns-in_err-unused-2-clause-err : goal.returns-in_err-unused-2-clause-err
returns-in_err-unused-2-clause-err c =
    let text = c.get_str-2.ensures ∙ first_value-rows (found_of c.args.found.now) (codes "page") in
    on_err c.from_residual-in_err-unused-2.result
    (λ plan row. c.in_err-unused-2.ensures.err (none_of_image _ c.get_str-2.result _ text row.no_page))

pub returns-in_err-unused-3-clause-err : goal.returns-in_err-unused-3-clause-err
returns-in_err-unused-3-clause-err c =
    let text = c.get_str-3.ensures ∙ first_value-rows (found_of c.args.found.now) (codes "commits") in
    on_err c.from_residual-in_err-unused-3.result
    (λ plan row. c.in_err-unused-3.ensures.err (none_of_image _ c.get_str-3.result _ text row.no_commits))

pub returns-clause-ok : goal.returns-clause-ok
returns-clause-ok c =
    let args = c.get_raw.ensures ∙ raw_values-rows (found_of c.args.found.now) (codes "args") in
    let workers = c.get_str.ensures ∙ first_value-rows (found_of c.args.found.now) (codes "workers") in
    let page = c.get_str-2.ensures ∙ first_value-rows (found_of c.args.found.now) (codes "page") in
    let commits = c.get_str-3.ensures ∙ first_value-rows (found_of c.args.found.now) (codes "commits") in
    record {
      args = record {
        word = c.in_ok-file.file.now;
        is = subst (λ (a : Option (List Text)). IsFile a c.in_ok-file.file.now) args c.in_ok-file.ensures.ok;
        file = refl;
      };
      no_workers = image_of_none _ c.get_str.result _ workers c.in_ok-unused.ensures.ok;
      no_page = image_of_none _ c.get_str-2.result _ page c.in_ok-unused-2.ensures.ok;
      no_commits = image_of_none _ c.get_str-3.result _ commits c.in_ok-unused-3.ensures.ok;
      command = refl;
      ends = refl;
      workers = refl;
      page = refl;
      commits = refl;
      scripts = search rules;
      seed = refl;
      count = refl;
    }

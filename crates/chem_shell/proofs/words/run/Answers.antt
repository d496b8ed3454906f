use Rattle.std.proofs.Common.{rules, ◌∙◌, List, Option, codes, sym, subst, refl}
use Rattle.clap.proofs.WalkLemmas.{raw_values-rows}
use Rattle.clap.specs.Words.{Text, found_of}
use Rattle.chem_shell.specs.Words.{IsFile}
use Rattle.chem_shell.proofs.Asked.{on_err}
use Rattle.chem_shell.proofs.words.run.Goals as goal

pub returns-in_err-file-clause-err : goal.returns-in_err-file-clause-err
returns-in_err-file-clause-err c =
    let args = c.get_raw.ensures ∙ raw_values-rows (found_of c.args.found.now) (codes "args") in
    on_err c.from_residual.result (λ plan row. c.in_err-file.ensures.err row.args.word
    (subst (λ (a : Option (List Text)). IsFile a row.args.word) (sym args) row.args.is))

pub returns-clause-ok : goal.returns-clause-ok
returns-clause-ok c =
    let args = c.get_raw.ensures ∙ raw_values-rows (found_of c.args.found.now) (codes "args") in
    record {
      args = record {
        word = c.in_ok-file.file.now;
        is = subst (λ (a : Option (List Text)). IsFile a c.in_ok-file.file.now) args c.in_ok-file.ensures.ok;
        file = refl;
      };
      sizes = c.in_ok-workers.ensures.ok;
      commits = c.in_ok-commits.ensures.ok;
      command = refl;
      ends = refl;
      scripts = search rules;
      seed = refl;
      count = refl;
    }

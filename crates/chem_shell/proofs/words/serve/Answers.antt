use Rattle.std.proofs.Common.{rules, ◌∙◌, List, Option, codes, sym, subst, refl, inr}
use Rattle.clap.proofs.WalkLemmas.{raw_values-rows}
use Rattle.clap.specs.Words.{Text, found_of}
use Rattle.chem_shell.specs.Words.{AreFileAndScripts, texts}
use Rattle.chem_shell.proofs.Asked.{if_err}
use Rattle.chem_shell.proofs.words.serve.Goals as goal

pub returns-clause-ok : goal.returns-clause-ok
returns-clause-ok c =
    let args = c.get_raw.ensures ∙ raw_values-rows (found_of c.args.found.now) (codes "args") in
    record {
      args = record {
        word = c.in_ok-file.file.now;
        words = texts c.in_ok-file.words.now;
        are = subst (λ (a : Option (List Text)). AreFileAndScripts a c.in_ok-file.file.now
            (texts c.in_ok-file.words.now))
            args c.in_ok-file.ensures.ok;
        file = refl;
        scripts = search rules;
      };
      sizes = c.in_ok-workers.ensures.ok;
      commits = c.in_ok-commits.ensures.ok;
      command = refl;
      ends = search rules;
      seed = refl;
      count = refl;
    }

pub returns-in_err-file-clause-err : goal.returns-in_err-file-clause-err
returns-in_err-file-clause-err c =
    let args = c.get_raw.ensures ∙ raw_values-rows (found_of c.args.found.now) (codes "args") in
    if_err c.from_residual.result _ (λ fault. inr (λ plan row.
    c.in_err-file.ensures.err row.args.word row.args.words
    (subst (λ (a : Option (List Text)). AreFileAndScripts a row.args.word row.args.words) (sym args) row.args.are)))

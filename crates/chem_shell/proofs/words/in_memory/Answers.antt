use Rattle.std.proofs.Common.{rules, ◌∙◌, codes, refl}
use Rattle.clap.proofs.WalkLemmas.{raw_values-rows}
use Rattle.clap.specs.Words.{found_of}
use Rattle.chem_shell.proofs.Asked.{image_of_none, none_of_image, on_err}
use Rattle.chem_shell.proofs.words.in_memory.Goals as goal

pub returns-in_err-no_args-clause-err : goal.returns-in_err-no_args-clause-err
returns-in_err-no_args-clause-err c =
    let args = c.get_raw.ensures ∙ raw_values-rows (found_of c.args.found.now) (codes "args") in
    on_err c.from_residual.result
    (λ plan row. c.in_err-no_args.ensures.err (none_of_image _ c.get_raw.result _ args row.args))

pub returns-clause-ok : goal.returns-clause-ok
returns-clause-ok c =
    let args = c.get_raw.ensures ∙ raw_values-rows (found_of c.args.found.now) (codes "args") in
    record {
      args = image_of_none _ c.get_raw.result _ args c.in_ok-no_args.ensures.ok;
      sizes = c.in_ok-workers.ensures.ok;
      commits = c.in_ok-commits.ensures.ok;
      command = refl;
      ends = refl;
      file = refl;
      scripts = search rules;
      seed = refl;
      count = refl;
    }

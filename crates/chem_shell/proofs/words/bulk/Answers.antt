use Rattle.std.proofs.Common.{rules, ◌≡◌, ◌∙◌, None, codes, sym, subst, refl}
use Rattle.clap.proofs.WalkLemmas.{first_value-rows, raw_values-rows}
use Rattle.clap.specs.Words.{found_of}
use Rattle.chem_shell.specs.Words.{IsNumber}
use Rattle.chem_shell.specs.declared.words.TheConstants.{LAST_SEED, MOST_STRUCTURES}
use Rattle.chem_shell.proofs.Asked.{firsts_same, image_of_none, none_of_image, on_err}
use Rattle.chem_shell.proofs.words.bulk.Goals as goal

pub returns-in_err-seed-clause-err : goal.returns-in_err-seed-clause-err
returns-in_err-seed-clause-err c =
    let args = c.get_raw.ensures ∙ raw_values-rows (found_of c.args.found.now) (codes "args") in
    on_err c.from_residual.result
    (λ plan row. c.in_err-seed.ensures.err row.args.seed_word row.args.count_word (args ∙ row.args.two))

pub returns-in_err-seed-2-clause-err : goal.returns-in_err-seed-2-clause-err
returns-in_err-seed-2-clause-err c =
    let args = c.get_raw.ensures ∙ raw_values-rows (found_of c.args.found.now) (codes "args") in
    on_err c.from_residual-in_err-seed-2.result (λ plan row.
    let words = firsts_same c.in_ok-seed.seed.now c.in_ok-seed.count.now row.args.seed_word row.args.count_word
    (sym c.in_ok-seed.ensures.ok ∙ (args ∙ row.args.two)) in
    c.in_err-seed-2.ensures.err plan.seed
    (subst (λ word. IsNumber word 1 LAST_SEED plan.seed) (sym words.0) row.args.seed_is))

pub returns-in_err-count-clause-err : goal.returns-in_err-count-clause-err
returns-in_err-count-clause-err c =
    let args = c.get_raw.ensures ∙ raw_values-rows (found_of c.args.found.now) (codes "args") in
    on_err c.from_residual-in_err-count.result (λ plan row.
    let words = firsts_same c.in_ok-seed.seed.now c.in_ok-seed.count.now row.args.seed_word row.args.count_word
    (sym c.in_ok-seed.ensures.ok ∙ (args ∙ row.args.two)) in
    c.in_err-count.ensures.err plan.count
    (subst (λ word. IsNumber word 0 MOST_STRUCTURES plan.count) (sym words.1) row.args.count_is))

pub returns-then-is_some-clause-err : goal.returns-then-is_some-clause-err
returns-then-is_some-clause-err c = λ plan row.
    let commits = c.get_str.ensures ∙ first_value-rows (found_of c.args.found.now) (codes "commits") in
    let none : c.get_str.result ≡ None = none_of_image _ c.get_str.result _ commits row.none in
    search rules

pub returns-clause-ok : goal.returns-clause-ok
returns-clause-ok c =
    let args = c.get_raw.ensures ∙ raw_values-rows (found_of c.args.found.now) (codes "args") in
    let commits = c.get_str.ensures ∙ first_value-rows (found_of c.args.found.now) (codes "commits") in
    let none : c.get_str.result ≡ None = search rules in
    record {
      args = record {
        seed_word = c.in_ok-seed.seed.now;
        count_word = c.in_ok-seed.count.now;
        two = sym args ∙ c.in_ok-seed.ensures.ok;
        seed_is = c.in_ok-seed-2.ensures.ok;
        count_is = c.in_ok-count.ensures.ok;
      };
      sizes = c.in_ok-workers.ensures.ok;
      none = image_of_none _ c.get_str.result _ commits none;
      commits = refl;
      command = refl;
      ends = refl;
      file = refl;
      scripts = search rules;
    }

use Rattle.std.proofs.Common.{◌≡◌, [], length, ◌∙◌, ap, arith}
use Rattle.std.proofs.lemmas.Bool.Decides.{nat_tests}
use Rattle.std.proofs.lemmas.Result.{err_from_is_err_and}
use Rattle.line_walk.proofs.Closing.{whole_part, part_whole}
use Rattle.smarts_words.specs.Words.{smarts_words}
use Rattle.smarts_parse.specs.declared.fault.SmartsFault.TheVariants.{NoMemory}
use Rattle.smarts_parse.specs.Faults.{fault_of}
use Rattle.smarts_parse.proofs.Results.{if_err}
use Rattle.smarts_parse.proofs.items.read_plain.Goals as goal

pub returns-in_err-rest-clause-only : goal.returns-in_err-rest-clause-only
returns-in_err-rest-clause-only c tree h =
    let p = err_from_is_err_and c.from_residual.result c.from_residual.ensures.1 in
    let k = c.in_err-rest.ensures.only tree [] tt (whole_part smarts_words c.args.text.now tree h) in
    if_err (λ e. e ≡ NoMemory) c.from_residual.result p.0 p.1 (p.2 ∙ ap fault_of k)

pub returns-then-not-is_empty-clause-only : goal.returns-then-not-is_empty-clause-only
returns-then-not-is_empty-clause-only c tree h =
    let k = c.in_ok-rest.ensures.only tree [] tt (whole_part smarts_words c.args.text.now tree h) in
    let l = ap length k in
    grind (arith, nat_tests)

pub returns-clause-found : goal.returns-clause-found
returns-clause-found c =
    let p = c.in_ok-rest.ensures.found [] c.no_reader-reader.ensures.holds in
    let none : length c.in_ok-rest.rest.now ≡ 0 = grind (arith, nat_tests) in
    let d = p.depth in
    let e = c.no_reader-reader.ensures.depth in
    record {
      tree = p.tree;
      is = part_whole smarts_words c.args.text.now c.in_ok-rest.rest.now p.tree none p.is;
      holds = p.holds;
      depth = omega arith;
    }

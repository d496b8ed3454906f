use Rattle.std.proofs.Common.{arith}
use Rattle.path_print.proofs.Digits.{two_inside}
use Rattle.path_print.proofs.text.Text.of.Goals as goal

pub invariant_of-result : goal.invariant_of-result
invariant_of-result c =
    (two_inside c.number_of-number.result c.sum_of.result c.args.label.0 c.args.label.1 (omega arith)
    (omega arith) c.number_of-number.ensures c.sum_of.ensures).0

pub returns : goal.returns
returns c =
    let two = (two_inside c.number_of-number.result c.sum_of.result c.args.label.0 c.args.label.1 (omega arith)
    (omega arith) c.number_of-number.ensures c.sum_of.ensures).1 in
    rw two

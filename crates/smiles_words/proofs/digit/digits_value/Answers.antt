use Rattle.std.proofs.Common.{arith}
use Rattle.smiles_words.proofs.Digits.{one_value, both_digits, three_digits}
use Rattle.smiles_words.proofs.digit.digits_value.Goals as goal

pub returns-in-len1-clause-value : goal.returns-in-len1-clause-value
returns-in-len1-clause-value c =
    let v = one_value c.args.digits.now (omega arith) c.requires.digits in
    let e = v.0 in
    omega arith

pub returns-in-len1-clause-bound : goal.returns-in-len1-clause-bound
returns-in-len1-clause-bound c =
    let v = one_value c.args.digits.now (omega arith) c.requires.digits in
    let d1 = v.1 in
    omega arith

pub returns-in-len2-clause-value : goal.returns-in-len2-clause-value
returns-in-len2-clause-value c =
    let v = both_digits c.args.digits.now (omega arith) c.requires.digits in
    let e = v.0 in
    omega arith

pub returns-in-len2-clause-bound : goal.returns-in-len2-clause-bound
returns-in-len2-clause-bound c =
    let v = both_digits c.args.digits.now (omega arith) c.requires.digits in
    let d1 = v.1 in
    let d2 = v.2 in
    omega arith

pub returns-in-len3-clause-value : goal.returns-in-len3-clause-value
returns-in-len3-clause-value c =
    let v = three_digits c.args.digits.now (omega arith) c.requires.digits in
    let e = v.0 in
    omega arith

pub returns-in-len3-clause-bound : goal.returns-in-len3-clause-bound
returns-in-len3-clause-bound c =
    let v = three_digits c.args.digits.now (omega arith) c.requires.digits in
    let d1 = v.1 in
    let d2 = v.2 in
    let d3 = v.3 in
    omega arith

use Rattle.std.proofs.Common.{arith}
use Rattle.chem_text.proofs.Digits.{printed, printed_value}
use Rattle.chem_text.proofs.number.decimal.Goals as goal

pub returns-then-not-is_canonical-clause-none : goal.returns-then-not-is_canonical-clause-none
returns-then-not-is_canonical-clause-none c n le e =
    let p = printed c.args.bytes.now n (omega arith) e in
    let t = c.is_canonical.ensures.1 p.plain in
    grind arith

pub returns-in-Some-clause-some : goal.returns-in-Some-clause-some
returns-in-Some-clause-some c = printed_value c.args.bytes.now c.in-Some.number (c.is_canonical.ensures.0 (grind arith))
    c.in-Some.ensures.0 c.in-Some.ensures.1

pub returns-in_default-clause-none : goal.returns-in_default-clause-none
returns-in_default-clause-none c n le e =
    let p = printed c.args.bytes.now n (omega arith) e in
    let v = p.value in
    let is = c.in-Some.ensures.1 in
    omega arith

pub returns-in_default-2-clause-none : goal.returns-in_default-2-clause-none
returns-in_default-2-clause-none c n le e =
    let p = printed c.args.bytes.now n (omega arith) e in
    let v = p.value in
    c.in_default.ensures (p.some, p.digits, omega arith)

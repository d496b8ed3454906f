use Rattle.std.proofs.Common.{◌∙◌, ◌≤◌, length, None, Some, sym, ap, arith}
use Rattle.std.proofs.lemmas.Bool.Decides.{nat_tests}
use Rattle.smarts_words.specs.Prims.{number_of}
use Rattle.smarts_words.proofs.Numbers.{digits_taken, digits_refused, no_number, some_number}
use Rattle.smarts_words.proofs.Digits.{no_digit}
use Rattle.smarts_words.proofs.number.number_at.Goals as goal

pub returns-then-digits-gt3-clause-reads : goal.returns-then-digits-gt3-clause-reads
returns-then-digits-gt3-clause-reads c =
    let e = c.digits_at.ensures in
    digits_refused (λ digits. length digits ≤ 3) number_of c.args.bytes.now c.digits_at.result.0.now
    c.digits_at.result.1.now e.split e.digits (no_digit c.digits_at.result.1.now e.all) (λ h. omega arith)

pub returns-then-is_empty-clause-reads : goal.returns-then-is_empty-clause-reads
returns-then-is_empty-clause-reads c =
    let e = c.digits_at.ensures in
    digits_taken (λ digits. length digits ≤ 3) number_of c.args.bytes.now c.digits_at.result.0.now
    c.digits_at.result.1.now None e.split e.digits (no_digit c.digits_at.result.1.now e.all) (omega arith)
    (sym (no_number c.digits_at.result.0.now (grind (arith, nat_tests))))

pub returns-clause-reads : goal.returns-clause-reads
returns-clause-reads c =
    let e = c.digits_at.ensures in
    let some : 1 ≤ length c.digits_at.result.0.now = grind (arith, nat_tests) in
    digits_taken (λ digits. length digits ≤ 3) number_of c.args.bytes.now c.digits_at.result.0.now
    c.digits_at.result.1.now _ e.split e.digits (no_digit c.digits_at.result.1.now e.all) (omega arith)
    (ap (λ n. Some n) c.digits_value.ensures.value
    ∙ sym (some_number c.digits_at.result.0.now some))

use Rattle.std.proofs.Common.{refl, sym, ◌∙◌, arith}
use Rattle.molfile_read.proofs.Numbers.{exceeds}
use Rattle.molfile_read.proofs.field.decimal.Goals as goal

pub returns-then-value-most-clause-value : goal.returns-then-value-most-clause-value
returns-then-value-most-clause-value c =
    exceeds c.args.most c.loop-digit.value c.loop-digit.digit-index _ c.args.digits.now c.loop-digit-test.true refl
    (sym c.is_ascii_digit.ensures.value ∙ c.if-not-is_ascii_digit.false) c.loop-digit.invariant.rest (omega arith)

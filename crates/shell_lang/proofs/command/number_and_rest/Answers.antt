use Rattle.std.proofs.Common.{arith}
use Rattle.shell_lang.proofs.Cuts.{no_number, other_number}
use Rattle.shell_lang.proofs.command.number_and_rest.Goals as goal

pub returns-in_err-digits-clause-none : goal.returns-in_err-digits-clause-none
returns-in_err-digits-clause-none c =
    rw c.from_residual.ensures (λ n rest within. no_number _ c.in_err-digits.ensures.none n rest)

pub returns-in_err-number-clause-none : goal.returns-in_err-number-clause-none
returns-in_err-number-clause-none c =
    rw c.from_residual-in_err-number.ensures
    (other_number _ _ _ c.args.most c.in_ok-digits.ensures.parts c.in_ok-digits.ensures.first (omega arith)
    (λ n within. c.in_err-number.ensures.none n (omega (arith, within))))

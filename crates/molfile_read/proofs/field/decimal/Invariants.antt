use Rattle.std.proofs.Common.{◌≡◌, ◌≤◌, drop}
use Rattle.molfile_read.proofs.Numbers.{decimal_after}
use Rattle.molfile_read.proofs.field.decimal.Given as goal

-- what is left of the digits completes the number
abbrev pub invariant-loop-digit : goal.invariant-loop-digit
invariant-loop-digit l = record {
  rest : decimal_after l.most l.value (drop l.digit-index l.digits) ≡ decimal_after l.most 0 l.digits;
  few : l.value ≤ l.most;
}

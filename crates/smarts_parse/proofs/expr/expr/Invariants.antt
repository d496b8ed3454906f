use Rattle.std.proofs.Common.{◌≡◌, length, take, drop}
use Rattle.smarts_parse.specs.Steps.{LeaveOne, stacked}
use Rattle.smarts_parse.proofs.expr.expr.Given as goal

abbrev pub invariant-loop-step : goal.invariant-loop-step
invariant-loop-step g l = record {
  read : stacked l.stack.items ≡ take l.step-index l.steps;
  rest : LeaveOne (length l.stack.items) (drop l.step-index l.steps);
}

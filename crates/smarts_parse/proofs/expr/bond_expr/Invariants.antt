use Rattle.std.proofs.Common.{◌≡◌, map, take}
use Rattle.smarts_parse.specs.Meaning.{bond_step}
use Rattle.smarts_parse.proofs.expr.bond_expr.Given as goal

abbrev pub invariant-loop-step : goal.invariant-loop-step
invariant-loop-step l = l.prims.items ≡ map bond_step (take l.step-index l.steps)

use Rattle.std.proofs.Common.{◌≡◌, ◌≤◌, ◌++◌, false, length, drop}
use Rattle.std.specs.List.{list_any}
use Rattle.smarts_parse.specs.Meaning.{atom_steps}
use Rattle.smarts_parse.specs.Reading.{is_stereo}
use Rattle.smarts_parse.specs.Steps.{parts_in}
use Rattle.smarts_parse.proofs.expr.atom_expr.Given as goal

abbrev pub invariant-loop-step : goal.invariant-loop-step
invariant-loop-step l = record {
  read : l.prims.items ++ atom_steps l.left (drop l.step-index l.steps) ≡ atom_steps l.fn.numbers l.steps;
  parts : parts_in (drop l.step-index l.steps) ≤ length l.left;
  plain : list_any is_stereo (drop l.step-index l.steps) ≡ false;
}

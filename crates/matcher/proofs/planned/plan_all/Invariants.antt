use Rattle.smarts_parse.specs.Pattern.{pattern_of}
use Rattle.matcher.proofs.Layouts.{AreLaid}
use Rattle.matcher.proofs.planned.plan_all.Given as goal

-- the top graph and the parts so far are planned
abbrev pub invariant-loop-part : goal.invariant-loop-part
invariant-loop-part l = AreLaid (pattern_of l.pattern) l.part l.end l.steps l.begins

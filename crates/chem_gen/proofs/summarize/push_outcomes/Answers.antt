use Rattle.std.proofs.Common.{◌+◌, ◌≡◌, ◌++◌, drop, sym, ap, ◌∙◌, arith}
use Rattle.chem_gen.specs.Script.{patterns}
use Rattle.chem_gen.specs.Summary.{lines_of, endings_in, outcomes}
use Rattle.chem_gen.proofs.Picks.{outcomes_more, outcomes_end, outcomes_past}
use Rattle.chem_gen.proofs.summarize.push_outcomes.Goals as goal

pub loop-place-preserved : goal.loop-place-preserved
loop-place-preserved c =
    let place = c.loop-place.place in
    let after = endings_in (lines_of c.in-Some.after.now) in
    ap (λ out. out ++ outcomes (drop (place + 1) patterns) after) c.in_ok-push_outcome.ensures
    ∙ outcomes_more place c.loop-place.out.items c.pattern.result.now c.in-Some.ending.now after
    (omega arith) c.pattern.ensures
    ∙ ap (λ es. c.loop-place.out.items ++ outcomes (drop place patterns) es) (sym c.in-Some.ensures)
    ∙ c.loop-place.invariant

pub returns-after-loop-place : goal.returns-after-loop-place
returns-after-loop-place c =
    let whole : c.loop-place.place ≡ 5 = omega arith in
    sym (ap (λ k. c.loop-place.out.items ++ outcomes (drop k patterns) (endings_in (lines_of c.loop-place.rest.now)))
    whole ∙ outcomes_past (endings_in (lines_of c.loop-place.rest.now)) c.loop-place.out.items)
    ∙ c.loop-place.invariant

pub returns-in_default : goal.returns-in_default
returns-in_default c =
    let none = c.in_default.ensures in
    sym (ap (λ es. c.loop-place.out.items ++ outcomes (drop c.loop-place.place patterns) es) none
    ∙ outcomes_end (drop c.loop-place.place patterns) c.loop-place.out.items)
    ∙ c.loop-place.invariant

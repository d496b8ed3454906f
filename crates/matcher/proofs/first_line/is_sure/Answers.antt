use Rattle.std.proofs.Common.{◌&&◌, ◌||◌, ◌∙◌, ap}
use Rattle.matcher.specs.Plan.{step_at}
use Rattle.matcher.proofs.Counted.{same_surely}
use Rattle.matcher.proofs.first_line.is_sure.Goals as goal

pub returns : goal.returns
returns c =
    let steps = c.args.steps.now in
    (λ i. c.is_inside-of_kind.ensures i
    && ((c.is_inside-one_a.ensures i && c.is_inside-other_b.ensures i)
    || (c.is_inside-one_b.ensures i && c.is_inside-other_a.ensures i)))
    ∙ same_surely c.args.sort _ _ _ _ _ _ c.kinds_of-kinds.ensures
    (ap (λ n. (step_at steps n).classes) c.from-first.ensures)
    (ap (λ n. (step_at steps n).classes) c.from-second.ensures)

use Rattle.std.proofs.Common.{[], arith, false, refl}
use Rattle.session_run.proofs.Lined.{false_is_not_true, line_whole, records_begun, records_by}
use Rattle.session_run.proofs.request.Taking.begin.Goals as goal

pub returns-in-None : goal.returns-in-None
returns-in-None c =
    ((c.args.line.now, refl, c.in-None.ensures.none), line_whole c.args.line.now c.in-None.ensures.none)

pub returns-in-Some-Records : goal.returns-in-Some-Records
returns-in-Some-Records c =
    let taken = rw c.in-Some-Records.field-0-is at c.in-Some-Records.ensures.some in
    let takes = taken.0.1 in
    let h = records_begun c.in-Some-Records.count c.begin.new.self c.clear.new.self.items takes.1.1 c.clear.ensures.items
    c.begin.ensures.none in (
      (c.args.line.now, taken.0.0, [], refl, takes, taken.1, h),
      records_by h false c.args.line.now taken.0.0 takes
          (λ f. absurd (false_is_not_true f), λ e. absurd (omega (arith, e, takes.1.0))),
    )

use Rattle.std.proofs.Common.{arith}
use Rattle.session_run.proofs.Lined.{filling_all, filling_more, filling_none, filling_part, left_record}
use Rattle.session_run.proofs.Recorded.{counted_few}
use Rattle.session_run.proofs.request.fill.Goals as goal

pub loop-left-init : goal.loop-left-init
loop-left-init c = λ count more h. filling_none h

pub add-requires-clause-few : goal.add-requires-clause-few
add-requires-clause-few c =
    let u = c.loop-left.invariant c.requires.0 c.requires.1 c.requires.2 in
    let few = counted_few u.done in
    omega (arith, u.taken.total, few, u.number, u.few)

pub add-requires-clause-part : goal.add-requires-clause-part
add-requires-clause-part c =
    let u = c.loop-left.invariant c.requires.0 c.requires.1 c.requires.2 in
    (left_record u.tail, filling_part c.loop-left.part u.tail c.args.text.now u.opens)

pub loop-left-preserved : goal.loop-left-preserved
loop-left-preserved c = λ count more h.
    let u = c.loop-left.invariant count more h in
    filling_more c.add.new.self u (λ e. omega (arith, e, c.loop-left-test.true))
    (c.add.ensures u.done (left_record u.tail) u.taken (filling_part c.loop-left.part u.tail c.args.text.now u.opens))

pub returns : goal.returns
returns c = λ count more h. filling_all (c.loop-left.invariant count more h) (omega (arith, c.loop-left-test.false))

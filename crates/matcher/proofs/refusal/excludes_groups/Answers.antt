use Rattle.std.proofs.Common.{◌<◌, arith, below_more}
use Rattle.matcher.proofs.Groups.{excluded_groups}
use Rattle.matcher.proofs.Pigeons.{marks}
use Rattle.matcher.proofs.refusal.excludes_groups.Goals as goal

pub loop-place-preserved : goal.loop-place-preserved
loop-place-preserved c =
    below_more _ _ c.loop-place.invariant
    (λ _. (c.begins_group.ensures.0 c.if-not-begins_group.false, c.stays_in.ensures c.if-not-stays_in.false))

pub returns : goal.returns
returns c =
    let fewer : marks c.args.components.now < marks c.args.places.now = omega arith in
    λ _. excluded_groups c.args.task.now c.args.front.now c.args.places.now c.args.components.now c.requires.places fewer
    (λ k l. c.loop-place.invariant k (omega (arith, l, c.loop-place-test.false)))

use Rattle.std.proofs.Common.{◌∷◌, subst, ℕ}
use Rattle.record_versions.specs.Rows.{Row}
use Rattle.record_versions.proofs.Passing.{Passed, behind, first-at, none-at, none-passed, passed-one}
use Rattle.record_versions.proofs.readings.next_at.Goals as goal

pub loop-id-init : goal.loop-id-init
loop-id-init g c = λ from chains ahead. none-passed c.args.version from chains _ ahead

pub returns-in-Some-latest : goal.returns-in-Some-latest
returns-in-Some-latest g c = λ from chains ahead.
    let e : ℕ × Row g.row.V.Denot = (c.in-Some.id.now, c.in-Some.chain.now) in
    let p = subst (Passed c.args.version from chains) c.in-Some.ensures.steps (c.loop-id.invariant from chains ahead) in (
      first-at c.args.version from chains c.next.new.self e p c.in-Some-latest.entry.now c.in-Some-latest.ensures.latest,
      behind c.args.version from chains c.next.new.self e p,
    )

pub loop-id-preserved : goal.loop-id-preserved
loop-id-preserved g c = λ from chains ahead.
    let e : ℕ × Row g.row.V.Denot = (c.in-Some.id.now, c.in-Some.chain.now) in
    passed-one c.args.version from chains c.next.new.self e
    (subst (Passed c.args.version from chains) c.in-Some.ensures.steps (c.loop-id.invariant from chains ahead))
    c.in_default-latest.ensures.latest

pub returns : goal.returns
returns g c = λ from chains ahead.
    none-at c.args.version from chains
    (subst (Passed c.args.version from chains) c.in_default.ensures.steps.0 (c.loop-id.invariant from chains ahead))

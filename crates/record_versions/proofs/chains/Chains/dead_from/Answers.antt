use Rattle.std.proofs.Common.{◌∙◌, ◌+◌, ap, arith, None, Some, subst, sym, ℕ}
use Rattle.record_versions.specs.Entries.{IsLeastUnread}
use Rattle.record_versions.specs.Rows.{Row}
use Rattle.record_versions.specs.Ahead.{Rise}
use Rattle.record_versions.proofs.Walk.{Between, GoesOn, at-end, begins, between-rises, found, lower, passed-by, rises}
use Rattle.record_versions.proofs.chains.Chains.dead_from.Goals as goal

pub loop-id-init : goal.loop-id-init
loop-id-init g c =
    let left = c.into_iter-id-iterator.ensures.into_iter_gives ∙ c.range-id-items.ensures.between tt in (
      begins c.args.live.now c.args.from c.args.self.now _ (left ∙ ap (Between c.args.from.0) c.self.view_is),
      subst (Rise c.args.from.0) (sym left)
          (between-rises c.args.from.0 0 c.self.inside.chains.entries
          (rises c.self.inside.chains.entries c.range-id-items.ensures.ordered)),
    )

pub returns-in-Some-unread_from : goal.returns-in-Some-unread_from
returns-in-Some-unread_from g c =
    let e : ℕ × Row g.row.V.Denot = (c.in-Some.id.now, c.in-Some.chain.now) in
    found c.args.live.now c.args.from c.args.self.now c.next.new.self e c.in-Some-unread_from.version
    (subst (Rise c.args.from.0) c.in-Some.ensures.steps c.loop-id.invariant.1)
    (subst (λ n. IsLeastUnread c.args.live.now n c.in-Some.chain.now.entries (Some c.in-Some-unread_from.version))
    c.first_version.ensures c.in-Some-unread_from.ensures)
    (subst (λ left. GoesOn c.args.live.now c.args.from c.args.self.now left) c.in-Some.ensures.steps c.loop-id.invariant.0)

pub loop-id-preserved : goal.loop-id-preserved
loop-id-preserved g c =
    let e : ℕ × Row g.row.V.Denot = (c.in-Some.id.now, c.in-Some.chain.now) in
    let up = subst (Rise c.args.from.0) c.in-Some.ensures.steps c.loop-id.invariant.1 in (
      passed-by c.args.live.now c.args.from c.args.self.now c.next.new.self e up
          (subst (λ n. IsLeastUnread c.args.live.now n c.in-Some.chain.now.entries None)
          c.first_version.ensures c.in_default.ensures)
          (subst (λ left. GoesOn c.args.live.now c.args.from c.args.self.now left) c.in-Some.ensures.steps
          c.loop-id.invariant.0),
      lower c.args.from.0 (c.in-Some.id.now + 1) c.next.new.self (let h = up.0 in omega (arith, h)) up.1,
    )

pub returns : goal.returns
returns g c =
    at-end c.args.live.now c.args.from c.args.self.now
    (subst (λ left. GoesOn c.args.live.now c.args.from c.args.self.now left) c.in-None.ensures.steps.0 c.loop-id.invariant.0)

use Rattle.std.proofs.Common.{◌≡◌, ◌<◌, length, subst, slice_set, map, take, drop, ◌++◌, ◌+◌}
use Rattle.std.proofs.lemmas.List.Edits.{map_over_more}
use Rattle.chem_shell.specs.Ends.{with_status}
use Rattle.chem_shell.proofs.outcome.set_status.Goals as goal

pub loop-end-preserved : goal.loop-end-preserved
loop-end-preserved g c =
    let lt : c.loop-end.end-index < length c.args.ends.now = c.loop-end-test.true in
    let done = map_over_more
    (with_status c.args.status) c.args.ends.now c.loop-end.ends c.loop-end.end-index c.end-item.result lt
    c.loop-end.invariant c.end-item.is in
    subst (λ x. slice_set c.loop-end.ends c.loop-end.end-index (with_status c.args.status x) ≡ map
    (with_status c.args.status) (take (c.loop-end.end-index + 1) c.args.ends.now) ++ drop
    (c.loop-end.end-index + 1) c.args.ends.now) c.end-item.is done

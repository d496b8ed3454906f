use Rattle.matcher.proofs.Follows.{next_both, next_free, route_for}
use Rattle.matcher.proofs.follow.Search.next_at.Goals as goal

pub loop-number-init : goal.loop-number-init
loop-number-init c =
    let s = c.args.self.now in
    let ready = c.requires.ready in
    next_both _ _ _ _ _ _
    (next_free s.task.now s.stops.now s.candidates.now c.args.atoms.now c.args.free c.args.at
    (route_for s.task.now s.stops.now s.joins.now s.kinds.now ready.route) ready.few c.requires.stop ready.candidates
    c.requires.free)
    c.joined_by-word.ensures

pub loop-number-preserved : goal.loop-number-preserved
loop-number-preserved c = next_both _ _ _ _ _ _ c.loop-number.invariant c.joined_by-word-in-loop-number.ensures

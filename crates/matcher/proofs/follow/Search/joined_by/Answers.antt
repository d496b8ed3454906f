use Rattle.matcher.proofs.Follows.{next_joined, route_for}
use Rattle.matcher.proofs.follow.Search.joined_by.Goals as goal

pub returns : goal.returns
returns c =
    let s = c.args.self.now in
    next_joined s.task.now s.stops.now s.kinds.now s.joined.now c.args.atoms.now c.args.at c.args.join
    (route_for s.task.now s.stops.now s.joins.now s.kinds.now c.requires.ready.route) c.requires.ready.few
    c.requires.stop c.requires.ready.joined c.requires.join

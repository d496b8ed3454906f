use Rattle.std.proofs.Common.{[]}
use Rattle.matcher.proofs.Routes.{route_none}
use Rattle.matcher.proofs.route.Route.lay_all.Goals as goal

pub returns-then-not-may_have_route-clause-route : goal.returns-then-not-may_have_route-clause-route
returns-then-not-may_have_route-clause-route c = route_none _ [] _ _

pub returns-then-not-sort_bonds-clause-route : goal.returns-then-not-sort_bonds-clause-route
returns-then-not-sort_bonds-clause-route c = route_none _ [] _ _

pub returns-then-not-is_route-clause-route : goal.returns-then-not-is_route-clause-route
returns-then-not-is_route-clause-route c = route_none _ [] _ _

pub returns-clause-route : goal.returns-clause-route
returns-clause-route c = c.is_route.ensures c.if-not-is_route.false

pub returns-then-not-are_sorted-clause-route : goal.returns-then-not-are_sorted-clause-route
returns-then-not-are_sorted-clause-route c = route_none _ [] _ _

pub returns-clause-sorted : goal.returns-clause-sorted
returns-clause-sorted c = λ _. c.are_sorted.ensures c.if-not-are_sorted.false

pub returns-clause-alone : goal.returns-clause-alone
returns-clause-alone c = λ _. c.may_have_route.ensures.alone c.if-not-may_have_route.false

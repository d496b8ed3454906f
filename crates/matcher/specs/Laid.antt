-- For private clauses alone: a laid route.
use Rattle.std.specs.Prelude.{◌<◌, take}
use Rattle.smarts_parse.specs.Pattern.{GraphTerm}
use Rattle.matcher.specs.declared.route.Route.{Route}
use Rattle.matcher.specs.Route.{AreSorted, HasNoGroups, IsRoute}

-- the route is one of the graph, of which kinds of bonds are asked and no groups, or empty
pub record IsRouteOf (g : GraphTerm) (route : Route) : Type 0 where
  pub stops : IsRoute g (take route.laid route.stops.items) route.joins.items (take route.count route.kinds)
  pub sorted : 0 < route.laid → AreSorted g (take route.count route.kinds) route.sets.items
  pub alone : 0 < route.laid → HasNoGroups g

use Rattle.std.proofs.Common.{◌∙◌, arith, get_or, refl, sym}
use Rattle.std.proofs.lemmas.Bool.{eqb-true}
use Rattle.smarts_parse.specs.Pattern.{graph_of}
use Rattle.matcher.specs.Route.{stop_at}
use Rattle.matcher.proofs.Narrowings.{joins_bond}
use Rattle.matcher.proofs.Routes.{asked_kinds}
use Rattle.matcher.proofs.route.is_join.Goals as goal

pub returns : goal.returns
returns c = λ t.
    let g = graph_of c.args.graph.now in
    let items = c.args.graph.now.bonds.items in
    let join = c.args.join in
    let stops = c.args.stops.now in
    let bond = c.index-bond.result.now in
    record {
      earlier = omega arith;
      bonded = joins_bond g items join.bond (stop_at stops join.other).place (stop_at stops c.args.at).place bond refl
          (omega arith) c.index-bond.ensures (c.has_ends.ensures c.if-not-has_ends.false);
      set = omega arith;
      asks = asked_kinds items join.bond (get_or c.args.kinds.now join.set 0) bond (omega arith) c.index-bond.ensures
          (sym c.kinds_of-asked.ensures ∙ eqb-true _ _ t);
    }

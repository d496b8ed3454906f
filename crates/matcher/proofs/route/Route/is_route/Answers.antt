use Rattle.std.proofs.Common.{arith, below_more, subst, take}
use Rattle.std.proofs.lemmas.Bool.{iff_false}
use Rattle.smarts_parse.specs.Pattern.{graph_of}
use Rattle.matcher.specs.Route.{IsRoute}
use Rattle.matcher.proofs.Routes.{apart_next}
use Rattle.matcher.proofs.route.Route.is_route.Goals as goal

pub loop-at-preserved : goal.loop-at-preserved
loop-at-preserved c = record {
  each = below_more _ _ c.loop-at.invariant.each (c.is_stop.ensures c.if-not-is_stop.false);
  apart = apart_next c.front-stops.result.now c.loop-at.at c.loop-at.seen c.loop-at.invariant.seen
      (iff_false c.has_place.ensures c.if-has_place.false) c.loop-at.invariant.apart;
  seen = below_more _ _ (λ i l. c.with_place-seen.ensures.kept _ (c.loop-at.invariant.seen i l))
      c.with_place-seen.ensures.here;
}

pub returns : goal.returns
returns c = λ _.
    let g = graph_of c.args.graph.now in
    let stops = c.front-stops.result.now in
    let joins = c.joins-joins.result.now in
    let kinds = c.kinds-kinds.result.now in
    let whole : IsRoute g stops joins kinds = record {
      each = λ k l. c.loop-at.invariant.each k (omega arith);
      apart = λ i k lt l. c.loop-at.invariant.apart i k lt (omega arith);
    } in
    subst (λ xs. IsRoute g xs c.args.self.now.joins.items (take c.args.self.now.count c.args.self.now.kinds))
    c.front-stops.ensures
    (subst (λ js. IsRoute g stops js (take c.args.self.now.count c.args.self.now.kinds)) c.joins-joins.ensures
    (subst (λ ks. IsRoute g stops joins ks) c.kinds-kinds.ensures.value whole))

use Rattle.std.proofs.Common.{IfNone, IfSome, ap, length, subst, sym}
use Rattle.smarts_parse.specs.Pattern.{graph_of, pattern_of}
use Rattle.matcher.specs.Laid.{IsRouteOf}
use Rattle.matcher.specs.Prepared.{ArePartMarks, IsPartRoute}
use Rattle.matcher.proofs.OnlyParts.{part_marked, part_read}
use Rattle.matcher.proofs.Rings.{one_marks}
use Rattle.matcher.proofs.Routes.{part_routed}
use Rattle.matcher.proofs.prepare.Prepared.prepare.Goals as goal

pub find-requires-in-Some : goal.find-requires-in-Some
find-requires-in-Some c = c.part-steps.ensures (graph_of c.index-in-Some.result.now)
    (part_read c.args.pattern.now c.in-Some.part c.index-in-Some.result.now c.in-Some.ensures c.index-in-Some.ensures)

pub lay-requires-in-Some : goal.lay-requires-in-Some
lay-requires-in-Some c = c.part-steps.ensures (graph_of c.index-in-Some-2.result.now)
    (part_read c.args.pattern.now c.in-Some.part c.index-in-Some-2.result.now c.in-Some.ensures
    c.index-in-Some-2.ensures)

pub returns-in-Some : goal.returns-in-Some
returns-in-Some c =
    let p = pattern_of c.args.pattern.now in
    let marks = c.find-in-Some.new.self.on_ring.items in
    let route = c.lay-in-Some.new.self in
    record {
      asked = c.asked-counts.ensures;
      planned = c.plan.ensures;
      wanted = c.find.ensures;
      only = c.only_part-part.ensures;
      top_marks = one_marks p.top marks c.plan.ensures.top.ready.searchable (ap length (c.in-Some.ensures).1);
      part_marks = subst (λ o. IfSome o (ArePartMarks p marks)) (sym c.in-Some.is)
          (part_marked c.args.pattern.now c.in-Some.part c.index-in-Some.result.now marks c.in-Some.ensures
          c.index-in-Some.ensures c.find-in-Some.ensures);
      part_route = subst (λ o. IfSome o (IsPartRoute p route)) (sym c.in-Some.is)
          (part_routed c.args.pattern.now c.in-Some.part c.index-in-Some-2.result.now route c.in-Some.ensures
          c.index-in-Some-2.ensures c.lay-in-Some.ensures);
      top_route = subst (λ o. IfNone o (IsRouteOf p.top route)) (sym c.in-Some.is) tt;
    }

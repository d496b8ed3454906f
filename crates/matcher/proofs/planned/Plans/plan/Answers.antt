use Rattle.std.proofs.Common.{◌≡◌, arith, length, subst, sym}
use Rattle.smarts_parse.specs.Pattern.{graph_of, pattern_of}
use Rattle.matcher.specs.Plan.{StandsAt}
use Rattle.matcher.proofs.Layouts.{planned_alike}
use Rattle.matcher.proofs.Places.{take_all}
use Rattle.matcher.proofs.planned.Plans.plan.Goals as goal

pub returns : goal.returns
returns c =
    let recs = (pattern_of c.args.pattern.now).recs in
    let steps = c.plan_all.new.steps in
    let begins = c.plan_all.new.begins in
    let long : length steps ≡ c.args.self.now.steps.len = omega
    (arith, c.deref_mut.ensures.len, c.plan_all.auto.steps) in
    let wide : length begins ≡ c.args.self.now.begins.len = omega
    (arith, c.deref_mut-2.ensures.len, c.plan_all.auto.begins) in
    record {
      few = c.requires.few_parts;
      top = subst (λ s. StandsAt (graph_of c.args.pattern.now.top) s 0)
          (sym (take_all c.args.self.now.steps.len steps _ (sym long))) c.plan_all.ensures.top;
      parts = planned_alike recs (length recs) steps _ begins _
          (take_all c.args.self.now.steps.len steps _ (sym long))
          (take_all c.args.self.now.begins.len begins _ (sym wide)) c.plan_all.ensures.parts;
    }

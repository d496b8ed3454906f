use Rattle.std.proofs.Common.{◌≡◌, ◌==◌, Some, None, sym, ap, ◌∙◌}
use Rattle.std.specs.List.{position}
use Rattle.line_walk.proofs.Single.{some_place, no_place, left_all}
use Rattle.line_walk.proofs.pairs.take_waiting.Goals as goal

pub returns-in-Some-clause-first : goal.returns-in-Some-clause-first
returns-in-Some-clause-first g c =
    let is : position (λ o. o.number == c.args.number) c.args.waiting.now.items ≡ Some c.in-Some.place = cc in
    let t = some_place c.args.number c.in-Some.place c.args.waiting.now.items is in
    ap (λ v. Some v) c.remove.ensures.value ∙ sym (t.first c.remove.result)

pub returns-in-Some-clause-others : goal.returns-in-Some-clause-others
returns-in-Some-clause-others g c single =
    let is : position (λ o. o.number == c.args.number) c.args.waiting.now.items ≡ Some c.in-Some.place = cc in
    let t = some_place c.args.number c.in-Some.place c.args.waiting.now.items is in
    c.remove.ensures.items ∙ t.others single

pub returns-in-None-clause-first : goal.returns-in-None-clause-first
returns-in-None-clause-first g c =
    let is : position (λ o. o.number == c.args.number) c.args.waiting.now.items ≡ None = cc in
    sym (no_place c.args.number c.args.waiting.now.items is)

pub returns-in-None-clause-others : goal.returns-in-None-clause-others
returns-in-None-clause-others g c single =
    let is : position (λ o. o.number == c.args.number) c.args.waiting.now.items ≡ None = cc in
    sym (left_all c.args.number c.args.waiting.now.items (no_place c.args.number c.args.waiting.now.items is))

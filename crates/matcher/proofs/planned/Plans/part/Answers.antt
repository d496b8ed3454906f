use Rattle.std.proofs.Common.{◌≡◌, ◌<◌, ◌∙◌, arith, length, subst, sym, vec_len}
use Rattle.std.proofs.lemmas.List.{get_or_default, length-map}
use Rattle.std.proofs.lemmas.Option.{same_Some}
use Rattle.smarts_parse.specs.Pattern.{graph_of}
use Rattle.matcher.specs.Plan.{IsReady}
use Rattle.matcher.proofs.Layouts.{part_stands}
use Rattle.matcher.proofs.Places.{get_map}
use Rattle.matcher.proofs.planned.Plans.part.Goals as goal

pub index-begin-requires : goal.index-begin-requires
index-begin-requires c =
    let few = c.requires.planned.few in
    let room : vec_len c.args.self.now.begins ≡ 64 = c.args.self.now.begins_room in
    omega (arith, length-map c.args.pattern.now.recs.items graph_of)

pub steps_at-requires : goal.steps_at-requires
steps_at-requires c =
    let few = c.requires.planned.few in
    let room : vec_len c.args.self.now.begins ≡ 64 = c.args.self.now.begins_room in
    let short : c.args.part < length c.args.self.now.begins.items = omega
    (arith, length-map c.args.pattern.now.recs.items graph_of, c.args.self.now.begins.ok.0) in
    part_stands c.args.pattern.now.recs.items c.args.self.now.steps.items
    c.args.self.now.begins.items c.args.part c.index-begin.result.now c.index.result.now c.requires.planned.parts
    c.requires.part c.index.ensures
    (c.index-begin.ensures ∙ get_or_default c.args.self.now.begins.items c.args.part c.index-begin.result.now 0 short)

pub returns : goal.returns
returns c = λ g at. subst (λ x. IsReady x c.steps_at.result.now)
    (same_Some (graph_of c.index.result.now) g (sym (get_map graph_of c.args.pattern.now.recs.items c.args.part
    c.index.result.now c.requires.part c.index.ensures) ∙ at)) c.steps_at.ensures

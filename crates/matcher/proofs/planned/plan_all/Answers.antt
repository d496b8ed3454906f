-- Each graph's steps are written behind those before.
use Rattle.std.proofs.Common.{◌<◌, ◌+◌, arith, length, set, subst}
use Rattle.std.proofs.lemmas.List.{length-map}
use Rattle.smarts_parse.specs.Pattern.{graph_of, pattern_of, term_of}
use Rattle.matcher.proofs.Layouts.{AreLaid, laid_more, room_more}
use Rattle.matcher.proofs.PartsHeld.{searchable_part, searchable_top, sound_parts}
use Rattle.matcher.proofs.Places.{get_map}
use Rattle.matcher.proofs.planned.plan_all.Goals as goal

pub plan_at-end-requires-clause-searchable : goal.plan_at-end-requires-clause-searchable
plan_at-end-requires-clause-searchable c = searchable_top (pattern_of c.args.pattern.now) c.requires.sound

pub plan_at-end-requires-in-loop-part-clause-searchable : goal.plan_at-end-requires-in-loop-part-clause-searchable
plan_at-end-requires-in-loop-part-clause-searchable c =
    let p = pattern_of c.args.pattern.now in
    let is = rw c.deref-graph-items.ensures.value at c.graph-item.is in
    let within = rw c.deref-graph-items.ensures.value at c.loop-part-test.true in
    searchable_part p.recs c.loop-part.part (graph_of c.graph-item.result) (sound_parts p c.requires.sound)
    (get_map graph_of c.args.pattern.now.recs.items c.loop-part.part c.graph-item.result within is)

pub plan_at-end-requires-in-loop-part-clause-room : goal.plan_at-end-requires-in-loop-part-clause-room
plan_at-end-requires-in-loop-part-clause-room c =
    let p = pattern_of c.args.pattern.now in
    let is = rw c.deref-graph-items.ensures.value at c.graph-item.is in
    let within = rw c.deref-graph-items.ensures.value at c.loop-part-test.true in
    let more = room_more p c.loop-part.part c.loop-part.end (graph_of c.graph-item.result) c.loop-part.steps
    c.loop-part.begins c.requires.sound
    (get_map graph_of c.args.pattern.now.recs.items c.loop-part.part c.graph-item.result within is)
    c.loop-part.invariant in
    omega (arith, more, length-map c.graph-item.result.atoms.items term_of)

pub loop-part-preserved : goal.loop-part-preserved
loop-part-preserved c =
    let p = pattern_of c.args.pattern.now in
    let is = rw c.deref-graph-items.ensures.value at c.graph-item.is in
    let within = rw c.deref-graph-items.ensures.value at c.loop-part-test.true in
    let few = c.requires.sound.few_parts in
    let short : c.loop-part.part < length c.loop-part.begins = omega
    (arith, within, length-map c.args.pattern.now.recs.items graph_of) in
    subst (λ e. AreLaid p (c.loop-part.part + 1) e c.plan_at-end-in-loop-part.new.steps
    (set c.loop-part.begins c.loop-part.part c.loop-part.end))
    (omega (arith, c.plan_at-end-in-loop-part.ensures.end, length-map c.graph-item.result.atoms.items term_of))
    (laid_more p c.loop-part.part c.loop-part.end (graph_of c.graph-item.result) c.loop-part.steps
    c.plan_at-end-in-loop-part.new.steps c.loop-part.begins
    (get_map graph_of c.args.pattern.now.recs.items c.loop-part.part c.graph-item.result within is) short
    c.loop-part.invariant c.plan_at-end-in-loop-part.auto.steps c.plan_at-end-in-loop-part.ensures.before
    c.plan_at-end-in-loop-part.ensures.stands)

pub returns-clause-parts : goal.returns-clause-parts
returns-clause-parts c =
    let items = c.args.pattern.now.recs.items in
    let end = rw c.deref-graph-items.ensures.value at c.loop-part-test.false in
    λ k g l at. (c.loop-part.invariant.parts k g (omega (arith, l, end, length-map items graph_of)) at).1

use Rattle.std.proofs.Common.{◌≡◌, ◌∙◌, ap, arith, length, slice_index}
use Rattle.std.proofs.lemmas.Bool.{iff_false}
use Rattle.std.proofs.lemmas.List.{length-map}
use Rattle.smarts_parse.specs.Pattern.{term_of}
use Rattle.matcher.proofs.Groups.{keeps_taken}
use Rattle.matcher.proofs.Hunts.{taken_twice}
use Rattle.matcher.proofs.hunt.may_take.Goals as goal

pub returns-then-not-is_new : goal.returns-then-not-is_new
returns-then-not-is_new c = λ _ whole h e.
    let task = c.args.task.now in
    let size = length-map task.graph.now.atoms.items term_of in
    let all = h.embeds.one_each in
    iff_false c.is_new.ensures c.if-not-is_new.true
    (λ inside. taken_twice task c.args.image.now whole c.args.stop.place c.args.atom c.len.result
    (omega (arith, size, all, c.len.ensures)) (omega (arith, c.requires.room, c.len.ensures))
    (omega (arith, c.requires.place, c.len.ensures)) c.requires.atom c.requires.free inside h e)

pub returns-then-not-keeps_groups : goal.returns-then-not-keeps_groups
returns-then-not-keeps_groups c = λ _ whole h e.
    let task = c.args.task.now in
    let all : c.len.result ≡ length task.graph.now.atoms.items = omega
    (arith, c.len.ensures, task.graph.now.atoms.ok.0) in
    iff_false c.keeps_groups.ensures c.if-not-keeps_groups.true
    (keeps_taken task c.args.image.now whole c.len.result c.from-2.result c.args.atom all h
    (omega (arith, c.requires.place, c.from-2.ensures, all)) (ap (λ k. slice_index whole k) c.from-2.ensures ∙ e))

use Rattle.std.proofs.Common.{◌<◌, ◌∙◌, ap, arith, length, sym}
use Rattle.std.proofs.lemmas.List.{get_or_default, length-map}
use Rattle.smarts_parse.specs.Pattern.{term_of}
use Rattle.matcher.proofs.Narrowings.{none_left}
use Rattle.matcher.proofs.answer.lacks_candidate.Goals as goal

pub returns-then-word-eq0 : goal.returns-then-word-eq0
returns-then-word-eq0 c = λ _.
    let words = c.args.candidates.now.words.items in
    let few = c.requires.ready.searchable.few in
    let size = length-map c.args.task.now.graph.now.atoms.items term_of in
    let room : c.loop-place.place < length words = omega
    (arith, few, size, c.args.candidates.now.room, c.args.candidates.now.words.ok.0, c.loop-place-test.true) in
    none_left c.args.task.now words c.loop-place.place c.requires.candidates
    (omega (arith, ap length c.atoms.ensures.value)) (omega (arith, size, c.loop-place-test.true))
    (sym (c.index-word.ensures ∙ get_or_default words c.loop-place.place c.index-word.result.now 0 room)
    ∙ c.if-word-eq0.true)

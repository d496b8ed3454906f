use Rattle.std.proofs.Common.{◌≡◌, ◌∙◌, arith, length, sym}
use Rattle.std.proofs.lemmas.Bool.{not-true}
use Rattle.std.proofs.lemmas.List.{length-map}
use Rattle.smarts_parse.specs.Pattern.{term_of}
use Rattle.matcher.proofs.Hunts.{none_taken, none_used}
use Rattle.matcher.proofs.answer.finds_none.Goals as goal

pub returns : goal.returns
returns c = λ t w.
    let task = c.args.task.now in
    let items = task.graph.now.atoms.items in
    let all : c.loop-place.place ≡ length items = omega
    (arith, c.loop-place-test.false, c.loop-place.auto.place-end, c.len-place-end.ensures) in
    let free = rw c.atoms.ensures.value at c.loop-place.invariant in
    c.may_continue.ensures.none (not-true _ t) w.0
    (none_taken task c.loop-place.image w.0 c.loop-place.place (all ∙ sym (length-map items term_of)) free w.1)

pub may_continue-requires-clause-used : goal.may_continue-requires-clause-used
may_continue-requires-clause-used c = none_used c.args.task.now c.loop-place.image

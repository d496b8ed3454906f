use Rattle.std.proofs.Common.{◌≡◌, get_or, subst}
use Rattle.std.proofs.lemmas.Bool.{iff_false}
use Rattle.matcher.proofs.Hunts.{asked_at}
use Rattle.matcher.proofs.hunt.may_close.Goals as goal

pub returns-in-Some : goal.returns-in-Some
returns-in-Some c = λ none whole h e.
    let task = c.args.task.now in
    let bond = c.index-joining.result.now in
    let is = subst (λ k. bond ≡ get_or task.graph.now.bonds.items k bond) c.from.ensures
    c.index-joining.ensures in
    iff_false c.are_joined_by.ensures none (asked_at task c.args.image.now whole c.args.place c.in-Some.from
    c.args.bond c.args.atom bond c.in-Some.ensures.asks c.in-Some.ensures.bond is h e)

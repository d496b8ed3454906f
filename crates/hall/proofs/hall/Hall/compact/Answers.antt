-- The turn adds the one event of the call, or none where all turns were taken.
use Rattle.std.proofs.Common.{rules}
use Rattle.store_machine.specs.declared.machine.Event.TheVariants.{Compact}
use Rattle.hall.proofs.Asking.{from-err}
use Rattle.hall.proofs.Calls.{compact-call}
use Rattle.hall.proofs.Turning.{ended-as, gave-up, names-anyones}
use Rattle.hall.proofs.hall.Hall.compact.Goals as goal

pub returns-in_default-clause-answered : goal.returns-in_default-clause-answered
returns-in_default-clause-answered g c =
    let facts = from-err _ _ _ c.in_default.is c.turn.follows.holds-at-none in
    gave-up _ c.laws.ensures.stay c.args.self.now c.args.pass.now _ c.requires.of facts.0 facts.1

pub end-requires-clause-names : goal.end-requires-clause-names
end-requires-clause-names g c =
    names-anyones _ c.args.self.now c.args.pass.now _ _ c.in-Ok.turn.value c.compact-answer.new.self Compact _ _
    c.requires.of c.in-Ok.ensures.sees c.value.ensures.value c.compact-answer.ensures.adds
    (compact-call c.compact-answer.result) c.compact-answer.ensures.not_worn c.compact-answer.ensures.told (λ s n. tt)

pub returns-clause-answered : goal.returns-clause-answered
returns-clause-answered g c =
    ended-as _ c.laws.ensures.stay c.args.self.now c.args.pass.now _ c.in-Ok.turn.pass.now c.in-Ok.turn.value
    c.compact-answer.new.self c.in-Ok.turn.count _ _ c.requires.of
    (search rules) c.in-Ok.ensures.on c.in-Ok.ensures.sees _ c.end.ensures.added
    (search rules) c.compact-answer.ensures.told c.compact-answer.ensures.not_worn

-- The turn adds the one event of the call, or none where all turns were taken.
use Rattle.std.proofs.Common.{rules, subst, sym}
use Rattle.store_machine.specs.declared.machine.Event.TheVariants.{Fetch}
use Rattle.store_core.specs.Stored.{HoldsPin}
use Rattle.hall.proofs.Asking.{from-err, store-holds}
use Rattle.hall.proofs.Calls.{other-call}
use Rattle.hall.proofs.Turning.{ended-as, gave-up, held-at, names-call}
use Rattle.hall.proofs.hall.Hall.fetch.Goals as goal

pub returns-in_default-clause-answered : goal.returns-in_default-clause-answered
returns-in_default-clause-answered g c =
    let facts = from-err _ _ _ c.in_default.is c.turn.follows.holds-at-none in
    gave-up _ c.laws.ensures.stay c.args.self.now c.args.pass.now _ c.requires.of facts.0 facts.1

pub fetch-answer-requires-clause-held : goal.fetch-answer-requires-clause-held
fetch-answer-requires-clause-held g c =
    let sees = c.in-Ok.ensures.sees in
    let held = held-at _ c.laws.ensures.stay c.args.pass.now _ _ c.args.pin.now.slot c.args.pin.now.version sees
    c.requires.held in
    subst (λ v. HoldsPin v.store.value.memory c.args.pin.now.slot c.args.pin.now.version) (sym c.value.ensures.value)
    (store-holds _ c.in-Ok.turn.value.store.value _ c.args.pin.now.slot c.requires.held.owner c.args.pin.now.version
    sees.standing.stands.ends held)

pub end-requires-clause-names : goal.end-requires-clause-names
end-requires-clause-names g c =
    let sees = c.in-Ok.ensures.sees in
    let k = c.requires.held in
    let held = held-at _ c.laws.ensures.stay c.args.pass.now _ _ c.args.pin.now.slot c.args.pin.now.version sees
    k in
    names-call _ c.args.pass.now _ _ c.in-Ok.turn.value c.fetch-answer.new.self
    (Fetch c.args.pin.now.slot c.args.want.now c.args.from c.args.limit)
    _ _ k.owner sees c.value.ensures.value c.fetch-answer.ensures.adds
    (other-call (Fetch c.args.pin.now.slot c.args.want.now c.args.from c.args.limit) _ c.fetch-answer.result)
    c.fetch-answer.ensures.not_worn c.fetch-answer.ensures.told k.own (c.args.pin.now.version, held)

pub returns-clause-answered : goal.returns-clause-answered
returns-clause-answered g c =
    ended-as _ c.laws.ensures.stay c.args.self.now c.args.pass.now _ c.in-Ok.turn.pass.now c.in-Ok.turn.value
    c.fetch-answer.new.self c.in-Ok.turn.count _ _ c.requires.of
    (search rules) c.in-Ok.ensures.on c.in-Ok.ensures.sees _ c.end.ensures.added
    (search rules) c.fetch-answer.ensures.told c.fetch-answer.ensures.not_worn

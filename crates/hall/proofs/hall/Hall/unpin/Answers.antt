-- The turn adds the one event of the call, or none where all turns were taken.
use Rattle.std.proofs.Common.{rules, subst, sym}
use Rattle.store_machine.specs.declared.machine.Event.TheVariants.{Unpin}
use Rattle.store_core.specs.Stored.{HoldsPin}
use Rattle.hall.proofs.Asking.{from-err, store-holds}
use Rattle.hall.proofs.Calls.{other-call}
use Rattle.hall.proofs.Turning.{ended-as, gave-up, held-at, names-call}
use Rattle.hall.proofs.hall.Hall.unpin.Goals as goal

pub returns-in_default-clause-answered : goal.returns-in_default-clause-answered
returns-in_default-clause-answered g c =
    let facts = from-err _ _ _ c.in_default.is c.turn.follows.holds-at-none in
    gave-up _ c.laws.ensures.stay c.args.self.now c.args.pass.now _ c.requires.of facts.0 facts.1

pub unpin-answer-requires : goal.unpin-answer-requires
unpin-answer-requires g c =
    let sees = c.in-Ok.ensures.sees in
    let held = held-at _ c.laws.ensures.stay c.args.pass.now _ _ c.args.pin.slot c.args.pin.version sees
    c.requires.held in
    record {
      held = subst (λ v. HoldsPin v.store.value.memory c.args.pin.slot c.args.pin.version) (sym c.value.ensures.value)
          (store-holds _ c.in-Ok.turn.value.store.value _ c.args.pin.slot c.requires.held.owner c.args.pin.version
          sees.standing.stands.ends held);
    }

pub end-requires-clause-names : goal.end-requires-clause-names
end-requires-clause-names g c =
    let sees = c.in-Ok.ensures.sees in
    let k = c.requires.held in
    let held = held-at _ c.laws.ensures.stay c.args.pass.now _ _ c.args.pin.slot c.args.pin.version sees k in
    names-call _ c.args.pass.now _ _ c.in-Ok.turn.value c.unpin-answer.new.self (Unpin c.args.pin.slot)
    _ _ k.owner sees c.value.ensures.value c.unpin-answer.ensures.adds
    (other-call (Unpin c.args.pin.slot) _ c.unpin-answer.result)
    c.unpin-answer.ensures.not_worn c.unpin-answer.ensures.told k.own (c.args.pin.version, held)

pub returns-clause-answered : goal.returns-clause-answered
returns-clause-answered g c =
    ended-as _ c.laws.ensures.stay c.args.self.now c.args.pass.now _ c.in-Ok.turn.pass.now c.in-Ok.turn.value
    c.unpin-answer.new.self c.in-Ok.turn.count _ _ c.requires.of
    (search rules) c.in-Ok.ensures.on c.in-Ok.ensures.sees _ c.end.ensures.added
    (search rules) c.unpin-answer.ensures.told c.unpin-answer.ensures.not_worn

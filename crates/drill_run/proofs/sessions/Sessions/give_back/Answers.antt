use Rattle.std.proofs.Common.{◌≡◌, ◌<◌, ap, arith, length, List, subst, sym}
use Rattle.session_acts.specs.Cursors.{unpins}
use Rattle.session_acts.specs.Pins.{AreHeld}
use Rattle.session_run.specs.Opened.{opened}
use Rattle.session_run.specs.Walks.{cursors_of}
use Rattle.session_run.specs.declared.respond.Responder.{Responder}
use Rattle.store_core.specs.Stored.{HoldsPin}
use Rattle.drill_run.specs.Talks.{Uses}
use Rattle.drill_run.proofs.Closing.{given-more, held-own}
use Rattle.drill_run.proofs.sessions.Sessions.give_back.Goals as goal

pub close_all-requires : goal.close_all-requires
close_all-requires c =
    let i = c.loop-responder.invariant in
    let whole : length c.deref_mut-responder-items.result.now ≡ length c.args.self.now.responders.items =
    ap (λ (l : List Responder). length l) c.deref_mut-responder-items.ensures.value in
    subst (λ (r : Responder). AreHeld (HoldsPin c.loop-responder.world.memory) (cursors_of (opened r.cursors)))
    c.responder-item.is (held-own c.responder-item.result i
    (omega (arith, c.loop-responder-test.true, whole, i.number)) c.responder-item.is)

pub loop-responder-preserved : goal.loop-responder-preserved
loop-responder-preserved c =
    let i = c.loop-responder.invariant in
    let k = c.loop-responder.responder-index in
    let whole : length c.deref_mut-responder-items.result.now ≡ length c.args.self.now.responders.items =
    ap (λ (l : List Responder). length l) c.deref_mut-responder-items.ensures.value in
    let less : k < length c.loop-responder.responder-items =
    omega (arith, c.loop-responder-test.true, whole, i.number) in
    let uses = c.in-Ok.ensures in
    given-more c.responder-item.result i less c.responder-item.is _
    (subst (λ (r : Responder). Uses c.loop-responder.world c.close_all.new.service
    (unpins (cursors_of (opened r.cursors)))) (sym c.responder-item.is)
    (record { makes = record { made = uses.makes.made }; pins = uses.pins; bounds = uses.bounds }))

-- The steps that end a turn keep the rule.
use Rattle.std.proofs.Common.{rules, ap, ◌∙◌, ◌∷◌, ◌≡◌, ◌+◌, [], Some, refl, arith}
use mathlib.Core.Option.{none}
use Rattle.atomic_table.specs.Table.{rest, step}
use Rattle.turn_gate.specs.Steps.{sat}
use Rattle.turn_gate.proofs.Adding.{adds, releases}
use Rattle.turn_gate.proofs.Lists.{empty_is}
use Rattle.turn_gate.proofs.Turns.{added_of}
use Rattle.turn_gate.proofs.gate.Gate.finish.Goals as goal

pub store-requires : goal.store-requires
store-requires g c =
    let m = c.args.pass.now.seat.me in
    let x = c.args.taken.value in
    let names = c.requires.names in
    let turn = c.requires.turn in
    let e = c.exchange-left.ensures in
    let held : c.exchange-left.new.seat.me ≡ sat m.0 ((0, Some x) ∷ []) = e.3 ∙
    ap (λ l. sat m.0 ((0, Some x) ∷ rest l)) turn.holds in (
      e.0 ∙ turn.same,
      search rules,
      rw held (adds _ _ _ _ _ _ _ _ _ x names.origin names.event _ turn.stage names.of (empty_is _ turn.settled) refl
          names.is_own names.told names.standing
          (let t = c.args.self.now.told in omega (arith, turn.counted, turn.room, t)) (ap (λ n. n + 1) turn.counted)),
    )

pub store-requires-2 : goal.store-requires-2
store-requires-2 g c =
    let e = c.exchange-left.ensures in
    let added = c.store.ensures.2 in (
      c.store.ensures.0 ∙ (e.0 ∙ c.requires.turn.same),
      search rules,
      rw added.sees (releases _ g.V.Stands.tells _ _ _ _ _ _
          (step c.args.self.now.table.shared.table_id.slots 1 0 0 none) added.value added.origin
          c.args.self.now.sized.1 (omega arith) added.of added.held added.standing),
    )

pub returns-clause-added : goal.returns-clause-added
returns-clause-added g c =
    let m = c.args.pass.now.seat.me in
    let x = c.args.taken.value in
    let e = c.exchange-left.ensures in
    added_of _ _ _ _ c.args.pass.now _ _ x _ _
    (e.3 ∙ ap (λ l. sat m.0 ((0, Some x) ∷ rest l)) c.requires.turn.holds)
    c.store.ensures.2 c.store-2.ensures.2

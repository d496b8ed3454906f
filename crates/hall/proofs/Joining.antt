-- The pins of a pass that was joined.
use Rattle.std.proofs.Common.{◌≡◌, ◌++◌, ◌∙◌, ap, Bool, inl, inr, List, [], subst, sym, true, ℕ}
use Rattle.store_machine.specs.Laws.{PinsStay}
use Rattle.store_machine.specs.Machine.{Holds}
use Rattle.store_machine.specs.Runs.{IsCalm, IsRun}
use Rattle.store_machine.specs.Searches.{KeepsPin}
use Rattle.store_machine.specs.declared.machine.State.{State}
use Rattle.store_machine.specs.declared.machine.Step.{Step}
use Rattle.turn_gate.specs.Numbers.{has, own}
use Rattle.turn_gate.proofs.Lists.{either_number, has_left, has_right}
use Rattle.hall.specs.declared.hall.HallPass.{HallPass}
use Rattle.hall.specs.declared.kept.Origin.{Origin}
use Rattle.hall.specs.Answers.{TheCalls}
use Rattle.hall.specs.Histories.{after}
use Rattle.hall.specs.Passes.{HasBoth, HoldsPin, IsFrom, Merged, by, known}
use Rattle.hall.proofs.Numbers.{no-calls}
use Rattle.hall.proofs.Pins.{Kept, held-before}
use Rattle.hall.proofs.Runs.{calm-parts, run-parts}

module _ {D : Type 0} (stay : PinsStay) (p q : HallPass D) (o : Origin D) (of : IsFrom o p) (rest : List Step)
    (seen : (known q).seen ≡ (known p).seen ++ rest) (none : own by (known p).numbers rest ≡ [])
    (run : IsRun o.state (known q).seen (after o.state (known q).seen)) (calm : IsCalm (known q).seen) where
  abbrev mine : ℕ → Bool
  mine = has (known p).numbers

  abbrev old : State
  old = after o.state (known p).seen

  abbrev new : State
  new = after o.state (known q).seen

  later-run : IsRun old rest new
  later-run = (run-parts (known p).seen rest o.state new (subst (λ (l : List Step). IsRun o.state l new) seen run)).1

  later-calm : IsCalm rest
  later-calm = (calm-parts (known p).seen rest (subst IsCalm seen calm)).1

  -- a pin of one of the pass's numbers that is held later was held by the pass
  back : (slot n version : ℕ) → mine n ≡ true → Holds new slot n version → HoldsPin p slot version
  back slot n version is h =
      let kept : Kept old [] slot n version = subst (λ (cs : TheCalls). Kept old cs slot n version)
      (no-calls (known p).numbers rest none)
      (held-before mine rest old new slot n version later-run later-calm is h) in
      elim kept [
        | inl b ↦ record { origin = o; of = of; owner = n; own = is; held = b.0 }
        | inr b ↦ absurd b
      ]

  -- and one that the pass holds is held later
  forth : (slot version : ℕ) (k : HoldsPin p slot version) → Holds new slot k.owner version
  forth slot version k =
      let same : k.origin ≡ o = cc (k.of, of) in
      let held : Holds old slot k.owner version =
      subst (λ (i : Origin D). Holds (after i.state (known p).seen) slot k.owner version) same k.held in
      stay old new rest mine slot k.owner version later-run later-calm k.own held
      (subst (KeepsPin slot) (sym (no-calls (known p).numbers rest none)) tt)

pub both-pins : {D : Type 0} → PinsStay → (p r q : HallPass D) → Merged p r q → HasBoth p r q
both-pins {D} stay p r q m o of run calm slot version =
    let of-p : IsFrom o p = sym m.origin ∙ of in
    let of-r : IsFrom o r = sym m.origin_other ∙ of in
    let numbers : (n : ℕ) → has (known q).numbers n ≡ has ((known p).numbers ++ (known r).numbers) n =
    λ n. ap (λ (l : List ℕ). has l n) m.numbers in (
      λ k.
          let same : k.origin ≡ o = cc (k.of, of) in
          let held : Holds (after o.state (known q).seen) slot k.owner version =
          subst (λ (i : Origin D). Holds (after i.state (known q).seen) slot k.owner version) same k.held in
          elim (either_number (known p).numbers (known r).numbers k.owner (sym (numbers k.owner) ∙ k.own)) [
            | inl is ↦ inl (back stay p q o of-p m.later m.seen m.none run calm slot k.owner version is held)
            | inr is ↦ inr (back stay r q o of-r m.later_other m.seen_other m.none_other run calm slot k.owner version
                is held)
          ],
      λ either. elim either [
        | inl k ↦ record {
          origin = o;
          of = of;
          owner = k.owner;
          own = numbers k.owner ∙ has_left (known p).numbers (known r).numbers k.owner k.own;
          held = forth stay p q o of-p m.later m.seen m.none run calm slot version k;
        }
        | inr k ↦ record {
          origin = o;
          of = of;
          owner = k.owner;
          own = numbers k.owner ∙ has_right (known p).numbers (known r).numbers k.owner k.own;
          held = forth stay r q o of-r m.later_other m.seen_other m.none_other run calm slot version k;
        }
      ],
    )

-- The pins of both passes after a split.
use Rattle.std.proofs.Common.{◌≡◌, ◌∙◌, ap, inl, inr, List, [], subst, sym, ℕ}
use Rattle.store_core.specs.Calls.{SameHeld}
use Rattle.store_machine.specs.Machine.{Holds, pin_in}
use Rattle.store_machine.specs.declared.machine.State.{State}
use Rattle.store_machine.specs.declared.machine.Step.{Step}
use Rattle.turn_gate.specs.Numbers.{has, own}
use Rattle.turn_gate.specs.Steps.{giving}
use Rattle.turn_gate.specs.declared.known.Known.{Known}
use Rattle.hall.specs.declared.hall.HallPass.{HallPass}
use Rattle.hall.specs.declared.kept.Kept as store
use Rattle.hall.specs.declared.kept.Origin.{Origin}
use Rattle.hall.specs.Answers.{TheCalls}
use Rattle.hall.specs.Histories.{after}
use Rattle.hall.specs.Passes.{HoldsNone, HoldsPin, by, known}
use Rattle.hall.proofs.Numbers.{no-calls}
use Rattle.hall.proofs.Pins.{Kept, held-before}

module _ {D : Type 0} where
  -- a pass that has seen no event of its own took no pin
  pub holds-none : (p : HallPass D) → own by (known p).numbers (known p).seen ≡ [] → HoldsNone p
  holds-none p none origin of free run calm slot version k =
      let s : State = origin.state in
      let seen : List Step = (known p).seen in
      let same : k.origin ≡ origin = cc (k.of, of) in
      let held : Holds (after s seen) slot k.owner version =
      subst (λ (i : Origin D). Holds (after i.state seen) slot k.owner version) same k.held in
      let kept : Kept s [] slot k.owner version = subst (λ (cs : TheCalls). Kept s cs slot k.owner version)
      (no-calls (known p).numbers seen none)
      (held-before (has (known p).numbers) seen s (after s seen) slot k.owner version run calm k.own held) in
      elim kept [
        | inl b ↦ (let no = ap (pin_in slot) (sym free) ∙ b.0 in cc no)
        | inr b ↦ b
      ]

  still-held : (p q : HallPass D) → (known q).origin ≡ (known p).origin → (known q).numbers ≡ (known p).numbers
      → (known q).seen ≡ (known p).seen → (slot version : ℕ) → HoldsPin p slot version → HoldsPin q slot version
  still-held p q origin numbers seen slot version k = record {
    origin = k.origin;
    of = origin ∙ k.of;
    owner = k.owner;
    own = ap (λ (l : List ℕ). has l k.owner) numbers ∙ k.own;
    held = subst (λ (l : List Step). Holds (after k.origin.state l) slot k.owner version) (sym seen) k.held;
  }

  -- a pass that gave a number has the pins that it had
  pub gives-no-pin : (p q : HallPass D) → known q ≡ giving (known p) → SameHeld (HoldsPin p) (HoldsPin q)
  gives-no-pin p q is slot version =
      let origin : (known q).origin ≡ (known p).origin =
      ap (λ (v : Known (store.Kept D) Step (Origin D)). v.origin) is in
      let numbers : (known q).numbers ≡ (known p).numbers =
      ap (λ (v : Known (store.Kept D) Step (Origin D)). v.numbers) is in
      let seen : (known q).seen ≡ (known p).seen = ap (λ (v : Known (store.Kept D) Step (Origin D)). v.seen) is in (
        still-held q p (sym origin) (sym numbers) (sym seen) slot version,
        still-held p q origin numbers seen slot version,
      )

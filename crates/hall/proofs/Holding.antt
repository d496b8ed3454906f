-- What each kind of call tells of the pins of a pass.
use Rattle.std.proofs.Common.{◌≡◌, ◌⊎◌, ◌↔◌, ◌==◌, ◌∙◌, ap₂, Bool, eq-eqb, eqb-true, Err, false, inl, inr, [], ◌∷◌, None, Ok, Option, refl, Result, Some, subst, sym, true, ℕ}
use Rattle.std.proofs.lemmas.Bool.{false_from_ne_true, true≢false}
use Rattle.snap_registry.specs.declared.Pin.{Pin as Ticket}
use Rattle.store_machine.specs.Searches.{KeepsPin, unpins}
use Rattle.store_machine.specs.declared.machine.Event.{Event}
use Rattle.store_machine.specs.declared.machine.Event.TheVariants.{Pin, Unpin}
use Rattle.store_machine.specs.declared.machine.Reply.TheVariants as reply
use Rattle.store_core.specs.Calls.{IsReturned, IsTaken, NeedsNone, SameHeld}
use Rattle.store_core.specs.Replies.{pin_calls, unpin_calls}
use Rattle.store_core.specs.declared.words.CallFault.{CallFault}
use Rattle.store_core.specs.declared.words.CallFault.TheVariants as call
use Rattle.hall.specs.declared.hall.HallPass.{HallPass}
use Rattle.hall.specs.Answers.{HasPins, Takes, TheCalls}
use Rattle.hall.specs.Passes.{HoldsPin}
use Rattle.hall.proofs.Calls.{IsCall}

keeps-one : (e : Event) (cs : TheCalls) (worn : Bool) (slot : ℕ) → IsCall e cs worn → unpins slot e ≡ false
    → KeepsPin slot cs
keeps-one e cs true slot none keeps = subst (KeepsPin slot) (sym none) tt
keeps-one e cs false slot one keeps = subst (KeepsPin slot) (sym one.1) (keeps, tt)

takes-none : (e : Event) (cs : TheCalls) (worn : Bool) (slot version : ℕ) → IsCall e cs worn → (e ≡ Pin → ⊥)
    → Takes cs slot version → ⊥
takes-none e cs true slot version none other t = subst (λ l. Takes l slot version) none t
takes-none e cs false slot version one other t =
    let u : Takes ((e, one.0) ∷ []) slot version = subst (λ l. Takes l slot version) one.1 t in
    elim u [ inl x ↦ other x.0 | inr x ↦ x ]

module _ {D : Type 0} (p q : HallPass D) where
  -- a call that is no Pin and no Unpin
  pub same-held : (e : Event) (cs : TheCalls) (worn : Bool) → HasPins p q cs → IsCall e cs worn
      → ((slot : ℕ) → unpins slot e ≡ false) → (e ≡ Pin → ⊥) → SameHeld (HoldsPin p) (HoldsPin q)
  same-held e cs worn pins is keeps other slot version = (
    λ k. elim (pins.before slot version k) [
      | inl b ↦ b.0
      | inr t ↦ absurd (takes-none e cs worn slot version is other t)
    ],
    λ k. pins.kept slot version k (keeps-one e cs worn slot is (keeps slot)),
  )

  pub pin-held : (a : Result (Option Ticket) CallFault) → HasPins p q (pin_calls a) → NeedsNone a
      → (slot version : ℕ) → HoldsPin q slot version ↔ (HoldsPin p slot version ⊎ IsTaken a slot version)
  pin-held (Ok (Some x)) pins memory slot version = (
    λ k. elim (pins.before slot version k) [
      | inl b ↦ inl b.0
      | inr t ↦ inr (elim t [
        | inl u ↦
            let same : reply.Pinned x.slot x.version ≡ reply.Pinned slot version = u.1 in
            (cc same, cc same)
        | inr u ↦ absurd u
      ])
    ],
    λ either. elim either [
      | inl k ↦ pins.kept slot version k (refl, tt)
      | inr is ↦ (pins.took slot version (ap₂ (λ (s w : ℕ). (Pin, reply.Pinned s w) ∷ []) (sym is.0) (sym is.1))).0
    ],
  )
  pin-held (Ok None) pins memory slot version = (
    λ k. elim (pins.before slot version k) [
      | inl b ↦ inl b.0
      | inr t ↦ absurd (elim t [
        | inl u ↦ (let no : reply.NoPin ≡ reply.Pinned slot version = u.1 in cc no)
        | inr u ↦ u
      ])
    ],
    λ either. elim either [ inl k ↦ pins.kept slot version k (refl, tt) | inr is ↦ absurd is ],
  )
  pin-held (Err call.Worn) pins memory slot version = (
    λ k. elim (pins.before slot version k) [ inl b ↦ inl b.0 | inr t ↦ absurd t ],
    λ either. elim either [ inl k ↦ pins.kept slot version k tt | inr is ↦ absurd is ],
  )
  pin-held (Err call.NoMemory) pins memory slot version = absurd memory

  pub pin-apart : (a : Result (Option Ticket) CallFault) → HasPins p q (pin_calls a)
      → (slot version other : ℕ) → IsTaken a slot version → HoldsPin p slot other → ⊥
  pin-apart (Ok (Some x)) pins slot version other is k =
      (pins.took slot version (ap₂ (λ (s w : ℕ). (Pin, reply.Pinned s w) ∷ []) (sym is.0) (sym is.1))).1 other k
  pin-apart (Ok None) pins slot version other is k = is
  pin-apart (Err fault) pins slot version other is k = is

  pub unpin-held : (ticket : Ticket) (a : Result (Unit {0}) CallFault) → HasPins p q (unpin_calls ticket.slot a)
      → NeedsNone a → (slot version : ℕ)
      → HoldsPin q slot version ↔ (HoldsPin p slot version × ¬ IsReturned a ticket slot)
  unpin-held ticket (Ok u) pins memory slot version = (
    λ k. elim (pins.before slot version k) [
      | inl b ↦ (b.0, λ e. true≢false (sym (eq-eqb ticket.slot slot e) ∙ b.1.0))
      | inr t ↦ absurd (elim t [ inl x ↦ (let no : Unpin ticket.slot ≡ Pin = x.0 in cc no) | inr x ↦ x ])
    ],
    λ k. pins.kept slot version k.0
        (false_from_ne_true (ticket.slot == slot) (λ t. k.1 (eqb-true ticket.slot slot t)), tt),
  )
  unpin-held ticket (Err call.Worn) pins memory slot version = (
    λ k. elim (pins.before slot version k) [ inl b ↦ (b.0, λ e. e) | inr t ↦ absurd t ],
    λ k. pins.kept slot version k.0 tt,
  )
  unpin-held ticket (Err call.NoMemory) pins memory slot version = absurd memory

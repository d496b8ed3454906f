-- Who may ask for what a call told, and that a pin of the pass is one of the store's.
use Rattle.std.proofs.Common.{◌≡◌, ◌==◌, ◌∙◌, ap, Bool, Contains, cond, Err, false, List, [], ◌∷◌, map, OnErr, Result, Some, subst, sym, true, ℕ}
use Rattle.disk_edge.specs.Disk.{DiskModel}
use Rattle.snap_registry.specs.declared.Pin.{Pin}
use Rattle.store_machine.proofs.Members.{contains-here, contains-there}
use Rattle.store_machine.specs.Machine.{Holds, pin_in}
use Rattle.store_machine.specs.declared.machine.Event.{Event}
use Rattle.store_machine.specs.declared.machine.Held.{Held}
use Rattle.store_machine.specs.declared.machine.Reply.{Reply}
use Rattle.store_machine.specs.declared.machine.State.{State}
use Rattle.store_core.specs.Stored as core
use Rattle.store_disk.specs.OnDisk.{StandsFor, StoreTerm}
use Rattle.hall.specs.declared.kept.Kept.{Kept}
use Rattle.hall.specs.Answers.{TheCalls}
use Rattle.hall.specs.Histories.{MayAsk, MayTell, told_of}
use Rattle.hall.proofs.Calls.{IsCall, one-event}

same-event : (xs : List (Event × Reply)) (e d : Event) (r q : Reply) → xs ≡ (e, r) ∷ [] → xs ≡ (d, q) ∷ [] → e ≡ d
same-event xs e d r q a b =
    let both : (e, r) ∷ [] ≡ (d, q) ∷ [] = sym a ∙ b in
    let first : (e, r) ≡ (d, q) = cc both in
    ap (λ (p : Event × Reply). p.0) first

-- what is said of an error
pub from-err : {A E : Type 0} (r : Result A E) (e : E) (P : Type 0) → r ≡ Err e → OnErr r P → P
from-err r e P is h = subst (λ q. OnErr q P) is h

-- what a call told is asked by those who may ask it
pub may-call : {D : Type 0} (w : Kept D) (e : Event) (cs : TheCalls) (worn : Bool) → IsCall e cs worn → worn ≡ false
    → told_of w ≡ cs → (s : State) (owner : ℕ) → MayAsk s owner e → MayTell s owner w
may-call w e cs worn is not_worn told s owner may d r here =
    let one = one-event e cs worn is not_worn in
    let same : e ≡ d = same-event (told_of w) e d one.0 r (told ∙ one.1) here in
    subst (MayAsk s owner) same may

pin-there : (ps : List Held) (slot : ℕ) (p : Held) → pin_in slot ps ≡ Some p
    → Contains (map core.pin_of ps) (core.pin_of p)
pin-there [] slot p h = absurd cc
pin-there (x ∷ xs) slot p h =
    elim (x.slot == slot) as (λ b. cond b (Some x) (pin_in slot xs) ≡ Some p
    → Contains (map core.pin_of (x ∷ xs)) (core.pin_of p)) [
      | true ↦ λ e.
          let same : x ≡ p = cc e in
          contains-here (core.pin_of x) (core.pin_of p) (map core.pin_of xs) (ap core.pin_of same)
      | false ↦ λ e. contains-there (core.pin_of x) (core.pin_of p) (map core.pin_of xs) (pin-there xs slot p e)
    ] h

pub store-holds : {D : Type 0} (model : DiskModel D) (store : StoreTerm D) (s : State) (slot owner version : ℕ)
    → StandsFor model store s → Holds s slot owner version → core.HoldsPin store.memory slot version
store-holds model store s slot owner version stands held =
    subst (λ (l : List Pin). Contains l (record { slot = slot; version = version })) stands.memory.stands.pins
    (pin-there s.pins slot (record { slot = slot; owner = owner; version = version }) held)

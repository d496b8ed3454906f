-- Where a pin is taken its slot was free, and the pin is new.
use Rattle.std.proofs.Common.{◌≡◌, ◌++◌, ◌≤◌, arith, List, ◌∷◌, None, refl, Some, subst, sym, ℕ}
use Rattle.store_machine.specs.History.{head}
use Rattle.store_machine.specs.Machine.{Holds, pin_in}
use Rattle.store_machine.specs.Searches.{KeepsPin}
use Rattle.store_machine.specs.Told.{IsTold, PinsAreNew, SlotsWereFree}
use Rattle.store_machine.specs.declared.machine.Event.TheVariants.{Pin}
use Rattle.store_machine.specs.declared.machine.Held.{Held}
use Rattle.store_machine.specs.declared.machine.Reply.TheVariants.{Pinned}
use Rattle.store_machine.specs.declared.machine.Step.{Step}
use Rattle.store_machine.proofs.Cuts.{Calls, called}
use Rattle.store_machine.proofs.PagesRead.{pins-stay}
use Rattle.store_machine.proofs.Paging.{Taken, taken}
use Rattle.store_machine.proofs.Told.{longer, told-is-there}

not_both : (slot : ℕ) (ps : List Held) (p : Held) → pin_in slot ps ≡ None → pin_in slot ps ≡ Some p → ⊥
not_both slot ps p free held = cc

pub slots-were-free : SlotsWereFree
slots-were-free s s' steps own slot v v' before pages later run calm e keeps =
    let a = called own s s' steps before (Pin, Pinned slot v) (pages ++ (Pin, Pinned slot v') ∷ later) run calm e in
    let b = called own a.step.after s' a.back pages (Pin, Pinned slot v') later a.from a.calm_from a.last_calls in
    let x : Step = a.step in
    let y : Step = b.step in
    let first : Taken x.before x.after slot x.owner v =
    taken x.before x.after x.owner x.event x.reply slot v a.event a.reply a.is in
    let second : Taken y.before y.after slot y.owner v' =
    taken y.before y.after y.owner y.event y.reply slot v' b.event b.reply b.is in
    let still : Holds y.before slot x.owner v =
    pins-stay x.after y.before b.front own slot x.owner v b.to b.calm_to a.by first.held
    (subst (KeepsPin slot) (sym b.first_calls) keeps) in
    not_both slot y.before.pins (record { slot = slot; owner = x.owner; version = v }) second.free still

pub pins-are-new : PinsAreNew
pins-are-new s s' steps own slot version before later sound run calm e =
    let a = called own s s' steps before (Pin, Pinned slot version) later run calm e in
    let x : Step = a.step in
    let t : Taken x.before x.after slot x.owner version =
    taken x.before x.after x.owner x.event x.reply slot version a.event a.reply a.is in
    let on : head x.before.history ≤ head s'.history =
    longer x.before s' (x ∷ a.back) (refl, a.is, a.from) (a.calm, a.calm_from) in (
      omega (arith, t.at, on),
      λ v is.
          let le : v ≤ head x.before.history =
          told-is-there s x.before a.front own v sound a.to a.calm_to
          (subst (λ (l : Calls). IsTold l v) (sym a.first_calls) is) in
          omega (arith, le, t.at),
    )

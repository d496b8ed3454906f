-- The row of Fetch, as a store makes it.
use Rattle.std.proofs.Common.{Bool, Contains, Err, List, Ok, refl, subst, sym, true, ℕ}
use Rattle.snap_registry.specs.declared.Pin.{Pin}
use Rattle.store_machine.specs.History.{snapshot}
use Rattle.store_machine.specs.Machine.{IsPage}
use Rattle.store_machine.specs.declared.machine.Event.TheVariants as event
use Rattle.store_machine.specs.declared.machine.Reply.TheVariants as reply
use Rattle.store_machine.specs.declared.machine.State.{State}
use Rattle.store_core.specs.Calls.{Calls}
use Rattle.store_core.specs.Records.{Shared, founds}
use Rattle.store_core.specs.Replies.{fetch_calls}
use Rattle.store_core.specs.Stored.{IsAt, StoreTerm, Stretches}
use Rattle.store_core.specs.declared.words.CallFault.TheVariants as call
use Rattle.store_core.proofs.OneCall.{one-call, serves}
use Rattle.store_core.proofs.Rows.{held-in}

module _ (store : StoreTerm) (s : State) (h : IsAt store s) (pin : Pin) (held : Contains store.pins pin)
    (want : List Bool) (from limit : ℕ) (records : List Shared) where
  pub fetch-page : (last : Bool) → IsPage (snapshot s.history pin.version) want from limit (founds records) last
      → Calls Stretches (λ _. true) store store s (fetch_calls pin.slot want from limit records (Ok last))
  fetch-page last page =
      let owner = held-in pin s.pins h.sound.slots (subst (λ l. Contains l pin) (sym h.stands.pins) held) in
      one-call store store s s owner.0 (event.Fetch pin.slot want from limit) (reply.Page (founds records) last) refl h
      (serves s h.serves, (pin.version, owner.1, page, refl)) h

  -- want of memory
  pub fetch-none : Calls Stretches (λ _. true) store store s
      (fetch_calls pin.slot want from limit records (Err call.NoMemory))
  fetch-none =
      let owner = held-in pin s.pins h.sound.slots (subst (λ l. Contains l pin) (sym h.stands.pins) held) in
      one-call store store s s owner.0 (event.Fetch pin.slot want from limit) reply.NoMemory refl h
      (serves s h.serves, (pin.version, owner.1, refl)) h

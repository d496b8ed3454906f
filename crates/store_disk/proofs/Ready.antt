-- A store that is ready after a step of a copy: what its memory serves.
use Rattle.std.proofs.Common.{◌≡◌, ◌+◌, ◌*◌, ◌≤◌, ◌∙◌, arith, inl, length, None, Option, refl, Some, subst, sym, ℕ}
use Rattle.std.specs.FinMap.{entries}
use Rattle.disk_pair.specs.Term.{Paired, progress_of}
use Rattle.journal_core.specs.Standing.{Standing}
use Rattle.journal_core.specs.declared.format.TheConstants.{LONGEST_PAYLOAD}
use Rattle.journal_core.specs.declared.header.Header.{Header}
use Rattle.store_core.specs.Stored.{IsServing, StandsFor as InMemory, StoreTerm as Memory, served}
use Rattle.store_machine.specs.History.{head, snapshot}
use Rattle.store_machine.specs.Laws.{RunsStaySound}
use Rattle.store_machine.specs.Machine.{Gives}
use Rattle.store_machine.specs.declared.machine.Event.TheVariants.{Compact}
use Rattle.store_machine.specs.declared.machine.Reply.TheVariants as reply
use Rattle.store_machine.specs.declared.machine.State.{State}
use Rattle.store_machine.specs.declared.machine.TheConstants.{LAST_IDENTIFIER}
use Rattle.store_disk.specs.Items.{one_less}
use Rattle.store_disk.specs.OnDisk.{CopyTerm, Follow, HasCopy, IsFollowed, IsReady, Lacks}
use Rattle.store_disk.proofs.Lifts.{sound-after}
use Rattle.store_disk.proofs.Starts.{new_copy, start-serves}
use Rattle.store_disk.proofs.Takes.{takes-one}

-- beside another copy, with the journal that it had
pub ready-beside : {D : Type 0} (m : Memory) (old new : Paired D) (was copy : Option CopyTerm)
    → new.journal ≡ old.journal → ((s : State) × IsServing m s × HasCopy s.history s.copy copy)
    → Follow m.version copy (progress_of new.other) → IsReady m old was → IsReady m new copy
ready-beside {D} m old new was copy same stands copying h = record {
  stands = stands;
  few = h.few;
  bases = subst (λ (j : Standing D). j.header.base_count ≤ 4294967295) (sym same) h.bases;
  place = subst (λ (j : Standing D). j.place ≤ 20 + (5 + LONGEST_PAYLOAD) * (j.header.base_count + m.version))
      (sym same) h.place;
  copying = copying;
}

-- a copy that has an item more
less-serves : RunsStaySound → (m : Memory) (s : State) → IsServing m s → IsServing m (one_less s)
less-serves law m s h =
    let gives : Gives s 0 Compact reply.NoMemory (one_less s) =
    ((h.serves, (omega arith, omega arith)), (takes-one s.copy, inl refl, refl)) in
    record {
      sound = sound-after law s (one_less s) 0 Compact reply.NoMemory gives h.sound;
      serves = h.serves;
      stands = h.stands;
    }

pub item-ready : {D : Type 0} → RunsStaySound → (m : Memory) (old new : Paired D) (c next : CopyTerm)
    → new.journal ≡ old.journal
    → ((s : State) → IsServing m s → Lacks s.history s.copy c → Lacks s.history (one_less s).copy next)
    → ((version : ℕ) → Follow version (Some c) (progress_of old.other)
    → Follow version (Some next) (progress_of new.other))
    → IsReady m old (Some c) → IsReady m new (Some next)
item-ready law m old new c next same lacks follows h =
    let s : State = h.stands.0 in
    ready-beside m old new (Some c) (Some next) same
    (one_less s, less-serves law m s h.stands.1, lacks s h.stands.1 h.stands.2) (follows m.version h.copying) h

pub start-ready : {D : Type 0} → RunsStaySound → (m : Memory) (old new : Paired D) (version left : ℕ) (header : Header)
    → version ≡ m.version
    → ((s : State) → InMemory m (served s) → left ≡ length (entries (snapshot s.history (head s.history))))
    → left ≤ LAST_IDENTIFIER + m.version → header.base_count ≡ left → new.journal ≡ old.journal
    → progress_of new.other ≡ Some (record { header = header; place = 20; bases = 0 })
    → IsReady m old None → IsReady m new (Some (new_copy version left))
start-ready law m old new version left header is count few bases same progress h =
    let s : State = h.stands.0 in
    let serving = h.stands.1 in
    let started = start-serves law m s left (count s serving.stands) h.stands.2 serving in
    let at : head s.history ≡ version = sym (is ∙ serving.stands.version) in
    let copying : Follow m.version (Some (new_copy version left))
    (Some (record { header = header; place = 20; bases = 0 })) = record {
      bases = omega (arith, bases);
      few = omega (arith, bases, few, h.few);
      fit = tt;
      past = omega (arith, is);
      place = omega arith;
    } in
    ready-beside m old new None (Some (new_copy version left)) same (
      started.0,
      started.1,
      subst (λ v. Lacks started.0.history started.0.copy (new_copy v left)) at started.2,
    )
    (subst (Follow m.version (Some (new_copy version left))) (sym progress) copying) h

-- how far the copy is, as a call on it asks
pub followed : {D : Type 0} (m : Memory) (pair : Paired D) (c : CopyTerm) → IsReady m pair (Some c)
    → IsFollowed c (progress_of pair.other)
followed m pair c h = (m.version, h.few, h.copying)

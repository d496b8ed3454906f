-- The answers of the calls that change no more than pins, each of which is a step beside the disks.
use Rattle.std.proofs.Common.{◌≡◌, Err, List, Ok, Option, refl, Result, true, ℕ}
use Rattle.disk_edge.specs.Disk.{DiskModel}
use Rattle.disk_pair.specs.Pairs.{MayShow, PairOpensTo as MayOpen, State as PairState}
use Rattle.disk_pair.specs.Stands.{StandsFor as StandsOnDisks}
use Rattle.disk_pair.specs.Term.{OfEachPair, Paired}
use Rattle.store_core.specs.Beside.{CallsServe, IsOfMemory}
use Rattle.store_core.specs.Calls.{Calls, is_worn}
use Rattle.store_core.specs.Replies.{calls}
use Rattle.store_core.specs.Stored as memory
use Rattle.store_core.specs.Stored.{StoreTerm as Memory}
use Rattle.store_core.specs.declared.words.CallFault.{CallFault}
use Rattle.store_core.specs.declared.words.CallFault.TheVariants as call
use Rattle.store_machine.specs.Laws.{RunsStaySound}
use Rattle.store_machine.specs.Rebases.{RebasesKeepHeads}
use Rattle.store_machine.specs.Runs.{is_call}
use Rattle.store_machine.specs.declared.machine.Event.{Event}
use Rattle.store_machine.specs.declared.machine.Reply.{Reply}
use Rattle.store_machine.specs.declared.machine.Reply.TheVariants as reply
use Rattle.store_machine.specs.declared.machine.State.{State}
use Rattle.store_disk.specs.OnDisk.{CopyTerm, IsReady, StandsFor, StoreTerm}
use Rattle.store_disk.specs.Stored.{Stretches}
use Rattle.store_disk.proofs.Lifts.{lifted, still-ready}
use Rattle.store_disk.proofs.Steps.{all}

-- what the store in memory says of a call
abbrev Says : {X : Type 0} → Memory → Memory → Event → (X → Reply) → Result X CallFault → Type 0
Says old new e of r =
    (s : State) → memory.IsAt old s → Calls memory.Stretches all old new s (calls e of r)

-- such a call leaves a store that is ready
pub ready-after : {X D : Type 0} → CallsServe → (e : Event) (of : X → Reply) (r : Result X CallFault) → IsOfMemory e
    → (is_worn r ≡ true → ⊥) → (old new : Memory) (pair : Paired D) (copy : Option CopyTerm) → Says old new e of r
    → IsReady old pair copy → IsReady new pair copy
ready-after law e of (Ok x) local worn old new pair copy says =
    still-ready old new pair copy e (of x) (law old new e (of x) local says)
ready-after law e of (Err call.Worn) local worn old new pair copy says = absurd (worn refl)
ready-after law e of (Err call.NoMemory) local worn old new pair copy says =
    still-ready old new pair copy e reply.NoMemory (law old new e reply.NoMemory local says)

-- and is one of the store on two disks
pub lifted-call : {X D : Type 0} (model : DiskModel D)
    → ((d : D) (c : List ℕ) → model.images_between d (model.clock d) (model.clock d) c → model.images d c)
    → RunsStaySound → RebasesKeepHeads → (store : StoreTerm D)
    → ((t : PairState) → StandsOnDisks model store.pair t → OfEachPair model store.pair (MayOpen (MayShow t)))
    → (m : Memory) (s : State) → StandsFor model store s → CallsServe
    → (e : Event) (of : X → Reply) → is_call e ≡ true → IsOfMemory e → (r : Result X CallFault)
    → (is_worn r ≡ true → ⊥) → Says store.memory m e of r
    → Calls (Stretches model) all store (record store { memory = m }) s (calls e of r)
lifted-call model only-now law heads store leaves m s h serve e of is local (Ok x) worn says =
    lifted model only-now law heads store leaves m s e (of x) is h
    (serve store.memory m e (of x) local says s h.memory)
lifted-call model only-now law heads store leaves m s h serve e of is local (Err call.Worn) worn says =
    absurd (worn refl)
lifted-call model only-now law heads store leaves m s h serve e of is local (Err call.NoMemory) worn says =
    lifted model only-now law heads store leaves m s e reply.NoMemory is h
    (serve store.memory m e reply.NoMemory local says s h.memory)

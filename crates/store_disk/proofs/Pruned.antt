-- A prune beside the disks.
use Rattle.std.proofs.Common.{◌≡◌, ◌∙◌, ap, arith, List, None, Ok, Option, option_map, refl, Some, subst, sym, ℕ}
use Rattle.disk_edge.specs.Disk.{DiskModel}
use Rattle.disk_pair.specs.Pairs.{MayShow, PairOpensTo as MayOpen, State as PairState}
use Rattle.disk_pair.specs.Stands.{StandsFor as StandsOnDisks}
use Rattle.disk_pair.specs.Term.{OfEachPair, Paired, progress_of}
use Rattle.store_core.specs.Calls.{Calls}
use Rattle.store_core.specs.Copied.{KeepsCopied, KeepsCopy, Prunes}
use Rattle.store_core.specs.Replies.{prune_calls}
use Rattle.store_core.specs.Stored.{IsServing, StandsFor as InMemory, StoreTerm as Memory, served}
use Rattle.store_machine.specs.Laws.{RunsStaySound}
use Rattle.store_machine.specs.Machine.{Gives}
use Rattle.store_machine.specs.Rebases.{RebasesKeepHeads}
use Rattle.store_machine.specs.declared.machine.Copying.{Copying}
use Rattle.store_machine.specs.declared.machine.Event.TheVariants.{Prune}
use Rattle.store_machine.specs.declared.machine.History.{History}
use Rattle.store_machine.specs.declared.machine.Reply.TheVariants.{Pruned}
use Rattle.store_machine.specs.declared.machine.State.{State}
use Rattle.store_disk.specs.OnDisk.{CopyTerm, Follow, HasCopy, IsReady, StandsFor, StoreTerm}
use Rattle.store_disk.specs.Stored.{Stretches}
use Rattle.store_disk.proofs.Lifts.{sound-after, still-call}
use Rattle.store_disk.proofs.Steps.{all}

-- the version of the copy that runs
copied : (h : History) (copy : Option Copying) (c : Option CopyTerm) → HasCopy h copy c
    → option_map (λ c. c.version) c ≡ option_map (λ (x : Copying). x.version) copy
copied h copy None none = ap (option_map (λ (x : Copying). x.version)) (sym none)
copied h copy (Some c) l = ap (option_map (λ (x : Copying). x.version)) (sym l.is)

keeps : KeepsCopied → (memory : Memory) (s : State) (c : Option CopyTerm) (version : Option ℕ)
    → version ≡ option_map (λ c. c.version) c → IsServing memory s → HasCopy s.history s.copy c → KeepsCopy version s
keeps law memory s c version is serving has =
    (is ∙ copied s.history s.copy c has, (law s serving.sound serving.serves).1)

-- what memory says of it
abbrev pub Says : Memory → Memory → Option ℕ → ℕ → Type 0
Says old new version dropped = (s : State) → InMemory old (served s) → KeepsCopy version s → Prunes new s dropped

serves-after : RunsStaySound → (old new : Memory) (s : State) (n : ℕ) → IsServing old s → (p : Prunes new s n)
    → Gives s 0 Prune (Pruned n) (record s { kept = p.left }) × IsServing new (record s { kept = p.left })
serves-after law old new s n serving p =
    let gives : Gives s 0 Prune (Pruned n) (record s { kept = p.left }) =
    ((serving.serves, (omega arith, omega arith)), p.gives) in (
      gives,
      record {
        sound = sound-after law s (record s { kept = p.left }) 0 Prune (Pruned n) gives serving.sound;
        serves = serving.serves;
        stands = p.stands;
      },
    )

pub pruned-ready : {D : Type 0} → RunsStaySound → KeepsCopied → (old new : Memory) (pair : Paired D)
    (copy : Option CopyTerm) (version : Option ℕ) (n : ℕ) → version ≡ option_map (λ c. c.version) copy
    → Says old new version n → new.version ≡ old.version → IsReady old pair copy → IsReady new pair copy
pruned-ready law keep old new pair copy version n is says same was =
    let s : State = was.stands.0 in
    let p = says s was.stands.1.stands (keeps keep old s copy version is was.stands.1 was.stands.2) in
    record {
      stands = (record s { kept = p.left }, (serves-after law old new s n was.stands.1 p).1, was.stands.2);
      few = omega (arith, same, was.few);
      bases = was.bases;
      place = omega (arith, same, was.place);
      copying = subst (λ n. Follow n copy (progress_of pair.other)) (sym same) was.copying;
    }

pub pruned-call : {D : Type 0} (model : DiskModel D)
    → ((d : D) (c : List ℕ) → model.images_between d (model.clock d) (model.clock d) c → model.images d c)
    → RunsStaySound → RebasesKeepHeads → (store : StoreTerm D)
    → ((t : PairState) → StandsOnDisks model store.pair t → OfEachPair model store.pair (MayOpen (MayShow t)))
    → KeepsCopied → (m : Memory) (s : State) → StandsFor model store s → (version : Option ℕ) (n : ℕ)
    → version ≡ option_map (λ c. c.version) store.copy → Says store.memory m version n
    → Calls (Stretches model) all store (record store { memory = m }) s (prune_calls (Ok n))
pruned-call model only-now law heads store leaves keep m s h version n is says =
    let p = says s h.memory.stands (keeps keep store.memory s store.copy version is h.memory h.copy) in
    let after = serves-after law store.memory m s n h.memory p in
    still-call model only-now law heads store leaves m s (record s { kept = p.left }) 0 Prune (Pruned n) refl h after.0
    (record {
      memory = after.1;
      header = h.header;
      pair = h.pair;
      copy = h.copy;
      copied = h.copied;
      doubts = h.doubts;
      counts = h.counts;
    })

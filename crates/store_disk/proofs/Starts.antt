-- A copy starts.
use Rattle.std.proofs.Common.{◌≡◌, ◌-◌, ◌<◌, ◌∙◌, ap, arith, inl, length, List, [], ◌∷◌, map, None, refl, Some, subst, sym, ℕ}
use Rattle.std.proofs.lemmas.List.{drop_all}
use Rattle.std.specs.FinMap.{entries}
use Rattle.disk_edge.specs.Disk.{DiskModel}
use Rattle.disk_pair.specs.Gives.{empty_copy}
use Rattle.disk_pair.specs.Pairs.{MayShow as PairMayShow, PairOpensTo as PairMayOpen, State as PairState}
use Rattle.disk_pair.specs.Stands.{StandsFor as StandsOnDisks}
use Rattle.disk_pair.specs.Term.{AtEachPair, Goes, Paired, disk_a, disk_b, next_header, progress_of}
use Rattle.journal_core.specs.declared.header.Header.{Header}
use Rattle.store_core.specs.Calls.{Calls}
use Rattle.store_core.specs.Stored.{IsServing, StoreTerm as Memory}
use Rattle.store_machine.specs.History.{head, snapshot}
use Rattle.store_machine.specs.Laws.{RunsStaySound}
use Rattle.store_machine.specs.Machine.{Gives, copying, now}
use Rattle.store_machine.specs.Rebases.{RebasesKeepHeads}
use Rattle.store_machine.specs.declared.machine.Change.{Change}
use Rattle.store_machine.specs.declared.machine.Event.TheVariants.{Compact}
use Rattle.store_machine.specs.declared.machine.Reply.TheVariants.{More}
use Rattle.store_machine.specs.declared.machine.State.{State}
use Rattle.store_machine.specs.declared.machine.TheConstants.{LAST_GENERATION}
use Rattle.store_disk.specs.Items.{counted}
use Rattle.store_disk.specs.OnDisk.{CopyTerm, HasCopy, HasHeader, Lacks, StandsFor, StoreTerm, on_pair}
use Rattle.store_disk.specs.Payloads.{payload}
use Rattle.store_disk.specs.Stored.{Stretches}
use Rattle.store_disk.proofs.Compacts.{compacted, gives-of, opened, stood}
use Rattle.store_disk.proofs.Doubts.{no-finish}
use Rattle.store_disk.proofs.Items.{all-later}
use Rattle.store_disk.proofs.Lifts.{sound-after}
use Rattle.store_disk.proofs.OnDisks.{after-start}
use Rattle.store_disk.proofs.Steps.{all}

-- a copy that has nothing yet
abbrev pub new_copy : ℕ → ℕ → CopyTerm
new_copy version left = record { version = version; from = 0; states = left; commits = [] }

-- it lacks each state of the head, and no commit
pub start-lacks : (s : State) (left : ℕ) → left ≡ length (entries (now s))
    → Lacks s.history (Some (record { version = head s.history; left = left })) (new_copy (head s.history) left)
start-lacks s left count = record {
  is = ap (λ n. Some (record { version = head s.history; left = n })) (omega arith);
  states = count ∙ sym (all-later 0 (entries (now s)) (λ k d less. omega arith));
  made = [];
  commits = ap (λ (cs : List Change). map payload cs)
      (drop_all (head s.history - s.history.version) s.history.commits (omega arith));
  first = λ some. refl;
}

-- the state with a copy that starts
abbrev pub started : State → ℕ → State
started s left = record (copying s (head s.history) left) { finish = None }

-- in the first generation, of which a copy may always start
abbrev first : State → State
first s = record s { generation = 0 }

first-serves : (m : Memory) (s : State) → IsServing m s → IsServing m (first s)
first-serves m s h = record {
  sound = record {
    history = h.sound.history;
    doubt = h.sound.doubt;
    slots = h.sound.slots;
    pins = h.sound.pins;
    bases = record { base = h.sound.bases.base; copy = h.sound.bases.copy; finish = h.sound.bases.finish };
    kept = h.sound.kept;
    made = h.sound.made;
  };
  serves = h.serves;
  stands = h.stands;
}

-- memory serves a state in which a copy starts
pub start-serves : RunsStaySound → (m : Memory) (s : State) (left : ℕ) → left ≡ length (entries (now s))
    → s.copy ≡ None → IsServing m s
    → (t : State) × IsServing m t × HasCopy t.history t.copy (Some (new_copy (head s.history) left))
start-serves law m s left count none h =
    let u : State = first s in
    let serving = first-serves m s h in
    let gives : Gives u 0 Compact (More left) (started u left) =
    ((h.serves, (omega arith, omega arith)), inl (none, omega arith, count, refl)) in (
      started u left,
      record {
        sound = sound-after law u (started u left) 0 Compact (More left) gives serving.sound;
        serves = h.serves;
        stands = h.stands;
      },
      start-lacks u left count,
    )

module _ {D : Type 0} (model : DiskModel D) (law : RunsStaySound) (heads : RebasesKeepHeads) (store : StoreTerm D)
    (s : State) (h : StandsFor model store s) (pair : Paired D)
    (goes_a : Goes model (disk_a store.pair) (disk_a pair)) (goes_b : Goes model (disk_b store.pair) (disk_b pair))
    (version left : ℕ) (is : version ≡ head s.history) (count : left ≡ length (entries (now s))) (none : s.copy ≡ None)
    (room : s.generation < LAST_GENERATION)
    (same : pair.journal ≡ store.pair.journal) where
  abbrev new : StoreTerm D
  new = record { memory = store.memory; pair = pair; copy = Some (new_copy version left) }

  abbrev end : State
  end = counted model pair (started s left)

  -- the header that the disk gets is that of the whole copy
  abbrev header : Header
  header = next_header store.pair.journal.header version left

  pub start-call : ((t : PairState) → StandsOnDisks model store.pair t
      → StandsOnDisks model pair (record t { finish = None; copy = Some (empty_copy header) }))
      → progress_of pair.other ≡ Some (record { header = header; place = 20; bases = 0 })
      → ((t : PairState) → StandsOnDisks model store.pair t
      → AtEachPair model store.pair pair (PairMayOpen (PairMayShow t)))
      → Calls (Stretches model) all store new s ((Compact, More left) ∷ [])
  start-call disks progress moments =
      let row = inl (none, room, count, refl) in
      let gives = gives-of model law heads store s h new goes_a goes_b end (More left) refl row in
      let head-is : header ≡ next_header (on_pair s).now.header (head s.history) (length (entries (now s))) =
      λ i. next_header (h.header i) (is i) (count i) in
      let after = ap (λ n. on_pair (started s n)) count ∙ after-start s in
      compacted model law heads store s h new goes_a goes_b end (More left) row (record {
        memory = record {
          sound = sound-after law s end 0 Compact (More left) gives h.memory.sound;
          serves = h.memory.serves;
          stands = h.memory.stands;
        };
        header = ap (λ j. j.header) same ∙ h.header;
        pair = stood model law heads store s h new goes_a goes_b (λ stands. subst (StandsOnDisks model pair)
            (ap (λ (k : Header). record (on_pair s) { finish = None; copy = Some (empty_copy k) }) head-is ∙ sym after)
            (disks (on_pair s) stands));
        copy = subst (λ v. Lacks s.history (Some (record { version = head s.history; left = left })) (new_copy v left))
            (sym is) (start-lacks s left count);
        copied = subst (HasHeader s.generation s.history (Some (new_copy version left))) (sym progress)
            (head-is
            ∙ ap (λ v. next_header (on_pair s).now.header v (length (entries (snapshot s.history v)))) (sym is));
        doubts = no-finish pair s.doubt (ap (λ j. j.doubt) same ∙ h.doubts.commit);
        counts = refl;
      }) (opened model law heads store s h new goes_a goes_b moments)

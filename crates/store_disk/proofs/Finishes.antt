-- The end of a copy that lacks nothing.
use Rattle.std.proofs.Common.{◌≡◌, ◌⊎◌, ◌∙◌, ap, arith, Bool, Err, false, inl, IsSomeAnd, [], ◌∷◌, None, Ok, Option, option_map, refl, Some, subst, sym, true, ℕ}
use Rattle.disk_edge.specs.Disk as disk
use Rattle.disk_edge.specs.Disk.{DiskModel}
use Rattle.disk_pair.specs.Gives.{FinishGives, OnDoubt}
use Rattle.disk_pair.specs.Pairs.{History as Written, MayShow as PairMayShow, PairOpensTo as PairMayOpen, State as PairState}
use Rattle.disk_pair.specs.Stands.{StandsFor as StandsOnDisks}
use Rattle.disk_pair.specs.Term.{AtEachPair, Goes, Paired, disk_a, disk_b, is_doubtful, progress_of}
use Rattle.disk_pair.specs.declared.fault.PutFault.TheVariants as put
use Rattle.journal_core.specs.declared.header.Header.{Header}
use Rattle.store_core.specs.Calls.{Calls}
use Rattle.store_core.specs.Stored as memory
use Rattle.store_machine.specs.Laws.{RunsStaySound}
use Rattle.store_machine.specs.Machine.{CompactGives, IsWhole, TakesSome, replaced}
use Rattle.store_machine.specs.Rebases.{RebasesKeepHeads}
use Rattle.store_machine.specs.declared.machine.Copying.{Copying}
use Rattle.store_machine.specs.declared.machine.Event.TheVariants.{Compact}
use Rattle.store_machine.specs.declared.machine.Reply.{Reply}
use Rattle.store_machine.specs.declared.machine.Reply.TheVariants.{DiskFault, Done, NoMemory}
use Rattle.store_machine.specs.declared.machine.State.{State}
use Rattle.store_disk.specs.Items.{counted, left}
use Rattle.store_disk.specs.OnDisk.{AreKnown, CopyTerm, HasCopy, HasHeader, IfBothTold, Lacks, StandsFor, StoreTerm, copy_so_far, on_pair, whole_copy}
use Rattle.store_disk.specs.Stored.{Stretches}
use Rattle.store_disk.proofs.Compacts.{compacted, gives-of, opened-whole, some-rose, stood}
use Rattle.store_disk.proofs.Doubts.{no-finish, running-known}
use Rattle.store_disk.proofs.Lifts.{sound-after}
use Rattle.store_disk.proofs.OnDisks.{ends}
use Rattle.store_disk.proofs.Steps.{all}

-- a copy that runs
pub the-copy : {P : CopyTerm → Type 0} (o : Option CopyTerm) → IsSomeAnd o P → (c : CopyTerm) × (o ≡ Some c) × P c
the-copy None some = absurd some
the-copy (Some c) some = (c, refl, some)

-- as many items are left as before
pub takes-none : (copy : Option Copying) → TakesSome copy copy
takes-none None = refl
takes-none (Some copy) = (copy.left, refl, omega arith, omega arith)

module _ {D : Type 0} (model : DiskModel D) (law : RunsStaySound) (heads : RebasesKeepHeads) (store : StoreTerm D)
    (s : State) (h : StandsFor model store s) (c : CopyTerm) (l : Lacks s.history s.copy c) (none : left c ≡ 0)
    (pair : Paired D) (goes_a : Goes model (disk_a store.pair) (disk_a pair))
    (goes_b : Goes model (disk_b store.pair) (disk_b pair))
    (moments : (t : PairState) → StandsOnDisks model store.pair t
    → AtEachPair model store.pair pair (PairMayOpen (λ w. PairMayShow t w ⊎ (t.copy ≡ Some w)))) where
  abbrev new : Option CopyTerm → StoreTerm D
  new copy = record { memory = store.memory; pair = pair; copy = copy }

  pub is-whole : IsWhole s c.version
  is-whole = l.is ∙ ap (λ n. Some (record { version = c.version; left = n })) none

  -- what the disk of the copy has is the whole copy
  copy-is : (on_pair s).copy ≡ Some (whole_copy s c.version)
  copy-is = ap (λ (o : Option Copying). option_map (copy_so_far s) o) is-whole
      ∙ ap (λ (w : Written). Some w) (ends (whole_copy s c.version))

  -- a step to a state of this history, with this copy
  step : (copy : Option CopyTerm) (t : State) (r : Reply) → t.faults ≡ (counted model pair s).faults
      → CompactGives s r t → t.history ≡ s.history → t.limit ≡ s.limit → t.pins ≡ s.pins → t.kept ≡ s.kept
      → t.serves ≡ true → HasCopy t.history t.copy copy
      → HasHeader t.generation t.history copy (progress_of pair.other)
      → pair.journal.header ≡ (on_pair t).now.header → AreKnown pair t.doubt t.finish
      → IfBothTold model pair (StandsOnDisks model pair (on_pair t))
      → Calls (Stretches model) all store (new copy) s ((Compact, r) ∷ [])
  step copy t r counts row history limit pins kept serves has copied header known disks =
      let gives = gives-of model law heads store s h (new copy) goes_a goes_b t r counts row in
      compacted model law heads store s h (new copy) goes_a goes_b t r row (record {
        memory = record {
          sound = sound-after law s t 0 Compact r gives h.memory.sound;
          serves = serves;
          stands = subst (memory.StandsFor store.memory)
              (λ i. record { history = sym history i; limit = sym limit i; pins = sym pins i; kept = sym kept i })
              h.memory.stands;
        };
        header = header;
        pair = disks;
        copy = has;
        copied = copied;
        doubts = known;
        counts = counts;
      }) (opened-whole model law heads store s h (new copy) goes_a goes_b c.version is-whole moments)

  -- the copy is what the disks have
  pub finished : (generation : ℕ) → generation ≡ pair.journal.header.generation
      → pair.journal.header ≡ (whole_copy s c.version).header → pair.journal.doubt ≡ false
      → ((t : PairState) (copy : Written) → StandsOnDisks model store.pair t → t.copy ≡ Some copy
      → FinishGives (Ok tt) (StandsOnDisks model pair) t copy)
      → Calls (Stretches model) all store (new None) s ((Compact, Done generation) ∷ [])
  finished generation is header settled disks =
      step None (counted model pair (replaced s c.version)) (Done generation) refl
      (is ∙ ap (λ (k : Header). k.generation) header, c.version, is-whole, refl)
      refl refl refl refl h.memory.serves refl tt header (no-finish pair None settled)
      (stood model law heads store s h (new None) goes_a goes_b
      (λ stands. disks (on_pair s) (whole_copy s c.version) stands copy-is))

  module _ (same : pair.journal ≡ store.pair.journal) where
    kept-header : pair.journal.header ≡ (on_pair s).now.header
    kept-header = ap (λ j. j.header) same ∙ h.header

    -- no finish was in doubt beside it
    known : HasHeader s.generation s.history (Some c) (progress_of store.pair.other) → AreKnown pair s.doubt s.finish
    known header = running-known store.pair pair s.generation s.history c s.doubt s.finish header
        (ap (λ j. j.doubt) same) h.doubts

    -- it is given up, and its finish is in doubt
    doubted : is_doubtful pair.other ≡ true → disk.Faulted model (disk_a store.pair) (disk_a pair)
        ⊎ disk.Faulted model (disk_b store.pair) (disk_b pair)
        → ((t : PairState) (copy : Written) → StandsOnDisks model store.pair t → t.copy ≡ Some copy
        → FinishGives (Err (put.DiskFault true)) (StandsOnDisks model pair) t copy)
        → Calls (Stretches model) all store (new None) s ((Compact, DiskFault true) ∷ [])
    doubted doubtful failed disks =
        step None (counted model pair (record s { copy = None; finish = Some c.version })) (DiskFault true) refl
        (some-rose model law heads store s h (new None) goes_a goes_b failed, (c.version, is-whole, refl))
        refl refl refl refl h.memory.serves refl tt kept-header
        (record { commit = ap (λ j. j.doubt) same ∙ h.doubts.commit; other = λ some. doubtful })
        (stood model law heads store s h (new None) goes_a goes_b
        (λ stands. disks (on_pair s) (whole_copy s c.version) stands copy-is))

    -- it is given up
    failed-sure : HasHeader s.generation s.history (Some c) (progress_of store.pair.other)
        → disk.Faulted model (disk_a store.pair) (disk_a pair)
        ⊎ disk.Faulted model (disk_b store.pair) (disk_b pair)
        → ((t : PairState) (copy : Written) → StandsOnDisks model store.pair t → t.copy ≡ Some copy
        → FinishGives (Err (put.DiskFault false)) (StandsOnDisks model pair) t copy)
        → Calls (Stretches model) all store (new None) s ((Compact, DiskFault false) ∷ [])
    failed-sure header failed disks =
        step None (counted model pair (record s { copy = None })) (DiskFault false) refl (
          some-rose model law heads store s h (new None) goes_a goes_b failed,
          (λ none. cc (none, is-whole), inl refl, refl),
        )
        refl refl refl refl h.memory.serves refl tt kept-header (known header)
        (stood model law heads store s h (new None) goes_a goes_b
        (λ stands. disks (on_pair s) (whole_copy s c.version) stands copy-is))

    pub faulted-finish : (doubt : Bool) → HasHeader s.generation s.history (Some c) (progress_of store.pair.other)
        → OnDoubt (Err (put.DiskFault doubt)) (is_doubtful pair.other ≡ true)
        → disk.Faulted model (disk_a store.pair) (disk_a pair)
        ⊎ disk.Faulted model (disk_b store.pair) (disk_b pair)
        → ((t : PairState) (copy : Written) → StandsOnDisks model store.pair t → t.copy ≡ Some copy
        → FinishGives (Err (put.DiskFault doubt)) (StandsOnDisks model pair) t copy)
        → Calls (Stretches model) all store (new None) s ((Compact, DiskFault doubt) ∷ [])
    faulted-finish true header doubtful failed disks = doubted doubtful failed disks
    faulted-finish false header doubtful failed disks = failed-sure header failed disks

    -- it goes on as it was
    pub unfinished : progress_of pair.other ≡ progress_of store.pair.other
        → HasHeader s.generation s.history (Some c) (progress_of store.pair.other)
        → ((t : PairState) (copy : Written) → StandsOnDisks model store.pair t → t.copy ≡ Some copy
        → FinishGives (Err put.NoMemory) (StandsOnDisks model pair) t copy)
        → Calls (Stretches model) all store (new (Some c)) s ((Compact, NoMemory) ∷ [])
    unfinished progress header disks =
        step (Some c) (counted model pair s) NoMemory refl (takes-none s.copy, inl refl, refl)
        refl refl refl refl h.memory.serves l
        (subst (HasHeader s.generation s.history (Some c)) (sym progress) header) kept-header (known header)
        (stood model law heads store s h (new (Some c)) goes_a goes_b
        (λ stands. disks (on_pair s) (whole_copy s c.version) stands copy-is))

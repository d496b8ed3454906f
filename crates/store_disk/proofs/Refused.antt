-- A copy that is not started.
use Rattle.std.proofs.Common.{◌≡◌, ◌⊎◌, ◌<◌, ◌∙◌, ap, arith, Err, false, inl, inr, List, [], ◌∷◌, None, Option, option_map, refl, Some, subst, sym, true, ℕ}
use Rattle.disk_edge.specs.Disk as disk
use Rattle.disk_edge.specs.Disk.{DiskModel}
use Rattle.disk_pair.specs.Gives.{EndsOlder, OnFault, StartGives}
use Rattle.disk_pair.specs.Pairs.{History as Written, MayShow as PairMayShow, PairOpensTo as PairMayOpen, State as PairState}
use Rattle.disk_pair.specs.Stands.{Beside, Has, StandsFor as StandsOnDisks}
use Rattle.disk_pair.specs.Term.{AtEachPair, Goes, OfEachPair, Paired, disk_a, disk_b}
use Rattle.disk_pair.specs.declared.fault.PutFault.{PutFault}
use Rattle.disk_pair.specs.declared.fault.PutFault.TheVariants as put
use Rattle.journal_core.specs.Standing.{Standing}
use Rattle.journal_core.specs.declared.header.Header.{Header}
use Rattle.store_core.specs.Calls.{Calls}
use Rattle.store_core.specs.Replies.{compact_calls}
use Rattle.store_machine.specs.Laws.{RunsStaySound}
use Rattle.store_machine.specs.Machine.{CompactGives, StaysOrEnds, TakesSome}
use Rattle.store_machine.specs.Rebases.{RebasesKeepHeads}
use Rattle.store_machine.specs.declared.machine.Copying.{Copying}
use Rattle.store_machine.specs.declared.machine.Event.TheVariants.{Compact}
use Rattle.store_machine.specs.declared.machine.Reply.{Reply}
use Rattle.store_machine.specs.declared.machine.Reply.TheVariants.{DiskFault, Last, NoMemory}
use Rattle.store_machine.specs.declared.machine.State.{State}
use Rattle.store_machine.specs.declared.machine.TheConstants.{LAST_GENERATION}
use Rattle.store_disk.specs.Faults.{copy_fault}
use Rattle.store_disk.specs.Items.{counted}
use Rattle.store_disk.specs.OnDisk.{AreKnown, HasCopy, IfBothTold, StandsFor, StoreTerm, copy_so_far, on_pair, whole_copy}
use Rattle.store_disk.specs.Stored.{Stretches}
use Rattle.store_disk.proofs.Compacts.{compacted, gives-of, opened, some-rose, stood}
use Rattle.store_disk.proofs.Doubts.{no-finish, told-known}
use Rattle.store_disk.proofs.Lifts.{sound-after, still-call}
use Rattle.store_disk.proofs.Steps.{all}

module _ {D : Type 0} (model : DiskModel D) (law : RunsStaySound) (heads : RebasesKeepHeads) (store : StoreTerm D)
    (s : State) (h : StandsFor model store s) (none : s.copy ≡ None) (pair : Paired D)
    (goes_a : Goes model (disk_a store.pair) (disk_a pair)) (goes_b : Goes model (disk_b store.pair) (disk_b pair))
    (same : pair.journal ≡ store.pair.journal) where
  abbrev new : StoreTerm D
  new = record { memory = store.memory; pair = pair; copy = None }

  abbrev end : Option ℕ → State
  end finish = counted model pair (record s { copy = None; finish = finish })

  -- the journal was not touched, so a commit in doubt stays
  kept : (commit : Option (List ℕ)) (finish : Option ℕ) → StandsOnDisks model store.pair (on_pair s)
      → StandsOnDisks model pair (record (on_pair s) { commit = commit; finish = option_map (whole_copy s) finish })
      → StandsOnDisks model pair (on_pair (end finish))
  kept commit finish old it = record {
    front = old.front;
    is_front = old.is_front;
    header = ap (λ j. j.header) same ∙ old.header;
    journal = subst (λ (j : Standing D). Has model j old.front (on_pair s).now.commits (on_pair s).commit) (sym same)
        old.journal;
    other = subst (λ (o : Option Copying). Beside model pair.second (on_pair s).now.header.generation
        (option_map (whole_copy s) finish) (option_map (copy_so_far s) o) pair.other) none it.other;
  }

  -- what is left of an older finish in doubt
  record Older : Type 0 where
    finish : Option ℕ
    is : StaysOrEnds s.finish finish
    known : AreKnown pair s.doubt finish
    disks : IfBothTold model pair (StandsOnDisks model pair (on_pair (end finish)))

  with-finish : (finish : Option ℕ) → StaysOrEnds s.finish finish → StandsOnDisks model pair (on_pair (end finish))
      → Older
  with-finish finish is it = record {
    finish = finish;
    is = is;
    known = told-known model pair (end finish) it;
    disks = λ l told k too. it;
  }

  told : StandsOnDisks model store.pair (on_pair s) → EndsOlder (StandsOnDisks model pair) (on_pair s) → Older
  told old e = elim e.finish_is [
    | inl stays ↦ with-finish s.finish (inl refl) (kept e.commit s.finish old (subst (λ (o : Option Written).
        StandsOnDisks model pair (record (on_pair s) { commit = e.commit; finish = o })) stays e.stands))
    | inr ends ↦ with-finish None (inr refl) (kept e.commit None old (subst (λ (o : Option Written).
        StandsOnDisks model pair (record (on_pair s) { commit = e.commit; finish = o })) ends e.stands))
  ]

  -- where a disk does not tell its content, nothing is said of it
  untold : IfBothTold model pair ⊥ → Older
  untold never = record {
    finish = None;
    is = inr refl;
    known = no-finish pair s.doubt (ap (λ j. j.doubt) same ∙ h.doubts.commit);
    disks = λ l is k it. absurd (never l is k it);
  }

  older : IfBothTold model pair
      (StandsOnDisks model store.pair (on_pair s) × EndsOlder (StandsOnDisks model pair) (on_pair s)) → Older
  older gives = go (model.content (disk_a pair)) (model.content (disk_b pair)) refl refl
    where
      none-some : {X : Type 0} {x : X} → None ≡ Some x → ⊥
      none-some e = cc e

      go : (a b : Option (List ℕ)) → model.content (disk_a pair) ≡ a → model.content (disk_b pair) ≡ b → Older
      go None b is it = untold (λ l told k too. none-some (sym is ∙ told))
      go (Some l) None is it = untold (λ n told k too. none-some (sym it ∙ too))
      go (Some l) (Some k) is it = let both = gives l is k it in told both.0 both.1

  step : (r : Reply) → ((finish : Option ℕ) → StaysOrEnds s.finish finish → CompactGives s r (end finish))
      → ((t : PairState) → StandsOnDisks model store.pair t → EndsOlder (StandsOnDisks model pair) t)
      → ((t : PairState) → StandsOnDisks model store.pair t
      → AtEachPair model store.pair pair (PairMayOpen (PairMayShow t)))
      → Calls (Stretches model) all store new s ((Compact, r) ∷ [])
  step r row gives moments =
      let o = older (stood model law heads store s h new goes_a goes_b (λ it. (it, gives (on_pair s) it))) in
      let t : State = end o.finish in
      compacted model law heads store s h new goes_a goes_b t r (row o.finish o.is) (record {
        memory = record {
          sound = sound-after law s t 0 Compact r
              (gives-of model law heads store s h new goes_a goes_b t r refl (row o.finish o.is)) h.memory.sound;
          serves = h.memory.serves;
          stands = h.memory.stands;
        };
        header = ap (λ j. j.header) same ∙ h.header;
        pair = o.disks;
        copy = refl;
        copied = tt;
        doubts = o.known;
        counts = refl;
      }) (opened model law heads store s h new goes_a goes_b moments)

  -- by the fault
  pub refused-start : (f : PutFault) (header : Header) → s.generation < LAST_GENERATION
      → ((t : PairState) → StandsOnDisks model store.pair t → StartGives (Err f) (StandsOnDisks model pair) t header)
      → OnFault (Err f) (disk.Faulted model (disk_a store.pair) (disk_a pair)
      ⊎ disk.Faulted model (disk_b store.pair) (disk_b pair))
      → ((t : PairState) → StandsOnDisks model store.pair t
      → AtEachPair model store.pair pair (PairMayOpen (PairMayShow t)))
      → Calls (Stretches model) all store new s (compact_calls (Err (copy_fault f)))
  refused-start (put.DiskFault true) header room gives failed moments =
      step (DiskFault false)
      (λ finish is. (some-rose model law heads store s h new goes_a goes_b failed, (λ _. room, is, refl)))
      (λ t it. absurd (gives t it)) moments
  refused-start (put.DiskFault false) header room gives failed moments =
      step (DiskFault false)
      (λ finish is. (some-rose model law heads store s h new goes_a goes_b failed, (λ _. room, is, refl))) gives moments
  refused-start put.NoMemory header room gives failed moments =
      step NoMemory (λ finish is. (subst (λ (o : Option Copying). TakesSome o None) (sym none) refl, is, refl)) gives
      moments

-- no generation is left
pub none-left : {D : Type 0} (model : DiskModel D)
    → ((d : D) (c : List ℕ) → model.images_between d (model.clock d) (model.clock d) c → model.images d c)
    → RunsStaySound → RebasesKeepHeads → (store : StoreTerm D)
    → ((t : PairState) → StandsOnDisks model store.pair t
    → OfEachPair model store.pair (PairMayOpen (PairMayShow t)))
    → (s : State) → StandsFor model store s → store.copy ≡ None
    → store.pair.journal.header.generation ≡ LAST_GENERATION
    → Calls (Stretches model) all store store s ((Compact, Last) ∷ [])
none-left model only-now law heads store leaves s h none last =
    still-call model only-now law heads store leaves store.memory s s 0 Compact Last refl h (
      (h.memory.serves, (omega arith, omega arith)),
      (
        subst (HasCopy s.history s.copy) none h.copy,
        sym (ap (λ (k : Header). k.generation) h.header) ∙ last,
        refl,
      ),
    ) h

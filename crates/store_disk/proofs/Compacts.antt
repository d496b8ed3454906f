-- A step of a compaction on two disks, as a step of the machine.
use Rattle.std.proofs.Common.{◌≡◌, ◌⊎◌, ◌+◌, ◌∙◌, ap, arith, inl, inr, List, [], ◌∷◌, Option, option_map, refl, Some, subst, sym, ℕ}
use Rattle.disk_edge.specs.Disk as disk
use Rattle.disk_edge.specs.Disk.{DiskModel}
use Rattle.disk_pair.specs.Pairs.{History as Written, MayShow as PairMayShow, PairOpens, PairOpensTo as PairMayOpen, State as PairState}
use Rattle.disk_pair.specs.Stands.{StandsFor as StandsOnDisks}
use Rattle.disk_pair.specs.Term.{AtEachPair, Goes, disk_a, disk_b}
use Rattle.store_core.specs.Calls.{Calls}
use Rattle.store_machine.specs.History.{rebase}
use Rattle.store_machine.specs.Laws.{RunsStaySound}
use Rattle.store_machine.specs.Machine.{CompactGives, Gives, IsWhole, Rose, SomeRose}
use Rattle.store_machine.specs.Rebases.{RebasesKeepHeads}
use Rattle.store_machine.specs.declared.machine.Copying.{Copying}
use Rattle.store_machine.specs.declared.machine.Event.TheVariants.{Compact}
use Rattle.store_machine.specs.declared.machine.Faults.{Faults}
use Rattle.store_machine.specs.declared.machine.Reply.{Reply}
use Rattle.store_machine.specs.declared.machine.State.{State}
use Rattle.store_disk.specs.Loads.{OpensAfter, OpensTo}
use Rattle.store_disk.specs.OnDisk.{IfBothTold, StandsFor, StoreTerm, copy_so_far, on_pair, whole_copy}
use Rattle.store_disk.specs.Stored.{Shows, Stretches, times, told-before}
use Rattle.store_disk.proofs.Bounds.{rose}
use Rattle.store_disk.proofs.Lifts.{one-call, step_of}
use Rattle.store_disk.proofs.OnDisks.{ends, opens-recovered, shown-after}
use Rattle.store_disk.proofs.Steps.{all}

-- what two images at a moment of a step of a compaction open to: what may be left before it, or the copy
abbrev pub CompactShows : State → List ℕ → List ℕ → Type 0
CompactShows s x y = OpensAfter s x y
    ⊎ ((version : ℕ) × IsWhole s version × OpensTo (rebase s.history version) (s.generation + 1) x y)

module _ {D : Type 0} (model : DiskModel D) (law : RunsStaySound) (heads : RebasesKeepHeads) (store : StoreTerm D)
    (s : State) (h : StandsFor model store s) (new : StoreTerm D)
    (goes_a : Goes model (disk_a store.pair) (disk_a new.pair))
    (goes_b : Goes model (disk_b store.pair) (disk_b new.pair)) where
  abbrev faults : Faults
  faults = record { a = model.faults (disk_a new.pair); b = model.faults (disk_b new.pair) }

  -- what is told of both disks was told before
  pub stood : {P : Type 0} → (StandsOnDisks model store.pair (on_pair s) → P) → IfBothTold model new.pair P
  stood f l is k it =
      let a = told-before (model.content (disk_a store.pair)) (model.content (disk_a new.pair)) goes_a.untold l is in
      let b = told-before (model.content (disk_b store.pair)) (model.content (disk_b new.pair)) goes_b.untold k it in
      f (h.pair a.0 a.1 b.0 b.1)

  -- a row of the table, with the counts of the disks
  pub gives-of : (t : State) (r : Reply) → t.faults ≡ faults → CompactGives s r t → Gives s 0 Compact r t
  gives-of t r counts row = (
    (
      h.memory.serves,
      (
        omega (arith, goes_a.count.count, ap (λ (f : Faults). f.a) h.counts, ap (λ (f : Faults). f.a) counts),
        omega (arith, goes_b.count.count, ap (λ (f : Faults). f.b) h.counts, ap (λ (f : Faults). f.b) counts),
      ),
    ),
    row,
  )

  -- what a crash may show of the pair, at each moment of the call
  pub opened : ((t : PairState) → StandsOnDisks model store.pair t
      → AtEachPair model store.pair new.pair (PairMayOpen (PairMayShow t)))
      → AtEachPair model store.pair new.pair (CompactShows s)
  opened given l is k it x i y j = inl (shown-after law heads store.memory s h.memory x y
      (stood (given (on_pair s)) l is k it l is k it x i y j))

  -- or the whole copy
  whole-shown : (version : ℕ) → IsWhole s version → (w : Written) → (on_pair s).copy ≡ Some w → (x y : List ℕ)
      → PairOpens w x y → CompactShows s x y
  whole-shown version is w copy x y opens =
      let told = sym copy ∙ ap (λ (o : Option Copying). option_map (copy_so_far s) o) is in
      let same : w ≡ whole_copy s version = some-same told ∙ ends (whole_copy s version) in inr (
        version,
        is,
        opens-recovered law heads store.memory s h.memory (rebase s.history version) (s.generation + 1)
            (inr (version, is, (refl, refl))) x y (subst (λ (v : Written). PairOpens v x y) same opens),
      )
    where
      some-same : {a b : Written} → Some a ≡ Some b → a ≡ b
      some-same e = cc e

  pub opened-whole : (version : ℕ) → IsWhole s version → ((t : PairState) → StandsOnDisks model store.pair t
      → AtEachPair model store.pair new.pair (PairMayOpen (λ w. PairMayShow t w ⊎ (t.copy ≡ Some w))))
      → AtEachPair model store.pair new.pair (CompactShows s)
  opened-whole version whole given l is k it x i y j =
      let o = stood (given (on_pair s)) l is k it l is k it x i y j in elim o.1 [
        | inl older ↦ inl (shown-after law heads store.memory s h.memory x y (o.0, older, o.2))
        | inr copy ↦ whole-shown version whole o.0 copy x y o.2
      ]

  shows : (t : State) (r : Reply) (x y : List ℕ) → CompactShows s x y
      → Shows (step_of 0 Compact r s t (times model store) (times model new)) x y
  shows t r x y (inl left) = (left.0, left.1, inl left.2, left.3)
  shows t r x y (inr whole) = (
    rebase s.history whole.0,
    s.generation + 1,
    inr (inr (whole.0, refl, whole.1, (refl, refl))),
    whole.2,
  )

  -- the step
  pub compacted : (t : State) (r : Reply) → CompactGives s r t → StandsFor model new t
      → AtEachPair model store.pair new.pair (CompactShows s)
      → Calls (Stretches model) all store new s ((Compact, r) ∷ [])
  compacted t r row after moments =
      one-call model store new s t 0 Compact r refl h (gives-of t r after.counts row) after goes_a.past goes_b.past
      goes_a.untold goes_b.untold (inl tt) (λ other. absurd (other tt))
      (λ l is k it x y i j. shows t r x y (moments l is k it x i y j))

  -- a disk counted a fault, and so does the state
  pub some-rose : disk.Faulted model (disk_a store.pair) (disk_a new.pair)
      ⊎ disk.Faulted model (disk_b store.pair) (disk_b new.pair) → SomeRose s.faults faults
  some-rose (inl r) = inl (subst (λ n. Rose n faults.a) (sym (ap (λ (f : Faults). f.a) h.counts))
      (rose (model.faults (disk_a store.pair)) (model.faults (disk_a new.pair)) r))
  some-rose (inr r) = inr (subst (λ n. Rose n faults.b) (sym (ap (λ (f : Faults). f.b) h.counts))
      (rose (model.faults (disk_b store.pair)) (model.faults (disk_b new.pair)) r))

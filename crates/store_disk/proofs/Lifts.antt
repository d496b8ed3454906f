-- A call of the store in memory as one of the store on two disks: what a state has of disks stays.
use Rattle.std.proofs.Common.{◌≡◌, ◌&&◌, ◌∙◌, ap, arith, cond, inl, inr, List, [], ◌∷◌, None, Option, refl, subst, sym, true, ℕ}
use Rattle.disk_edge.specs.Disk.{DiskModel, Keeps}
use Rattle.disk_pair.specs.Pairs.{MayShow as PairMayShow, PairOpensTo as PairMayOpen, State as PairState}
use Rattle.disk_pair.specs.Stands.{StandsFor as StandsOnDisks}
use Rattle.disk_pair.specs.Term.{OfEachPair, Paired, disk_a, disk_b, progress_of}
use Rattle.store_core.specs.Beside.{StepBeside, repinned}
use Rattle.store_core.specs.Calls.{Calls}
use Rattle.store_core.specs.Stored as memory
use Rattle.store_core.specs.Stored.{Served, StoreTerm as Memory, alone}
use Rattle.store_machine.specs.Laws.{IsSound, RunsStaySound}
use Rattle.store_machine.specs.Machine.{Gives}
use Rattle.store_machine.specs.Rebases.{RebasesKeepHeads}
use Rattle.store_machine.specs.Runs.{is_call}
use Rattle.store_machine.specs.declared.machine.Event.{Event}
use Rattle.store_machine.specs.declared.machine.Reply.{Reply}
use Rattle.store_machine.specs.declared.machine.State.{State}
use Rattle.store_machine.specs.declared.machine.Step.{Step}
use Rattle.store_machine.specs.declared.machine.Times.{Times}
use Rattle.store_disk.specs.OnDisk.{CopyTerm, Follow, IfBothTold, IsReady, StandsFor, StoreTerm}
use Rattle.store_disk.specs.Stored.{CallsDisks, IsCaused, Shows, Stretches, keeps-itself, times}
use Rattle.store_disk.proofs.OnDisks.{shown-after}
use Rattle.store_disk.proofs.Steps.{all}

-- of whichever owner
abbrev pub step_of : ℕ → Event → Reply → State → State → Times → Times → Step
step_of owner e r s t begin end =
    record { owner = owner; event = e; reply = r; before = s; after = t; begin = begin; end = end }

pub sound-after : RunsStaySound → (s t : State) (owner : ℕ) (e : Event) (r : Reply) → Gives s owner e r t → IsSound s
    → IsSound t
sound-after law s t owner e r gives sound =
    law s t (step_of owner e r s t (record { a = 0; b = 0 }) (record { a = 0; b = 0 }) ∷ []) (refl, gives, refl) sound

-- what is in memory is at this part, and serves it
pub at-alone : (m : Memory) (s : Served) → memory.StandsFor m s → memory.IsAt m (alone s)
at-alone m s h =
    record { sound = h.sound; serves = refl; copy = refl; finish = refl; generation = refl; stands = h }

pub serving-alone : (m : Memory) (s : Served) → memory.StandsFor m s → memory.IsServing m (alone s)
serving-alone m s h = record { sound = h.sound; serves = refl; stands = h }

-- a call that changes no more than pins leaves a store that is ready
pub still-ready : {D : Type 0} (old new : Memory) (pair : Paired D) (copy : Option CopyTerm) (e : Event) (r : Reply)
    → ((s : State) → memory.IsServing old s → StepBeside new s e r) → IsReady old pair copy → IsReady new pair copy
still-ready old new pair copy e r step was =
    let s : State = was.stands.0 in
    let x = step s was.stands.1 in
    let same : new.version ≡ old.version =
    x.serving.stands.version ∙ sym was.stands.1.stands.version in
    record {
      stands = (repinned s x.pins, x.serving, was.stands.2);
      few = omega (arith, same, was.few);
      bases = was.bases;
      place = omega (arith, same, was.place);
      copying = subst (λ n. Follow n copy (progress_of pair.other)) (sym same) was.copying;
    }

module _ {D : Type 0} (model : DiskModel D) where
  pub one-call : (old new : StoreTerm D) (s t : State) (owner : ℕ) (e : Event) (r : Reply) → is_call e ≡ true
      → StandsFor model old s → Gives s owner e r t → StandsFor model new t
      → Keeps model (disk_a old.pair) (disk_a new.pair) → Keeps model (disk_b old.pair) (disk_b new.pair)
      → (model.content (disk_a old.pair) ≡ None → model.content (disk_a new.pair) ≡ None)
      → (model.content (disk_b old.pair) ≡ None → model.content (disk_b new.pair) ≡ None)
      → IsCaused (step_of owner e r s t (times model old) (times model new))
      → (¬ CallsDisks e → new.pair ≡ old.pair)
      → IfBothTold model new.pair ((p q : List ℕ)
      → model.images_between (disk_a new.pair) (model.clock (disk_a old.pair)) (model.clock (disk_a new.pair)) p
      → model.images_between (disk_b new.pair) (model.clock (disk_b old.pair)) (model.clock (disk_b new.pair)) q
      → Shows (step_of owner e r s t (times model old) (times model new)) p q)
      → Calls (Stretches model) all old new s ((e, r) ∷ [])
  one-call old new s t owner e r call stands gives after past_a past_b untold_a untold_b cause same moments = record {
    steps = step_of owner e r s t (times model old) (times model new) ∷ [];
    after = t;
    stands = record {
      begins = stands;
      ends = after;
      run = (refl, gives, refl);
      calm = (call, tt);
      clocked = (refl, past_a.later, past_b.later, refl);
      moments = λ l is m it. ((omega arith, omega arith, moments l is m it), tt);
      causes = (cause, tt);
      untouched = λ none. same none.0;
      past_a = past_a;
      past_b = past_b;
      untold_a = untold_a;
      untold_b = untold_b;
    };
    own = ap (λ b. cond (b && true) ((e, r) ∷ []) []) call;
  }

  module _ (only-now : (d : D) (c : List ℕ)
      → model.images_between d (model.clock d) (model.clock d) c → model.images d c)
      (law : RunsStaySound) (heads : RebasesKeepHeads) (store : StoreTerm D)
      (leaves : (t : PairState) → StandsOnDisks model store.pair t
      → OfEachPair model store.pair (PairMayOpen (PairMayShow t))) where
    -- a call that does not touch the disks
    pub still-call : (m : Memory) (s t : State) (owner : ℕ) (e : Event) (r : Reply)
        → is_call e ≡ true → StandsFor model store s → Gives s owner e r t
        → StandsFor model (record store { memory = m }) t
        → Calls (Stretches model) all store (record store { memory = m }) s ((e, r) ∷ [])
    still-call m s t owner e r call stands gives after =
        let new : StoreTerm D = record store { memory = m } in
        one-call store new s t owner e r call stands gives after (keeps-itself model (disk_a store.pair))
        (keeps-itself model (disk_b store.pair)) (λ is. is) (λ is. is) (inr refl) (λ none. refl)
        (λ l is k it p q i j.
        let shown = shown-after law heads store.memory s stands.memory p q
        (leaves _ (stands.pair l is k it) l is k it p q (only-now (disk_a store.pair) p i)
        (only-now (disk_b store.pair) q j)) in
        (shown.0, shown.1, inl shown.2, shown.3))

    pub lifted : (m : Memory) (s : State) (e : Event) (r : Reply) → is_call e ≡ true → StandsFor model store s
        → StepBeside m s e r → Calls (Stretches model) all store (record store { memory = m }) s ((e, r) ∷ [])
    lifted m s e r call h x = still-call m s (repinned s x.pins) x.owner e r call h x.gives (record {
      memory = x.serving;
      header = h.header;
      pair = h.pair;
      copy = h.copy;
      copied = h.copied;
      doubts = h.doubts;
      counts = h.counts;
    })

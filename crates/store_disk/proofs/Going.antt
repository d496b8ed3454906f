-- A copy goes on: its items, one after the other.
use Rattle.std.proofs.Common.{◌≡◌, ◌⊎◌, ◌+◌, ◌-◌, ◌≤◌, ◌∙◌, ap, arith, Err, false, IfSome, inl, inr, IsSomeAnd, List, [], ◌∷◌, None, Ok, Option, option_map, refl, Result, Some, subst, suc, sym, zero, ℕ}
use Rattle.disk_edge.specs.Disk as disk
use Rattle.disk_edge.specs.Disk.{DiskModel}
use Rattle.disk_pair.specs.Gives.{CurrentStays, OnFault, PairGoes}
use Rattle.disk_pair.specs.Pairs.{MayShow as PairMayShow, PairOpensTo as PairMayOpen}
use Rattle.disk_pair.specs.Term.{AtEachPair, Goes, Paired, disk_a, disk_b}
use Rattle.disk_pair.specs.declared.fault.PutFault.{PutFault}
use Rattle.disk_pair.specs.declared.fault.PutFault.TheVariants as put
use Rattle.store_core.specs.Calls.{Calls}
use Rattle.store_core.specs.Replies.{compact_calls}
use Rattle.store_core.specs.States.{GoOn, StatesTerm}
use Rattle.store_core.specs.Stored.{StoreTerm as Memory}
use Rattle.store_machine.specs.Laws.{RunsStaySound}
use Rattle.store_machine.specs.Machine.{CompactGives, TakesSome}
use Rattle.store_machine.specs.Rebases.{RebasesKeepHeads}
use Rattle.store_machine.specs.declared.machine.Copying.{Copying}
use Rattle.store_machine.specs.declared.machine.Event.TheVariants.{Compact}
use Rattle.store_machine.specs.declared.machine.History.{History}
use Rattle.store_machine.specs.declared.machine.Reply.TheVariants.{DiskFault, More, NoMemory}
use Rattle.store_machine.specs.declared.machine.State.{State}
use Rattle.store_machine.specs.declared.machine.TheConstants.{ITEMS_A_STEP}
use Rattle.store_disk.specs.Copies.{copy_of}
use Rattle.store_disk.specs.Faults.{copy_fault}
use Rattle.store_disk.specs.Items.{ItemGives, counted, left, of_parts, one_less}
use Rattle.store_disk.specs.OnDisk.{CopyTerm, HasCopy, IsReady, StandsFor, StoreTerm, on_pair}
use Rattle.store_disk.specs.Stored.{Stretches, told-before}
use Rattle.store_disk.specs.declared.copy.Copying.{Copying as Running}
use Rattle.store_disk.proofs.Compacts.{compacted, some-rose}
use Rattle.store_disk.proofs.Goes.{goes-itself, goes-twice, two-moments}
use Rattle.store_disk.proofs.OnDisks.{shown-after}
use Rattle.store_disk.proofs.Steps.{all}

-- so many items less are left
abbrev pub fewer : ℕ → Option Copying → Option Copying
fewer n o = option_map (λ (copy : Copying). record copy { left = copy.left - n }) o

abbrev pub taken : ℕ → State → State
taken n s = record s { copy = fewer n s.copy }

one-more-taken : (n : ℕ) (o : Option Copying)
    → option_map (λ (copy : Copying). record copy { left = copy.left - 1 }) (fewer n o) ≡ fewer (n + 1) o
one-more-taken n None = refl
one-more-taken n (Some copy) =
    let same : copy.left - n - 1 ≡ copy.left - (n + 1) = omega arith in
    ap (λ k. Some (record copy { left = k })) same

none-taken : (o : Option Copying) → o ≡ fewer 0 o
none-taken None = refl
none-taken (Some copy) =
    let same : copy.left ≡ copy.left - 0 = omega arith in ap (λ k. Some (record copy { left = k })) same

takes-some : (n : ℕ) (o : Option Copying) → n ≤ ITEMS_A_STEP → TakesSome o (fewer n o)
takes-some n None few = refl
takes-some n (Some copy) few = (copy.left - n, refl, omega arith, omega (arith, few))

same-some : {X : Type 0} {a b : X} → Some a ≡ Some b → a ≡ b
same-some e = cc e

-- the copy that lacks so many items
has-left : (h : History) (copy : Option Copying) (c : Option CopyTerm) (items : ℕ) → HasCopy h copy c
    → option_map left c ≡ Some items → (version : ℕ) × (copy ≡ Some (record { version = version; left = items }))
has-left h copy None items has is = absurd (none-some is)
  where
    none-some : {x : ℕ} → None ≡ Some x → ⊥
    none-some e = cc e
has-left h copy (Some c) items has is =
    (c.version, has.is ∙ ap (λ n. Some (record { version = c.version; left = n })) (same-some is))

-- such a copy runs
pub some-lacks : (c : Option CopyTerm) (n : ℕ) → option_map left c ≡ Some n → 1 ≤ n → IsSomeAnd c (λ k. 1 ≤ left k)
some-lacks None n e some = cc e
some-lacks (Some c) n e some = let same = same-some e in omega (arith, same, some)

-- What some items of a step leave. Of none there is no moment.
pub record Taken {D : Type 0} (model : DiskModel D) (items : ℕ) (old new : StoreTerm D) (n : ℕ) : Type 0 where
  pub none : n ≡ 0 → new ≡ old
  pub stands : (s : State) → StandsFor model old s → StandsFor model new (counted model new.pair (taken n s))
  pub moments : 1 ≤ n → (s : State) → StandsFor model old s
      → AtEachPair model old.pair new.pair (PairMayOpen (PairMayShow (on_pair s)))
  pub a : Goes model (disk_a old.pair) (disk_a new.pair)
  pub b : Goes model (disk_b old.pair) (disk_b new.pair)
  pub memory : new.memory ≡ old.memory
  pub journal : new.pair.journal ≡ old.pair.journal
  pub second : new.pair.second ≡ old.pair.second
  pub left : option_map left new.copy ≡ Some (items - n)

pub none-yet : {D : Type 0} (model : DiskModel D) (items : ℕ) (store : StoreTerm D)
    → option_map left store.copy ≡ Some items → Taken model items store store 0
none-yet model items store is = record {
  none = λ e. refl;
  stands = λ s h. subst (StandsFor model store)
      (λ i. record s { copy = none-taken s.copy i; faults = h.counts i }) h;
  moments = λ some. absurd (omega (arith, some));
  a = goes-itself model (disk_a store.pair);
  b = goes-itself model (disk_b store.pair);
  memory = refl;
  journal = refl;
  second = refl;
  left = let whole : items ≡ items - 0 = omega arith in is ∙ ap (λ n. Some n) whole;
}

pub some-left : (copy : Option CopyTerm) (n : ℕ) → option_map left copy ≡ Some n
    → option_map (λ c. left c - 1) copy ≡ Some (n - 1)
some-left None n e = cc e
some-left (Some c) n e = ap (λ k. Some (k - 1)) (same-some e)

-- what one item tells of the store before it and after it
pub record Item {D : Type 0} (model : DiskModel D) (old new : StoreTerm D) (r : Result (Unit {0}) PutFault) : Type 0
  where
    pub gives : (s : State) → StandsFor model old s → ItemGives model r new s
    pub memory : new.memory ≡ old.memory
    pub current : CurrentStays model old.pair new.pair
    pub goes : PairGoes model r old.pair new.pair

-- of an item that was put beside the memory that the walk over the states has
pub item-of : {D : Type 0} (model : DiskModel D) (has m : Memory) → has ≡ m → (old new : Paired D)
    (was now : Option Running) (r : Result (Unit {0}) PutFault)
    → ((s : State) → StandsFor model (of_parts has old was) s → ItemGives model r (of_parts has new now) s)
    → CurrentStays model old new → PairGoes model r old new
    → Item model (of_parts m old was) (of_parts m new now) r
item-of {D} model has m same old new was now r gives current goes = record {
  gives = subst (λ (k : Memory). (s : State) → StandsFor model (of_parts k old was) s
      → ItemGives model r (of_parts k new now) s) same gives;
  memory = refl;
  current = current;
  goes = goes;
}

-- A step that goes on: what its items leave of the parts of a store, and where the walk over the states is.
pub record GoingOn {D : Type 0} (model : DiskModel D) (items : ℕ) (memory : Memory) (old new : Paired D)
    (was now : Option Running) (walk : StatesTerm) (n : ℕ) : Type 0 where
  pub taken : Taken model items (of_parts memory old was) (of_parts memory new now) n
  pub ready : IsReady memory new (option_map copy_of now)
  pub states : IfSome now (λ c. GoOn c.version c.from walk)
  pub store : walk.store ≡ memory

-- a walk from a copy's place
pub from-place : (copy : Option Running) (version from : ℕ) (states : StatesTerm)
    → IfSome copy (λ c. (version ≡ c.version) × (from ≡ c.from)) → GoOn version from states
    → IfSome copy (λ c. GoOn c.version c.from states)
from-place None version from states is goes = tt
from-place (Some c) version from states is goes =
    subst (λ v. GoOn v c.from states) is.0 (subst (λ n. GoOn version n states) is.1 goes)

later-rose : (a b c : ℕ) → a ≤ b → disk.Rose b c → disk.Rose a c
later-rose a b c le r = elim r [ inl less ↦ inl (omega (arith, le, less)) | inr end ↦ inr end ]

module _ {D : Type 0} (model : DiskModel D)
    (parts : (d : D) (t v u : ℕ) (c : List ℕ) → t ≤ v → v ≤ u → model.images_between d t u c
    → model.images_between d t v c ⊎ model.images_between d v u c)
    (items : ℕ) (old mid new : StoreTerm D) (n : ℕ) (t : Taken model items old mid n)
    (r : Result (Unit {0}) PutFault) (x : Item model mid new r) where
  pub goes_a : Goes model (disk_a old.pair) (disk_a new.pair)
  goes_a = goes-twice model (disk_a old.pair) (disk_a mid.pair) (disk_a new.pair) t.a x.goes.a

  pub goes_b : Goes model (disk_b old.pair) (disk_b new.pair)
  goes_b = goes-twice model (disk_b old.pair) (disk_b mid.pair) (disk_b new.pair) t.b x.goes.b

  -- what is shown at each moment of the item alone
  at-item : (s : State) → StandsFor model old s
      → AtEachPair model mid.pair new.pair (PairMayOpen (PairMayShow (on_pair s)))
  at-item s h l is k it =
      let a = told-before (model.content (disk_a mid.pair)) (model.content (disk_a new.pair)) x.goes.a.untold l is in
      let b = told-before (model.content (disk_b mid.pair)) (model.content (disk_b new.pair)) x.goes.b.untold k it in
      x.current.moments (on_pair (taken n s)) ((t.stands s h).pair a.0 a.1 b.0 b.1) l is k it

  moments : (s : State) → StandsFor model old s
      → AtEachPair model old.pair new.pair (PairMayOpen (PairMayShow (on_pair s)))
  moments s h = go n refl
    where
      go : (k : ℕ) → n ≡ k → AtEachPair model old.pair new.pair (PairMayOpen (PairMayShow (on_pair s)))
      go zero e = subst (λ (m : StoreTerm D).
          AtEachPair model m.pair new.pair (PairMayOpen (PairMayShow (on_pair s)))) (t.none e) (at-item s h)
      go (suc k) e =
          two-moments model parts (PairMayOpen (PairMayShow (on_pair s))) old.pair mid.pair new.pair t.journal t.second
          x.current.journal x.current.second t.a t.b x.goes.a x.goes.b
          (t.moments (omega (arith, e)) s h) (at-item s h)

  -- with one item more
  pub next : ((s : State) → StandsFor model mid s → StandsFor model new (counted model new.pair (one_less s)))
      → option_map left new.copy ≡ option_map (λ c. left c - 1) mid.copy → Taken model items old new (n + 1)
  next gives less = record {
    none = λ e. absurd (omega (arith, e));
    stands = λ s h. subst (λ (o : Option Copying).
        StandsFor model new (counted model new.pair (record s { copy = o }))) (one-more-taken n s.copy)
        (gives (counted model mid.pair (taken n s)) (t.stands s h));
    moments = λ some. moments;
    a = goes_a;
    b = goes_b;
    memory = x.memory ∙ t.memory;
    journal = x.current.journal ∙ t.journal;
    second = x.current.second ∙ t.second;
    left =
        let one : items - n - 1 ≡ items - (n + 1) = omega arith in
        less ∙ (some-left mid.copy (items - n) t.left ∙ ap (λ k. Some k) one);
  }

  module _ (law : RunsStaySound) (heads : RebasesKeepHeads) (s : State) (h : StandsFor model old s) where
    failed : OnFault r (disk.Faulted model (disk_a mid.pair) (disk_a new.pair)
        ⊎ disk.Faulted model (disk_b mid.pair) (disk_b new.pair)) → OnFault r
        (disk.Faulted model (disk_a old.pair) (disk_a new.pair)
        ⊎ disk.Faulted model (disk_b old.pair) (disk_b new.pair))
    failed cause = go r cause
      where
        go : (r : Result (Unit {0}) PutFault) → OnFault r (disk.Faulted model (disk_a mid.pair) (disk_a new.pair)
            ⊎ disk.Faulted model (disk_b mid.pair) (disk_b new.pair)) → OnFault r
            (disk.Faulted model (disk_a old.pair) (disk_a new.pair)
            ⊎ disk.Faulted model (disk_b old.pair) (disk_b new.pair))
        go (Ok _) c = tt
        go (Err put.NoMemory) c = tt
        go (Err (put.DiskFault doubt)) c = elim c [
          | inl a ↦ inl (later-rose (model.faults (disk_a old.pair)) (model.faults (disk_a mid.pair))
              (model.faults (disk_a new.pair)) t.a.count.count a)
          | inr b ↦ inr (later-rose (model.faults (disk_b old.pair)) (model.faults (disk_b mid.pair))
              (model.faults (disk_b new.pair)) t.b.count.count b)
        ]

    runs : s.copy ≡ None → ⊥
    runs none =
        let has = has-left s.history (fewer n s.copy) mid.copy (items - n) (t.stands s h).copy t.left in
        cc (ap (fewer n) none, has.1)

    stops : (f : PutFault) → n ≤ ITEMS_A_STEP → ItemGives model (Err f) new (counted model mid.pair (taken n s))
        → OnFault (Err f) (disk.Faulted model (disk_a old.pair) (disk_a new.pair)
        ⊎ disk.Faulted model (disk_b old.pair) (disk_b new.pair))
        → Calls (Stretches model) all old new s (compact_calls (Err (copy_fault f)))
    stops (put.DiskFault doubt) few gives cause =
        compacted model law heads old s h new goes_a goes_b (counted model new.pair (record s { copy = None }))
        (DiskFault false)
        (some-rose model law heads old s h new goes_a goes_b cause, (λ none. absurd (runs none), inl refl, refl)) gives
        (λ l is k it x i y j. inl (shown-after law heads old.memory s h.memory x y (moments s h l is k it x i y j)))
    stops put.NoMemory few gives cause =
        compacted model law heads old s h new goes_a goes_b (counted model new.pair (taken n s)) NoMemory
        (takes-some n s.copy few, inl refl, refl) gives
        (λ l is k it x i y j. inl (shown-after law heads old.memory s h.memory x y (moments s h l is k it x i y j)))

    -- the item was refused
    pub stopped : (f : PutFault) → r ≡ Err f → n ≤ ITEMS_A_STEP
        → Calls (Stretches model) all old new s (compact_calls (Err (copy_fault f)))
    stopped f is few = stops f few
        (subst (λ (r : Result (Unit {0}) PutFault). ItemGives model r new (counted model mid.pair (taken n s))) is
        (x.gives (counted model mid.pair (taken n s)) (t.stands s h)))
        (subst (λ (r : Result (Unit {0}) PutFault). OnFault r (disk.Faulted model (disk_a old.pair) (disk_a new.pair)
        ⊎ disk.Faulted model (disk_b old.pair) (disk_b new.pair))) is (failed x.goes.cause))

-- the items of a step are written
module _ {D : Type 0} (model : DiskModel D) (law : RunsStaySound) (heads : RebasesKeepHeads) (items : ℕ)
    (old new : StoreTerm D) (n : ℕ) (t : Taken model items old new n) (s : State) (h : StandsFor model old s) where
  pub went-on : option_map left old.copy ≡ Some items → 1 ≤ items → 1 ≤ n → (rest : ℕ) → rest ≡ items - n
      → rest ≡ items - ITEMS_A_STEP → Calls (Stretches model) all old new s ((Compact, More rest) ∷ [])
  went-on is some one rest whole few =
      let has = has-left s.history s.copy old.copy items h.copy is in
      let end = counted model new.pair (taken n s) in
      let same : fewer n s.copy ≡ Some (record { version = has.0; left = rest }) =
      ap (fewer n) has.1 ∙ ap (λ k. Some (record { version = has.0; left = k })) (sym whole) in
      let row : CompactGives s (More rest) end =
      inr (has.0, items, has.1, some, few, λ i. record end { copy = same i }) in
      compacted model law heads old s h new t.a t.b end (More rest) row (t.stands s h)
      (λ l is k it x i y j.
      inl (shown-after law heads old.memory s h.memory x y (t.moments one s h l is k it x i y j)))

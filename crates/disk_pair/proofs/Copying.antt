-- A copy on two disks: its start, its items and its finish, by their answers.
use Rattle.std.proofs.Common.{◌≡◌, ◌⊎◌, inl, inr, ◌<◌, ◌+◌, Bool, false, true, not, ℕ, List, Option, Some, None, Result, Ok, Err, refl, sym, ◌∙◌, ap, subst, arith}
use Rattle.disk_edge.specs.Disk.{DiskModel, Faulted, IfTold}
use Rattle.disk_edge.specs.Moments.{AtEachMoment}
use Rattle.journal_core.specs.Fronts.{IsFront, front_of}
use Rattle.journal_core.specs.Journal.{Rests}
use Rattle.journal_core.specs.Standing.{Standing}
use Rattle.journal_core.specs.declared.header.Header.{Header}
use Rattle.compact_core.specs.Carrying.{Carrying}
use Rattle.disk_pair.specs.Gives.{CopyGives, CurrentStays, EndsOlder, FinishGives, OnFault, PairGoes, StartGives, empty_copy}
use Rattle.disk_pair.specs.Pairs.{History, Loses, MayShow, PairOpensTo, State, with_commit}
use Rattle.disk_pair.specs.Puts.{AddsTo, BesideCopy, BesideFault, BesideStart, OtherMoments, ShowsDoubt, held}
use Rattle.disk_pair.specs.Stands.{Beside, Carries, StandsFor}
use Rattle.disk_pair.specs.Term.{AtEachPair, Goes, OfEachPair, Paired, disk_of, first_of}
use Rattle.disk_pair.specs.declared.fault.PutFault.{PutFault}
use Rattle.disk_pair.specs.declared.fault.PutFault.TheVariants.{DiskFault, NoMemory}
use Rattle.disk_pair.specs.declared.other.Other.{Other}
use Rattle.disk_pair.specs.declared.other.Other.TheVariants.{Idle, Copy}
use Rattle.disk_pair.proofs.Calls.{current_stays, other_goes, other_moments, paired, sure_shows, was}
use Rattle.disk_pair.proofs.Commits.{has_shows}
use Rattle.disk_pair.proofs.Lifts.{goes_none}
use Rattle.disk_pair.proofs.Readings.{older_loses}

module _ {D : Type 0} (model : DiskModel D) (journal : Standing D) (second : Bool) (s : State) where
  -- the other disk was changed
  restand : (other new : Other D) → StandsFor model (paired journal other second) s → (f copy : Option History)
      → Beside model second s.now.header.generation f copy new
      → StandsFor model (paired journal new second) (record s { finish = f; copy = copy })
  restand other new st f copy beside = record {
    front = st.front;
    is_front = st.is_front;
    header = st.header;
    journal = st.journal;
    other = beside;
  }

  -- a start
  module _ (disk : D) (doubtful : Bool) (new : Other D)
      (st : StandsFor model (paired journal (Idle disk doubtful) second) s) where
    pub idle_beside : Beside model second s.now.header.generation s.finish None (Idle disk doubtful)
    idle_beside = (refl, st.other.1, st.other.2)

    pub next_generation : journal.header.generation + 1 ≡ s.now.header.generation + 1
    next_generation = ap (λ (h : Header). h.generation + 1) st.header

    older : (f : Option History) → (f ≡ s.finish) ⊎ (f ≡ None)
        → Beside model second s.now.header.generation f None new
        → EndsOlder (StandsFor model (paired journal new second)) s
    older f is beside = record {
      commit = s.commit;
      finish = f;
      commit_is = inl refl;
      finish_is = is;
      stands = restand (Idle disk doubtful) new st f s.copy
          (subst (λ (c : Option History). Beside model second s.now.header.generation f c new) (sym st.other.0) beside);
    }

    refused : Beside model second s.now.header.generation s.finish None new
        ⊎ Beside model second s.now.header.generation None None new
        → EndsOlder (StandsFor model (paired journal new second)) s
    refused (inl stays) = older s.finish (inl refl) stays
    refused (inr ended) = older None (inr refl) ended

    pub start_gives : (header : Header) (result : Result (Unit {0}) PutFault)
        → BesideStart result (λ f copy. Beside model second s.now.header.generation f copy new) s.finish header
        → StartGives result (StandsFor model (paired journal new second)) s header
    start_gives header (Ok _) beside =
        restand (Idle disk doubtful) new st None (Some (empty_copy header)) beside
    start_gives header (Err (DiskFault true)) none = none
    start_gives header (Err (DiskFault false)) beside = refused beside
    start_gives header (Err NoMemory) beside = refused beside

  -- a call on a running copy
  module _ (carry : Carrying D) (st : StandsFor model (paired journal (Copy carry) second) s) where
    abbrev running : History
    running = st.other.1.0

    runs : Carries model s.now.header.generation carry running
    runs = st.other.1.2

    carried : (copy : History) → s.copy ≡ Some copy → Carries model s.now.header.generation carry copy
    carried copy is =
        let same : running ≡ copy = cc (st.other.1.1, is) in
        subst (Carries model s.now.header.generation carry) same runs

    none_now : (copy : Option History) (new : Other D) → Beside model second s.now.header.generation None copy new
        → StandsFor model (paired journal new second) (record s { copy = copy })
    none_now copy new beside = restand (Copy carry) new st s.finish copy
        (subst (λ (f : Option History). Beside model second s.now.header.generation f copy new) (sym st.other.0) beside)

    as_before : (copy : History) → s.copy ≡ Some copy → (new : Other D)
        → Beside model second s.now.header.generation None (Some copy) new
        → StandsFor model (paired journal new second) s
    as_before copy is new beside = none_now s.copy new
        (subst (λ (c : Option History). Beside model second s.now.header.generation None c new) (sym is) beside)

    copy_gives : (copy after : History) → s.copy ≡ Some copy → (new : Other D) (result : Result (Unit {0}) PutFault)
        → BesideCopy result (λ c. Beside model second s.now.header.generation None c new) copy after
        → CopyGives result (StandsFor model (paired journal new second)) s after
    copy_gives copy after is new (Ok _) beside = none_now (Some after) new beside
    copy_gives copy after is new (Err (DiskFault true)) none = none
    copy_gives copy after is new (Err (DiskFault false)) beside = none_now None new beside
    copy_gives copy after is new (Err NoMemory) beside = as_before copy is new beside

    fault_gives : (copy : History) → s.copy ≡ Some copy → (new : Other D) (fault : PutFault)
        → BesideFault fault (λ f c. Beside model second s.now.header.generation f c new) copy
        → FinishGives (Err fault) (StandsFor model (paired journal new second)) s copy
    fault_gives copy is new (DiskFault true) beside = restand (Copy carry) new st (Some copy) None beside
    fault_gives copy is new (DiskFault false) beside = none_now None new beside
    fault_gives copy is new NoMemory beside = as_before copy is new beside

    -- no finish is in doubt while the copy runs
    copy_moments : (after : D) → (Carries model s.now.header.generation carry running
        → OtherMoments model carry.disk after second s.now.header.generation None)
        → OtherMoments model carry.disk after second s.now.header.generation s.finish
    copy_moments after moments = subst (OtherMoments model carry.disk after second s.now.header.generation)
        (sym st.other.0) (moments runs)

    -- what was the current disk is not read beside the copy
    old_loses : (flag : Bool) (g : ℕ) → s.now.header.generation < g → (x : List ℕ)
        → ShowsDoubt st.front s.now.commits s.commit x → Loses flag g x
    old_loses flag g less x (inl now) =
        older_loses flag g s.now x (record { front = st.front; is = st.is_front; opens = now }) less
    old_loses flag g less x (inr doubt) = older_loses flag g (with_commit s.now doubt.0) x
        (record { front = st.front; is = st.is_front; opens = doubt.2 }) less

    done_stands : (copy : History) → s.copy ≡ Some copy → (next : Standing D) → next.header ≡ carry.header
        → next.doubt ≡ false → (Carries model s.now.header.generation carry copy
        → IsFront copy.header copy.base (front_of copy.header copy.base)
        × IfTold (model.content next.disk) (λ _. Rests model next (front_of copy.header copy.base) copy.commits))
        → (flag : Bool) → StandsFor model (paired next (Idle journal.disk false) flag)
        (record { now = copy; commit = None; finish = None; copy = None })
    done_stands copy is next header sure whole flag =
        let r = carried copy is in
        let w = whole r in
        record {
          front = front_of copy.header copy.base;
          is_front = w.0;
          header = header ∙ r.header;
          journal = (sure, w.1);
          other = (
            refl,
            λ _. refl,
            λ l told x i. old_loses flag copy.header.generation (omega (arith, r.next)) x
                (has_shows model journal st.front s.now.commits s.commit st.journal l told x i),
          );
        }

    may_finish : (copy k : History) → s.copy ≡ Some copy → MayShow (record s { finish = Some copy }) k
        → MayShow s k ⊎ (s.copy ≡ Some k)
    may_finish copy k is (inl now) = inl (inl now)
    may_finish copy k is (inr (inl doubt)) = inl (inr (inl doubt))
    may_finish copy k is (inr (inr same)) = inr (is ∙ same)

    -- at a moment of a finish
    finish_moments : (only_now : (d : D) (c : List ℕ) → model.images_between d (model.clock d) (model.clock d) c
        → model.images d c) (after : D)
        → (Carries model s.now.header.generation carry running
        → OtherMoments model carry.disk after second s.now.header.generation (Some running))
        → IfTold (model.content (first_of second journal.disk after))
        (λ _. IfTold (model.content (first_of second after journal.disk)) (λ _.
        AtEachMoment model (first_of second journal.disk carry.disk) (first_of second journal.disk after) (λ x.
        AtEachMoment model (first_of second carry.disk journal.disk) (first_of second after journal.disk) (λ y.
        PairOpensTo (λ h. MayShow s h ⊎ (s.copy ≡ Some h)) x y))))
    finish_moments only_now after moments l told k told_other x m y n =
        let shown = other_moments model only_now journal second (Copy carry) after s st (Some running) (moments runs)
        l told k told_other x m y n in
        (shown.0, may_finish running shown.0 st.other.1.1 shown.1, shown.2)

-- at Ok each pair of images opens to the copy
pub finish_sure : {D : Type 0} (model : DiskModel D) (copy : History) (pair : Paired D)
    → StandsFor model pair (record { now = copy; commit = None; finish = None; copy = None })
    → OfEachPair model pair (PairOpensTo (λ h. h ≡ copy))
finish_sure model copy pair st =
    sure_shows model pair (record { now = copy; commit = None; finish = None; copy = None }) refl refl st

-- where the roles are changed
turned_moments : {D : Type 0} (model : DiskModel D) (second : Bool) (c o after : D)
    (P : List ℕ → List ℕ → Type 0)
    → IfTold (model.content (first_of second c after)) (λ _. IfTold (model.content (first_of second after c)) (λ _.
    AtEachMoment model (first_of second c o) (first_of second c after) (λ x.
    AtEachMoment model (first_of second o c) (first_of second after c) (λ y. P x y))))
    → IfTold (model.content (first_of (not second) after c)) (λ _.
    IfTold (model.content (first_of (not second) c after)) (λ _.
    AtEachMoment model (first_of second c o) (first_of (not second) after c) (λ x.
    AtEachMoment model (first_of second o c) (first_of (not second) c after) (λ y. P x y))))
turned_moments model false c o after P f = f
turned_moments model true c o after P f = f

turned_goes : {D : Type 0} (model : DiskModel D) (journal next : Standing D) (second : Bool) (carry : Carrying D)
    → Goes model carry.disk next.disk
    → PairGoes model (Ok tt) (paired journal (Copy carry) second) (paired next (Idle journal.disk false) (not second))
turned_goes model journal next false carry goes = record { a = goes_none model journal.disk; b = goes; cause = tt }
turned_goes model journal next true carry goes = record { a = goes; b = goes_none model journal.disk; cause = tt }

-- what a call on two disks leaves that adds to the running copy
pub record Adds {D : Type 0} (model : DiskModel D) (result : Result (Unit {0}) PutFault) (old new : Paired D)
    (P : History → Type 0) (longer : History → History) : Type 0 where
  pub gives : (s : State) (copy : History) → StandsFor model old s → s.copy ≡ Some copy → P copy
      → CopyGives result (StandsFor model new) s (longer copy)
  pub current : CurrentStays model old new
  pub goes : PairGoes model result old new

-- what a finish leaves
pub record Ends {D : Type 0} (model : DiskModel D) (result : Result (Unit {0}) PutFault) (old new : Paired D)
    : Type 0 where
  pub gives : (s : State) (copy : History) → StandsFor model old s → s.copy ≡ Some copy
      → FinishGives result (StandsFor model new) s copy
  pub moments : (s : State) → StandsFor model old s
      → AtEachPair model old new (PairOpensTo (λ h. MayShow s h ⊎ (s.copy ≡ Some h)))
  pub goes : PairGoes model result old new

-- A call that takes the running copy out of the pair, by what it leaves on the copy's disk.
module _ {D : Type 0} (model : DiskModel D) (only_now : (d : D) (c : List ℕ)
    → model.images_between d (model.clock d) (model.clock d) c → model.images d c) (old : Paired D)
    (journal : Standing D) (second : Bool) (inside : Option (Other D)) (carry : Carrying D)
    (view : paired journal (held journal.disk inside) second ≡ old) (taken : inside ≡ Some (Copy carry)) where
  is : old ≡ paired journal (Copy carry) second
  is = was old journal second inside (Copy carry) view taken

  pub adds : (P : History → Type 0) (longer : History → History) (new : Other D) (result : Result (Unit {0}) PutFault)
      → AddsTo model result carry new P longer → Adds model result old (paired journal new second) P longer
  adds P longer new result to = record {
    gives = rw is (λ s copy st has p.
        copy_gives model journal second s carry st copy (longer copy) has new result
        (to.gives second s.now.header.generation copy p (carried model journal second s carry st copy has)));
    current = current_stays model only_now journal second old (Copy carry) new is (λ s st.
        copy_moments model journal second s carry st (disk_of new)
        (to.moments second s.now.header.generation (running model journal second s carry st)));
    goes = other_goes model journal second old (Copy carry) new result is to.goes to.cause;
  }

  pub refused_finish : (new : Other D) (fault : PutFault)
      → ((second : Bool) (g : ℕ) (h : History) → Carries model g carry h
      → BesideFault fault (λ finish copy. Beside model second g finish copy new) h)
      → ((second : Bool) (g : ℕ) (h : History) → Carries model g carry h
      → OtherMoments model carry.disk (disk_of new) second g (Some h))
      → Goes model carry.disk (disk_of new) → OnFault (Err fault) (Faulted model carry.disk (disk_of new))
      → Ends model (Err fault) old (paired journal new second)
  refused_finish new fault gives moments goes cause = record {
    gives = rw is (λ s copy st has. fault_gives model journal second s carry st copy has new fault
        (gives second s.now.header.generation copy (carried model journal second s carry st copy has)));
    moments = rw is (λ s st. finish_moments model journal second s carry st only_now (disk_of new)
        (moments second s.now.header.generation (running model journal second s carry st)));
    goes = other_goes model journal second old (Copy carry) new (Err fault) is goes cause;
  }

  -- the disks change places
  pub finished : (next : Standing D) (new : Paired D) → paired next (Idle journal.disk false) (not second) ≡ new
      → next.header ≡ carry.header → next.doubt ≡ false
      → ((g : ℕ) (h : History) → Carries model g carry h → IsFront h.header h.base (front_of h.header h.base)
      × IfTold (model.content next.disk) (λ _. Rests model next (front_of h.header h.base) h.commits))
      → ((second : Bool) (g : ℕ) (h : History) → Carries model g carry h
      → OtherMoments model carry.disk next.disk second g (Some h))
      → Goes model carry.disk next.disk → Ends model (Ok tt) old new
  finished next new turned header sure whole moments goes = subst (Ends model (Ok tt) old) turned (record {
    gives = rw is (λ s copy st has. done_stands model journal second s carry st copy has next header sure
        (whole s.now.header.generation copy) (not second));
    moments = rw is (λ s st. turned_moments model second journal.disk carry.disk next.disk
        (PairOpensTo (λ (h : History). MayShow s h ⊎ (s.copy ≡ Some h)))
        (finish_moments model journal second s carry st only_now next.disk
        (moments second s.now.header.generation (running model journal second s carry st))));
    goes = rw is (turned_goes model journal next second carry goes);
  })

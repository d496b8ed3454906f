-- A call on two disks: what each two images open to, and what the disks keep.
use Rattle.std.proofs.Common.{◌≡◌, ◌⊎◌, inl, inr, ◌++◌, ◌∷◌, [], Bool, false, true, ℕ, List, Option, Some, None, Result, Ok, Err, OnOk, refl, sym, ◌∙◌, ap, subst}
use Rattle.disk_edge.specs.Disk.{DiskModel, Faulted, IfTold}
use Rattle.disk_edge.specs.Moments.{AtEachMoment}
use Rattle.disk_edge.specs.declared.disk.DiskFail.{DiskFail}
use Rattle.journal_core.specs.Fronts.{IsFront}
use Rattle.journal_core.specs.Standing.{Standing}
use Rattle.disk_pair.specs.Gives.{AppendGives, CurrentStays, EndsOlder, OnFault, PairGoes}
use Rattle.disk_pair.specs.Pairs.{History, MayShow, PairOpensTo, State, with_commit}
use Rattle.disk_pair.specs.Puts.{EndsFinish, IsOther, IsThere, OtherMoments, PutGives, ShowsOne, held}
use Rattle.disk_pair.specs.Stands.{Beside, Has, StandsFor}
use Rattle.disk_pair.specs.Term.{AtEachPair, Goes, OfEachPair, Paired, disk_of, first_of}
use Rattle.disk_pair.specs.declared.fault.PutFault.{PutFault}
use Rattle.disk_pair.specs.declared.fault.PutFault.TheVariants.{DiskFault, NoMemory}
use Rattle.disk_pair.specs.declared.other.Other.{Other}
use Rattle.disk_pair.proofs.Commits.{has_shows, shows_doubt, shows_one}
use Rattle.disk_pair.proofs.Lifts.{each_now, each_pair, goes_none}
use Rattle.disk_pair.proofs.Others.{other_shows}
use Rattle.disk_pair.proofs.Readings.{Shows}

abbrev pub paired : {D : Type 0} → Standing D → Other D → Bool → Paired D
paired journal other second = record { journal = journal; other = other; second = second }

-- the pair before a call that takes the other disk out of it
pub was : {D : Type 0} (old : Paired D) (journal : Standing D) (second : Bool) (inside : Option (Other D))
    (other : Other D) → paired journal (held journal.disk inside) second ≡ old → inside ≡ Some other
    → old ≡ paired journal other second
was old journal second inside other view taken = sym view ∙ (λ i. paired journal (held journal.disk (taken i)) second)

at_fault : {P Q : Type 0} (result : Result (Unit {0}) PutFault) → (P → Q) → OnFault result P → OnFault result Q
at_fault (Ok _) f p = tt
at_fault (Err (DiskFault doubt)) f p = f p
at_fault (Err NoMemory) f p = tt

swapped : {P Q : Type 0} → P ⊎ Q → Q ⊎ P
swapped (inl p) = inr p
swapped (inr q) = inl q

only_may : (s : State) (k : History) → MayShow s k ⊎ ⊥ → MayShow s k
only_may s k (inl may) = may
only_may s k (inr none) = absurd none

module _ {D : Type 0} (model : DiskModel D) where
  -- an image of the journal's disk beside one of the other disk
  pub now_shows : (pair : Paired D) (s : State) → StandsFor model pair s → (f : Option History) (l : List ℕ)
      → model.content pair.journal.disk ≡ Some l → (x y : List ℕ) → model.images pair.journal.disk x
      → IsOther pair.second s.now.header.generation f y
      → (h : History) × MayShow (record s { finish = f }) h × Shows pair.second h x y
  now_shows pair s st f l told x y i other =
      let shown = shows_doubt pair.second (record s { finish = f }) st.front st.is_front x y (λ (h : History). ⊥)
      (has_shows model pair.journal st.front s.now.commits s.commit st.journal l told x i) other in
      (shown.0, only_may (record s { finish = f }) shown.0 shown.1, shown.2)

  -- a crash now
  pub stands_shows : (pair : Paired D) (s : State) → StandsFor model pair s
      → OfEachPair model pair (PairOpensTo (MayShow s))
  stands_shows pair s st = each_now model pair.second pair.journal.disk (disk_of pair.other) (MayShow s)
      (λ l told k told_other x y i j. now_shows pair s st s.finish l told x y i
      (other_shows model pair.second s.now.header.generation s.finish s.copy pair.other st.other k told_other y j))

  alone : (s : State) (h : History) → s.commit ≡ None → s.finish ≡ None → MayShow s h → h ≡ s.now
  alone s h commit finish (inl now) = now
  alone s h commit finish (inr (inl doubt)) = cc (commit, doubt.1)
  alone s h commit finish (inr (inr done)) = cc (finish, done)

  -- a crash where nothing is in doubt
  pub sure_shows : (pair : Paired D) (s : State) → s.commit ≡ None → s.finish ≡ None → StandsFor model pair s
      → OfEachPair model pair (PairOpensTo (λ h. h ≡ s.now))
  sure_shows pair s commit finish st l told k told_other x y i j =
      let shown = stands_shows pair s st l told k told_other x y i j in
      (shown.0, alone s shown.0 commit finish shown.1, shown.2)

  -- the other disk alone is called
  module _ (only_now : (d : D) (c : List ℕ) → model.images_between d (model.clock d) (model.clock d) c
      → model.images d c) (journal : Standing D) (second : Bool) where
    pub other_moments : (other : Other D) (after : D) (s : State) → StandsFor model (paired journal other second) s
        → (f : Option History) → OtherMoments model (disk_of other) after second s.now.header.generation f
        → IfTold (model.content (first_of second journal.disk after))
        (λ _. IfTold (model.content (first_of second after journal.disk)) (λ _.
        AtEachMoment model (first_of second journal.disk (disk_of other)) (first_of second journal.disk after) (λ x.
        AtEachMoment model (first_of second (disk_of other) journal.disk) (first_of second after journal.disk) (λ y.
        PairOpensTo (MayShow (record s { finish = f })) x y))))
    other_moments other after s st f moments =
        each_pair model second journal.disk journal.disk (disk_of other) after (MayShow (record s { finish = f }))
        (λ l told k told_after x m y n. now_shows (paired journal other second) s st f l told x y
        (only_now journal.disk x m) (moments k told_after y n))

    pub current_stays : (old : Paired D) (other new : Other D) → old ≡ paired journal other second
        → ((s : State) → StandsFor model (paired journal other second) s
        → OtherMoments model (disk_of other) (disk_of new) second s.now.header.generation s.finish)
        → CurrentStays model old (paired journal new second)
    current_stays old other new is moments = record {
      journal = ap (λ (p : Paired D). p.journal) (sym is);
      second = ap (λ (p : Paired D). p.second) (sym is);
      moments = rw is (λ s st. other_moments other (disk_of new) s st s.finish (moments s st));
    }

  both_go : (journal after : Standing D) (old new : Other D) (second : Bool) (result : Result (Unit {0}) PutFault)
      → Goes model journal.disk after.disk → Goes model (disk_of old) (disk_of new)
      → OnFault result (Faulted model journal.disk after.disk ⊎ Faulted model (disk_of old) (disk_of new))
      → PairGoes model result (paired journal old second) (paired after new second)
  both_go journal after old new false result p q cause = record { a = p; b = q; cause = cause }
  both_go journal after old new true result p q cause = record { a = q; b = p; cause = at_fault result swapped cause }

  -- what the call of the other disk alone keeps of both
  pub other_goes : (journal : Standing D) (second : Bool) (old : Paired D) (other new : Other D)
      (result : Result (Unit {0}) PutFault) → old ≡ paired journal other second
      → Goes model (disk_of other) (disk_of new) → OnFault result (Faulted model (disk_of other) (disk_of new))
      → PairGoes model result old (paired journal new second)
  other_goes journal second old other new result is goes cause =
      rw is (both_go journal journal other new second result (goes_none model journal.disk) goes
      (at_fault result (λ f. inr f) cause))

  -- a commit, by its answer
  module _ (pair : Paired D) (s : State) (front payload : List ℕ) (is_front : IsFront s.now.header s.now.base front)
      (header : pair.journal.header ≡ s.now.header)
      (other : Beside model pair.second s.now.header.generation None s.copy pair.other) where
    stands_as : (commits : List (List ℕ)) (commit : Option (List ℕ)) → Has model pair.journal front commits commit
        → StandsFor model pair (record {
          now = record s.now { commits = commits };
          commit = commit;
          finish = None;
          copy = s.copy;
        })
    stands_as commits commit has = record {
      front = front;
      is_front = is_front;
      header = header;
      journal = has;
      other = other;
    }

    older : Has model pair.journal front s.now.commits s.commit ⊎ Has model pair.journal front s.now.commits None
        → EndsOlder (StandsFor model pair) s
    older (inl stays) = record {
      commit = s.commit;
      finish = None;
      commit_is = inl refl;
      finish_is = inr refl;
      stands = stands_as s.now.commits s.commit stays;
    }
    older (inr ended) = record {
      commit = None;
      finish = None;
      commit_is = inr refl;
      finish_is = inr refl;
      stands = stands_as s.now.commits None ended;
    }

    pub append_gives : (result : Result (Unit {0}) PutFault)
        → PutGives result (Has model pair.journal front) s.now.commits s.commit payload
        → AppendGives result (StandsFor model pair) s payload
    append_gives (Ok _) has = stands_as (s.now.commits ++ payload ∷ []) None has
    append_gives (Err (DiskFault true)) has = stands_as s.now.commits (Some payload) has
    append_gives (Err (DiskFault false)) has = older has
    append_gives (Err NoMemory) has = older has

  -- at Ok each pair of images has the commit
  pub append_sure : (pair : Paired D) (payload : List ℕ) (Before : State → Type 0) (result : Result (Unit {0}) PutFault)
      → ((s : State) → Before s → AppendGives result (StandsFor model pair) s payload)
      → OnOk result ((s : State) → Before s
      → OfEachPair model pair (PairOpensTo (λ h. h ≡ with_commit s.now payload)))
  append_sure pair payload Before (Err _) gives = tt
  append_sure pair payload Before (Ok _) gives = λ s b. sure_shows pair (record {
    now = with_commit s.now payload;
    commit = None;
    finish = None;
    copy = s.copy;
  }) refl refl (gives s b)

-- where the other disk is there, it stands for itself whatever the current one is
same_held : {D : Type 0} (d e : D) (other : Option (Other D)) → IsThere other → held d other ≡ held e other
same_held d e (Some other) there = refl
same_held d e None there = absurd there

-- what putting a payload leaves of the journal
pub record Takes {D : Type 0} (model : DiskModel D) (result : Result (Unit {0}) PutFault) (payload : List ℕ)
    (new old : Standing D) : Type 0 where
  pub gives : (front : List ℕ) (ps : List (List ℕ)) (doubt : Option (List ℕ)) → Has model old front ps doubt
      → PutGives result (Has model new front) ps doubt payload
  pub moments : (front : List ℕ) (ps : List (List ℕ)) (doubt : Option (List ℕ)) → Has model old front ps doubt
      → IfTold (model.content new.disk) (λ _. AtEachMoment model old.disk new.disk (ShowsOne front ps doubt payload))
  pub header : new.header ≡ old.header
  pub goes : Goes model old.disk new.disk
  pub cause : OnFault result (Faulted model old.disk new.disk)

-- what an append leaves of the two disks
pub record Appends {D : Type 0} (model : DiskModel D) (result : Result (Unit {0}) PutFault) (payload : List ℕ)
    (old new : Paired D) : Type 0 where
  pub gives : (s : State) → StandsFor model old s → AppendGives result (StandsFor model new) s payload
  pub moments : (s : State) → StandsFor model old s
      → AtEachPair model old new (PairOpensTo (λ h. MayShow s h ⊎ (h ≡ with_commit s.now payload)))
  pub goes : PairGoes model result old new

-- A finish in doubt is ended first, on the other disk alone.
module _ {D : Type 0} (model : DiskModel D) (only_now : (d : D) (c : List ℕ)
    → model.images_between d (model.clock d) (model.clock d) c → model.images d c) (old mid : Paired D)
    (journal : mid.journal ≡ old.journal) (second : mid.second ≡ old.second) (payload : List ℕ)
    (result : Result (Unit {0}) PutFault) where
  -- it is not ended
  pub refused_append : {fail : DiskFail} → EndsFinish model (Err fail) old.other mid.other
      → OnFault result (Faulted model (disk_of old.other) (disk_of mid.other))
      → ((s : State) → EndsOlder (StandsFor model mid) s → AppendGives result (StandsFor model mid) s payload)
      → Appends model result payload old mid
  refused_append ends cause older =
      let stays = current_stays model only_now old.journal old.second old old.other mid.other refl
      (λ s st. ends.moments old.second s.now.header.generation s.finish s.copy st.other) in
      let rejoined : paired old.journal mid.other old.second ≡ mid =
      λ i. record { journal = sym journal i; other = mid.other; second = sym second i } in
      record {
        gives = λ s st. older s (record {
          commit = s.commit;
          finish = s.finish;
          commit_is = inl refl;
          finish_is = inl refl;
          stands = subst (λ (p : Paired D). StandsFor model p s) rejoined (record {
            front = st.front;
            is_front = st.is_front;
            header = st.header;
            journal = st.journal;
            other = ends.err old.second s.now.header.generation s.finish s.copy st.other;
          });
        });
        moments = λ s st. subst (λ (p : Paired D). AtEachPair model old p
            (PairOpensTo (λ (h : History). MayShow s h ⊎ (h ≡ with_commit s.now payload)))) rejoined
            (λ l told k told_other x m y n. let shown = stays.moments s st l told k told_other x m y n in
            (shown.0, inl shown.1, shown.2));
        goes = subst (PairGoes model result old) rejoined
            (other_goes model old.journal old.second old old.other mid.other result refl ends.goes cause);
      }

  -- then the journal takes the payload or not
  pub done_append : (inside : Standing D) (other : Option (Other D)) (flag : Bool)
      → paired inside (held inside.disk other) flag ≡ mid → IsThere other
      → EndsFinish model (Ok tt) old.other mid.other → (after : Standing D) → Takes model result payload after inside
      → Appends model result payload old (paired after (held after.disk other) flag)
  done_append inside other flag view there ends after put =
      let takes = subst (Takes model result payload after) (ap (λ (p : Paired D). p.journal) view ∙ journal) put in
      let now = paired after mid.other old.second in
      let is-other = ap (λ (p : Paired D). p.other) (sym view) ∙ same_held inside.disk after.disk other there in
      let is-second = sym second ∙ ap (λ (p : Paired D). p.second) (sym view) in
      let new : now ≡ paired after (held after.disk other) flag = λ i. paired after (is-other i) (is-second i) in
      subst (Appends model result payload old) new (record {
        gives = λ s st. append_gives model now s st.front payload st.is_front (takes.header ∙ st.header)
            (ends.ok old.second s.now.header.generation s.finish s.copy st.other) result
            (takes.gives st.front s.now.commits s.commit st.journal);
        moments = λ s st. each_pair model old.second old.journal.disk after.disk (disk_of old.other) (disk_of mid.other)
            (λ h. MayShow s h ⊎ (h ≡ with_commit s.now payload))
            (λ l told k told_other x m y n. shows_one old.second s st.front st.is_front payload x y
            (takes.moments st.front s.now.commits s.commit st.journal l told x m)
            (ends.moments old.second s.now.header.generation s.finish s.copy st.other k told_other y n));
        goes = both_go model old.journal after old.other mid.other old.second result takes.goes ends.goes
            (at_fault result (λ f. inl f) takes.cause);
      })

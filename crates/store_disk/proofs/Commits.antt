-- A commit on two disks, as a step of the machine.
use Rattle.std.proofs.Common.{◌≡◌, ◌⊎◌, ◌+◌, ◌≤◌, ◌∙◌, ap, arith, Bool, Err, false, inl, inr, IsErrAnd, length, length-append, List, [], ◌∷◌, None, Ok, Option, option_map, refl, Result, Some, subst, sym, true, ℕ}
use Rattle.disk_edge.specs.Disk as disk
use Rattle.disk_edge.specs.Disk.{DiskModel}
use Rattle.disk_pair.specs.Gives.{AppendGives, DoubtAfter, EndsOlder, OnFault}
use Rattle.disk_pair.specs.Pairs.{History as Written, MayShow as PairMayShow, PairOpens, PairOpensTo as PairMayOpen, State as PairState, with_commit}
use Rattle.disk_pair.specs.Stands.{StandsFor as StandsOnDisks}
use Rattle.disk_pair.specs.Term.{AtEachPair, Goes, OfEachPair, Paired, disk_a, disk_b, progress_of}
use Rattle.disk_pair.specs.declared.fault.PutFault.{PutFault}
use Rattle.disk_pair.specs.declared.fault.PutFault.TheVariants as put
use Rattle.store_core.specs.Calls.{Calls}
use Rattle.store_core.specs.Replies.{change_of, commit_calls}
use Rattle.store_core.specs.Stored as memory
use Rattle.store_core.specs.Stored.{IsServing, Served, StoreTerm as Memory, served}
use Rattle.store_core.specs.Prepared.{IsWhy}
use Rattle.store_core.specs.declared.words.Change.{Change as Asked}
use Rattle.store_core.specs.declared.words.CommitFault.{CommitFault}
use Rattle.store_core.specs.declared.words.CommitFault.TheVariants as fault
use Rattle.journal_core.specs.declared.header.Header.{Header}
use Rattle.store_machine.specs.History.{head}
use Rattle.store_machine.specs.Laws.{RunsStaySound}
use Rattle.store_machine.specs.Machine.{CommitGives, EndsDoubts, Gives, MayAdd, Rose, SomeRose, StaysOrEnds, committed}
use Rattle.store_machine.specs.Rebases.{RebasesGrow, RebasesKeepHeads}
use Rattle.store_machine.specs.declared.machine.Change.{Change}
use Rattle.store_machine.specs.declared.machine.Event.TheVariants as event
use Rattle.store_machine.specs.declared.machine.Faults.{Faults}
use Rattle.store_machine.specs.declared.machine.Reply.{Reply}
use Rattle.store_machine.specs.declared.machine.Reply.TheVariants as reply
use Rattle.store_machine.specs.declared.machine.State.{State}
use Rattle.store_disk.specs.Copies.{queued}
use Rattle.store_disk.specs.OnDisk.{AreKnown, CopyTerm, Follow, HasCopy, HasHeader, IfBothTold, IsPayload, IsReady, StandsFor, StoreTerm, on_pair, whole_copy}
use Rattle.store_disk.specs.Payloads.{payload}
use Rattle.store_disk.specs.Faults.{commit_fault}
use Rattle.store_disk.specs.Stored.{Shows, Stretches, times, told-before}
use Rattle.store_disk.proofs.Bounds.{rose}
use Rattle.store_disk.proofs.Copies.{follow-more, has-more, header-more}
use Rattle.store_disk.proofs.Doubts.{no-finish, told-known}
use Rattle.store_disk.proofs.Lifts.{one-call, sound-after, step_of, still-call}
use Rattle.store_disk.proofs.OnDisks.{after-commit, shown-after, shown-with}
use Rattle.store_disk.proofs.Steps.{all}

-- a commit with its answer
abbrev pub Gone : {D : Type 0} → DiskModel D → StoreTerm D → StoreTerm D → State → Asked → Result ℕ CommitFault → Type 0
Gone model store new s c r = Calls (Stretches model) all store new s (commit_calls c r)

module _ {D : Type 0} (model : DiskModel D)
    (only-now : (d : D) (c : List ℕ)
    → model.images_between d (model.clock d) (model.clock d) c → model.images d c)
    (law : RunsStaySound) (heads : RebasesKeepHeads) (store : StoreTerm D)
    (leaves : (t : PairState) → StandsOnDisks model store.pair t
    → OfEachPair model store.pair (PairMayOpen (PairMayShow t))) where
  -- the store with another memory, which stands for the same
  abbrev With : Memory → StoreTerm D
  With m = record store { memory = m }

  with-memory : (m : Memory) (s : State) → StandsFor model store s → memory.StandsFor m (served s)
      → StandsFor model (With m) s
  with-memory m s h stands = record {
    memory = record { sound = h.memory.sound; serves = h.memory.serves; stands = stands };
    header = h.header;
    pair = h.pair;
    copy = h.copy;
    copied = h.copied;
    doubts = h.doubts;
    counts = h.counts;
  }

  -- nothing was done
  untouched : (m : Memory) (s : State) (c : Change) (r : Reply) → StandsFor model store s
      → StandsFor model (With m) s → CommitGives s c r s
      → Calls (Stretches model) all store (With m) s ((event.Commit c, r) ∷ [])
  untouched m s c r h n row = still-call model only-now law heads store leaves m s s 0 (event.Commit c) r refl h
      ((h.memory.serves, (omega arith, omega arith)), row) n

  refused : (m : Memory) (s : State) (c : Asked) (f : CommitFault)
      → StandsFor model store s → StandsFor model (With m) s → IsWhy s (change_of c) f
      → Gone model store (With m) s c (Err f)
  refused m s c fault.Known h n why = untouched m s (change_of c) reply.Known h n (why, refl)
  refused m s c fault.Absent h n why = untouched m s (change_of c) reply.Absent h n (why, refl)
  refused m s c fault.Withdrawn h n why = untouched m s (change_of c) reply.Withdrawn h n (why, refl)
  refused m s c fault.Full h n why = untouched m s (change_of c) reply.Full h n (why.0, why.1, refl)
  refused m s c (fault.DiskFault doubt) h n why = absurd why
  refused m s c fault.Worn h n why = absurd why
  refused m s c fault.NoMemory h n why = untouched m s (change_of c) reply.NoMemory h n (inl refl, inl refl, refl)

  -- by the result of a `?`: before the memory is asked, and after
  pub wanting-result : (s : State) (c : Asked) (r : Result ℕ CommitFault) → IsErrAnd r (λ e. e ≡ fault.NoMemory)
      → StandsFor model store s → Gone model store store s c r
  wanting-result s c (Ok x) is h = absurd is
  wanting-result s c (Err e) is h = subst (λ f. Gone model store store s c (Err f)) (sym is)
      (untouched store.memory s (change_of c) reply.NoMemory h h (inl refl, inl refl, refl))

  pub refused-result : (m : Memory) (s : State) (c : Asked) (f : CommitFault) (r : Result ℕ CommitFault)
      → IsErrAnd r (λ e. e ≡ f) → memory.StandsFor m (served s) → StandsFor model store s
      → IsWhy s (change_of c) f → Gone model store (With m) s c r
  refused-result m s c f (Ok x) is stands h why = absurd is
  refused-result m s c f (Err e) is stands h why =
      refused m s c e h (with-memory m s h stands) (subst (IsWhy s (change_of c)) (sym is) why)

module _ {D : Type 0} (model : DiskModel D) (law : RunsStaySound) (heads : RebasesKeepHeads) (grow : RebasesGrow)
    (store : StoreTerm D) (s : State) (h : StandsFor model store s) (c : Asked) (may : MayAdd s (change_of c))
    (m : Memory) (pair : Paired D) (copies : Option CopyTerm) (goes_a : Goes model (disk_a store.pair) (disk_a pair))
    (goes_b : Goes model (disk_b store.pair) (disk_b pair))
    (kept : pair.journal.header ≡ store.pair.journal.header)
    (progress : progress_of pair.other ≡ progress_of store.pair.other) (p : List ℕ)
    (written : p ≡ payload (change_of c))
    (given : (t : PairState) → StandsOnDisks model store.pair t → AtEachPair model store.pair pair
    (PairMayOpen (λ w. PairMayShow t w ⊎ (w ≡ with_commit t.now p)))) where
  abbrev new : StoreTerm D
  new = record { memory = m; pair = pair; copy = copies }

  abbrev faults : Faults
  faults = record { a = model.faults (disk_a pair); b = model.faults (disk_b pair) }

  -- what is told of both disks was told before
  stood : {P : Type 0} → (StandsOnDisks model store.pair (on_pair s) → P) → IfBothTold model pair P
  stood f l is k it =
      let a = told-before (model.content (disk_a store.pair)) (model.content (disk_a pair)) goes_a.untold l is in
      let b = told-before (model.content (disk_b store.pair)) (model.content (disk_b pair)) goes_b.untold k it in
      f (h.pair a.0 a.1 b.0 b.1)

  shows : (t : State) (r : Reply) (x y : List ℕ)
      → PairMayOpen (λ w. PairMayShow (on_pair s) w ⊎ (w ≡ with_commit (on_pair s).now p)) x y
      → Shows (step_of 0 (event.Commit (change_of c)) r s t (times model store) (times model new)) x y
  shows t r x y (w, inl older, opens) =
      let shown = shown-after law heads store.memory s h.memory x y (w, older, opens) in
      (shown.0, shown.1, inl shown.2, shown.3)
  shows t r x y (w, inr is, opens) = (
    _,
    s.generation,
    inr (inl (change_of c, refl, may, refl, refl)),
    shown-with law heads store.memory s h.memory (change_of c) may x y
        (subst (λ (v : Written). PairOpens v x y)
        (is ∙ ap (λ (q : List ℕ). with_commit (on_pair s).now q) written) opens),
  )

  -- the step of this commit, with its row
  step : (t : State) (r : Reply) → t.faults ≡ faults → CommitGives s (change_of c) r t
      → memory.StandsFor m (served t) → t.serves ≡ true → HasCopy t.history t.copy copies
      → HasHeader t.generation t.history copies (progress_of store.pair.other)
      → (on_pair t).now.header ≡ (on_pair s).now.header → AreKnown pair t.doubt t.finish
      → IfBothTold model pair (StandsOnDisks model pair (on_pair t))
      → Calls (Stretches model) all store new s ((event.Commit (change_of c), r) ∷ [])
  step t r counts row stands serving has header same known disks =
      let e = event.Commit (change_of c) in
      let gives : Gives s 0 e r t = (
        (
          h.memory.serves,
          (
            omega (arith, goes_a.count.count, ap (λ (f : Faults). f.a) h.counts, ap (λ (f : Faults). f.a) counts),
            omega (arith, goes_b.count.count, ap (λ (f : Faults). f.b) h.counts, ap (λ (f : Faults). f.b) counts),
          ),
        ),
        row,
      ) in
      one-call model store new s t 0 e r refl h gives
      (record {
        memory = record {
          sound = sound-after law s t 0 e r gives h.memory.sound;
          serves = serving;
          stands = stands;
        };
        header = kept ∙ (h.header ∙ sym same);
        pair = disks;
        copy = has;
        copied = subst (HasHeader t.generation t.history copies) (sym progress) header;
        doubts = known;
        counts = counts;
      })
      goes_a.past goes_b.past goes_a.untold goes_b.untold (inl tt) (λ other. absurd (other tt))
      (λ l is k it x y i j. shows t r x y (stood (given (on_pair s)) l is k it l is k it x i y j))

  pub done : memory.StandsFor m (served (committed s (change_of c)))
      → copies ≡ option_map (queued p) store.copy → pair.journal.doubt ≡ false
      → ((t : PairState) → StandsOnDisks model store.pair t
      → StandsOnDisks model pair (record t { now = with_commit t.now p; commit = None; finish = None }))
      → Gone model store new s c (Ok m.version)
  done ends more settled disks =
      let told = change_of c in
      let t : State = record (committed s told) { faults = faults } in
      let after = after-commit grow s told h.memory.sound in
      let past = h.memory.sound.bases.copy in
      let is = more ∙ ap (λ q. option_map (queued q) store.copy) written in
      step t (reply.Committed m.version) refl
      (may, omega (arith, ends.version, length-append s.history.commits (told ∷ [])), refl)
      ends h.memory.serves
      (subst (λ (o : Option CopyTerm). HasCopy t.history t.copy o) (sym is)
      (has-more grow s.history told s.copy past store.copy h.copy))
      (subst (λ (o : Option CopyTerm). HasHeader s.generation t.history o (progress_of store.pair.other)) (sym is)
      (header-more grow s.history told s.copy past store.copy h.copy s.generation (progress_of store.pair.other)
      h.copied))
      (ap (λ (x : PairState). x.now.header) after) (no-finish pair None settled)
      (stood (λ stands. subst (StandsOnDisks model pair)
      (ap (λ (q : List ℕ). record (on_pair s) {
        now = with_commit (on_pair s).now q;
        commit = None;
        finish = None;
      }) written ∙ sym after) (disks (on_pair s) stands)))

  module _ (ends : memory.StandsFor m (served s)) (still : copies ≡ store.copy) where
    -- after a fault the state is as before, with these doubts
    abbrev then : Option Change → Option ℕ → State
    then doubt finish = record s { doubt = doubt; finish = finish; faults = faults }

    with-doubts : (doubt : Option Change) (finish : Option ℕ) (r : Reply)
        → CommitGives s (change_of c) r (then doubt finish) → AreKnown pair doubt finish
        → IfBothTold model pair (StandsOnDisks model pair (on_pair (then doubt finish)))
        → Calls (Stretches model) all store new s ((event.Commit (change_of c), r) ∷ [])
    with-doubts doubt finish r row known disks =
        step (then doubt finish) r refl row ends h.memory.serves
        (subst (HasCopy s.history s.copy) (sym still) h.copy)
        (subst (λ (o : Option CopyTerm). HasHeader s.generation s.history o (progress_of store.pair.other)) (sym still)
        h.copied) refl known disks

    -- the doubts that two disks have are ones of the machine
    record Older : Type 0 where
      doubt : Option Change
      finish : Option ℕ
      doubt_is : StaysOrEnds s.doubt doubt
      finish_is : StaysOrEnds s.finish finish
      known : AreKnown pair doubt finish
      disks : IfBothTold model pair (StandsOnDisks model pair (on_pair (then doubt finish)))

    commit-of : (o : Option (List ℕ)) → (o ≡ (on_pair s).commit) ⊎ (o ≡ None)
        → (doubt : Option Change) × StaysOrEnds s.doubt doubt × (o ≡ option_map payload doubt)
    commit-of o (inl e) = (s.doubt, inl refl, e)
    commit-of o (inr e) = (None, inr refl, e)

    finish-of : (o : Option Written) → (o ≡ (on_pair s).finish) ⊎ (o ≡ None)
        → (finish : Option ℕ) × StaysOrEnds s.finish finish × (o ≡ option_map (whole_copy s) finish)
    finish-of o (inl e) = (s.finish, inl refl, e)
    finish-of o (inr e) = (None, inr refl, e)

    told : EndsOlder (StandsOnDisks model pair) (on_pair s) → Older
    told e =
        let c = commit-of e.commit e.commit_is in
        let f = finish-of e.finish e.finish_is in
        let it : StandsOnDisks model pair (on_pair (then c.0 f.0)) = subst (λ (o : Option (List ℕ)).
        StandsOnDisks model pair (record (on_pair s) { commit = o; finish = option_map (whole_copy s) f.0 })) c.2
        (subst (λ (o : Option Written).
        StandsOnDisks model pair (record (on_pair s) { commit = e.commit; finish = o })) f.2 e.stands) in
        record {
          doubt = c.0;
          finish = f.0;
          doubt_is = c.1;
          finish_is = f.1;
          known = told-known model pair (then c.0 f.0) it;
          disks = λ l is k too. it;
        }

    -- the journal is in doubt only where it was
    abbrev Known : Type 0
    Known = pair.journal.doubt ≡ true → store.pair.journal.doubt ≡ true

    -- where a disk does not tell its content, only this is said of the doubts
    untold : Known → IfBothTold model pair ⊥ → Older
    untold was never = go pair.journal.doubt refl
      where
        go : (doubt : Bool) → pair.journal.doubt ≡ doubt → Older
        go true is = record {
          doubt = s.doubt;
          finish = None;
          doubt_is = inl refl;
          finish_is = inr refl;
          known = no-finish pair s.doubt (is ∙ (sym (was is) ∙ h.doubts.commit));
          disks = λ l told k it. absurd (never l told k it);
        }
        go false is = record {
          doubt = None;
          finish = None;
          doubt_is = inr refl;
          finish_is = inr refl;
          known = no-finish pair None is;
          disks = λ l told k it. absurd (never l told k it);
        }

    older-doubts : Known → IfBothTold model pair (EndsOlder (StandsOnDisks model pair) (on_pair s)) → Older
    older-doubts was gives = go (model.content (disk_a pair)) (model.content (disk_b pair)) refl refl
      where
        none-some : {X : Type 0} {x : X} → None ≡ Some x → ⊥
        none-some e = cc e

        go : (a b : Option (List ℕ)) → model.content (disk_a pair) ≡ a → model.content (disk_b pair) ≡ b → Older
        go None b is it = untold was (λ l told k too. none-some (sym is ∙ told))
        go (Some l) None is it = untold was (λ n told k too. none-some (sym it ∙ too))
        go (Some l) (Some k) is it = told (gives l is k it)

    older : (r : Reply)
        → ((t : State) → EndsDoubts s t → t.faults ≡ faults → CommitGives s (change_of c) r t) → Known
        → IfBothTold model pair (EndsOlder (StandsOnDisks model pair) (on_pair s))
        → Calls (Stretches model) all store new s ((event.Commit (change_of c), r) ∷ [])
    older r row was gives =
        let o = older-doubts was gives in
        with-doubts o.doubt o.finish r
        (row (then o.doubt o.finish) (o.doubt_is, o.finish_is, refl) refl) o.known o.disks

    -- a disk counted a fault, and so does the state
    abbrev Failed : Type 0
    Failed = disk.Faulted model (disk_a store.pair) (disk_a pair) ⊎ disk.Faulted model (disk_b store.pair) (disk_b pair)

    some-rose : Failed → (t : State) → t.faults ≡ faults → SomeRose s.faults t.faults
    some-rose (inl r) t counts = inl (subst (λ n. Rose n t.faults.a) (sym (ap (λ (f : Faults). f.a) h.counts))
        (subst (λ n. Rose (model.faults (disk_a store.pair)) n) (sym (ap (λ (f : Faults). f.a) counts))
        (rose (model.faults (disk_a store.pair)) (model.faults (disk_a pair)) r)))
    some-rose (inr r) t counts = inr (subst (λ n. Rose n t.faults.b) (sym (ap (λ (f : Faults). f.b) h.counts))
        (subst (λ n. Rose (model.faults (disk_b store.pair)) n) (sym (ap (λ (f : Faults). f.b) counts))
        (rose (model.faults (disk_b store.pair)) (model.faults (disk_b pair)) r)))

    pub faulted : (f : PutFault)
        → ((t : PairState) → StandsOnDisks model store.pair t → AppendGives (Err f) (StandsOnDisks model pair) t p)
        → DoubtAfter (Err f) store.pair.journal.doubt pair.journal.doubt → OnFault (Err f) Failed
        → Gone model store new s c (Err (commit_fault f))
    faulted (put.DiskFault true) gives known failed =
        with-doubts (Some (change_of c)) None (reply.DiskFault true)
        (may, some-rose failed (then (Some (change_of c)) None) refl, refl)
        (no-finish pair (Some (change_of c)) known)
        (stood (λ stands. subst (λ (q : List ℕ). StandsOnDisks model pair (record (on_pair s) {
          commit = Some q;
          finish = None;
        })) written (gives (on_pair s) stands)))
    faulted (put.DiskFault false) gives known failed =
        older (reply.DiskFault false) (λ t ended counts. (may, some-rose failed t counts, ended)) known
        (stood (gives (on_pair s)))
    faulted put.NoMemory gives known failed =
        older reply.NoMemory (λ t ended counts. ended) known (stood (gives (on_pair s)))

-- what is in memory serves the state after a commit, and the store is ready
commit-serves : RunsStaySound → (old new : Memory) (s : State) (c : Change) → MayAdd s c → IsServing old s
    → memory.StandsFor new (served (committed s c)) → IsServing new (committed s c)
commit-serves law old new s c may h stands =
    let r = reply.Committed (head s.history + 1) in
    let gives : Gives s 0 (event.Commit c) r (committed s c) =
    ((h.serves, (omega arith, omega arith)), (may, refl, refl)) in
    record {
      sound = sound-after law s (committed s c) 0 (event.Commit c) r gives h.sound;
      serves = h.serves;
      stands = stands;
    }

-- where no commit is made memory is ready as before, and the journal at its place
pub refused-ready : {D : Type 0} (old new : Memory) (was now : Paired D) (copy copies : Option CopyTerm) → copies ≡ copy
    → progress_of now.other ≡ progress_of was.other → now.journal.header ≡ was.journal.header
    → now.journal.place ≡ was.journal.place → ((s : Served) → memory.StandsFor old s → memory.StandsFor new s)
    → new.version ≡ old.version → IsReady old was copy → IsReady new now copies
refused-ready old new was now copy copies is progress header place keeps version h =
    let s : State = h.stands.0 in
    let serving = h.stands.1 in
    record {
      stands = (
        s,
        record { sound = serving.sound; serves = serving.serves; stands = keeps (served s) serving.stands },
        subst (HasCopy s.history s.copy) (sym is) h.stands.2,
      );
      few = omega (arith, h.few, version);
      bases = omega (arith, h.bases, ap (λ (k : Header). k.base_count) header);
      place = omega (arith, place, h.place, version, ap (λ (k : Header). k.base_count) header);
      copying = subst (λ n. Follow n copies (progress_of now.other)) (sym version)
          (subst (λ (o : Option CopyTerm). Follow old.version o (progress_of now.other)) (sym is)
          (subst (Follow old.version copy) (sym progress) h.copying));
    }

pub commit-ready : {D : Type 0} → RunsStaySound → RebasesGrow → (old new : Memory) (was now : Paired D)
    (copy copies : Option CopyTerm) (c : Asked) (p : List ℕ) → p ≡ payload (change_of c) → IsPayload p
    → copies ≡ option_map (queued p) copy → progress_of now.other ≡ progress_of was.other
    → now.journal.header ≡ was.journal.header → now.journal.place ≡ was.journal.place + 5 + length p
    → ((s : State) → memory.StandsFor old (served s)
    → MayAdd s (change_of c) × memory.StandsFor new (served (committed s (change_of c))))
    → new.version ≡ old.version + 1 → new.version ≤ 16777215 → IsReady old was copy → IsReady new now copies
commit-ready law grow old new was now copy copies c p written fit is progress header moved makes version few h =
    let s : State = h.stands.0 in
    let serving = h.stands.1 in
    let made = makes s serving.stands in
    let told = change_of c in
    record {
      stands = (
        committed s told,
        commit-serves law old new s told made.0 serving made.1,
        subst (HasCopy (committed s told).history (committed s told).copy)
            (sym (is ∙ ap (λ q. option_map (queued q) copy) written))
            (has-more grow s.history told s.copy serving.sound.bases.copy copy h.stands.2),
      );
      few = few;
      bases = omega (arith, h.bases, ap (λ (k : Header). k.base_count) header);
      place = omega (arith, moved, h.place, version, fit.1, ap (λ (k : Header). k.base_count) header);
      copying = subst (λ n. Follow n copies (progress_of now.other)) (sym version)
          (subst (λ (o : Option CopyTerm). Follow (old.version + 1) o (progress_of now.other)) (sym is)
          (subst (Follow (old.version + 1) (option_map (queued p) copy)) (sym progress)
          (follow-more old.version copy (progress_of was.other) p fit h.copying)));
    }

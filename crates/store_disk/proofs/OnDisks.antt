-- What two disks have of a state: what a crash may show of it, and how a copy goes on.
use Rattle.std.proofs.Common.{◌≡◌, ◌+◌, ◌++◌, ◌-◌, ◌<◌, ◌≤◌, ◌∙◌, ap, arith, get_or, inl, inr, length, length-append, List, [], ◌∷◌, map, MatchOption, None, Option, option_map, refl, Some, subst, sym, take, ℕ}
use Rattle.std.proofs.lemmas.List.{drop_all, length-map, map-append, take-append-le, take_all, take_more}
use Rattle.std.specs.FinMap.{entries}
use Rattle.disk_pair.specs.Gives.{empty_copy}
use Rattle.disk_pair.specs.Term.{OfEachPair, OfSomePair, Paired, next_header}
use Rattle.disk_edge.specs.Disk.{DiskModel}
use Rattle.disk_pair.specs.Stands.{StandsFor as StandsOnDisks}
use Rattle.disk_pair.specs.Pairs.{History as Written, MayShow, PairOpens, PairOpensTo as MayOpen, State as PairState, with_base, with_commit}
use Rattle.store_core.specs.Stored.{IsServing, StoreTerm as Memory}
use Rattle.store_machine.specs.History.{IsHistory, grown, head, rebase}
use Rattle.store_machine.specs.Kept.{IsPast}
use Rattle.store_machine.specs.Laws.{IsSound, RunsStaySound}
use Rattle.store_machine.specs.Machine.{IsOfCopy, MayAdd, MayBeLeft, Recovers, committed, crashed, copying, now, on_disk, one_more}
use Rattle.store_machine.specs.Rebases.{RebasesGrow, RebasesKeepHeads}
use Rattle.store_machine.specs.declared.machine.Event.TheVariants.{Crash}
use Rattle.store_machine.specs.declared.machine.Reply.TheVariants.{Crashed}
use Rattle.store_machine.specs.declared.machine.Change.{Change}
use Rattle.store_machine.specs.declared.machine.Copying.{Copying}
use Rattle.store_machine.specs.declared.machine.History.{History}
use Rattle.store_machine.specs.declared.machine.State.{State}
use Rattle.store_disk.specs.Loads.{OpensAfter, OpensTo}
use Rattle.store_disk.specs.OnDisk.{CopyTerm, StandsFor, StoreTerm, copy_so_far, lacking, on_pair, whole_copy}
use Rattle.store_disk.specs.Payloads.{base_payload, history_of, payload, payloads}

none-some : {X : Type 0} {x : X} → None ≡ Some x → ⊥
none-some e = cc

abbrev in-some : {X : Type 0} → X → Option X → X
in-some x None = x
in-some x (Some y) = y

-- a commit more
pub grown-written : (generation : ℕ) (h : History) (c : Change)
    → with_commit (history_of generation h) (payload c) ≡ history_of generation (grown h (c ∷ []))
grown-written generation h c = ap (λ (ps : List (List ℕ)). record (history_of generation h) { commits = ps })
    (sym (map-append payload h.commits (c ∷ [])))

-- the history is one that may be left
abbrev pub IsLeft : State → Written → Type 0
IsLeft s x = (h : History) × (generation : ℕ) × MayBeLeft s h generation × (x ≡ history_of generation h)

doubt-left : (s : State) (p : List ℕ) (o : Option Change) → s.doubt ≡ o → option_map payload o ≡ Some p
    → IsLeft s (with_commit (history_of s.generation (on_disk s)) p)
doubt-left s p None is doubt = absurd (none-some doubt)
doubt-left s p (Some c) is doubt = (
  grown (on_disk s) (c ∷ []),
  s.generation,
  inr (inl (c, is, refl, refl)),
  ap (λ (q : List ℕ). with_commit (history_of s.generation (on_disk s)) q) (sym (ap (in-some p) doubt))
      ∙ grown-written s.generation (on_disk s) c,
)

finish-left : (s : State) (x : Written) (o : Option ℕ) → s.finish ≡ o → option_map (whole_copy s) o ≡ Some x
    → IsLeft s x
finish-left s x None is finish = absurd (none-some finish)
finish-left s x (Some version) is finish = (
  rebase s.history version,
  s.generation + 1,
  inr (inr (version, is, (refl, refl))),
  sym (ap (in-some x) finish),
)

same-left : (s : State) (x y : Written) → x ≡ y → IsLeft s y → IsLeft s x
same-left s x y e r = (r.0, r.1, r.2, e ∙ r.3)

pub shown-left : (s : State) (x : Written) → MayShow (on_pair s) x → IsLeft s x
shown-left s x (inl e) = (on_disk s, s.generation, inl (refl, refl), e)
shown-left s x (inr (inl (p, doubt, e))) = same-left s x _ e (doubt-left s p s.doubt refl doubt)
shown-left s x (inr (inr finish)) = finish-left s x s.finish refl finish

-- a copy by the numbers of its items
abbrev part : ℕ → ℕ → Written → Written
part bases commits whole = record whole { base = take bases whole.base; commits = take commits whole.commits }

same-part : (a b c d : ℕ) (whole : Written) → a ≡ b → c ≡ d → part a c whole ≡ part b d whole
same-part a b c d whole e f = λ i. part (e i) (f i) whole

pub begins : (whole : Written) → whole.commits ≡ [] → lacking (length whole.base) whole ≡ empty_copy whole.header
begins whole none =
    let no : length whole.commits ≡ 0 = ap (λ (l : List (List ℕ)). length l) none in
    same-part (length whole.base + length whole.commits - length whole.base) 0
    (length whole.commits - length whole.base) 0 whole (omega (arith, no)) (omega (arith, no))

pub ends : (whole : Written) → lacking 0 whole ≡ whole
ends whole =
    let b = take_all (length whole.base + length whole.commits - 0) whole.base (omega arith) in
    let c = take_all (length whole.commits - 0) whole.commits (omega arith) in
    λ i. record whole { base = b i; commits = c i }

pub meanwhile : (left : ℕ) (whole : Written) (p : List ℕ)
    → lacking (left + 1) (with_commit whole p) ≡ lacking left whole
meanwhile left whole p =
    let more = length-append whole.commits (p ∷ []) in
    let bases : length whole.base + length (whole.commits ++ p ∷ []) - (left + 1)
    ≡ length whole.base + length whole.commits - left = omega (arith, more) in
    let commits : length (whole.commits ++ p ∷ []) - (left + 1) ≡ length whole.commits - left = omega (arith, more) in
    let c = ap (λ n. take n (whole.commits ++ p ∷ [])) commits
    ∙ take-append-le (length whole.commits - left) whole.commits (p ∷ []) (omega arith) in
    λ i. record whole { base = take (bases i) whole.base; commits = c i }

pub next-base : (left : ℕ) (whole : Written) → length whole.commits ≤ left
    → left < length whole.base + length whole.commits
    → lacking left whole ≡ with_base (lacking (left + 1) whole)
    (get_or whole.base (length whole.base + length whole.commits - (left + 1)) [])
next-base left whole past some =
    let n = length whole.base + length whole.commits - (left + 1) in
    let one : length whole.base + length whole.commits - left ≡ n + 1 = omega (arith, some) in
    let b = ap (λ k. take k whole.base) one ∙ take_more whole.base n [] (omega (arith, past, some)) in
    let c : length whole.commits - left ≡ length whole.commits - (left + 1) = omega (arith, past) in
    λ i. record whole { base = b i; commits = take (c i) whole.commits }

pub next-commit : (left : ℕ) (whole : Written) → left < length whole.commits
    → lacking left whole ≡ with_commit (lacking (left + 1) whole)
    (get_or whole.commits (length whole.commits - (left + 1)) [])
next-commit left whole some =
    let n = length whole.commits - (left + 1) in
    let one : length whole.commits - left ≡ n + 1 = omega (arith, some) in
    let c = ap (λ k. take k whole.commits) one ∙ take_more whole.commits n [] (omega (arith, some)) in
    let b = take_all (length whole.base + length whole.commits - left) whole.base (omega (arith, some))
    ∙ sym (take_all (length whole.base + length whole.commits - (left + 1)) whole.base (omega (arith, some))) in
    λ i. record whole { base = b i; commits = c i }

copy-meanwhile : RebasesGrow → (s : State) (c : Change) (o : Option Copying)
    → MatchOption o (Unit {0}) (λ copy. IsPast s copy.version)
    → option_map (copy_so_far (committed s c)) (option_map one_more o) ≡ option_map (copy_so_far s) o
copy-meanwhile grow s c None past = refl
copy-meanwhile grow s c (Some copy) past =
    let more = ap (λ (h : History). history_of (s.generation + 1) h) (grow s.history (c ∷ []) copy.version past.1)
    ∙ sym (grown-written (s.generation + 1) (rebase s.history copy.version) c) in
    ap (λ (w : Written). Some (lacking (copy.left + 1) w)) more
    ∙ ap (λ (w : Written). Some w) (meanwhile copy.left (whole_copy s copy.version) (payload c))

pub after-commit : RebasesGrow → (s : State) (c : Change) → IsSound s
    → on_pair (committed s c) ≡ record (on_pair s) {
      now = with_commit (on_pair s).now (payload c);
      commit = None;
      finish = None;
    }
after-commit grow s c sound =
    let now = ap (λ (h : History). history_of s.generation h) (grow s.history (c ∷ []) s.base sound.bases.base.1)
    ∙ sym (grown-written s.generation (on_disk s) c) in
    let copy = copy-meanwhile grow s c s.copy sound.bases.copy in
    λ i. record { now = now i; commit = None; finish = None; copy = copy i }

pub after-start : (s : State)
    → on_pair (record (copying s (head s.history) (length (entries (now s)))) { finish = None })
    ≡ record (on_pair s) {
      finish = None;
      copy = Some (empty_copy (next_header (on_pair s).now.header (head s.history) (length (entries (now s)))));
    }
after-start s =
    let whole = whole_copy s (head s.history) in
    let size : length (map base_payload (entries (now s))) ≡ length (entries (now s)) = length-map (entries (now s))
    base_payload in
    let none : payloads (rebase s.history (head s.history)) ≡ [] = ap (λ (cs : List Change). map payload cs)
    (drop_all (head s.history - s.history.version) s.history.commits (omega arith)) in
    let copy : lacking (length (entries (now s))) whole ≡ empty_copy whole.header =
    ap (λ n. lacking n whole) (sym size) ∙ begins whole none in
    λ i. record {
      now = (on_pair s).now;
      commit = (on_pair s).commit;
      finish = None;
      copy = Some (copy i);
    }

-- what may be recovered is a history that a store may have
recovered-history : RunsStaySound → (s : State) (h : History) (g : ℕ) → Recovers s h g → IsSound s → IsHistory h
recovered-history law s h g r sound = (law s (crashed s h g) (record {
  owner = 0;
  event = Crash;
  reply = Crashed;
  before = s;
  after = crashed s h g;
  begin = record
      { a = 0; b = 0 };
  end = record { a = 0; b = 0 };
} ∷ []) (refl, (r, refl), refl) sound).history

copy-few : RebasesKeepHeads → (memory : Memory) (s : State) (version : ℕ) (h : History) (g : ℕ) → IsPast s version
    → IsOfCopy s version h g → IsServing memory s → head h ≤ 16777215
copy-few heads memory s version h g past of m =
    let same = ap head of.0 ∙ heads s.history version past.0 past.1 in
    omega (arith, same, m.stands.version, m.stands.within)

left-few : RebasesKeepHeads → (memory : Memory) (s : State) (h : History) (g : ℕ) → MayBeLeft s h g
    → IsServing memory s → head h ≤ 16777215
left-few heads memory s h g (inl (is, at)) m =
    let past = m.sound.bases.base in
    let same = ap head is ∙ heads s.history s.base past.0 past.1 in
    omega (arith, same, m.stands.version, m.stands.within)
left-few heads memory s h g (inr (inl (c, doubt, is, at))) m =
    let past = m.sound.bases.base in
    let same = heads s.history s.base past.0 past.1 in
    let more = length-append (on_disk s).commits (c ∷ []) in
    let may = subst (λ (o : Option Change). MatchOption o (Unit {0}) (MayAdd s)) doubt m.sound.doubt in
    let room = may.2 in
    let last = ap head is in
    omega (arith, same, more, last, room, m.stands.limit, m.stands.most)
left-few heads memory s h g (inr (inr (version, finish, of))) m =
    copy-few heads memory s version h g
    (subst (λ (o : Option ℕ). MatchOption o (Unit {0}) (IsPast s)) finish m.sound.bases.finish) of m

recovered-few : RebasesKeepHeads → (memory : Memory) (s : State) (h : History) (g : ℕ) → Recovers s h g
    → IsServing memory s → head h ≤ 16777215
recovered-few heads memory s h g (inl left) m = left-few heads memory s h g left m
recovered-few heads memory s h g (inr (version, whole, of)) m =
    copy-few heads memory s version h g
    (subst (λ (o : Option Copying). MatchOption o (Unit {0}) (λ copy. IsPast s copy.version)) whole m.sound.bases.copy)
    of m

-- what may be recovered of a state that is served is what bytes open to
pub opens-recovered : RunsStaySound → RebasesKeepHeads → (memory : Memory) (s : State) → IsServing memory s
    → (h : History) (g : ℕ) → Recovers s h g → (x y : List ℕ) → PairOpens (history_of g h) x y → OpensTo h g x y
opens-recovered law heads memory s serving h g r x y opens = record {
  history = recovered-history law s h g r serving.sound;
  few = recovered-few heads memory s h g r serving;
  opens = opens;
}

pub shown-after : RunsStaySound → RebasesKeepHeads → (memory : Memory) (s : State) → IsServing memory s
    → (x y : List ℕ) → MayOpen (MayShow (on_pair s)) x y → OpensAfter s x y
shown-after law heads memory s serving x y opens =
    let r = shown-left s opens.0 opens.1 in (
      r.0,
      r.1,
      r.2,
      opens-recovered law heads memory s serving r.0 r.1 (inl r.2) x y
          (subst (λ (w : Written). PairOpens w x y) r.3 opens.2),
    )

-- a state with a commit in doubt that may be added
abbrev doubting : State → Change → State
doubting s c = record s { doubt = Some c; finish = None }

doubting-serves : (memory : Memory) (s : State) (c : Change) → MayAdd s c → IsServing memory s
    → IsServing memory (doubting s c)
doubting-serves memory s c may h = record {
  sound = record {
    history = h.sound.history;
    doubt = may;
    slots = h.sound.slots;
    pins = h.sound.pins;
    bases = record { base = h.sound.bases.base; copy = h.sound.bases.copy; finish = tt };
    kept = h.sound.kept;
    made = h.sound.made;
  };
  serves = h.serves;
  stands = h.stands;
}

-- with a commit that may be added, bytes open to the history that it makes
pub shown-with : RunsStaySound → RebasesKeepHeads → (memory : Memory) (s : State) → IsServing memory s
    → (c : Change) → MayAdd s c → (x y : List ℕ)
    → PairOpens (with_commit (history_of s.generation (on_disk s)) (payload c)) x y
    → OpensTo (grown (on_disk s) (c ∷ [])) s.generation x y
shown-with law heads memory s serving c may x y opens =
    opens-recovered law heads memory (doubting s c) (doubting-serves memory s c may serving)
    (grown (on_disk s) (c ∷ [])) s.generation (inl (inr (inl (c, refl, refl, refl)))) x y
    (subst (λ (w : Written). PairOpens w x y) (grown-written s.generation (on_disk s) c) opens)

pub standing-opens : RunsStaySound → RebasesKeepHeads → {D : Type 0} (model : DiskModel D) (pair : Paired D)
    → ((t : PairState) → StandsOnDisks model pair t → OfEachPair model pair (MayOpen (MayShow t)))
    → (memory : Memory) (copy : Option CopyTerm) (s : State)
    → StandsFor model (record { memory = memory; pair = pair; copy = copy }) s → OfEachPair model pair (OpensAfter s)
standing-opens law heads model pair leaves memory copy s stands = λ l is m it x y i j.
    shown-after law heads memory s stands.memory x y (leaves (on_pair s) (stands.pair l is m it) l is m it x y i j)

module _ (law : RunsStaySound) (heads : RebasesKeepHeads) {D : Type 0} (model : DiskModel D) (store : StoreTerm D)
    (s : State) (stands : StandsFor model store s) where
  -- some two images open to what may be left
  some-left : (w : Written) (h : History) (g : ℕ) → MayBeLeft s h g → w ≡ history_of g h
      → (StandsOnDisks model store.pair (on_pair s) → OfSomePair model store.pair (PairOpens w))
      → OfSomePair model store.pair (OpensTo h g)
  some-left w h g left is shown l told k it =
      let o = shown (stands.pair l told k it) l told k it in (
        o.0,
        o.1,
        o.2,
        o.3,
        opens-recovered law heads store.memory s stands.memory h g (inl left) o.0 o.1
            (subst (λ (v : Written). PairOpens v o.0 o.1) is o.4),
      )

  pub commit-left : (c : Change) → s.doubt ≡ Some c → s.finish ≡ None
      → ((t : PairState) (p : List ℕ) → StandsOnDisks model store.pair t → t.commit ≡ Some p → t.finish ≡ None
      → OfSomePair model store.pair (PairOpens (with_commit t.now p)))
      → OfSomePair model store.pair (OpensTo (grown (on_disk s) (c ∷ [])) s.generation)
  commit-left c doubt finish shown =
      some-left (with_commit (on_pair s).now (payload c)) (grown (on_disk s) (c ∷ [])) s.generation
      (inr (inl (c, doubt, refl, refl))) (grown-written s.generation (on_disk s) c)
      (λ it. shown (on_pair s) (payload c) it (ap (λ (o : Option Change). option_map payload o) doubt)
      (ap (λ (o : Option ℕ). option_map (whole_copy s) o) finish))

  pub finish-left-open : (version : ℕ) → s.finish ≡ Some version
      → ((t : PairState) (w : Written) → StandsOnDisks model store.pair t → t.finish ≡ Some w
      → OfSomePair model store.pair (PairOpens w))
      → OfSomePair model store.pair (OpensTo (rebase s.history version) (s.generation + 1))
  finish-left-open version finish shown =
      some-left (whole_copy s version) (rebase s.history version) (s.generation + 1)
      (inr (inr (version, finish, (refl, refl)))) refl
      (λ it. shown (on_pair s) (whole_copy s version) it (ap (λ (o : Option ℕ). option_map (whole_copy s) o) finish))

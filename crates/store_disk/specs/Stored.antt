-- Stretches of a store on two disks: those of its callers' steps alone, and what a crash at any moment of them leaves.
-- For callers.
use Rattle.std.specs.Prelude.{◌≡◌, ◌⊎◌, ◌++◌, ◌≤◌, List, [], ◌∷◌, None, Option, refl, Some, true, ℕ}
use Rattle.std.proofs.Common.{◌∙◌, arith, subst, sym}
use Rattle.std.specs.List.{AllByRecursion}
use Rattle.disk_edge.specs.Disk.{DiskModel, Keeps}
use Rattle.disk_pair.specs.Term.{Paired, disk_a, disk_b}
use Rattle.store_machine.proofs.Joins.{calms-join, runs-join}
use Rattle.store_machine.specs.History.{grown}
use Rattle.store_machine.specs.Machine.{IsOfCopy, IsWhole, MayAdd, MayBeLeft, on_disk}
use Rattle.store_machine.specs.Runs.{IsCalm, IsRun}
use Rattle.store_machine.specs.declared.machine.Change.{Change}
use Rattle.store_machine.specs.declared.machine.Event.{Event}
use Rattle.store_machine.specs.declared.machine.Event.TheVariants.{Commit, Compact}
use Rattle.store_machine.specs.declared.machine.History.{History}
use Rattle.store_machine.specs.declared.machine.State.{State}
use Rattle.store_machine.specs.declared.machine.Step.{Step}
use Rattle.store_machine.specs.declared.machine.Times.{Times}
use Rattle.store_disk.specs.Loads.{OpensTo}
use Rattle.store_disk.specs.OnDisk.{IfBothTold, StandsFor, StoreTerm}

-- the calls that may call a disk
abbrev pub CallsDisks : Event → Type 0
CallsDisks (Commit c) = Unit {0}
CallsDisks Compact = Unit {0}
CallsDisks _ = ⊥

-- A crash at a moment of a step shows what may be left before it; or the history with the commit that the step asks
-- for, where it may be added; or, at a step of a compaction alone, the copy that lacks nothing.
abbrev pub MayShow : Step → History → ℕ → Type 0
MayShow x h generation = MayBeLeft x.before h generation
    ⊎ (((c : Change) × (x.event ≡ Commit c) × MayAdd x.before c × (h ≡ grown (on_disk x.before) (c ∷ []))
    × (generation ≡ x.before.generation))
    ⊎ ((version : ℕ) × (x.event ≡ Compact) × IsWhole x.before version × IsOfCopy x.before version h generation))

-- two images open to that
abbrev pub Shows : Step → List ℕ → List ℕ → Type 0
Shows x p q = (h : History) × (generation : ℕ) × MayShow x h generation × OpensTo h generation p q

abbrev pub times : {D : Type 0} → DiskModel D → StoreTerm D → Times
times model store = record { a = model.clock (disk_a store.pair); b = model.clock (disk_b store.pair) }

-- the steps lie one after the other on the disks' clocks, which never fall
abbrev pub AreClocked : Times → List Step → Times → Type 0
AreClocked begin [] end = end ≡ begin
AreClocked begin (x ∷ xs) end =
    (x.begin ≡ begin) × (x.begin.a ≤ x.end.a) × (x.begin.b ≤ x.end.b) × AreClocked x.end xs end

-- each image of disk `a` that was possible at some moment of the step, which is over, beside each of disk `b`
abbrev pub IsTimed : {D : Type 0} → DiskModel D → Paired D → Step → Type 0
IsTimed model pair x = (x.end.a ≤ model.clock (disk_a pair)) × (x.end.b ≤ model.clock (disk_b pair))
    × ((p q : List ℕ) → model.images_between (disk_a pair) x.begin.a x.end.a p
    → model.images_between (disk_b pair) x.begin.b x.end.b q → Shows x p q)

-- only a commit and a copy take time on the disks
abbrev pub IsCaused : Step → Type 0
IsCaused x = CallsDisks x.event ⊎ (x.end ≡ x.begin)

pub record Stretches {D : Type 0} (model : DiskModel D) (old new : StoreTerm D) (s : State) (steps : List Step)
    (t : State) : Type 0 where
  pub begins : StandsFor model old s
  pub ends : StandsFor model new t
  pub run : IsRun s steps t
  pub calm : IsCalm steps
  pub clocked : AreClocked (times model old) steps (times model new)
  pub moments : IfBothTold model new.pair (AllByRecursion (IsTimed model new.pair) steps)
  pub causes : AllByRecursion IsCaused steps
  -- where nothing is committed or copied both disks are as before
  pub untouched : AllByRecursion (λ x. ¬ CallsDisks x.event) steps → new.pair ≡ old.pair
  pub past_a : Keeps model (disk_a old.pair) (disk_a new.pair)
  pub past_b : Keeps model (disk_b old.pair) (disk_b new.pair)
  pub untold_a : model.content (disk_a old.pair) ≡ None → model.content (disk_a new.pair) ≡ None
  pub untold_b : model.content (disk_b old.pair) ≡ None → model.content (disk_b new.pair) ≡ None

clocked-joins : (xs ys : List Step) (a b c : Times) → AreClocked a xs b → AreClocked b ys c → AreClocked a (xs ++ ys) c
clocked-joins [] ys a b c e r = subst (λ k. AreClocked k ys c) e r
clocked-joins (x ∷ xs) ys a b c r q = (r.0, r.1, r.2, clocked-joins xs ys x.end b c r.3 q)

all-joins : (P : Step → Type 0) (xs ys : List Step) → AllByRecursion P xs → AllByRecursion P ys
    → AllByRecursion P (xs ++ ys)
all-joins P [] ys a b = b
all-joins P (x ∷ xs) ys a b = (a.0, all-joins P xs ys a.1 b)

all-parts : (P : Step → Type 0) (xs ys : List Step) → AllByRecursion P (xs ++ ys)
    → AllByRecursion P xs × AllByRecursion P ys
all-parts P [] ys a = (tt, a)
all-parts P (x ∷ xs) ys a = let r = all-parts P xs ys a.1 in ((a.0, r.0), r.1)

-- what is told was told before
pub told-before : (old new : Option (List ℕ)) → (old ≡ None → new ≡ None) → (l : List ℕ) → new ≡ Some l
    → (k : List ℕ) × (old ≡ Some k)
told-before None new untold l is = absurd (none (sym (untold refl) ∙ is))
  where
    none : {x : List ℕ} → None ≡ Some x → ⊥
    none e = cc e
told-before (Some k) new untold l is = (k, refl)

pub keeps-itself : {D : Type 0} (model : DiskModel D) (d : D) → Keeps model d d
keeps-itself model d = record { later = omega arith; no_more = λ t u c le b. b; no_fewer = λ t u c le b. b }

pub keeps-twice : {D : Type 0} (model : DiskModel D) (a b c : D) → Keeps model a b → Keeps model b c
    → Keeps model a c
keeps-twice model a b c p q = record {
  later = omega (arith, p.later, q.later);
  no_more = λ t u image le i. p.no_more t u image le (q.no_more t u image (omega (arith, le, p.later)) i);
  no_fewer = λ t u image le i. q.no_fewer t u image (omega (arith, le, p.later)) (p.no_fewer t u image le i);
}

module _ {D : Type 0} (model : DiskModel D) (mid new : Paired D) (later_a : Keeps model (disk_a mid) (disk_a new))
    (later_b : Keeps model (disk_b mid) (disk_b new)) where
  still-timed : (x : Step) → IsTimed model mid x → IsTimed model new x
  still-timed x t = (
    omega (arith, t.0, later_a.later),
    omega (arith, t.1, later_b.later),
    λ p q m n. t.2 p q (later_a.no_more x.begin.a x.end.a p t.0 m) (later_b.no_more x.begin.b x.end.b q t.1 n),
  )

  timed-joins : (xs ys : List Step) → AllByRecursion (IsTimed model mid) xs
      → AllByRecursion (IsTimed model new) ys → AllByRecursion (IsTimed model new) (xs ++ ys)
  timed-joins [] ys a b = b
  timed-joins (x ∷ xs) ys a b = (still-timed x a.0, timed-joins xs ys a.1 b)

module _ {D : Type 0} (model : DiskModel D) where
  pub stays : (a : StoreTerm D) (s : State) → StandsFor model a s → Stretches model a a s [] s
  stays a s at = record {
    begins = at;
    ends = at;
    run = refl;
    calm = tt;
    clocked = refl;
    moments = λ l is m it. tt;
    causes = tt;
    untouched = λ none. refl;
    past_a = keeps-itself model (disk_a a.pair);
    past_b = keeps-itself model (disk_b a.pair);
    untold_a = λ e. e;
    untold_b = λ e. e;
  }

  pub joins : (a b c : StoreTerm D) (s t u : State) (xs ys : List Step)
      → Stretches model a b s xs t → Stretches model b c t ys u → Stretches model a c s (xs ++ ys) u
  joins a b c s t u xs ys r q = record {
    begins = r.begins;
    ends = q.ends;
    run = runs-join xs ys s t u r.run q.run;
    calm = calms-join xs ys r.calm q.calm;
    clocked = clocked-joins xs ys (times model a) (times model b) (times model c) r.clocked q.clocked;
    moments = λ l is m it.
        let k = told-before (model.content (disk_a b.pair)) (model.content (disk_a c.pair)) q.untold_a l is in
        let n = told-before (model.content (disk_b b.pair)) (model.content (disk_b c.pair)) q.untold_b m it in
        timed-joins model b.pair c.pair q.past_a q.past_b xs ys (r.moments k.0 k.1 n.0 n.1) (q.moments l is m it);
    causes = all-joins IsCaused xs ys r.causes q.causes;
    untouched = λ none.
        let parts = all-parts (λ x. ¬ CallsDisks x.event) xs ys none in q.untouched parts.1 ∙ r.untouched parts.0;
    past_a = keeps-twice model (disk_a a.pair) (disk_a b.pair) (disk_a c.pair) r.past_a q.past_a;
    past_b = keeps-twice model (disk_b a.pair) (disk_b b.pair) (disk_b c.pair) r.past_b q.past_b;
    untold_a = λ e. q.untold_a (r.untold_a e);
    untold_b = λ e. q.untold_b (r.untold_b e);
  }

  pub lands : (a b : StoreTerm D) (s t : State) (xs : List Step)
      → Stretches model a b s xs t → StandsFor model b t × IsRun s xs t × IsCalm xs
  lands a b s t xs r = (r.ends, r.run, r.calm)

  pub same : (a b : StoreTerm D) (s t : State) (xs : List Step) (n : ℕ)
      → Stretches model a b s xs t → true ≡ true
  same a b s t xs n r = refl

-- What a crash leaves at a moment of a step of a run on two disks: a run's history is what its steps acknowledged.
use Rattle.std.proofs.Common.{◌≡◌, ◌++◌, ◌≤◌, ◌∙◌, ap, append-nil, append_assoc, inl, inr, List, [], ◌∷◌, refl, subst, sym, ℕ}
use Rattle.disk_edge.specs.Disk.{DiskModel}
use Rattle.disk_pair.specs.Term.{Paired, disk_a, disk_b}
use Rattle.std.specs.List.{AllByRecursion}
use Rattle.store_disk.specs.Loads.{OpensTo}
use Rattle.store_disk.specs.Stored.{IsTimed, MayShow}
use Rattle.store_machine.specs.History.{grown, head, rebase}
use Rattle.store_machine.specs.Laws.{IsSound, RunsStaySound}
use Rattle.store_machine.specs.Rebases.{RebasesGrow}
use Rattle.store_machine.specs.Runs.{IsCalm, IsRun}
use Rattle.store_machine.specs.Told.{RunsAdd, acknowledged}
use Rattle.store_machine.specs.declared.machine.Change.{Change}
use Rattle.store_machine.specs.declared.machine.History.{History}
use Rattle.store_machine.specs.declared.machine.State.{State}
use Rattle.store_machine.specs.declared.machine.Step.{Step}
use Rattle.chem_shell.specs.Crashes.{IsAtMostOne, IsBasedAt, ShowsAt}

-- what there is more after the history before a step
grown-none : (h : History) → grown h [] ≡ h
grown-none h = ap (λ (cs : List Change). record h { commits = cs }) (append-nil h.commits)

grown-twice : (h : History) (xs ys : List Change) → grown (grown h xs) ys ≡ grown h (xs ++ ys)
grown-twice h xs ys = ap (λ (cs : List Change). record h { commits = cs }) (append_assoc h.commits xs ys)

module _ (grow : RebasesGrow) (first : State) (before : List Step) (x : Step) (p q : List ℕ)
    (is : x.before.history ≡ grown first.history (acknowledged before)) (generation : ℕ) where
  shows-more : (more : List Change) (base : ℕ) → IsAtMostOne x more → IsBasedAt x more base generation
      → OpensTo (rebase (grown x.before.history more) base) generation p q → ShowsAt first before x p q
  shows-more more base one based opens = record {
    more = more;
    one = one;
    base = base;
    generation = generation;
    based = based;
    opens = subst (λ (h : History). OpensTo (rebase h base) generation p q)
        (ap (λ h. grown h more) is ∙ grown-twice first.history (acknowledged before) more) opens;
  }

  -- with no commit more
  shows-none : (h : History) (base : ℕ) → IsBasedAt x [] base generation → h ≡ rebase x.before.history base
      → OpensTo h generation p q → ShowsAt first before x p q
  shows-none h base based e opens = shows-more [] base (inl refl) based
      (subst (λ (k : History). OpensTo k generation p q)
      (e ∙ ap (λ (k : History). rebase k base) (sym (grown-none x.before.history))) opens)

  -- with one
  shows-one : (h : History) (c : Change) → x.before.base ≤ head x.before.history → generation ≡ x.before.generation
      → IsAtMostOne x (c ∷ []) → h ≡ grown (rebase x.before.history x.before.base) (c ∷ [])
      → OpensTo h generation p q → ShowsAt first before x p q
  shows-one h c past same one e opens = shows-more (c ∷ []) x.before.base one (inl (refl, same))
      (subst (λ (k : History). OpensTo k generation p q)
      (e ∙ sym (grow x.before.history (c ∷ []) x.before.base past)) opens)

  shows-at : (h : History) → x.before.base ≤ head x.before.history → OpensTo h generation p q
      → MayShow x h generation → ShowsAt first before x p q
  shows-at h past opens (inl (inl now)) = shows-none h x.before.base (inl (refl, now.1)) now.0 opens
  shows-at h past opens (inl (inr (inl (c, doubt, e, same)))) =
      shows-one h c past same (inr (c, refl, inl doubt)) e opens
  shows-at h past opens (inl (inr (inr (version, finish, (e, next))))) =
      shows-none h version (inr (inl finish, next, refl)) e opens
  shows-at h past opens (inr (inl (c, event, may, e, same))) =
      shows-one h c past same (inr (c, refl, inr (event, may))) e opens
  shows-at h past opens (inr (inr (version, event, whole, (e, next)))) =
      shows-none h version (inr (inr (event, whole), next, refl)) e opens

-- a run up to one of its steps
record Up (s : State) (before : List Step) (x : Step) : Type 0 where
  run : IsRun s before x.before
  calm : IsCalm before

up : (s t : State) (before : List Step) (x : Step) (after : List Step) → IsRun s (before ++ x ∷ after) t
    → IsCalm (before ++ x ∷ after) → Up s before x
up s t [] x after run calm = record { run = run.0; calm = tt }
up s t (y ∷ ys) x after run calm =
    let r = up y.after t ys x after run.2 calm.1 in
    record { run = (run.0, run.1, r.run); calm = (calm.0, r.calm) }

at : (P : Step → Type 0) (before : List Step) (x : Step) (after : List Step) → AllByRecursion P (before ++ x ∷ after)
    → P x
at P [] x after all = all.0
at P (y ∷ ys) x after all = at P ys x after all.1

-- two images of moments of a step
pub shows : RunsAdd → RunsStaySound → RebasesGrow → {D : Type 0} (model : DiskModel D) (pair : Paired D)
    (first last : State) (steps before after : List Step) (x : Step) (p q : List ℕ) → IsSound first
    → IsRun first steps last → IsCalm steps → AllByRecursion (IsTimed model pair) steps → steps ≡ before ++ x ∷ after
    → model.images_between (disk_a pair) x.begin.a x.end.a p
    → model.images_between (disk_b pair) x.begin.b x.end.b q → ShowsAt first before x p q
shows adds stay grow model pair first last steps before after x p q sound run calm timed is i j =
    let u = up first last before x after (subst (λ l. IsRun first l last) is run) (subst IsCalm is calm) in
    let o = (at (IsTimed model pair) before x after (subst (AllByRecursion (IsTimed model pair)) is timed)).2 p q i j in
    shows-at grow first before x p q (adds first x.before before u.run u.calm) o.1 o.0
    (stay first x.before before u.run sound).bases.base.1 o.3 o.2

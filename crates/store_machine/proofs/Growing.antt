-- The history grows by what is acknowledged: with each call, and so with each run of calls.
use Rattle.std.proofs.Common.{◌≡◌, ◌++◌, ◌∙◌, ap, append-nil, append_assoc, Bool, false, List, [], ◌∷◌, None, refl, Some, sym, true, ℕ}
use Rattle.std.proofs.lemmas.Bool.{true≢false}
use Rattle.store_machine.specs.History.{grown}
use Rattle.store_machine.specs.Laws.{RunsGrow}
use Rattle.store_machine.specs.Machine.{Becomes, CommitGives, DoubtAfter, EndsDoubts, Gives, PinGives, PruneGives, UnpinGives, pinned, unpinned}
use Rattle.store_machine.specs.Runs.{is_call}
use Rattle.store_machine.specs.Told.{RunsAdd, acknowledged, made}
use Rattle.store_machine.specs.declared.machine.Change.{Change}
use Rattle.store_machine.specs.declared.machine.Event.{Event}
use Rattle.store_machine.specs.declared.machine.Event.TheVariants.{Commit, Compact, Crash, Fetch, Look, Open, Pin, Prune, Stats, Unpin}
use Rattle.store_machine.specs.declared.machine.History.{History}
use Rattle.store_machine.specs.declared.machine.Reply.{Reply}
use Rattle.store_machine.specs.declared.machine.Reply.TheVariants.{Absent, Committed, DiskFault, Full, Known, NoMemory, NoPin, Pinned, Pruned, Unpinned, Withdrawn}
use Rattle.store_machine.specs.declared.machine.State.{State}
use Rattle.store_machine.proofs.Pins.{compact-aside, fetch-same, look-same, stats-same}

grown-none : (h : History) → grown h [] ≡ h
grown-none h = ap (λ (cs : List Change). record h { commits = cs }) (append-nil h.commits)

pub grown-twice : (h : History) (xs ys : List Change) → grown (grown h xs) ys ≡ grown h (xs ++ ys)
grown-twice h xs ys = ap (λ (cs : List Change). record h { commits = cs }) (append_assoc h.commits xs ys)

-- a state's history is that of another with these commits behind it
abbrev Adds : State → List Change → State → Type 0
Adds s more s' = s'.history ≡ grown s.history more

same-adds : (s s' : State) → s'.history ≡ s.history → Adds s [] s'
same-adds s s' e = e ∙ sym (grown-none s.history)

becomes-adds : (s t s' : State) → t.history ≡ s.history → Becomes t s' → Adds s [] s'
becomes-adds s t s' e b = same-adds s s' (ap (λ x. x.history) b ∙ e)

doubt-adds : (s s' : State) → EndsDoubts s s' → Adds s [] s'
doubt-adds s s' g = becomes-adds s (record s { doubt = s'.doubt; finish = s'.finish }) s' refl g.2

after-adds : (s : State) (c : Change) (doubt : Bool) (s' : State) → DoubtAfter s c doubt s' → Adds s [] s'
after-adds s c true s' b = becomes-adds s (record s { doubt = Some c; finish = None }) s' refl b
after-adds s c false s' b = doubt-adds s s' b

commit-adds : (s : State) (c : Change) (r : Reply) (s' : State) → CommitGives s c r s' → Adds s (made (Commit c) r) s'
commit-adds s c Known s' g = becomes-adds s s s' refl g.1
commit-adds s c Absent s' g = becomes-adds s s s' refl g.1
commit-adds s c Withdrawn s' g = becomes-adds s s s' refl g.1
commit-adds s c Full s' g = becomes-adds s s s' refl g.2
commit-adds s c (DiskFault doubt) s' g = after-adds s c doubt s' g.2
commit-adds s c NoMemory s' g = doubt-adds s s' g
commit-adds s c (Committed version) s' g = ap (λ x. x.history) g.2
commit-adds s c _ s' g = absurd g

pin-adds : (s : State) (owner : ℕ) (r : Reply) (s' : State) → PinGives s owner r s' → Adds s [] s'
pin-adds s owner NoPin s' g = becomes-adds s s s' refl g.1
pin-adds s owner (Pinned slot version) s' g = becomes-adds s (pinned s slot owner) s' refl g.4
pin-adds s owner _ s' g = absurd g

unpin-adds : (s : State) (owner slot : ℕ) (r : Reply) (s' : State) → UnpinGives s owner slot r s' → Adds s [] s'
unpin-adds s owner slot Unpinned s' g = becomes-adds s (unpinned s slot) s' refl g.2
unpin-adds s owner slot _ s' g = absurd g

prune-adds : (s : State) (r : Reply) (s' : State) → PruneGives s r s' → Adds s [] s'
prune-adds s (Pruned dropped) s' g = same-adds s s' (ap (λ x. x.history) g.2)
prune-adds s _ s' g = absurd g

pub adds : (s : State) (owner : ℕ) (e : Event) (r : Reply) (s' : State) → Gives s owner e r s' → is_call e ≡ true
    → Adds s (made e r) s'
adds s owner (Commit c) r s' g calm = commit-adds s c r s' g.1
adds s owner Pin r s' g calm = pin-adds s owner r s' g.1
adds s owner (Fetch slot want from limit) r s' g calm = becomes-adds s s s' refl
    (fetch-same s owner slot want from limit r s' g.1)
adds s owner (Unpin slot) r s' g calm = unpin-adds s owner slot r s' g.1
adds s owner Prune r s' g calm = prune-adds s r s' g.1
adds s owner (Look id) r s' g calm = becomes-adds s s s' refl (look-same s id r s' g.1)
adds s owner Stats r s' g calm = becomes-adds s s s' refl (stats-same s r s' g.1)
adds s owner Compact r s' g calm = same-adds s s' (compact-aside s r s' g.1).1
adds s owner Crash r s' g calm = absurd (true≢false (sym calm))
adds s owner Open r s' g calm = absurd (true≢false (sym calm))

pub runs-add : RunsAdd
runs-add s s' [] run calm = same-adds s s' (ap (λ (x : State). x.history) run)
runs-add s s' (x ∷ xs) run calm =
    let more = made x.event x.reply in
    let one : x.after.history ≡ grown x.before.history more =
    adds x.before x.owner x.event x.reply x.after run.1 calm.0 in
    let rest = runs-add x.after s' xs run.2 calm.1 in
    rest ∙ (ap (λ (h : History). grown h (acknowledged xs)) (one ∙ ap (λ (b : State). grown b.history more) run.0)
    ∙ grown-twice s.history more (acknowledged xs))

pub runs-grow : RunsGrow
runs-grow s s' steps run calm = (acknowledged steps, runs-add s s' steps run calm)

-- No step changes the limit of commits.
use Rattle.std.proofs.Common.{◌≡◌, ◌∙◌, ap, Bool, false, inl, inr, List, [], ◌∷◌, None, Some, true, ℕ}
use Rattle.store_machine.specs.History.{head}
use Rattle.store_machine.specs.Machine.{Becomes, CommitGives, CompactGives, CrashGives, DoubtAfter, EndsDoubts, FetchGives, Gives, GivesUp, LookGives, OpenGives, PinGives, PruneGives, StatsGives, UnpinGives, copying, replaced}
use Rattle.store_machine.specs.Runs.{IsRun}
use Rattle.store_machine.specs.declared.machine.Change.{Change}
use Rattle.store_machine.specs.declared.machine.Event.{Event}
use Rattle.store_machine.specs.declared.machine.Event.TheVariants.{Commit, Compact, Crash, Fetch, Look, Open, Pin, Prune, Stats, Unpin}
use Rattle.store_machine.specs.declared.machine.Reply.{Reply}
use Rattle.store_machine.specs.declared.machine.Reply.TheVariants.{Absent, Committed, Counted, Crashed, DiskFault, Done, Full, Known, Last, Looked, More, NoMemory, NoPin, Opened, Page, Pinned, Pruned, Unpinned, Withdrawn}
use Rattle.store_machine.specs.declared.machine.State.{State}
use Rattle.store_machine.specs.declared.machine.Step.{Step}

abbrev Same : State → State → Type 0
Same s s' = s'.limit ≡ s.limit

becomes-same : (t s' : State) → Becomes t s' → s'.limit ≡ t.limit
becomes-same t s' b = ap (λ (x : State). x.limit) b

doubt-same : (s s' : State) → EndsDoubts s s' → Same s s'
doubt-same s s' g = becomes-same (record s { doubt = s'.doubt; finish = s'.finish }) s' g.2

after-same : (s : State) (c : Change) (doubt : Bool) (s' : State) → DoubtAfter s c doubt s' → Same s s'
after-same s c true s' b = becomes-same (record s { doubt = Some c; finish = None }) s' b
after-same s c false s' b = doubt-same s s' b

commit-same : (s : State) (c : Change) (r : Reply) (s' : State) → CommitGives s c r s' → Same s s'
commit-same s c Known s' g = becomes-same s s' g.1
commit-same s c Absent s' g = becomes-same s s' g.1
commit-same s c Withdrawn s' g = becomes-same s s' g.1
commit-same s c Full s' g = becomes-same s s' g.2
commit-same s c (DiskFault doubt) s' g = after-same s c doubt s' g.2
commit-same s c NoMemory s' g = doubt-same s s' g
commit-same s c (Committed version) s' g = ap (λ (x : State). x.limit) g.2
commit-same s c _ s' g = absurd g

pin-same : (s : State) (owner : ℕ) (r : Reply) (s' : State) → PinGives s owner r s' → Same s s'
pin-same s owner NoPin s' g = becomes-same s s' g.1
pin-same s owner (Pinned slot version) s' g = ap (λ (x : State). x.limit) g.4
pin-same s owner _ s' g = absurd g

fetch-same : (s : State) (owner slot : ℕ) (want : List Bool) (from limit : ℕ) (r : Reply) (s' : State)
    → FetchGives s owner slot want from limit r s' → Same s s'
fetch-same s owner slot want from limit (Page records last) s' g = becomes-same s s' g.3
fetch-same s owner slot want from limit NoMemory s' g = becomes-same s s' g.2
fetch-same s owner slot want from limit _ s' g = absurd g

look-same : (s : State) (id : ℕ) (r : Reply) (s' : State) → LookGives s id r s' → Same s s'
look-same s id (Looked status) s' g = becomes-same s s' g.1
look-same s id NoMemory s' g = becomes-same s s' g
look-same s id _ s' g = absurd g

stats-same : (s : State) (r : Reply) (s' : State) → StatsGives s r s' → Same s s'
stats-same s (Counted version live withdrawn kept pins) s' g = becomes-same s s' g.5
stats-same s _ s' g = absurd g

unpin-same : (s : State) (owner slot : ℕ) (r : Reply) (s' : State) → UnpinGives s owner slot r s' → Same s s'
unpin-same s owner slot Unpinned s' g = ap (λ (x : State). x.limit) g.2
unpin-same s owner slot _ s' g = absurd g

prune-same : (s : State) (r : Reply) (s' : State) → PruneGives s r s' → Same s s'
prune-same s (Pruned dropped) s' g = ap (λ (x : State). x.limit) g.2
prune-same s _ s' g = absurd g

given-up-same : (s : State) (doubt : Bool) (s' : State) → GivesUp s doubt s' → Same s s'
given-up-same s true s' g = becomes-same (record s { copy = None; finish = Some g.0 }) s' g.2
given-up-same s false s' g = becomes-same (record s { copy = None; finish = s'.finish }) s' g.2

compact-same : (s : State) (r : Reply) (s' : State) → CompactGives s r s' → Same s s'
compact-same s Last s' g = becomes-same s s' g.2
compact-same s (More left) s' (inl g) = becomes-same (record (copying s (head s.history) left) { finish = None }) s' g.3
compact-same s (More left) s' (inr g) = becomes-same (copying s g.0 left) s' g.5
compact-same s (Done generation) s' g = becomes-same (replaced s g.1) s' g.3
compact-same s (DiskFault doubt) s' g = given-up-same s doubt s' g.1
compact-same s NoMemory s' g = becomes-same (record s { copy = s'.copy; finish = s'.finish }) s' g.2
compact-same s _ s' g = absurd g

crash-same : (s : State) (r : Reply) (s' : State) → CrashGives s r s' → Same s s'
crash-same s Crashed s' g = ap (λ (x : State). x.limit) g.1
crash-same s _ s' g = absurd g

open-same : (s : State) (r : Reply) (s' : State) → OpenGives s r s' → Same s s'
open-same s (Opened commits) s' g = ap (λ (x : State). x.limit) g.8
open-same s _ s' g = absurd g

step-same : (s : State) (owner : ℕ) (e : Event) (r : Reply) (s' : State) → Gives s owner e r s' → Same s s'
step-same s owner (Commit c) r s' g = commit-same s c r s' g.1
step-same s owner Pin r s' g = pin-same s owner r s' g.1
step-same s owner (Fetch slot want from limit) r s' g = fetch-same s owner slot want from limit r s' g.1
step-same s owner (Unpin slot) r s' g = unpin-same s owner slot r s' g.1
step-same s owner Prune r s' g = prune-same s r s' g.1
step-same s owner (Look id) r s' g = look-same s id r s' g.1
step-same s owner Stats r s' g = stats-same s r s' g.1
step-same s owner Compact r s' g = compact-same s r s' g.1
step-same s owner Crash r s' g = crash-same s r s' g
step-same s owner Open r s' g = open-same s r s' g

pub limits-stay : (s t : State) (steps : List Step) → IsRun s steps t → t.limit ≡ s.limit
limits-stay s t [] run = ap (λ (x : State). x.limit) run
limits-stay s t (x ∷ xs) run =
    limits-stay x.after t xs run.2
    ∙ (step-same x.before x.owner x.event x.reply x.after run.1 ∙ ap (λ (y : State). y.limit) run.0)

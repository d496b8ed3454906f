-- Each answer that a disk failed raised the count of one of the two.
use Rattle.std.proofs.Common.{◌≡◌, ◌+◌, ◌<◌, ◌≤◌, ◌^◌, ap, arith, Bool, cond, inl, inr, List, [], ◌∷◌, sym, true, ℕ}
use Rattle.std.proofs.lemmas.Bool.{true≢false}
use Rattle.std.proofs.lemmas.List.Sums.{sum_by-cons}
use Rattle.disk_edge.specs.Medium.{Medium, model}
use Rattle.store_machine.specs.Machine.{CommitGives, CompactGives, FetchGives, Gives, IsDiskFault, LookGives, NoneFell, PinGives, PruneGives, Rose, SomeRose, StatsGives, UnpinGives}
use Rattle.store_machine.specs.Runs.{IsCalm, IsRun, is_call}
use Rattle.store_machine.specs.declared.machine.Change.{Change}
use Rattle.store_machine.specs.declared.machine.Event.{Event}
use Rattle.store_machine.specs.declared.machine.Event.TheVariants.{Commit, Compact, Crash, Fetch, Look, Open, Pin, Prune, Stats, Unpin}
use Rattle.store_machine.specs.declared.machine.Faults.{Faults}
use Rattle.store_machine.specs.declared.machine.Reply.{Reply}
use Rattle.store_machine.specs.declared.machine.Reply.TheVariants.{DiskFault}
use Rattle.store_machine.specs.declared.machine.State.{State}
use Rattle.store_machine.specs.declared.machine.Step.{Step}
use Rattle.store_disk.specs.OnDisk.{StoreTerm}
use Rattle.store_disk.specs.Stored.{Stretches}
use Rattle.drill_core.specs.Faults.{FaultsAreCounted, disk_faults, failed_a, failed_b, is_disk_fault}

none-fell : (s : State) (owner : ℕ) (e : Event) (r : Reply) (s' : State) → is_call e ≡ true → Gives s owner e r s'
    → NoneFell s.faults s'.faults
none-fell s owner (Commit c) r s' call g = g.0.1
none-fell s owner Pin r s' call g = g.0.1
none-fell s owner (Fetch slot want from limit) r s' call g = g.0.1
none-fell s owner (Unpin slot) r s' call g = g.0.1
none-fell s owner Prune r s' call g = g.0.1
none-fell s owner (Look id) r s' call g = g.0.1
none-fell s owner Stats r s' call g = g.0.1
none-fell s owner Compact r s' call g = g.0.1
none-fell s owner Crash r s' call g = absurd (true≢false (sym call))
none-fell s owner Open r s' call g = absurd (true≢false (sym call))

-- only a commit and a copy are answered so
commit-rose : (s : State) (c : Change) (r : Reply) (s' : State) → CommitGives s c r s' → IsDiskFault r
    → SomeRose s.faults s'.faults
commit-rose s c (DiskFault doubt) s' g fault = g.1
commit-rose s c _ s' g fault = absurd fault

compact-rose : (s : State) (r : Reply) (s' : State) → CompactGives s r s' → IsDiskFault r
    → SomeRose s.faults s'.faults
compact-rose s (DiskFault doubt) s' g fault = g.0
compact-rose s _ s' g fault = absurd fault

pin-sure : (s : State) (owner : ℕ) (r : Reply) (s' : State) → PinGives s owner r s' → IsDiskFault r → ⊥
pin-sure s owner (DiskFault doubt) s' g fault = g
pin-sure s owner _ s' g fault = fault

fetch-sure : (s : State) (owner slot : ℕ) (want : List Bool) (from limit : ℕ) (r : Reply) (s' : State)
    → FetchGives s owner slot want from limit r s' → IsDiskFault r → ⊥
fetch-sure s owner slot want from limit (DiskFault doubt) s' g fault = g
fetch-sure s owner slot want from limit _ s' g fault = fault

unpin-sure : (s : State) (owner slot : ℕ) (r : Reply) (s' : State) → UnpinGives s owner slot r s' → IsDiskFault r → ⊥
unpin-sure s owner slot (DiskFault doubt) s' g fault = g
unpin-sure s owner slot _ s' g fault = fault

prune-sure : (s : State) (r : Reply) (s' : State) → PruneGives s r s' → IsDiskFault r → ⊥
prune-sure s (DiskFault doubt) s' g fault = g
prune-sure s _ s' g fault = fault

look-sure : (s : State) (id : ℕ) (r : Reply) (s' : State) → LookGives s id r s' → IsDiskFault r → ⊥
look-sure s id (DiskFault doubt) s' g fault = g
look-sure s id _ s' g fault = fault

stats-sure : (s : State) (r : Reply) (s' : State) → StatsGives s r s' → IsDiskFault r → ⊥
stats-sure s (DiskFault doubt) s' g fault = g
stats-sure s _ s' g fault = fault

some-rose : (s : State) (owner : ℕ) (e : Event) (r : Reply) (s' : State) → is_call e ≡ true → Gives s owner e r s'
    → IsDiskFault r → SomeRose s.faults s'.faults
some-rose s owner (Commit c) r s' call g fault = commit-rose s c r s' g.1 fault
some-rose s owner Pin r s' call g fault = absurd (pin-sure s owner r s' g.1 fault)
some-rose s owner (Fetch slot want from limit) r s' call g fault =
    absurd (fetch-sure s owner slot want from limit r s' g.1 fault)
some-rose s owner (Unpin slot) r s' call g fault = absurd (unpin-sure s owner slot r s' g.1 fault)
some-rose s owner Prune r s' call g fault = absurd (prune-sure s r s' g.1 fault)
some-rose s owner (Look id) r s' call g fault = absurd (look-sure s id r s' g.1 fault)
some-rose s owner Stats r s' call g fault = absurd (stats-sure s r s' g.1 fault)
some-rose s owner Compact r s' call g fault = compact-rose s r s' g.1 fault
some-rose s owner Crash r s' call g fault = absurd (true≢false (sym call))
some-rose s owner Open r s' call g fault = absurd (true≢false (sym call))

-- a count below its end
greater : (old new end : ℕ) → Rose old new → new ≤ end → end + 1 < 2 ^ 64 → old < new
greater old new end (inl less) le few = less
greater old new end (inr last) le few = absurd (omega (arith, last, le, few))

one-more : (r : Reply) (old new end : Faults) (more : ℕ) → (IsDiskFault r → SomeRose old new) → NoneFell old new
    → NoneFell new end → new.a + new.b + more ≤ end.a + end.b → end.a + 1 < 2 ^ 64 → end.b + 1 < 2 ^ 64
    → old.a + old.b + (cond (is_disk_fault r) 1 0 + more) ≤ end.a + end.b
one-more (DiskFault doubt) old new end more rose fell later up few-a few-b = elim (rose tt) [
  | inl a ↦ let less = greater old.a new.a end.a a later.0 few-a in omega (arith, less, fell.1, up)
  | inr b ↦ let less = greater old.b new.b end.b b later.1 few-b in omega (arith, less, fell.0, up)
]
one-more _ old new end more rose fell later up few-a few-b = omega (arith, fell.0, fell.1, up)

abbrev pub fault-of : Step → ℕ
fault-of x = cond (is_disk_fault x.reply) 1 0

none-fell-in : (s t : State) (steps : List Step) → IsRun s steps t → IsCalm steps → NoneFell s.faults t.faults
none-fell-in s t [] run calm =
    let a = ap (λ (x : State). x.faults.a) run in
    let b = ap (λ (x : State). x.faults.b) run in (omega (arith, a), omega (arith, b))
none-fell-in s t (x ∷ xs) run calm =
    let first = none-fell x.before x.owner x.event x.reply x.after calm.0 run.1 in
    let rest = none-fell-in x.after t xs run.2 calm.1 in
    let a = ap (λ (y : State). y.faults.a) run.0 in
    let b = ap (λ (y : State). y.faults.b) run.0 in (
      omega (arith, first.0, rest.0, a),
      omega (arith, first.1, rest.1, b),
    )

counted : (s t : State) (steps : List Step) → IsRun s steps t → IsCalm steps → t.faults.a + 1 < 2 ^ 64
    → t.faults.b + 1 < 2 ^ 64 → s.faults.a + s.faults.b + disk_faults steps ≤ t.faults.a + t.faults.b
counted s t [] run calm few-a few-b =
    let a = ap (λ (x : State). x.faults.a) run in
    let b = ap (λ (x : State). x.faults.b) run in omega (arith, a, b)
counted s t (x ∷ xs) run calm few-a few-b =
    let rest = counted x.after t xs run.2 calm.1 few-a few-b in
    let fell = none-fell x.before x.owner x.event x.reply x.after calm.0 run.1 in
    let later = none-fell-in x.after t xs run.2 calm.1 in
    let rose = some-rose x.before x.owner x.event x.reply x.after calm.0 run.1 in
    let up =
    one-more x.reply x.before.faults x.after.faults t.faults (disk_faults xs) rose fell later rest few-a few-b in
    let a = ap (λ (y : State). y.faults.a) run.0 in
    let b = ap (λ (y : State). y.faults.b) run.0 in
    omega (arith, up, sum_by-cons fault-of x xs, a, b)

pub faults-are-counted : FaultsAreCounted
faults-are-counted old new s t steps r few =
    let begin-a = ap (λ f. f.a) r.begins.counts in
    let begin-b = ap (λ f. f.b) r.begins.counts in
    let end-a = ap (λ f. f.a) r.ends.counts in
    let end-b = ap (λ f. f.b) r.ends.counts in
    let all = counted s t steps r.run r.calm (omega (arith, few.0, end-a)) (omega (arith, few.1, end-b)) in
    omega (arith, all, begin-a, begin-b, end-a, end-b)

-- no count fell
pub none-falls : (old new : StoreTerm Medium) (s t : State) (steps : List Step) → Stretches model old new s steps t
    → (failed_a old ≤ failed_a new) × (failed_b old ≤ failed_b new)
none-falls old new s t steps r =
    let fell = none-fell-in s t steps r.run r.calm in
    let begin-a = ap (λ f. f.a) r.begins.counts in
    let begin-b = ap (λ f. f.b) r.begins.counts in
    let end-a = ap (λ f. f.a) r.ends.counts in
    let end-b = ap (λ f. f.b) r.ends.counts in (
      omega (arith, fell.0, begin-a, end-a),
      omega (arith, fell.1, begin-b, end-b),
    )

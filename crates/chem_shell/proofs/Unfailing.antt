-- A run over a store that keeps no journal: no call of it is answered that a disk failed.
use Rattle.std.proofs.Common.{◌≡◌, ◌&&◌, ap, arith, Bool, cond, inl, inr, List, [], ◌∷◌, refl, subst, sym, true, ℕ}
use Rattle.std.specs.List.{AllByRecursion}
use Rattle.disk_edge.specs.NoDisk.{model}
use Rattle.disk_edge.specs.declared.no_disk.NoDisk.{NoDisk}
use Rattle.session_acts.specs.Cursors.{Calls}
use Rattle.store_core.specs.Calls as core
use Rattle.store_core.specs.Stored.{empty}
use Rattle.store_disk.specs.OnDisk.{StoreTerm}
use Rattle.store_disk.specs.Stored.{Stretches}
use Rattle.store_machine.specs.Machine.{CommitGives, CompactGives, FetchGives, Gives, IsSure, LookGives, NoneFell, PinGives, PruneGives, Rose, SomeRose, StatsGives, UnpinGives}
use Rattle.store_machine.specs.Runs.{IsCalm, IsRun, calls_of, is_call}
use Rattle.store_machine.specs.declared.machine.Change.{Change}
use Rattle.store_machine.specs.declared.machine.Event.{Event}
use Rattle.store_machine.specs.declared.machine.Event.TheVariants.{Commit, Compact, Crash, Fetch, Look, Open, Pin, Prune, Stats, Unpin}
use Rattle.store_machine.specs.declared.machine.Faults.{Faults}
use Rattle.store_machine.specs.declared.machine.Reply.{Reply}
use Rattle.store_machine.specs.declared.machine.Reply.TheVariants.{DiskFault}
use Rattle.store_machine.specs.declared.machine.State.{State}
use Rattle.store_machine.specs.declared.machine.Step.{Step}
use Rattle.chem_shell.specs.Runs.{AreOfRun}

-- a call lets no count of faults fall
fell_of : (s : State) (owner : ℕ) (e : Event) (r : Reply) (s' : State) → is_call e ≡ true → Gives s owner e r s'
    → NoneFell s.faults s'.faults
fell_of s owner (Commit c) r s' call g = g.0.1
fell_of s owner Pin r s' call g = g.0.1
fell_of s owner (Fetch slot want from limit) r s' call g = g.0.1
fell_of s owner (Unpin slot) r s' call g = g.0.1
fell_of s owner Prune r s' call g = g.0.1
fell_of s owner (Look id) r s' call g = g.0.1
fell_of s owner Stats r s' call g = g.0.1
fell_of s owner Compact r s' call g = g.0.1
fell_of s owner Crash r s' call g = cc call
fell_of s owner Open r s' call g = cc call

not_risen : (old new : ℕ) → Rose old new → new ≡ 0 → ⊥
not_risen old new (inl less) none = omega (arith, less, none)
not_risen old new (inr most) none = omega (arith, most, none)

none_risen : (old new : Faults) → SomeRose old new → new.a ≡ 0 → new.b ≡ 0 → ⊥
none_risen old new (inl rose) a b = not_risen old.a new.a rose a
none_risen old new (inr rose) a b = not_risen old.b new.b rose b

sure_commit : (s : State) (c : Change) (r : Reply) (s' : State) → CommitGives s c r s' → s'.faults.a ≡ 0
    → s'.faults.b ≡ 0 → IsSure r
sure_commit s c (DiskFault doubt) s' g a b = absurd (none_risen s.faults s'.faults g.1 a b)
sure_commit s c _ s' g a b = tt

sure_pin : (s : State) (owner : ℕ) (r : Reply) (s' : State) → PinGives s owner r s' → IsSure r
sure_pin s owner (DiskFault doubt) s' g = absurd g
sure_pin s owner _ s' g = tt

sure_fetch : (s : State) (owner slot : ℕ) (want : List Bool) (from limit : ℕ) (r : Reply) (s' : State)
    → FetchGives s owner slot want from limit r s' → IsSure r
sure_fetch s owner slot want from limit (DiskFault doubt) s' g = absurd g
sure_fetch s owner slot want from limit _ s' g = tt

sure_unpin : (s : State) (owner slot : ℕ) (r : Reply) (s' : State) → UnpinGives s owner slot r s' → IsSure r
sure_unpin s owner slot (DiskFault doubt) s' g = absurd g
sure_unpin s owner slot _ s' g = tt

sure_prune : (s : State) (r : Reply) (s' : State) → PruneGives s r s' → IsSure r
sure_prune s (DiskFault doubt) s' g = absurd g
sure_prune s _ s' g = tt

sure_look : (s : State) (id : ℕ) (r : Reply) (s' : State) → LookGives s id r s' → IsSure r
sure_look s id (DiskFault doubt) s' g = absurd g
sure_look s id _ s' g = tt

sure_stats : (s : State) (r : Reply) (s' : State) → StatsGives s r s' → IsSure r
sure_stats s (DiskFault doubt) s' g = absurd g
sure_stats s _ s' g = tt

sure_compact : (s : State) (r : Reply) (s' : State) → CompactGives s r s' → s'.faults.a ≡ 0 → s'.faults.b ≡ 0
    → IsSure r
sure_compact s (DiskFault doubt) s' g a b = absurd (none_risen s.faults s'.faults g.0 a b)
sure_compact s _ s' g a b = tt

-- where none was counted afterwards, no disk failed
sure : (s : State) (owner : ℕ) (e : Event) (r : Reply) (s' : State) → is_call e ≡ true → Gives s owner e r s'
    → s'.faults.a ≡ 0 → s'.faults.b ≡ 0 → IsSure r
sure s owner (Commit c) r s' call g a b = sure_commit s c r s' g.1 a b
sure s owner Pin r s' call g a b = sure_pin s owner r s' g.1
sure s owner (Fetch slot want from limit) r s' call g a b = sure_fetch s owner slot want from limit r s' g.1
sure s owner (Unpin slot) r s' call g a b = sure_unpin s owner slot r s' g.1
sure s owner Prune r s' call g a b = sure_prune s r s' g.1
sure s owner (Look id) r s' call g a b = sure_look s id r s' g.1
sure s owner Stats r s' call g a b = sure_stats s r s' g.1
sure s owner Compact r s' call g a b = sure_compact s r s' g.1 a b
sure s owner Crash r s' call g a b = cc call
sure s owner Open r s' call g a b = cc call

-- a run at whose end none is counted
record Unfailing (s : State) (steps : List Step) : Type 0 where
  a : s.faults.a ≡ 0
  b : s.faults.b ≡ 0
  calls : AllByRecursion (λ call. IsSure call.1) (calls_of (λ _. true) steps)

unfailing : (steps : List Step) (s t : State) → IsRun s steps t → IsCalm steps → t.faults.a ≡ 0 → t.faults.b ≡ 0
    → Unfailing s steps
unfailing [] s t run calm a b = record {
  a = subst (λ (z : State). z.faults.a ≡ 0) run a;
  b = subst (λ (z : State). z.faults.b ≡ 0) run b;
  calls = tt;
}
unfailing (x ∷ xs) s t run calm a b =
    let rest = unfailing xs x.after t run.2 calm.1 a b in
    let fell = fell_of x.before x.owner x.event x.reply x.after calm.0 run.1 in
    let before_a : x.before.faults.a ≡ 0 = omega (arith, fell.0, rest.a) in
    let before_b : x.before.faults.b ≡ 0 = omega (arith, fell.1, rest.b) in
    let own : (x.event, x.reply) ∷ calls_of (λ _. true) xs ≡ calls_of (λ _. true) (x ∷ xs) =
    ap (λ k. cond (k && true) ((x.event, x.reply) ∷ calls_of (λ _. true) xs) (calls_of (λ _. true) xs))
    (sym calm.0) in
    record {
      a = subst (λ (z : State). z.faults.a ≡ 0) run.0 before_a;
      b = subst (λ (z : State). z.faults.b ≡ 0) run.0 before_b;
      calls = subst (AllByRecursion (λ call. IsSure call.1)) own
          (sure x.before x.owner x.event x.reply x.after calm.0 run.1 rest.a rest.b, rest.calls);
    }

-- the calls of a session over a store that begins empty and keeps no journal
pub of_calls : (commits : ℕ) (old new : StoreTerm NoDisk) (calls : Calls)
    → (made : core.Calls (Stretches model) (λ _. true) old new (empty commits) calls)
    → (run : AreOfRun commits calls) × (run.last ≡ made.after)
of_calls commits old new calls made =
    let a : made.after.faults.a ≡ 0 = ap (λ (f : Faults). f.a) made.stands.ends.counts in
    let b : made.after.faults.b ≡ 0 = ap (λ (f : Faults). f.b) made.stands.ends.counts in
    let none = unfailing made.steps (empty commits) made.after made.stands.run made.stands.calm a b in (
      record {
        steps = made.steps;
        last = made.after;
        run = made.stands.run;
        calm = made.stands.calm;
        all = made.own;
        sure = subst (AllByRecursion (λ call. IsSure call.1)) made.own none.calls;
      },
      refl,
    )

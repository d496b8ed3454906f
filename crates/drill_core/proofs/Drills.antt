-- What is done with a world goes on as one run.
use Rattle.std.proofs.Common.{List, None, Option, Some, [], ap, append-nil, append_assoc, arith, refl, subst, sym, ℕ, ◌++◌, ◌+◌, ◌∙◌, ◌≡◌, ◌≤◌}
use Rattle.std.proofs.lemmas.Bool.{true≢false}
use Rattle.std.proofs.lemmas.List.Sums.{sum_by-append}
use Rattle.std.specs.Prelude.{IfSome, IsSomeAnd}
use Rattle.disk_edge.specs.Failures.{bound_from, bound_of}
use Rattle.disk_edge.specs.Medium.{Medium}
use Rattle.disk_edge.specs.MediumLaws.{within}
use Rattle.disk_edge.specs.declared.failures.Failures.{Failures}
use Rattle.disk_pair.specs.Term.{disk_a, disk_b}
use Rattle.disk_pair.specs.declared.choice.Which.{Which}
use Rattle.disk_pair.specs.declared.choice.Which.TheVariants.{First, Second}
use Rattle.store_core.specs.Calls.{NotRaised}
use Rattle.store_machine.specs.Openings.{reopening}
use Rattle.store_machine.specs.Runs.{RunsJoin}
use Rattle.store_machine.specs.declared.machine.Step.{Step}
use Rattle.store_disk.specs.OnDisk.{StoreTerm}
use Rattle.drill_core.specs.Drills.{DrillsBegin, DrillsCall, DrillsFail, DrillsReopen, DrillsStop, FaultsAreSet}
use Rattle.drill_core.specs.Faults.{CanCount, FaultsAreCounted, disk_faults, failed, failed_a, failed_b}
use Rattle.drill_core.specs.Worlds.{bounds_of, failing, stopping}
use Rattle.drill_core.proofs.Faults.{fault-of, none-falls}
use Rattle.drill_core.proofs.Settings.{count-on-a, count-on-b, same-on-a, same-on-b, set-on-a, set-on-b}

one-more-failure : (passes once : Option ℕ) (count call : ℕ) → IfSome (bound_from passes once count)
    (λ n. IsSomeAnd (bound_from passes (Some call) count) (λ m. m ≤ n + 1))
one-more-failure None None count call = omega arith
one-more-failure None (Some k) count call = omega arith
one-more-failure (Some p) once count call = tt

-- a bound that is told, and raised by no more than this, is told
still-bounded : (more : ℕ) (old new : Option ℕ) (n : ℕ) → old ≡ Some n
    → IfSome old (λ k. IsSomeAnd new (λ m. m ≤ k + more)) → (m : ℕ) × (new ≡ Some m) × (m ≤ n + more)
still-bounded more None new n is h = absurd (none is)
  where
    none : {x : ℕ} → None ≡ Some x → ⊥
    none e = cc e
still-bounded more (Some k) None n is h = absurd h
still-bounded more (Some k) (Some m) n is h =
    let same : k ≡ n = one is in (m, refl, omega (arith, h, same))
  where
    one : {x y : ℕ} → Some x ≡ Some y → x ≡ y
    one e = cc e

not-above : (old new : Option ℕ) → IfSome old (λ n. IsSomeAnd new (λ m. m ≤ n))
    → IfSome old (λ n. IsSomeAnd new (λ m. m ≤ n + 0))
not-above None new h = tt
not-above (Some n) None h = h
not-above (Some n) (Some m) h = omega (arith, h)

-- the counts are as they were
still-counted : (old new : StoreTerm Medium) (part : List Step) → failed_a new ≡ failed_a old
    → failed_b new ≡ failed_b old → (CanCount old → disk_faults part ≤ failed old) → CanCount new
    → disk_faults part ≤ failed new
still-counted old new part a b counted few =
    omega (arith, counted (omega (arith, few.0, a), omega (arith, few.1, b)), a, b)

abbrev bound : Medium → Option ℕ
bound d = bound_of d.failures

-- the bounds of both disks are told, and together no greater than this
abbrev AreTold : StoreTerm Medium → ℕ → Type 0
AreTold world fails =
    (n m : ℕ) × ((bounds_of world).0 ≡ Some n) × ((bounds_of world).1 ≡ Some m) × (n + m ≤ fails)

still-told : (old new : StoreTerm Medium) (fails : ℕ) → NotRaised (bounds_of old) (bounds_of new) → AreTold old fails
    → AreTold new fails
still-told old new fails above b =
    let n = still-bounded 0 _ _ b.0 b.2 (not-above _ _ above.0) in
    let m = still-bounded 0 _ _ b.1 b.3 (not-above _ _ above.1) in
    (n.0, m.0, n.1, m.1, omega (arith, n.2, m.2, b.4))

-- a failure more raises the bound of its disk by one
module _ (world : StoreTerm Medium) (call : ℕ) where
  abbrev set : Medium → Medium
  set d = record d { failures = record d.failures { once = Some call } }

  raised-once : (old new : Medium) → new ≡ set old → IfSome (bound old) (λ n. IsSomeAnd (bound new) (λ m. m ≤ n + 1))
  raised-once old new is =
      let f = old.failures in
      subst (λ d. IfSome (bound old) (λ n. IsSomeAnd (bound d) (λ m. m ≤ n + 1))) (sym is)
      (one-more-failure f.passes f.once f.count call)

  pub raised-on-a : IfSome (bounds_of world).0
      (λ n. IsSomeAnd (bounds_of (failing First world call)).0 (λ m. m ≤ n + 1))
  raised-on-a = raised-once (disk_a world.pair) _ (set-on-a set world.pair)

  pub raised-on-b : IfSome (bounds_of world).1
      (λ n. IsSomeAnd (bounds_of (failing Second world call)).1 (λ m. m ≤ n + 1))
  raised-on-b = raised-once (disk_b world.pair) _ (set-on-b set world.pair)

  one-more-told : (disk : Which) (fails : ℕ) → AreTold world fails → AreTold (failing disk world call) (fails + 1)
  one-more-told First fails b =
      let n = still-bounded 1 _ _ b.0 b.2 raised-on-a in
      (n.0, b.1, n.1, ap bound (same-on-b set world.pair) ∙ b.3, omega (arith, n.2, b.4))
  one-more-told Second fails b =
      let m = still-bounded 1 _ _ b.1 b.3 raised-on-b in
      (b.0, m.0, ap bound (same-on-a set world.pair) ∙ b.2, m.1, omega (arith, m.2, b.4))

pub drills-begin : DrillsBegin
drills-begin world s stands none = record {
  run = refl;
  last = ([], refl);
  stands = stands;
  counted = λ few. omega arith;
  bounded = λ e. (0, 0, none.0, none.1, omega arith);
}

pub drills-call : RunsJoin → FaultsAreCounted → DrillsCall
drills-call join law old new first s t steps part more stopped fails d r above = record {
  run = join steps more first s t d.run r.run;
  last = (d.last.0, ap (λ (xs : List Step). xs ++ more) d.last.1 ∙ append_assoc d.last.0 part more);
  stands = r.ends;
  counted = λ few.
      let now = law old new s t more r few in
      let fell = none-falls old new s t more r in
      let before = d.counted (omega (arith, fell.0, few.0), omega (arith, fell.1, few.1)) in
      omega (arith, now, before, sum_by-append fault-of part more);
  bounded = λ e. still-told old new fails above (d.bounded e);
}

pub drills-fail : DrillsFail
drills-fail disk world first s steps part stopped fails call d stands =
    let set = λ (f : Failures). record f { once = Some call } in
    record {
      run = d.run;
      last = d.last;
      stands = stands;
      counted = still-counted world (failing disk world call) part (count-on-a set (λ f. refl) world disk)
          (count-on-b set (λ f. refl) world disk) d.counted;
      bounded = λ e. one-more-told world call disk fails (d.bounded e);
    }

pub drills-stop : DrillsStop
drills-stop disk world first s steps part stopped fails calls d stands =
    let set = λ (f : Failures). record f { passes = Some calls } in
    record {
      run = d.run;
      last = d.last;
      stands = stands;
      counted = still-counted world (stopping disk world calls) part (count-on-a set (λ f. refl) world disk)
          (count-on-b set (λ f. refl) world disk) d.counted;
      bounded = λ e. absurd (true≢false e);
    }

pub drills-reopen : RunsJoin → DrillsReopen
drills-reopen join old new first s steps part stopped fails a b count at begin end d r none = record {
  run = join steps (reopening s r.after at begin end) first s r.after d.run (r.run at begin end);
  last = (steps ++ reopening s r.after at begin end, sym (append-nil (steps ++ reopening s r.after at begin end)));
  stands = r.stands;
  counted = λ few. omega arith;
  bounded = λ e. (0, 0, none.0, none.1, omega arith);
}

pub faults-are-set : FaultsAreSet
faults-are-set world first s steps part fails d few =
    let b = d.bounded refl in
    let n = within (disk_a world.pair) b.0 b.2 in
    let m = within (disk_b world.pair) b.1 b.3 in
    omega (arith, d.counted (omega (arith, n, b.4, few), omega (arith, m, b.4, few)), n, m, b.4)

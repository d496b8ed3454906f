-- What lines do to the tally of their part.
use Rattle.std.proofs.Common.{◌≡◌, ◌∙◌, ◌≤◌, ◌<◌, ◌+◌, ◌^◌, ap, arith, inl, inr, None, Option, refl, Some, suc, zero, ℕ}
use Rattle.std.specs.Prelude.{IfSome, IsSomeAnd}
use Rattle.disk_edge.specs.Failures.{bound_from, bound_of, pending}
use Rattle.disk_edge.specs.declared.failures.Failures.{Failures}
use Rattle.store_core.specs.Calls.{NotAbove, NotRaised}
use Rattle.session_acts.specs.Cursors.{Calls}
use Rattle.drill_run.specs.Causes.{MayFail, Tally, faults_in}

-- `IsTallied` of the failures of disk `a` and of disk `b` alone
abbrev pub Tallies : Tally → Failures → Failures → Type 0
Tallies t a b = t.stops ≡ 0 → (n m : ℕ) × (bound_of a ≡ Some n) × (bound_of b ≡ Some m) × (n + m ≤ t.fails)
    × (t.faults ≤ a.count + b.count)

-- a count is no greater than its bound
below : (passes once : Option ℕ) (count n : ℕ) → bound_from passes once count ≡ Some n → count ≤ n
below None once count n e = let k : count + pending once ≡ n = cc in omega (arith, k)
below (Some p) once count n e = cc

-- a bound that is told, and raised by no more than this, is told
raised : (more : ℕ) (old new : Option ℕ) (n : ℕ) → IfSome old (λ k. IsSomeAnd new (λ m. m ≤ k + more)) → old ≡ Some n
    → (m : ℕ) × (new ≡ Some m) × (m ≤ n + more)
raised more None new n h e = cc e
raised more (Some k) None n h e = absurd h
raised more (Some k) (Some m) n h e = let same : k ≡ n = cc e in (m, refl, omega (arith, h, same))

unraised : (old new : Option ℕ) (n : ℕ) → NotAbove old new → old ≡ Some n → (m : ℕ) × (new ≡ Some m) × (m ≤ n)
unraised None new n h e = cc e
unraised (Some k) None n h e = absurd h
unraised (Some k) (Some m) n h e = let same : k ≡ n = cc e in (m, refl, omega (arith, h, same))

-- events of a session's line
pub tally-session : (t : Tally) (a b a' b' : Failures) (calls : Calls) → Tallies t a b → t.fails + 1 < 2 ^ 64
    → NotRaised (bound_of a, bound_of b) (bound_of a', bound_of b')
    → (a'.count + 1 < 2 ^ 64 → b'.count + 1 < 2 ^ 64 → a.count + b.count + faults_in calls ≤ a'.count + b'.count)
    → MayFail t (faults_in calls) × Tallies (record t { faults = t.faults + faults_in calls }) a' b'
tally-session t a b a' b' calls h small bounds counted = by t.stops refl where
  after : t.stops ≡ 0 → (n m : ℕ) × (bound_of a' ≡ Some n) × (bound_of b' ≡ Some m) × (n + m ≤ t.fails)
      × (t.faults + faults_in calls ≤ a'.count + b'.count) × (a'.count + b'.count ≤ t.fails)
  after e =
      let k = h e in
      let n = unraised (bound_of a) (bound_of a') k.0 bounds.0 k.2 in
      let m = unraised (bound_of b) (bound_of b') k.1 bounds.1 k.3 in
      let less = below a'.passes a'.once a'.count n.0 n.1 in
      let fewer = below b'.passes b'.once b'.count m.0 m.1 in
      let fit : n.0 + m.0 ≤ t.fails = omega (arith, n.2, m.2, k.4) in
      let sum = counted (omega (arith, less, fit, small)) (omega (arith, fewer, fit, small)) in
      (n.0, m.0, n.1, m.1, fit, omega (arith, sum, k.5), omega (arith, less, fewer, fit))

  by : (n : ℕ) → t.stops ≡ n → MayFail t (faults_in calls)
      × Tallies (record t { faults = t.faults + faults_in calls }) a' b'
  by zero e = let k = after e in (
    inr (inr (omega (arith, k.5, k.6))),
    λ z. (k.0, k.1, k.2, k.3, k.4, k.5),
  )
  by (suc n) e = (inr (inl (omega (arith, e))), λ z. absurd (omega (arith, e, z)))

pub tally-stop : (t : Tally) (a b : Failures) → Tallies (record t { stops = t.stops + 1 }) a b
tally-stop t a b = λ e. absurd (omega (arith, e))

-- a failure more of disk `a`, and of disk `b`
module _ (t : Tally) (a b a' b' : Failures) (h : Tallies t a b) where
  pub tally-fail : IfSome (bound_of a) (λ m. IsSomeAnd (bound_of a') (λ l. l ≤ m + 1)) → a'.count ≡ a.count → b' ≡ b
      → Tallies (record t { fails = t.fails + 1 }) a' b'
  tally-fail bound same other = λ e.
      let k = h e in
      let n = raised 1 (bound_of a) (bound_of a') k.0 bound k.2 in (
        n.0,
        k.1,
        n.1,
        ap bound_of other ∙ k.3,
        omega (arith, n.2, k.4),
        omega (arith, k.5, same, ap (λ (f : Failures). f.count) other),
      )

  pub tally-fail-b : IfSome (bound_of b) (λ m. IsSomeAnd (bound_of b') (λ l. l ≤ m + 1)) → b'.count ≡ b.count → a' ≡ a
      → Tallies (record t { fails = t.fails + 1 }) a' b'
  tally-fail-b bound same other = λ e.
      let k = h e in
      let m = raised 1 (bound_of b) (bound_of b') k.1 bound k.3 in (
        k.0,
        m.0,
        ap bound_of other ∙ k.2,
        m.1,
        omega (arith, m.2, k.4),
        omega (arith, k.5, same, ap (λ (f : Failures). f.count) other),
      )

pub tally-new : (a b : Failures) → bound_of a ≡ Some 0 → bound_of b ≡ Some 0
    → Tallies (record { stops = 0; fails = 0; faults = 0 }) a b
tally-new a b first second = λ _. (0, 0, first, second, omega arith, omega arith)

use Rattle.std.proofs.Common.{◌≡◌, ℕ, List, Option, Some, replicate, ◌≤◌, ◌++◌, ◌∙◌, ap, subst, arith}
use Rattle.std.specs.Option.{IfSome}
use Rattle.smarts_words.proofs.Signs.{NumberRead, charge_is_at, never_read, run_read, number_read, run_found, number_found}
use Rattle.smarts_words.proofs.number.amount_at.Goals as goal
use Rattle.smarts_words.proofs.number.amount_at.Goals.{in_default-via-in-None+else-count-le-MOST_SIGNS, in_default-via-in-Some+else-count-eq1}

-- what was read, where the number is known
known : (after left : List ℕ) (m n : Option ℕ) → m ≡ n → NumberRead after (Some (m, left))
    → NumberRead after (Some (n, left))
known after left m n e h = subst (λ (v : Option ℕ). NumberRead after (Some (v, left))) e h

pub returns-in_err-number-clause-only : goal.returns-in_err-number-clause-only
returns-in_err-number-clause-only c x rest is follows e h =
    let run = c.run_at-count in
    let at = charge_is_at x c.args.sign run.result.0 c.args.bytes.now run.result.1.now rest is follows e h
    run.ensures.found run.ensures.all in
    absurd (never_read run.result.0 run.result.1.now rest x at c.in_err-number.ensures.reads)

pub returns-in-None-clause-found : goal.returns-in-None-clause-found
returns-in-None-clause-found c s es first h =
    let run = c.run_at-count in
    let reads = known run.result.1.now c.in_ok-number.rest.now _ _ c.in-None.is c.in_ok-number.ensures.reads in
    run_found s c.args.sign run.result.0 c.args.bytes.now run.result.1.now c.in_ok-number.rest.now first es h
    run.ensures.found run.ensures.all reads (omega arith)

pub returns-in-None-clause-only : goal.returns-in-None-clause-only
returns-in-None-clause-only c x rest is follows e h =
    let run = c.run_at-count in
    let at = charge_is_at x c.args.sign run.result.0 c.args.bytes.now run.result.1.now rest is follows e h
    run.ensures.found run.ensures.all in
    let reads = known run.result.1.now c.in_ok-number.rest.now _ _ c.in-None.is c.in_ok-number.ensures.reads in
    (run_read run.result.0 run.result.1.now rest c.in_ok-number.rest.now x at reads).1

pub returns-in-Some-clause-found : goal.returns-in-Some-clause-found
returns-in-Some-clause-found c s es first h =
    let run = c.run_at-count in
    let reads = known run.result.1.now c.in_ok-number.rest.now _ _ c.in-Some.is c.in_ok-number.ensures.reads in
    let one : run.result.0 ≡ 1 = c.if-count-eq1.true in
    number_found s c.args.sign c.in-Some.number c.args.bytes.now run.result.1.now c.in_ok-number.rest.now es
    (run.ensures.found ∙ ap (λ n. replicate n c.args.sign ++ run.result.1.now) one) reads

pub returns-in-Some-clause-few : goal.returns-in-Some-clause-few
returns-in-Some-clause-few c =
    let bound = subst (λ (v : Option ℕ). IfSome v (λ n. n ≤ 999)) c.in-Some.is c.in_ok-number.ensures.bound in
    omega arith

pub returns-in-Some-clause-only : goal.returns-in-Some-clause-only
returns-in-Some-clause-only c x rest is follows e h =
    let run = c.run_at-count in
    let at = charge_is_at x c.args.sign run.result.0 c.args.bytes.now run.result.1.now rest is follows e h
    run.ensures.found run.ensures.all in
    let reads = known run.result.1.now c.in_ok-number.rest.now _ _ c.in-Some.is c.in_ok-number.ensures.reads in
    (number_read run.result.0 c.in-Some.number run.result.1.now rest c.in_ok-number.rest.now x at reads).1

pub returns-in_default-clause-only : goal.returns-in_default-clause-only
returns-in_default-clause-only c x rest is follows e h =
    let run = c.run_at-count in
    let at = charge_is_at x c.args.sign run.result.0 c.args.bytes.now run.result.1.now rest is follows e h
    run.ensures.found run.ensures.all in
    elim c.in_default.branch [
      | in_default-via-in-None+else-count-le-MOST_SIGNS w ↦
          let reads = known run.result.1.now c.in_ok-number.rest.now _ _ w.in-None.is c.in_ok-number.ensures.reads in
          let few = (run_read run.result.0 run.result.1.now rest c.in_ok-number.rest.now x at reads).0 in
          let over = w.if-count-le-MOST_SIGNS.false in
          absurd (omega arith)
      | in_default-via-in-Some+else-count-eq1 w ↦
          let reads = known run.result.1.now c.in_ok-number.rest.now _ _ w.in-Some.is c.in_ok-number.ensures.reads in
          let one = (number_read run.result.0 w.in-Some.number run.result.1.now rest c.in_ok-number.rest.now x at
          reads).0 in
          w.if-count-eq1.false one
    ]

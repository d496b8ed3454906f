use Rattle.std.proofs.Common.{arith}
use Rattle.shell_lang.proofs.Cuts.{no_second, no_third, are_similar}
use Rattle.shell_lang.proofs.command.similar.Goals.{else-q-ge1-via-then-q-ge1+then-p-q+else-k-ge1, else-q-ge1-via-then-q-ge1+else-p-q, else-q-ge1-via-else-q-ge1}
use Rattle.shell_lang.proofs.command.similar.Goals as goal

pub returns-in_err-q-clause-none : goal.returns-in_err-q-clause-none
returns-in_err-q-clause-none c =
    let p = c.in_ok-p.ensures.some in
    rw c.from_residual-in_err-q.ensures (no_second _ _ c.in_ok-p.p p.0 p.1 c.in_err-q.ensures.none)

pub returns-in_err-k-clause-none : goal.returns-in_err-k-clause-none
returns-in_err-k-clause-none c =
    let p = c.in_ok-p.ensures.some in
    let q = c.in_ok-q.ensures.some in
    rw c.from_residual-in_err-k.ensures
    (no_third _ _ _ c.in_ok-p.p c.in_ok-q.q p.0 q.0 p.1 q.1 c.in_err-k.ensures.none)

pub returns-else-q-ge1-clause-none : goal.returns-else-q-ge1-clause-none
returns-else-q-ge1-clause-none c command h =
    let p = c.in_ok-p.ensures.some in
    let q = c.in_ok-q.ensures.some in
    let k = c.in_ok-k.ensures.some in
    let is =
    are_similar _ _ _ _ c.in_ok-p.p c.in_ok-q.q c.in_ok-k.k p.0 q.0 k.0 p.1 q.1 k.1 command h in
    elim c.else-q-ge1.branch [
      | else-q-ge1-via-then-q-ge1+then-p-q+else-k-ge1 w ↦ omega (arith, is.few.0)
      | else-q-ge1-via-then-q-ge1+else-p-q w ↦ omega (arith, is.part)
      | else-q-ge1-via-else-q-ge1 w ↦ omega (arith, is.whole.0)
    ]
